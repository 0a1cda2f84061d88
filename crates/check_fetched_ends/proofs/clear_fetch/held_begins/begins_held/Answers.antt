use Rattle.std.proofs.Common.{◌≡◌, ◌≤◌, ◌==◌, ◌-◌, ◌^◌, ◌<◌, ◌+◌, ◌∙◌, refl, sym, ap, subst, length, arith, drop, List, ◌∷◌, ℕ, Bool, true, false, Some, None, Result, cond}
use Rattle.std.specs.Prelude.{OnOk, not, slice_index}
use Rattle.spdm_basis.specs.declared.OutOfMemory.{OutOfMemory}
use Rattle.check_requester.proofs.CarriedBy.{keeps_carries}
use Rattle.check_ends.proofs.InTurn.{answers_in_turn}
use Rattle.check_laws.proofs.KnownFetches.{kept_asks_none}
use Rattle.check_ends.proofs.PartyReplied.{few_messages, kept_limits}
use Rattle.check_requester.specs.JudgedRequester.{IsAsker}
use Rattle.check_requester.specs.HeardKept.{asks_upon, heard_kept}
use Rattle.check_ends.specs.declared.party.Party.{Party}
use Rattle.check_laws.proofs.KeptAnswers.{kept_is_restored}
use Rattle.check_laws.specs.Keeping.{Keeps, Kept, restored}
use Rattle.check_laws.specs.Changes.{views_in}
use Rattle.check_laws.specs.KeptChanges.{accepted_from}
use Rattle.check_laws.specs.Order.{body_in, tag_in}
use Rattle.check_laws.specs.RepliesShown.{responder_for}
use Rattle.check_laws.specs.Rows as rows_of
use Rattle.check_fetched_laws.proofs.RestQuiet.{none_pends_in_clear}
use Rattle.check_late_laws.proofs.Late.AskedAccepts.{asked_accepts_none}
use Rattle.check_fetched_ends.proofs.BegunHeldTold.{not_large, sealed_answer, sealed_request, told_large, told_none}
use Rattle.check_fetched_ends.proofs.BegunPassed.{accepts_none, left_turn, passed, passed_change, passed_stands, passes, turn_is, unseen_turn}
use Rattle.check_fetched_ends.proofs.HeldBegins.{begins, behind, next}
use Rattle.check_fetched_ends.proofs.HeldBegun.{begun_change, begun_step, few_asked, few_given, held_begun, left_few, left_here}
use Rattle.check_fetched_ends.proofs.NoneUnfetched.{is_free}
use Rattle.check_fetched_ends.specs.AskedInClear.{IsExchangeBy, chunk_at}
use Rattle.check_fetched_ends.specs.BegunHeld.{has_free_length}
use Rattle.check_fetched_ends.specs.HeldFrom.{IsHeldFrom}
use Rattle.requester_machine.specs.Holds.{Holds}
use Rattle.requester_machine.specs.Setup.{ReqSetup}
use Rattle.requester_machine.specs.UnderWay.{HasSizes}
use Rattle.responder_core.specs.Connected as connected
use Rattle.responder_core.specs.UnseenRequests.{IsTurnOf}
use Rattle.responder_machine.specs.History.{clear_turns}
use Rattle.responder_machine.specs.History.Entry.{Clear}
use Rattle.responder_machine.specs.Place.{clear_place, place_terms}
use Rattle.responder_machine.specs.Refusal.{code_of, has_pending}
use Rattle.responder_machine.specs.Turn.{takes}
use Rattle.spdm_grammar.specs.declared.names.request_code.TheConstants.{PSK_EXCHANGE}
use Rattle.std.proofs.lemmas.Option.{same_Some}
use Rattle.capture_machine.specs.Rounds.{Round, no_draw}
use Rattle.spdm_grammar.specs.declared.names.response_code.TheConstants.{CHUNK_SEND_ACK}
use Rattle.capture_machine.specs.SessionTable.{number_from, rows_between}
use Rattle.world_machine.specs.Setup.{Configuration}
use Rattle.check_fetched_ends.proofs.clear_fetch.held_begins.begins_held.Goals as goal

-- Nothing is pending in the clear.
idle : (w : Configuration) (q : ReqSetup) (older : List (List ℕ)) (k : Kept) → Keeps w q older k → has_pending (clear_place k.responder) ≡ false
idle w q older k keeps = none_pends_in_clear w q older (restored k) (kept_is_restored w q older k keeps).0

is_false : (b : Bool) → not b ≡ true → b ≡ false
is_false false is = refl
is_false true is = sym is

is_true : (b : Bool) → not b ≡ false → b ≡ true
is_true true is = refl
is_true false is = sym is

pub returns-then-byte_at-ne-SPDM-clause-told : goal.returns-then-byte_at-ne-SPDM-clause-told
returns-then-byte_at-ne-SPDM-clause-told c = λ w q older rows k route keeps below byte now set_up none party stands.
    let answer : List ℕ = c.args.answer.now in
    let turn = answers_in_turn k route answer none in
    let body = c.body-body.ensures ∙ ap body_in (now ∙ turn.answers.0) in
    let given = c.args.party.now in
    let table = c.args.table.now in
    not_large w q older rows k route answer turn given table table
    (sealed_request w q older rows k route answer turn given table table (λ is. c.if-byte_at-ne-SPDM.true (c.byte_at.ensures ∙ ap (λ (l : List ℕ). slice_index l 0) body ∙ is))) party refl

pub returns-then-byte_at-ne-SPDM-2-clause-told : goal.returns-then-byte_at-ne-SPDM-2-clause-told
returns-then-byte_at-ne-SPDM-2-clause-told c = λ w q older rows k route keeps below byte now set_up none party stands.
    let answer : List ℕ = c.args.answer.now in
    let turn = answers_in_turn k route answer none in
    let given = c.args.party.now in
    let table = c.args.table.now in
    let limits = kept_limits q k given.asker party.asker in
    not_large w q older rows k route answer turn given table table
    (sealed_answer w q older rows k route answer turn given table table byte limits (keeps_carries w q older k keeps) (λ is. c.if-byte_at-ne-SPDM-2.true (c.byte_at-2.ensures ∙ is))) party refl

pub returns-then-not-tells_large-clause-told : goal.returns-then-not-tells_large-clause-told
returns-then-not-tells_large-clause-told c = λ w q older rows k route keeps below byte now set_up none party stands.
    let few : length older < 2 ^ 64 - 1 = omega (arith, below) in
    let answer : List ℕ = c.args.answer.now in
    let turn = answers_in_turn k route answer none in
    let at = now ∙ turn.answers.0 in
    let body = c.body-body.ensures ∙ ap body_in at in
    let r = responder_for w k in
    let carries = keeps_carries w q older k keeps in
    let small = few_messages w q older k carries few in
    let table = c.args.table.now in
    let told = c.tells_large.ensures.told r k.responder set_up party.answerer (idle w q older k keeps) small in
    let new : Party = record c.args.party.now { answerer = c.tells_large.new.self } in
    not_large w q older rows k route answer turn new table table
    (told_none w q older rows k route answer turn new table table (sym (ap (λ (l : List ℕ). slice_index l 0) body) ∙ sym c.byte_at.ensures ∙ c.if-byte_at-ne-SPDM.false) (sym c.byte_at-2.ensures ∙ c.if-byte_at-ne-SPDM-2.false) c.tag-tag.result c.behind_type-message.result.now c.behind_type-reply.result.now
    (c.tag-tag.ensures ∙ ap tag_in at) (c.behind_type-message.ensures ∙ ap (drop 1) body) c.behind_type-reply.ensures c.tells_large.result told c.if-not-tells_large.true)
    (record { asker = party.asker; answerer = c.tells_large.ensures.stands r k.responder party.answerer; keys = party.keys; number = party.number; places = party.places }) refl

pub returns-then-not-heard-clause-told : goal.returns-then-not-heard-clause-told
returns-then-not-heard-clause-told c = λ w q older rows k route keeps below byte now set_up none party stands.
    let few : length older < 2 ^ 64 - 1 = omega (arith, below) in
    let answer : List ℕ = c.args.answer.now in
    let turn = answers_in_turn k route answer none in
    let at = now ∙ turn.answers.0 in
    let body = c.body-body.ensures ∙ ap body_in at in
    let r = responder_for w k in
    let carries = keeps_carries w q older k keeps in
    let small = few_messages w q older k carries few in
    let table = c.args.table.now in
    let told = c.tells_large.ensures.told r k.responder set_up party.answerer (idle w q older k keeps) small in
    let new : Party = record c.args.party.now { asker = c.hears-heard.new.self; answerer = c.tells_large.new.self } in
    let here =
    told_large w q older rows k route answer turn new table table (sym (ap (λ (l : List ℕ). slice_index l 0) body) ∙ sym c.byte_at.ensures ∙ c.if-byte_at-ne-SPDM.false) (sym c.byte_at-2.ensures ∙ c.if-byte_at-ne-SPDM-2.false) c.tag-tag.result c.behind_type-message.result.now c.behind_type-reply.result.now
    (c.tag-tag.ensures ∙ ap tag_in at) (c.behind_type-message.ensures ∙ ap (drop 1) body) c.behind_type-reply.ensures c.tells_large.result told c.if-not-tells_large.false in
    let tag : turn.round.tag ≡ c.tag-tag.result = sym (c.tag-tag.ensures ∙ ap tag_in at) in
    let fetches = c.hears-heard.ensures.fetches w q older k turn.round carries below turn.answers.0 tag party.asker (sym (kept_asks_none w q older k keeps)) in
    let message = c.behind_type-message.ensures ∙ ap (drop 1) body in
    let reply = c.behind_type-reply.ensures in
    let code = c.byte_at-code.ensures ∙ ap code_of message in
    let limits = kept_limits q k c.args.party.now.asker party.asker in
    let idle : asks_upon k route.tag answer ≡ false = ap (λ (n : ℕ). asks_upon k n answer) (sym turn.answers.1 ∙ tag) ∙ sym fetches ∙ is_false c.hears-heard.result.fetches c.if-not-heard.true in
    let type = here.type in
    let large = here.large in
    let holds = subst (λ (x : ReqSetup). Holds x (restored k).requester) (sym party.asker.setup) party.asker.stands.clear_state.holds in
    let sizes = subst HasSizes (sym party.asker.setup) party.asker.kept.sizes in
    let free = is_free w q older k route answer byte keeps turn type large holds sizes idle in
    let f = next w q older k route answer byte limits carries turn type large in
    let t = left_turn w q older k route answer byte limits carries turn type large free in
    let standing = c.tells_large.ensures.stands r k.responder party.answerer in
    let asked_few = subst (λ (l : List ℕ). length l ≤ 4096) (sym message) (few_asked w q older k route answer byte limits carries turn type large set_up.ordered set_up.most) in
    let given_few = subst (λ (l : List ℕ). length l ≤ 4096) (sym reply) (few_given w q older k route answer byte limits carries turn type large) in
    let its = turn_is w q older k route answer byte limits carries turn type large free in
    let exchange : takes PSK_EXCHANGE t ≡ (c.byte_at-code.result == PSK_EXCHANGE) = its.exchange ∙ ap (λ (n : ℕ). n == PSK_EXCHANGE) (sym code) in
    let is_turn : IsTurnOf t c.behind_type-message.result.now c.behind_type-reply.result.now (c.byte_at-code.result == PSK_EXCHANGE) = record { message = its.message ∙ sym message; reply = its.reply ∙ sym reply; exchange = exchange } in
    let left = c.skip_large_response.ensures r k.responder t no_draw asked_few given_few (unseen_turn w q older k route answer byte limits carries turn type large free) is_turn standing in
    let stood = subst (λ (n : ℕ). connected.StandsFor c.skip_large_response.new.self r (Clear n t no_draw ∷ k.responder)) (sym tag) left in
    let views = c.change-change.ensures.views r (Clear turn.round.tag t no_draw ∷ k.responder) stood (omega (arith, small)) in
    let there = passed w q older k route answer byte limits carries turn type large free in
    let accepts : accepted_from k turn.round.tag answer ≡ None = accepts_none w q older k route answer byte limits carries turn type large free (kept_asks_none w q older k keeps) in
    let change = passed_change w q older k route answer byte limits carries turn type large free c.answer_accepts.ensures c.large_answer_changes.ensures c.change-change.result c.change-change.ensures.begun (c.change-change.ensures.accepted ∙ sym accepts) c.change-change.ensures.taken c.change-change.ensures.asked (views ∙ ap views_in (sym there.added)) in
    let step = begun_step w q older k route answer byte limits carries turn type large c.answer_accepts.ensures c.large_answer_changes.ensures accepts in
    let number = party.number ∙ ap (λ (s : ReqSetup). number_from 1 s.eid w.requesters) (sym party.asker.setup) in
    let it = c.in_ok-take.was in
    let entries = subst (λ (x : Result Unit OutOfMemory). OnOk x (rows_of.StandsForRows c.take.new.self w (length older + 1) (rows_between (restored k) (restored f.kept) rows))) it
    (c.take.ensures.table w (length older) (restored k) (restored f.kept) rows change step few number stands party.places) in
    let places = subst (λ (x : Result Unit OutOfMemory). OnOk x (rows_of.StandFor c.take.new.places (restored f.kept) (rows_between (restored k) (restored f.kept) rows))) it
    (c.take.ensures.places w (length older) (restored k) (restored f.kept) rows change step stands party.places) in
    let last : Party = record c.args.party.now { asker = c.hears-heard.new.self; answerer = record c.tells_large.new.self { connection = c.skip_large_response.new.self }; places = c.take.new.places } in
    let asker = subst (λ (n : ℕ). IsAsker c.hears-heard.new.self q (heard_kept k (behind w q older k route answer byte limits carries turn type large) n turn.round answer)) (sym tag ∙ turn.answers.1)
    (c.hears-heard.ensures.kept w q older k (behind w q older k route answer byte limits carries turn type large) turn.round carries below turn.answers.0 tag party.asker) in (
      f.kept,
      passes w q older k route answer byte limits carries turn type large free keeps idle,
      passed_stands w q older k route answer byte limits carries turn type large free rows last c.take.new.self asker stood party.keys party.number places entries,
      λ round one. subst (λ (x : Round). has_free_length (code_of (drop 1 x.body)) ≡ true) (same_Some turn.round round (sym turn.answers.0 ∙ one)) free,
    )

pub returns-clause-told : goal.returns-clause-told
returns-clause-told c = λ w q older rows k route keeps below byte now set_up none party stands.
    let few : length older < 2 ^ 64 - 1 = omega (arith, below) in
    let answer : List ℕ = c.args.answer.now in
    let turn = answers_in_turn k route answer none in
    let at = now ∙ turn.answers.0 in
    let body = c.body-body.ensures ∙ ap body_in at in
    let r = responder_for w k in
    let carries = keeps_carries w q older k keeps in
    let limits = kept_limits q k c.args.party.now.asker party.asker in
    let small = few_messages w q older k carries few in
    let told = c.tells_large.ensures.told r k.responder set_up party.answerer (idle w q older k keeps) small in
    let message = c.behind_type-message.ensures ∙ ap (drop 1) body in
    let reply = c.behind_type-reply.ensures in
    let here =
    told_large w q older rows k route answer turn c.args.party.now c.args.table.now c.args.table.now (sym (ap (λ (l : List ℕ). slice_index l 0) body) ∙ sym c.byte_at.ensures ∙ c.if-byte_at-ne-SPDM.false) (sym c.byte_at-2.ensures ∙ c.if-byte_at-ne-SPDM-2.false) c.tag-tag.result c.behind_type-message.result.now c.behind_type-reply.result.now
    (c.tag-tag.ensures ∙ ap tag_in at) message reply c.tells_large.result told c.if-not-tells_large.false in
    let type = here.type in
    let large = here.large in
    let tag : turn.round.tag ≡ c.tag-tag.result = sym (c.tag-tag.ensures ∙ ap tag_in at) in
    let fetches = c.hears-heard.ensures.fetches w q older k turn.round carries below turn.answers.0 tag party.asker (sym (kept_asks_none w q older k keeps)) in
    let asks : asks_upon k route.tag answer ≡ true = ap (λ (n : ℕ). asks_upon k n answer) (sym turn.answers.1 ∙ tag) ∙ sym fetches ∙ is_true c.hears-heard.result.fetches c.if-not-heard.false in
    let accepts : accepted_from k turn.round.tag answer ≡ None = ap (λ (n : ℕ). accepted_from k n answer) turn.answers.1 ∙ asked_accepts_none k route.tag answer asks in
    let f = next w q older k route answer byte limits carries turn type large in
    let standing = c.tells_large.ensures.stands r k.responder party.answerer in
    let common = (place_terms (clear_place k.responder)).common in
    let held = c.held_from-held.result in
    let From : ℕ → List ℕ → List ℕ → Type 0 = λ n m l. IsHeldFrom common n (cond (slice_index l 1 == CHUNK_SEND_ACK) 6 0) m l held in
    let asked_few = subst (λ (l : List ℕ). length l ≤ 4096) (sym message) (few_asked w q older k route answer byte limits carries turn type large set_up.ordered set_up.most) in
    let given_few = subst (λ (l : List ℕ). length l ≤ 4096) (sym reply) (few_given w q older k route answer byte limits carries turn type large) in
    let from =
    subst (λ (n : ℕ). From n (drop 1 turn.round.body) (drop 1 answer)) (sym tag)
    (subst (λ (l : List ℕ). From c.tag-tag.result l (drop 1 answer)) message (subst (From c.tag-tag.result c.behind_type-message.result.now) reply (c.held_from-held.ensures r k.responder standing asked_few given_few))) in
    let exchange = c.asks_exchange-exchange.result in
    let is = subst (λ (l : List ℕ). IsExchangeBy r (clear_turns k.responder) l (chunk_at (clear_turns k.responder) l) exchange) message (c.asks_exchange-exchange.ensures r k.responder standing) in
    let left = c.leave_handshake.ensures r k.responder standing (omega (arith, small)) in
    let left_is = left_here w q older k route answer byte limits carries turn type large exchange left.0 is left.1 in
    let fewer = left_few exchange k.responder left.0 left.1 in
    let views = c.change-change-2.ensures.views r left.0 left.2 (omega (arith, small, fewer)) in
    let change = begun_change w q older k route answer byte limits carries turn type large c.answer_accepts.ensures c.large_answer_changes.ensures c.change-change-2.result left.0 left_is c.change-change-2.ensures.begun (c.change-change-2.ensures.accepted ∙ sym accepts) c.change-change-2.ensures.taken c.change-change-2.ensures.asked views in
    let step = begun_step w q older k route answer byte limits carries turn type large c.answer_accepts.ensures c.large_answer_changes.ensures accepts in
    let number = party.number ∙ ap (λ (s : ReqSetup). number_from 1 s.eid w.requesters) (sym party.asker.setup) in
    let it = c.in_ok-take-2.was in
    let table = subst (λ (x : Result Unit OutOfMemory). OnOk x (rows_of.StandsForRows c.take-2.new.self w (length older + 1) (rows_between (restored k) (restored f.kept) rows))) it
    (c.take-2.ensures.table w (length older) (restored k) (restored f.kept) rows change step few number stands party.places) in
    let places = subst (λ (x : Result Unit OutOfMemory). OnOk x (rows_of.StandFor c.take-2.new.places (restored f.kept) (rows_between (restored k) (restored f.kept) rows))) it
    (c.take-2.ensures.places w (length older) (restored k) (restored f.kept) rows change step stands party.places) in
    let new : Party = record c.args.party.now { asker = c.hears-heard.new.self; answerer = record c.tells_large.new.self { connection = c.leave_handshake.new.connection }; places = c.take-2.new.places } in
    let asker = subst (λ (n : ℕ). IsAsker c.hears-heard.new.self q (heard_kept k (behind w q older k route answer byte limits carries turn type large) n turn.round answer)) (sym tag ∙ turn.answers.1)
    (c.hears-heard.ensures.kept w q older k (behind w q older k route answer byte limits carries turn type large) turn.round carries below turn.answers.0 tag party.asker) in
    (f, begins w q older k route answer byte limits carries turn type large asks, held_begun w q older k route answer byte limits carries turn type large rows new held from standing.sizes left.0 exchange is left.1 left.2 asker party.keys party.number places, table)
