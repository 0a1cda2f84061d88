use Rattle.std.proofs.Common.{◌≡◌, ◌≤◌, ◌==◌, ◌&&◌, ◌-◌, ◌^◌, ◌<◌, ◌+◌, ◌∙◌, refl, sym, ap, subst, length, arith, drop, List, ◌∷◌, ℕ, Bool, true, false, Some, None, Result, cond}
use Rattle.std.specs.Prelude.{OnOk, not, slice_index}
use Rattle.std.proofs.lemmas.Bool.{false≢true}
use Rattle.spdm_basis.specs.declared.OutOfMemory.{OutOfMemory}
use Rattle.check_requester.proofs.CarriedBy.{keeps_carries}
use Rattle.check_ends.proofs.InTurn.{answers_in_turn}
use Rattle.check_laws.proofs.KnownFetches.{kept_asks_none}
use Rattle.check_ends.proofs.PartyReplied.{few_messages, kept_limits}
use Rattle.check_requester.specs.JudgedRequester.{IsAsker}
use Rattle.check_requester.specs.HeardKept.{asks_upon, heard_kept}
use Rattle.check_ends.specs.declared.party.Party.{Party}
use Rattle.check_laws.proofs.AnswerSteps.{kept_answer_is_step}
use Rattle.check_laws.proofs.KeptAnswers.{kept_is_restored}
use Rattle.check_laws.specs.Changes.{IsStep}
use Rattle.check_laws.specs.Keeping.{Keeps, Kept, restored}
use Rattle.check_laws.specs.KeptChanges.{accepted_from}
use Rattle.check_laws.specs.Order.{body_in, tag_in}
use Rattle.check_laws.specs.RepliesShown.{responder_for}
use Rattle.check_laws.specs.Rows as rows_of
use Rattle.responder_core.specs.Connected as connected
use Rattle.check_fetched_laws.proofs.RestQuiet.{none_pends_in_clear}
use Rattle.check_late_laws.proofs.Late.AskedAccepts.{asked_accepts_none}
use Rattle.check_fetched_ends.proofs.HeldHeard.{change_is, step_is}
use Rattle.check_fetched_ends.proofs.LateBegun.{begins, few_asked, held_late, next, passes, quiet, stays}
use Rattle.check_fetched_ends.proofs.LateShown.{chunks_here, wide_here}
use Rattle.check_fetched_ends.proofs.LateTold.{AreTested, again_is, free_is, large_is, left_tested, same_is, type_is}
use Rattle.check_fetched_ends.specs.HeldAgain.{IsHeldAgain}
use Rattle.check_fetched_ends.specs.LateBegins.{gets_again, is_free_body, is_large_body}
use Rattle.mctp_framing.specs.Gathering.Gathered.{Whole}
use Rattle.requester_machine.specs.Holds.{Holds}
use Rattle.requester_machine.specs.Setup.{ReqSetup}
use Rattle.requester_machine.specs.UnderWay.{HasSizes}
use Rattle.responder_machine.specs.History.{clear_turns, negotiation_of}
use Rattle.responder_machine.specs.Place.{clear_place}
use Rattle.responder_machine.specs.Refusal.{has_pending}
use Rattle.spdm_machine.specs.Terms.{terms_of}
use Rattle.capture_machine.specs.SessionTable.{number_from, rows_between}
use Rattle.world_machine.specs.Setup.{Configuration}
use Rattle.check_fetched_ends.proofs.clear_fetch.late_begins.begins_late.Goals as goal

-- Nothing is pending in the clear.
idle : (w : Configuration) (q : ReqSetup) (older : List (List ℕ)) (k : Kept) → Keeps w q older k → has_pending (clear_place k.responder) ≡ false
idle w q older k keeps = none_pends_in_clear w q older (restored k) (kept_is_restored w q older k keeps).0

holds_of : (w : Configuration) (q : ReqSetup) (k : Kept) (seen : Party) → IsAsker seen.asker q k → Holds k.setup (restored k).requester
holds_of w q k seen asker = subst (λ (x : ReqSetup). Holds x (restored k).requester) (sym asker.setup) asker.stands.clear_state.holds

sizes_of : (w : Configuration) (q : ReqSetup) (k : Kept) (seen : Party) → IsAsker seen.asker q k → HasSizes k.setup
sizes_of w q k seen asker = subst HasSizes (sym asker.setup) asker.kept.sizes

pub returns-then-not-is_free_body-clause-told : goal.returns-then-not-is_free_body-clause-told
returns-then-not-is_free_body-clause-told c = λ w q older rows k route keeps below byte now set_up none party marked stands.
    let answer : List ℕ = c.args.answer.now in
    let turn = answers_in_turn k route answer none in
    let body = c.body-body.ensures ∙ ap body_in (now ∙ turn.answers.0) in
    let given = c.args.party.now in
    let not_free : is_free_body turn.round.body ≡ false = ap is_free_body (sym body) ∙ sym c.is_free_body.ensures ∙ c.if-not-is_free_body.true in
    (λ left. false≢true (sym not_free ∙ (left_tested w q older k route answer turn keeps (holds_of w q k given party.asker) (sizes_of w q k given party.asker) left).free), refl, refl)

pub returns-then-not-is_large_body-clause-told : goal.returns-then-not-is_large_body-clause-told
returns-then-not-is_large_body-clause-told c = λ w q older rows k route keeps below byte now set_up none party marked stands.
    let answer : List ℕ = c.args.answer.now in
    let turn = answers_in_turn k route answer none in
    let given = c.args.party.now in
    let not_large : is_large_body answer ≡ false = sym c.is_large_body.ensures ∙ c.if-not-is_large_body.true in
    (λ left. false≢true (sym not_large ∙ (left_tested w q older k route answer turn keeps (holds_of w q k given party.asker) (sizes_of w q k given party.asker) left).large), refl, refl)

pub returns-then-not-gets_again-clause-told : goal.returns-then-not-gets_again-clause-told
returns-then-not-gets_again-clause-told c = λ w q older rows k route keeps below byte now set_up none party marked stands.
    let answer : List ℕ = c.args.answer.now in
    let turn = answers_in_turn k route answer none in
    let at = now ∙ turn.answers.0 in
    let body = c.body-body.ensures ∙ ap body_in at in
    let given = c.args.party.now in
    let r = responder_for w k in
    let message = c.behind_type-message.ensures ∙ ap (drop 1) body in
    let tag = c.tag-tag.ensures ∙ ap tag_in at in
    let told = c.gets_again.ensures.again r k.responder set_up party.answerer (idle w q older k keeps) in
    let other : gets_again k.responder turn.round.tag (drop 1 turn.round.body) (drop 1 answer) ≡ false =
    ap (λ (n : ℕ). gets_again k.responder n (drop 1 turn.round.body) (drop 1 answer)) (sym tag)
    ∙ ap (λ (l : List ℕ). gets_again k.responder c.tag-tag.result l (drop 1 answer)) (sym message)
    ∙ ap (gets_again k.responder c.tag-tag.result c.behind_type-message.result.now) (sym c.behind_type-reply.ensures) ∙ sym told ∙ c.if-not-gets_again.true in
    (λ left. false≢true (sym other ∙ (left_tested w q older k route answer turn keeps (holds_of w q k given party.asker) (sizes_of w q k given party.asker) left).again), refl, refl)

pub returns-then-heard-clause-told : goal.returns-then-heard-clause-told
returns-then-heard-clause-told c = λ w q older rows k route keeps below byte now set_up none party marked stands.
    let few : length older < 2 ^ 64 - 1 = omega (arith, below) in
    let answer : List ℕ = c.args.answer.now in
    let turn = answers_in_turn k route answer none in
    let at = now ∙ turn.answers.0 in
    let body = c.body-body.ensures ∙ ap body_in at in
    let given = c.args.party.now in
    let r = responder_for w k in
    let carries = keeps_carries w q older k keeps in
    let limits = kept_limits q k given.asker party.asker in
    let small = few_messages w q older k carries few in
    let message = c.behind_type-message.ensures ∙ ap (drop 1) body in
    let reply = c.behind_type-reply.ensures in
    let tag : turn.round.tag ≡ c.tag-tag.result = sym (c.tag-tag.ensures ∙ ap tag_in at) in
    let told = c.gets_again.ensures.again r k.responder set_up party.answerer (idle w q older k keeps) in
    let tests : AreTested w q older k route answer turn = record {
      free = ap is_free_body (sym body) ∙ sym c.is_free_body.ensures ∙ c.if-not-is_free_body.false;
      large = sym c.is_large_body.ensures ∙ c.if-not-is_large_body.false;
      again =
          ap (λ (n : ℕ). gets_again k.responder n (drop 1 turn.round.body) (drop 1 answer)) tag
          ∙ ap (λ (l : List ℕ). gets_again k.responder c.tag-tag.result l (drop 1 answer)) (sym message)
          ∙ ap (gets_again k.responder c.tag-tag.result c.behind_type-message.result.now) (sym reply) ∙ sym told ∙ c.if-not-gets_again.false;
    } in
    let type = type_is w q older k route answer turn tests in
    let length_free = free_is w q older k route answer turn tests in
    let large = large_is w q older k route answer turn tests in
    let again = again_is w q older k route answer turn tests in
    let same = same_is w q older k route answer turn tests in
    let blocks = c.blocks_are_few.ensures r set_up in
    let holds = holds_of w q k given party.asker in
    let sizes = sizes_of w q k given party.asker in
    let fetches = c.hears-heard.ensures.fetches w q older k turn.round carries below turn.answers.0 tag party.asker (sym (kept_asks_none w q older k keeps)) in
    let asks : asks_upon k route.tag answer ≡ true = ap (λ (n : ℕ). asks_upon k n answer) (sym turn.answers.1 ∙ tag) ∙ sym fetches ∙ c.if-heard.true in
    let wide = wide_here w q older k route answer keeps turn type length_free holds sizes asks in
    let chunks = chunks_here w q older k route answer keeps turn type length_free holds sizes asks in
    let heard = c.hears-heard.ensures.accepted w q older k turn.round carries few turn.answers.0 tag party.asker in
    let accepted : c.hears-heard.result.accepted ≡ accepted_from k turn.round.tag answer = heard ∙ ap (λ (n : ℕ). accepted_from k n answer) (sym tag) in
    let accepts : accepted_from k turn.round.tag answer ≡ None = ap (λ (n : ℕ). accepted_from k n answer) turn.answers.1 ∙ asked_accepts_none k route.tag answer asks in
    let f = next w q older k route answer limits keeps turn type blocks again same length_free large wide chunks in
    let standing = party.answerer in
    let views = c.change-change.ensures.views r k.responder standing (omega (arith, small)) in
    let change = change_is k k.responder (quiet k.responder) route.tag turn.round answer turn.answers.0 turn.answers.1 c.answer_accepts.ensures c.change-change.result c.change-change.ensures.begun (c.change-change.ensures.accepted ∙ accepted) c.change-change.ensures.taken c.change-change.ensures.asked views in
    let step = step_is k k.responder (quiet k.responder) route.tag turn.round answer turn.answers.0 turn.answers.1 c.answer_accepts.ensures accepts in
    let number = party.number ∙ ap (λ (s : ReqSetup). number_from 1 s.eid w.requesters) (sym party.asker.setup) in
    let it = c.in_ok-take.was in
    let table = subst (λ (x : Result Unit OutOfMemory). OnOk x (rows_of.StandsForRows c.take.new.self w (length older + 1) (rows_between (restored k) (restored f.kept) rows))) it
    (c.take.ensures.table w (length older) (restored k) (restored f.kept) rows change step few number stands party.places) in
    let places = subst (λ (x : Result Unit OutOfMemory). OnOk x (rows_of.StandFor c.take.new.places (restored f.kept) (rows_between (restored k) (restored f.kept) rows))) it
    (c.take.ensures.places w (length older) (restored k) (restored f.kept) rows change step stands party.places) in
    let new : Party = record c.args.party.now { asker = c.hears-heard.new.self; places = c.take.new.places } in
    let asker = subst (λ (n : ℕ). IsAsker c.hears-heard.new.self q (heard_kept k k.responder n turn.round answer)) (sym tag ∙ turn.answers.1)
    (c.hears-heard.ensures.kept w q older k k.responder turn.round carries below turn.answers.0 tag party.asker) in
    let held = c.held_again-held.result in
    let marks = c.args.marks.now in
    let common = (terms_of (negotiation_of (clear_turns k.responder))).common in
    let From : ℕ → List ℕ → List ℕ → Type 0 = λ n m l. IsHeldAgain common marks n m l held in
    let short = subst (λ (l : List ℕ). length l ≤ 4096) (sym message) (few_asked w q older k route answer limits keeps turn type blocks again same length_free large wide chunks (turn.round.tag + 1) (λ e. absurd (omega (arith, e))) set_up.ordered set_up.most) in
    let from =
    subst (λ (n : ℕ). From n (drop 1 turn.round.body) (drop 1 answer)) (sym tag)
    (subst (λ (l : List ℕ). From c.tag-tag.result l (drop 1 answer)) message (subst (From c.tag-tag.result c.behind_type-message.result.now) reply (c.held_again-held.ensures r k.responder standing short (c.gets_again.ensures.few c.if-not-gets_again.false)))) in
    let other = from.other in (
      f,
      begins w q older k route answer limits keeps turn type blocks again same length_free large wide chunks held.tag other asks,
      held_late w q older k route answer limits keeps turn type blocks again same length_free large wide chunks (rows_between (restored k) (restored f.kept) rows) new marks (marked (restored k) (kept_is_restored w q older k keeps).0) held from standing asker party.keys party.number places,
      table,
      refl,
    )

pub returns-clause-told : goal.returns-clause-told
returns-clause-told c = λ w q older rows k route keeps below byte now set_up none party marked stands.
    let few : length older < 2 ^ 64 - 1 = omega (arith, below) in
    let answer : List ℕ = c.args.answer.now in
    let turn = answers_in_turn k route answer none in
    let at = now ∙ turn.answers.0 in
    let body = c.body-body.ensures ∙ ap body_in at in
    let given = c.args.party.now in
    let r = responder_for w k in
    let carries = keeps_carries w q older k keeps in
    let limits = kept_limits q k given.asker party.asker in
    let small = few_messages w q older k carries few in
    let message = c.behind_type-message.ensures ∙ ap (drop 1) body in
    let reply = c.behind_type-reply.ensures in
    let tag : turn.round.tag ≡ c.tag-tag.result = sym (c.tag-tag.ensures ∙ ap tag_in at) in
    let told = c.gets_again.ensures.again r k.responder set_up party.answerer (idle w q older k keeps) in
    let tests : AreTested w q older k route answer turn = record {
      free = ap is_free_body (sym body) ∙ sym c.is_free_body.ensures ∙ c.if-not-is_free_body.false;
      large = sym c.is_large_body.ensures ∙ c.if-not-is_large_body.false;
      again =
          ap (λ (n : ℕ). gets_again k.responder n (drop 1 turn.round.body) (drop 1 answer)) tag
          ∙ ap (λ (l : List ℕ). gets_again k.responder c.tag-tag.result l (drop 1 answer)) (sym message)
          ∙ ap (gets_again k.responder c.tag-tag.result c.behind_type-message.result.now) (sym reply) ∙ sym told ∙ c.if-not-gets_again.false;
    } in
    let type = type_is w q older k route answer turn tests in
    let again = again_is w q older k route answer turn tests in
    let same = same_is w q older k route answer turn tests in
    let blocks = c.blocks_are_few.ensures r set_up in
    let fetches = c.hears-heard.ensures.fetches w q older k turn.round carries below turn.answers.0 tag party.asker (sym (kept_asks_none w q older k keeps)) in
    let none_asked : asks_upon k route.tag answer ≡ false = ap (λ (n : ℕ). asks_upon k n answer) (sym turn.answers.1 ∙ tag) ∙ sym fetches ∙ c.if-heard.false in
    let heard = c.hears-heard.ensures.accepted w q older k turn.round carries few turn.answers.0 tag party.asker in
    let accepted : c.hears-heard.result.accepted ≡ accepted_from k turn.round.tag answer = heard ∙ ap (λ (n : ℕ). accepted_from k n answer) (sym tag) in
    let then : Kept = stays w q older k route answer limits keeps turn type blocks again same in
    let goes = passes w q older k route answer limits keeps turn type blocks again same none_asked in
    let standing = party.answerer in
    let views = c.change-change.ensures.views r k.responder standing (omega (arith, small)) in
    let change = change_is k k.responder (quiet k.responder) route.tag turn.round answer turn.answers.0 turn.answers.1 c.answer_accepts.ensures c.change-change.result c.change-change.ensures.begun (c.change-change.ensures.accepted ∙ accepted) c.change-change.ensures.taken c.change-change.ensures.asked views in
    let step : IsStep (restored k) (restored then) = kept_answer_is_step w q older k then (Whole route answer) keeps goes in
    let number = party.number ∙ ap (λ (s : ReqSetup). number_from 1 s.eid w.requesters) (sym party.asker.setup) in
    let it = c.in_ok-take.was in
    let table = subst (λ (x : Result Unit OutOfMemory). OnOk x (rows_of.StandsForRows c.take.new.self w (length older + 1) (rows_between (restored k) (restored then) rows))) it
    (c.take.ensures.table w (length older) (restored k) (restored then) rows change step few number stands party.places) in
    let places = subst (λ (x : Result Unit OutOfMemory). OnOk x (rows_of.StandFor c.take.new.places (restored then) (rows_between (restored k) (restored then) rows))) it
    (c.take.ensures.places w (length older) (restored k) (restored then) rows change step stands party.places) in
    let asker = subst (λ (n : ℕ). IsAsker c.hears-heard.new.self q (heard_kept k k.responder n turn.round answer)) (sym tag ∙ turn.answers.1)
    (c.hears-heard.ensures.kept w q older k k.responder turn.round carries below turn.answers.0 tag party.asker) in
    (then, goes, record { party = record { asker = asker; answerer = standing; keys = party.keys; number = party.number; places = places }; stands = table }, refl)
