use Rattle.std.proofs.Common.{◌≡◌, ◌+◌, ◌-◌, ◌^◌, ◌<◌, ◌==◌, ◌∙◌, refl, sym, ap, subst, length, drop, arith, ne_eqb, List, [], ◌∷◌, ℕ, true, false, Some, None, Option, Result, inr}
use Rattle.std.specs.Prelude.{OnOk, slice_index}
use Rattle.std.specs.Option.{IfSome}
use Rattle.std.proofs.lemmas.Bool.{false≢true, not-false, not-true}
use Rattle.std.proofs.lemmas.Option.{same_Some}
use Rattle.check_requester.proofs.CarriedBy.{keeps_carries}
use Rattle.check_ends.proofs.InTurn.{answers_in_turn}
use Rattle.check_laws.proofs.KnownFetches.{kept_asks_none}
use Rattle.check_ends.proofs.PartyReplied.{asked_upon, behind_whole, few_messages, goes_whole, is_part, kept_limits, refused_for, whole_kept}
use Rattle.check_ends.proofs.PartyTold.{few_behind, is_change, is_step}
use Rattle.check_responder.specs.AnswerKeys.{IsComingKey, StandFor}
use Rattle.check_responder.specs.JudgedResponder.{IsAnswerer, history_shown}
use Rattle.check_requester.specs.JudgedRequester.{IsAsker}
use Rattle.check_responder.specs.ClearAnswers.{is_large_given}
use Rattle.check_requester.specs.HeardKept.{asks_upon, heard_kept}
use Rattle.check_responder.specs.RecordAnswers.{IsGivenTo, history_behind}
use Rattle.check_responder.specs.declared.judged_responder.JudgedResponder.{JudgedResponder}
use Rattle.check_responder.specs.declared.given.Given.{Given}
use Rattle.check_responder.specs.declared.given.Given.TheVariants as given
use Rattle.check_laws.specs.KeptChanges.{taken_shown}
use Rattle.check_laws.specs.Keeping.{Kept, restored}
use Rattle.check_laws.specs.Order.{body_in, tag_in}
use Rattle.check_laws.specs.RepliesShown.{responder_for}
use Rattle.check_laws.specs.Rows as rows_of
use Rattle.check_laws.specs.declared.places.Places.{Places}
use Rattle.responder_core.specs.Connected as connected
use Rattle.responder_core.specs.declared.connected.Connection.{Connection}
use Rattle.requester_machine.specs.Setup.{ReqSetup}
use Rattle.responder_machine.specs.May.{on_body, with_dropped}
use Rattle.responder_machine.specs.Responder.{after}
use Rattle.spdm_basis.specs.declared.OutOfMemory.{OutOfMemory}
use Rattle.spdm_machine.specs.Bodies.{record_body}
use Rattle.capture_machine.specs.LargeAnswers.{unseen}
use Rattle.capture_machine.specs.Rounds.{Round, no_draw}
use Rattle.capture_machine.specs.SessionTable.{number_from, rows_between}
use Rattle.check_fetched_ends.proofs.BeginsThere.{begins, begun, f0, next}
use Rattle.check_fetched_ends.proofs.BegunChanges.{begun_change, begun_step}
use Rattle.check_fetched_ends.proofs.BegunGiven.{behind_is, given_is, given_never, never_apart, none_begun, own_record}
use Rattle.check_fetched_ends.proofs.BegunStands.{begun_stands}
use Rattle.check_fetched_ends.proofs.BegunTold.{adds_there, behind_large, few_begun}
use Rattle.check_fetched_ends.proofs.BegunUnfetched.{forgot, goes_unfetched, large_there, measures_there}
use Rattle.check_fetched_ends.proofs.LargeRecords.{large_sealed, record_here}
use Rattle.check_fetched_laws.proofs.LargeTaken.{large_taken}
use Rattle.check_fetched_ends.proofs.NeverPrepared.{never_prepared}
use Rattle.check_fetched_ends.proofs.session_fetch.in_session_begins.begins_in_session.Goals as goal
use Rattle.check_fetched_ends.specs.Prepared.{IsPrepared, NeverLarge}

-- The round's request is a record.
sealed_round : (k : Kept) (round : Round) → k.round ≡ Some round → (slice_index round.body 0 == 5) ≡ false → (other : Round) → k.round ≡ Some other → (slice_index other.body 0 == 5) ≡ false
sealed_round k round at type other is = subst (λ (x : Round). (slice_index x.body 0 == 5) ≡ false) (same_Some round other (sym at ∙ is)) type

pub returns-then-byte_at-eq-SPDM-clause-told : goal.returns-then-byte_at-eq-SPDM-clause-told
returns-then-byte_at-eq-SPDM-clause-told c = λ w q older rows k route keeps below byte now set_up none party stands.
    let turn = answers_in_turn k route c.args.answer.now none in
    let body = c.body-body.ensures ∙ ap body_in (now ∙ turn.answers.0) in
    let clear = ap (λ (l : List ℕ). slice_index l 0 == 5) (sym body) ∙ ap (λ (n : ℕ). n == 5) (sym c.byte_at.ensures ∙ c.if-byte_at-eq-SPDM.true) in
    ((λ is. false≢true (sym (record_here w k route c.args.answer.now turn is).type ∙ clear)), party, refl)

pub returns-then-byte_at-eq-SPDM-2-clause-told : goal.returns-then-byte_at-eq-SPDM-2-clause-told
returns-then-byte_at-eq-SPDM-2-clause-told c = λ w q older rows k route keeps below byte now set_up none party stands.
    let answer : List ℕ = c.args.answer.now in
    let turn = answers_in_turn k route answer none in
    let clear = ap (λ (n : ℕ). n == 5) (sym c.byte_at-2.ensures ∙ c.if-byte_at-eq-SPDM-2.true) in (
      (λ is.
          let here = record_here w k route answer turn is in
          false≢true (sym (large_sealed (responder_for w k) k.responder turn.round.tag turn.round.body answer here.type here.large) ∙ clear)),
      party,
      refl,
    )

pub returns-in_default-clause-told : goal.returns-in_default-clause-told
returns-in_default-clause-told c = λ w q older rows k route keeps below byte now set_up none party stands.
    let answer : List ℕ = c.args.answer.now in
    let turn = answers_in_turn k route answer none in
    let r = responder_for w k in
    let h = k.responder in
    let body = c.body-body.ensures ∙ ap body_in (now ∙ turn.answers.0) in
    let request = c.behind_type-request.ensures ∙ ap (λ (l : List ℕ). drop 1 l) body in
    let never = subst (λ (m : List ℕ). NeverLarge r h m) request (c.in_default.ensures r h set_up party.answerer) in (
      (λ is.
          let here = record_here w k route answer turn is in
          never_prepared r h turn.round.tag turn.round.body answer here.type here.large never),
      party,
      refl,
    )

pub returns-in_default-coming_key-clause-told : goal.returns-in_default-coming_key-clause-told
returns-in_default-coming_key-clause-told c = λ w q older rows k route keeps below byte now set_up none party stands.
    let few : length older < 2 ^ 64 - 1 = omega (arith, below) in
    let answer : List ℕ = c.args.answer.now in
    let turn = answers_in_turn k route answer none in
    let r = responder_for w k in
    let h = k.responder in
    let at = now ∙ turn.answers.0 in
    let small = few_messages w q older k (keeps_carries w q older k keeps) few in
    let first = subst (λ (x : Connection). connected.StandsFor x r h) (sym c.reply_why-why.ensures.same) party.answerer in
    let second = subst (λ (x : Connection). connected.StandsFor x r h) (sym c.coming_key.ensures.same) first in
    let coming = subst (λ (b : List ℕ). IsComingKey r h b None) c.body-body.ensures (c.in_default-coming_key.ensures.key r h first small) in
    let own = subst (λ (b : List ℕ). IsComingKey r h b None) (ap body_in at) coming in (
      (λ is.
          let here = record_here w k route answer turn is in
          false≢true (sym own ∙ large_taken r h turn.round.tag turn.round.body answer here.type here.large)),
      record { asker = party.asker; answerer = second; keys = party.keys; number = party.number; places = party.places },
      refl,
    )

pub returns-then-heard-clause-told : goal.returns-then-heard-clause-told
returns-then-heard-clause-told c = λ w q older rows k route keeps below byte now set_up none party stands.
    let few : length older < 2 ^ 64 - 1 = omega (arith, below) in
    let carries = keeps_carries w q older k keeps in
    let answer : List ℕ = c.args.answer.now in
    let turn = answers_in_turn k route answer none in
    let r = responder_for w k in
    let h = k.responder in
    let limits = kept_limits q k c.args.party.now.asker party.asker in
    let at = now ∙ turn.answers.0 in
    let body = c.body-body.ensures ∙ ap body_in at in
    let small = few_messages w q older k carries few in
    let type = ne_eqb (slice_index turn.round.body 0) 5 (λ e. c.if-byte_at-eq-SPDM.false (c.byte_at.ensures ∙ ap (λ (l : List ℕ). slice_index l 0) body ∙ e)) in
    let sealed = ne_eqb (slice_index answer 0) 5 (λ e. c.if-byte_at-eq-SPDM-2.false (c.byte_at-2.ensures ∙ e)) in
    let request = c.behind_type-request.ensures ∙ ap (λ (l : List ℕ). drop 1 l) body in
    let first = subst (λ (x : Connection). connected.StandsFor x r h) (sym c.reply_why-why.ensures.same) party.answerer in
    let second = subst (λ (x : Connection). connected.StandsFor x r h) (sym c.coming_key.ensures.same) first in
    let told = given_is w q older k route answer carries turn type sealed c.behind_type-request.result.now c.answers_record.result request (c.answers_record.ensures.told r h turn.round.tag set_up second small) in
    let is = c.in-Some-Whole.is ∙ ap Some c.in-Some-Whole.field-0-is in
    let shown = told.whole.0 is in
    let fetches = c.go_on-heard.ensures.fetches w q older k turn.round carries below turn.answers.0 at party.asker (sym (kept_asks_none w q older k keeps)) in
    let asks : asks_upon k route.tag answer ≡ true = sym (ap (λ (n : ℕ). asks_upon k n answer) turn.answers.1) ∙ sym fetches ∙ c.if-heard.true in (
      asked_upon w q older k route answer byte limits keeps turn rows c.reply_why-why.result shown asks
          (c.reply_why-why.ensures.told r (restored k) turn.round party.answerer small party.keys (sym body)) c.go_on-heard.new.self c.args.table.now,
      sealed_round k turn.round turn.answers.0 type,
      tt,
    )

pub returns-in_ok-take-in-Some-Whole-clause-told : goal.returns-in_ok-take-in-Some-Whole-clause-told
returns-in_ok-take-in-Some-Whole-clause-told c = λ w q older rows k route keeps below byte now set_up none party stands.
    let few : length older < 2 ^ 64 - 1 = omega (arith, below) in
    let carries = keeps_carries w q older k keeps in
    let answer : List ℕ = c.args.answer.now in
    let turn = answers_in_turn k route answer none in
    let r = responder_for w k in
    let h = k.responder in
    let limits = kept_limits q k c.args.party.now.asker party.asker in
    let at = now ∙ turn.answers.0 in
    let body = c.body-body.ensures ∙ ap body_in at in
    let small = few_messages w q older k carries few in
    let type = ne_eqb (slice_index turn.round.body 0) 5 (λ e. c.if-byte_at-eq-SPDM.false (c.byte_at.ensures ∙ ap (λ (l : List ℕ). slice_index l 0) body ∙ e)) in
    let sealed = ne_eqb (slice_index answer 0) 5 (λ e. c.if-byte_at-eq-SPDM-2.false (c.byte_at-2.ensures ∙ e)) in
    let request = c.behind_type-request.ensures ∙ ap (λ (l : List ℕ). drop 1 l) body in
    let first = subst (λ (x : Connection). connected.StandsFor x r h) (sym c.reply_why-why.ensures.same) party.answerer in
    let second = subst (λ (x : Connection). connected.StandsFor x r h) (sym c.coming_key.ensures.same) first in
    let told = given_is w q older k route answer carries turn type sealed c.behind_type-request.result.now c.answers_record.result request (c.answers_record.ensures.told r h turn.round.tag set_up second small) in
    let is = c.in-Some-Whole.is ∙ ap Some c.in-Some-Whole.field-0-is in
    let shown = told.whole.0 is in
    let fetches = c.go_on-heard.ensures.fetches w q older k turn.round carries below turn.answers.0 at party.asker (sym (kept_asks_none w q older k keeps)) in
    let behind = history_shown r h turn.round.tag turn.round.body answer in
    let there = behind_is w q older k route answer carries turn type sealed c.answers_record.new.self c.behind_type-request.result.now given.Whole request
    (subst (λ (x : Option Given). IfSome x (λ (y : Given). IsAnswerer c.answers_record.new.self r (history_behind r h turn.round.tag (record_body c.behind_type-request.result.now) answer y))) is (c.answers_record.ensures.stands r h turn.round.tag set_up second small)) in
    let new = c.go_on-heard.new.self in
    let same = c.go_on-heard.ensures.answerer in
    let answerer = subst (λ (x : JudgedResponder). IsAnswerer x r behind) (sym same) there in
    let coming = subst (λ (b : List ℕ). IsComingKey r h b (Some c.in-Some-coming_key.key)) c.body-body.ensures (c.in-Some-coming_key.ensures.key r h first small) in
    let seen = c.args.round.now in
    let last = record new { places = c.take.new.places } in
    let are = behind_whole w q older k route answer byte limits keeps turn rows seen now last answerer
    (λ l. c.go_on-heard.ensures.asker w q older k l turn.round carries below turn.answers.0 at party.asker)
    (λ ids f here. c.go_on-heard.ensures.keys r h ids f no_draw party.keys coming
    (subst (λ (x : JudgedResponder). IsAnswerer x r (after (with_dropped h ids) (on_body r (with_dropped h ids) (tag_in seen) (body_in seen) f no_draw))) same here)) in
    let then = whole_kept w q older k route answer byte limits keeps turn rows in
    let change = is_change w q older k route answer byte limits keeps turn rows shown c.change-change.result
    (c.change-change.ensures.begun ∙ none_begun h turn.round.tag turn.round.body answer type)
    (c.change-change.ensures.accepted ∙ c.go_on-heard.ensures.accepted w q older k turn.round carries few turn.answers.0 at party.asker)
    (c.change-change.ensures.taken ∙ c.taken-taken.ensures r h second ∙ ap (λ (b : List ℕ). taken_shown h b answer) body)
    c.change-change.ensures.asked
    (c.change-change.ensures.views r behind answerer (few_behind w q older k route answer byte limits keeps turn rows shown few)) in
    let idle : asks_upon k route.tag answer ≡ false = sym (ap (λ (n : ℕ). asks_upon k n answer) turn.answers.1) ∙ sym fetches ∙ c.if-heard.false in
    let step = is_step w q older k route answer byte limits keeps turn rows shown idle in
    let number = c.go_on-heard.ensures.number ∙ party.number in
    let its = number ∙ ap (λ (s : ReqSetup). number_from 1 s.eid w.requesters) (sym party.asker.setup) in
    let places = subst (λ (x : Places). rows_of.StandFor x (restored k) rows) (sym c.go_on-heard.ensures.places) party.places in
    let it = c.in_ok-take-in-Some-Whole.was in
    let table = subst (λ (x : Result Unit OutOfMemory). OnOk x (rows_of.StandsForRows c.take.new.self w (length older + 1) (rows_between (restored k) (restored then) rows))) it
    (c.take.ensures.table w (length older) (restored k) (restored then) rows change step few its stands places) in
    let stand = subst (λ (x : Result Unit OutOfMemory). OnOk x (rows_of.StandFor c.take.new.places (restored then) (rows_between (restored k) (restored then) rows))) it
    (c.take.ensures.places w (length older) (restored k) (restored then) rows change step stands places) in
    (goes_whole w q older k route answer byte limits keeps turn rows last c.take.new.self shown idle are number (record { stand = stand; stands = table }), sealed_round k turn.round turn.answers.0 type, tt)

pub returns-then-not-heard-clause-told : goal.returns-then-not-heard-clause-told
returns-then-not-heard-clause-told c = λ w q older rows k route keeps below byte now set_up none party stands.
    let few : length older < 2 ^ 64 - 1 = omega (arith, below) in
    let carries = keeps_carries w q older k keeps in
    let answer : List ℕ = c.args.answer.now in
    let turn = answers_in_turn k route answer none in
    let r = responder_for w k in
    let h = k.responder in
    let limits = kept_limits q k c.args.party.now.asker party.asker in
    let at = now ∙ turn.answers.0 in
    let body = c.body-body.ensures ∙ ap body_in at in
    let small = few_messages w q older k carries few in
    let type = ne_eqb (slice_index turn.round.body 0) 5 (λ e. c.if-byte_at-eq-SPDM.false (c.byte_at.ensures ∙ ap (λ (l : List ℕ). slice_index l 0) body ∙ e)) in
    let sealed = ne_eqb (slice_index answer 0) 5 (λ e. c.if-byte_at-eq-SPDM-2.false (c.byte_at-2.ensures ∙ e)) in
    let request = c.behind_type-request.ensures ∙ ap (λ (l : List ℕ). drop 1 l) body in
    let first = subst (λ (x : Connection). connected.StandsFor x r h) (sym c.reply_why-why.ensures.same) party.answerer in
    let second = subst (λ (x : Connection). connected.StandsFor x r h) (sym c.coming_key.ensures.same) first in
    let told = given_is w q older k route answer carries turn type sealed c.behind_type-request.result.now c.answers_record.result request (c.answers_record.ensures.told r h turn.round.tag set_up second small) in
    let is = c.in-Some-Large.is ∙ ap Some c.in-Some-Large.field-0-is in
    let shown = told.large.0 is in
    let fetches = c.go_on-heard-in-Some-Large.ensures.fetches w q older k turn.round carries below turn.answers.0 at party.asker (sym (kept_asks_none w q older k keeps)) in
    let op = c.in-Some.fetched.op in
    let prepared = subst (λ (m : List ℕ). IsPrepared r h m c.in-Some.fetched) request (c.in-Some.ensures r h set_up party.answerer) in
    let coming = subst (λ (b : List ℕ). IsComingKey r h b (Some c.in-Some-coming_key.key)) c.body-body.ensures (c.in-Some-coming_key.ensures.key r h first small) in
    let own = subst (λ (b : List ℕ). IsComingKey r h b (Some c.in-Some-coming_key.key)) (ap body_in at) coming in
    let will = own.0 in
    let six = own_record w q older k route answer carries turn type sealed in
    let then = next w q older k route answer byte limits carries turn type will shown op prepared.asks in
    let e = begun w q older k route answer byte limits carries turn type will shown op prepared.asks in
    let there = behind_is w q older k route answer carries turn type sealed c.answers_record.new.self c.behind_type-request.result.now given.Large request
    (subst (λ (x : Option Given). IfSome x (λ (y : Given). IsAnswerer c.answers_record.new.self r (history_behind r h turn.round.tag (record_body c.behind_type-request.result.now) answer y))) is (c.answers_record.ensures.stands r h turn.round.tag set_up second small)) in
    let behind = behind_large w q older k route answer byte limits carries turn type will shown op prepared.asks c.answers_record.new.self there in
    let new = c.go_on-heard-in-Some-Large.new.self in
    let answerer = subst (λ (x : JudgedResponder). IsAnswerer x r (e ∷ h)) (sym c.go_on-heard-in-Some-Large.ensures.answerer) behind in
    let adds = adds_there w q older k route answer byte limits carries turn type will shown op prepared.asks c.args.round.now at in
    let keys = subst (StandFor new.keys r) adds (c.go_on-heard-in-Some-Large.ensures.keys r h [] (f0 r h turn.round.tag turn.round.body answer type will shown) no_draw party.keys coming
    (subst (IsAnswerer c.answers_record.new.self r) (sym adds) behind)) in
    let asker = subst (λ (n : ℕ). IsAsker new.asker q (heard_kept k (unseen e ∷ h) n turn.round answer)) turn.answers.1
    (c.go_on-heard-in-Some-Large.ensures.asker w q older k (unseen e ∷ h) turn.round carries below turn.answers.0 at party.asker) in
    let change = begun_change w q older k route answer byte limits carries turn type will shown op prepared.asks six prepared.wide sealed c.answer_accepts.ensures c.large_answer_changes.ensures c.change-change-in-Some-Large.result
    c.change-change-in-Some-Large.ensures.begun
    (c.change-change-in-Some-Large.ensures.accepted ∙ c.go_on-heard-in-Some-Large.ensures.accepted w q older k turn.round carries few turn.answers.0 at party.asker)
    (c.change-change-in-Some-Large.ensures.taken ∙ c.taken-taken.ensures r h second ∙ ap (λ (b : List ℕ). taken_shown h b answer) body)
    c.change-change-in-Some-Large.ensures.asked
    (c.change-change-in-Some-Large.ensures.views r (e ∷ h) answerer (few_begun w q older k route answer byte limits carries turn type will shown op prepared.asks small)) in
    let step = begun_step w q older k route answer byte limits carries turn type will shown op prepared.asks six prepared.wide sealed c.answer_accepts.ensures c.large_answer_changes.ensures in
    let number = c.go_on-heard-in-Some-Large.ensures.number ∙ party.number in
    let its = number ∙ ap (λ (s : ReqSetup). number_from 1 s.eid w.requesters) (sym party.asker.setup) in
    let places = subst (λ (x : Places). rows_of.StandFor x (restored k) rows) (sym c.go_on-heard-in-Some-Large.ensures.places) party.places in
    let it = c.in_ok-take-in-Some-Large.was in
    let table = subst (λ (x : Result Unit OutOfMemory). OnOk x (rows_of.StandsForRows c.take-in-Some-Large.new.self w (length older + 1) (rows_between (restored k) (restored then.kept) rows))) it
    (c.take-in-Some-Large.ensures.table w (length older) (restored k) (restored then.kept) rows change step few its stands places) in
    let stand = subst (λ (x : Result Unit OutOfMemory). OnOk x (rows_of.StandFor c.take-in-Some-Large.new.places (restored then.kept) (rows_between (restored k) (restored then.kept) rows))) it
    (c.take-in-Some-Large.ensures.places w (length older) (restored k) (restored then.kept) rows change step stands places) in
    let forgets = c.forget_in.ensures r (e ∷ h) (large_there w q older k route answer byte limits carries turn type will shown op prepared.asks six prepared.wide c.in-Some.fetched.id prepared.id)
    (measures_there w q older k route answer byte limits carries turn type will shown op prepared.asks six prepared.wide c.in-Some.fetched.id prepared.id) answerer in
    let forgotten = subst (connected.StandsFor c.forget_in.new.self r) (forgot w q older k route answer byte limits carries turn type will shown op prepared.asks six prepared.wide c.in-Some.fetched.id prepared.id) forgets in
    let last = record new { answerer = record new.answerer { connection = c.forget_in.new.self }; places = c.take-in-Some-Large.new.places } in
    let idle = sym (ap (λ (n : ℕ). asks_upon k n answer) turn.answers.1) ∙ sym fetches ∙ not-true _ c.if-not-heard.true in
    (goes_unfetched w q older k route answer byte limits carries turn type will shown op prepared.asks six prepared.wide rows last c.take-in-Some-Large.new.self keeps idle asker forgotten keys number stand table, sealed_round k turn.round turn.answers.0 type, tt)

pub returns-else-not-heard-clause-told : goal.returns-else-not-heard-clause-told
returns-else-not-heard-clause-told c = λ w q older rows k route keeps below byte now set_up none party stands.
    let few : length older < 2 ^ 64 - 1 = omega (arith, below) in
    let carries = keeps_carries w q older k keeps in
    let answer : List ℕ = c.args.answer.now in
    let turn = answers_in_turn k route answer none in
    let r = responder_for w k in
    let h = k.responder in
    let limits = kept_limits q k c.args.party.now.asker party.asker in
    let at = now ∙ turn.answers.0 in
    let body = c.body-body.ensures ∙ ap body_in at in
    let small = few_messages w q older k carries few in
    let type = ne_eqb (slice_index turn.round.body 0) 5 (λ e. c.if-byte_at-eq-SPDM.false (c.byte_at.ensures ∙ ap (λ (l : List ℕ). slice_index l 0) body ∙ e)) in
    let sealed = ne_eqb (slice_index answer 0) 5 (λ e. c.if-byte_at-eq-SPDM-2.false (c.byte_at-2.ensures ∙ e)) in
    let request = c.behind_type-request.ensures ∙ ap (λ (l : List ℕ). drop 1 l) body in
    let first = subst (λ (x : Connection). connected.StandsFor x r h) (sym c.reply_why-why.ensures.same) party.answerer in
    let second = subst (λ (x : Connection). connected.StandsFor x r h) (sym c.coming_key.ensures.same) first in
    let told = given_is w q older k route answer carries turn type sealed c.behind_type-request.result.now c.answers_record.result request (c.answers_record.ensures.told r h turn.round.tag set_up second small) in
    let is = c.in-Some-Large.is ∙ ap Some c.in-Some-Large.field-0-is in
    let shown = told.large.0 is in
    let fetches = c.go_on-heard-in-Some-Large.ensures.fetches w q older k turn.round carries below turn.answers.0 at party.asker (sym (kept_asks_none w q older k keeps)) in
    let op = c.in-Some.fetched.op in
    let prepared = subst (λ (m : List ℕ). IsPrepared r h m c.in-Some.fetched) request (c.in-Some.ensures r h set_up party.answerer) in
    let coming = subst (λ (b : List ℕ). IsComingKey r h b (Some c.in-Some-coming_key.key)) c.body-body.ensures (c.in-Some-coming_key.ensures.key r h first small) in
    let own = subst (λ (b : List ℕ). IsComingKey r h b (Some c.in-Some-coming_key.key)) (ap body_in at) coming in
    let will = own.0 in
    let six = own_record w q older k route answer carries turn type sealed in
    let then = next w q older k route answer byte limits carries turn type will shown op prepared.asks in
    let e = begun w q older k route answer byte limits carries turn type will shown op prepared.asks in
    let there = behind_is w q older k route answer carries turn type sealed c.answers_record.new.self c.behind_type-request.result.now given.Large request
    (subst (λ (x : Option Given). IfSome x (λ (y : Given). IsAnswerer c.answers_record.new.self r (history_behind r h turn.round.tag (record_body c.behind_type-request.result.now) answer y))) is (c.answers_record.ensures.stands r h turn.round.tag set_up second small)) in
    let behind = behind_large w q older k route answer byte limits carries turn type will shown op prepared.asks c.answers_record.new.self there in
    let new = c.go_on-heard-in-Some-Large.new.self in
    let answerer = subst (λ (x : JudgedResponder). IsAnswerer x r (e ∷ h)) (sym c.go_on-heard-in-Some-Large.ensures.answerer) behind in
    let adds = adds_there w q older k route answer byte limits carries turn type will shown op prepared.asks c.args.round.now at in
    let keys = subst (StandFor new.keys r) adds (c.go_on-heard-in-Some-Large.ensures.keys r h [] (f0 r h turn.round.tag turn.round.body answer type will shown) no_draw party.keys coming
    (subst (IsAnswerer c.answers_record.new.self r) (sym adds) behind)) in
    let asker = subst (λ (n : ℕ). IsAsker new.asker q (heard_kept k (unseen e ∷ h) n turn.round answer)) turn.answers.1
    (c.go_on-heard-in-Some-Large.ensures.asker w q older k (unseen e ∷ h) turn.round carries below turn.answers.0 at party.asker) in
    let change = begun_change w q older k route answer byte limits carries turn type will shown op prepared.asks six prepared.wide sealed c.answer_accepts.ensures c.large_answer_changes.ensures c.change-change-in-Some-Large.result
    c.change-change-in-Some-Large.ensures.begun
    (c.change-change-in-Some-Large.ensures.accepted ∙ c.go_on-heard-in-Some-Large.ensures.accepted w q older k turn.round carries few turn.answers.0 at party.asker)
    (c.change-change-in-Some-Large.ensures.taken ∙ c.taken-taken.ensures r h second ∙ ap (λ (b : List ℕ). taken_shown h b answer) body)
    c.change-change-in-Some-Large.ensures.asked
    (c.change-change-in-Some-Large.ensures.views r (e ∷ h) answerer (few_begun w q older k route answer byte limits carries turn type will shown op prepared.asks small)) in
    let step = begun_step w q older k route answer byte limits carries turn type will shown op prepared.asks six prepared.wide sealed c.answer_accepts.ensures c.large_answer_changes.ensures in
    let number = c.go_on-heard-in-Some-Large.ensures.number ∙ party.number in
    let its = number ∙ ap (λ (s : ReqSetup). number_from 1 s.eid w.requesters) (sym party.asker.setup) in
    let places = subst (λ (x : Places). rows_of.StandFor x (restored k) rows) (sym c.go_on-heard-in-Some-Large.ensures.places) party.places in
    let it = c.in_ok-take-in-Some-Large.was in
    let table = subst (λ (x : Result Unit OutOfMemory). OnOk x (rows_of.StandsForRows c.take-in-Some-Large.new.self w (length older + 1) (rows_between (restored k) (restored then.kept) rows))) it
    (c.take-in-Some-Large.ensures.table w (length older) (restored k) (restored then.kept) rows change step few its stands places) in
    let stand = subst (λ (x : Result Unit OutOfMemory). OnOk x (rows_of.StandFor c.take-in-Some-Large.new.places (restored then.kept) (rows_between (restored k) (restored then.kept) rows))) it
    (c.take-in-Some-Large.ensures.places w (length older) (restored k) (restored then.kept) rows change step stands places) in
    let last = record new { places = c.take-in-Some-Large.new.places } in
    let asks = sym (ap (λ (n : ℕ). asks_upon k n answer) turn.answers.1) ∙ sym fetches ∙ not-false _ c.if-not-heard.false in (
      then,
      begins w q older k route answer byte limits carries turn type will shown op prepared.asks asks,
      begun_stands w q older k route answer byte limits carries turn type will shown op prepared.asks six prepared.wide rows last c.in-Some.fetched asker answerer keys number stand prepared.id refl prepared.lengths prepared.none prepared.left prepared.found,
      table,
    )

pub returns-in-Some-Last-clause-told : goal.returns-in-Some-Last-clause-told
returns-in-Some-Last-clause-told c = λ w q older rows k route keeps below byte now set_up none party stands.
    let few : length older < 2 ^ 64 - 1 = omega (arith, below) in
    let carries = keeps_carries w q older k keeps in
    let answer : List ℕ = c.args.answer.now in
    let turn = answers_in_turn k route answer none in
    let r = responder_for w k in
    let h = k.responder in
    let limits = kept_limits q k c.args.party.now.asker party.asker in
    let at = now ∙ turn.answers.0 in
    let body = c.body-body.ensures ∙ ap body_in at in
    let small = few_messages w q older k carries few in
    let type = ne_eqb (slice_index turn.round.body 0) 5 (λ e. c.if-byte_at-eq-SPDM.false (c.byte_at.ensures ∙ ap (λ (l : List ℕ). slice_index l 0) body ∙ e)) in
    let sealed = ne_eqb (slice_index answer 0) 5 (λ e. c.if-byte_at-eq-SPDM-2.false (c.byte_at-2.ensures ∙ e)) in
    let request = c.behind_type-request.ensures ∙ ap (λ (l : List ℕ). drop 1 l) body in
    let first = subst (λ (x : Connection). connected.StandsFor x r h) (sym c.reply_why-why.ensures.same) party.answerer in
    let second = subst (λ (x : Connection). connected.StandsFor x r h) (sym c.coming_key.ensures.same) first in
    let told = given_is w q older k route answer carries turn type sealed c.behind_type-request.result.now c.answers_record.result request (c.answers_record.ensures.told r h turn.round.tag set_up second small) in
    let is = c.in-Some-Last.is ∙ ap Some c.in-Some-Last.field-0-is in (
      is_part w q older k route answer byte limits keeps turn rows c.args.party.now c.args.table.now (inr (told.last.0 is)),
      sealed_round k turn.round turn.answers.0 type,
      λ large. false≢true (ap is_large_given (sym is ∙ told.large.1 (record_here w k route answer turn large).large)),
    )

pub returns-in-None-clause-told : goal.returns-in-None-clause-told
returns-in-None-clause-told c = λ w q older rows k route keeps below byte now set_up none party stands.
    let few : length older < 2 ^ 64 - 1 = omega (arith, below) in
    let carries = keeps_carries w q older k keeps in
    let answer : List ℕ = c.args.answer.now in
    let turn = answers_in_turn k route answer none in
    let r = responder_for w k in
    let h = k.responder in
    let limits = kept_limits q k c.args.party.now.asker party.asker in
    let at = now ∙ turn.answers.0 in
    let body = c.body-body.ensures ∙ ap body_in at in
    let small = few_messages w q older k carries few in
    let type = ne_eqb (slice_index turn.round.body 0) 5 (λ e. c.if-byte_at-eq-SPDM.false (c.byte_at.ensures ∙ ap (λ (l : List ℕ). slice_index l 0) body ∙ e)) in
    let sealed = ne_eqb (slice_index answer 0) 5 (λ e. c.if-byte_at-eq-SPDM-2.false (c.byte_at-2.ensures ∙ e)) in
    let request = c.behind_type-request.ensures ∙ ap (λ (l : List ℕ). drop 1 l) body in
    let first = subst (λ (x : Connection). connected.StandsFor x r h) (sym c.reply_why-why.ensures.same) party.answerer in
    let second = subst (λ (x : Connection). connected.StandsFor x r h) (sym c.coming_key.ensures.same) first in
    let told = given_is w q older k route answer carries turn type sealed c.behind_type-request.result.now c.answers_record.result request (c.answers_record.ensures.told r h turn.round.tag set_up second small) in
    let never = given_never w q older k route answer carries turn type sealed (subst (λ (x : Option Given). IsGivenTo r h turn.round.tag turn.round.body answer x) c.in-None.is told) in (
      refused_for w q older k route answer byte limits keeps turn rows c.reply_why-why.result never (never_apart w q older k route answer carries turn type sealed)
          (c.reply_why-why.ensures.told r (restored k) turn.round party.answerer small party.keys (sym body)) c.args.party.now c.args.table.now,
      sealed_round k turn.round turn.answers.0 type,
      tt,
    )
