use Rattle.std.proofs.Common.{◌+◌, ◌-◌, ◌^◌, ◌<◌, ◌∙◌, sym, ap, subst, drop, length, arith, List, [], ◌∷◌, ℕ, refl, Some, Option, Result}
use Rattle.std.specs.Prelude.{OnOk}
use Rattle.std.specs.Option.{IfSome}
use Rattle.std.proofs.lemmas.Bool.{not-false, not-true}
use Rattle.std.proofs.lemmas.Option.{none-some}
use Rattle.check_ends.proofs.InTurn.{answers_in_turn}
use Rattle.check_ends.proofs.PartyReplied.{kept_limits}
use Rattle.check_responder.specs.AnswerKeys.{IsComingKey, StandFor}
use Rattle.check_responder.specs.JudgedResponder.{IsAnswerer}
use Rattle.check_requester.specs.JudgedRequester.{IsAsker}
use Rattle.check_requester.specs.HeardKept.{asks_upon, heard_kept}
use Rattle.check_responder.specs.RecordAnswers.{history_behind}
use Rattle.check_responder.specs.declared.judged_responder.JudgedResponder.{JudgedResponder}
use Rattle.check_responder.specs.declared.given.Given.{Given}
use Rattle.check_responder.specs.declared.given.Given.TheVariants as given
use Rattle.check_laws.specs.KeptChanges.{taken_shown}
use Rattle.check_laws.specs.Keeping.{restored}
use Rattle.check_laws.specs.Order.{body_in}
use Rattle.check_laws.specs.RepliesShown.{responder_for}
use Rattle.check_laws.specs.Rows as rows_of
use Rattle.check_laws.specs.declared.places.Places.{Places}
use Rattle.responder_core.specs.Connected as connected
use Rattle.responder_core.specs.declared.connected.Connection.{Connection}
use Rattle.requester_machine.specs.Setup.{ReqSetup}
use Rattle.spdm_basis.specs.declared.OutOfMemory.{OutOfMemory}
use Rattle.spdm_machine.specs.Bodies.{record_body}
use Rattle.capture_machine.specs.LargeAnswers.{with_large}
use Rattle.capture_machine.specs.Rounds.{no_draw}
use Rattle.capture_machine.specs.SessionTable.{number_from, rows_between}
use Rattle.check_fetched_ends.proofs.ChunkTold.{adds_at, awaits, behind_last, behind_whole, entry, few_behind, given_is, keys_before, large_not_last, large_not_whole, long_whole, values, whole_not_last}
use Rattle.check_fetched_ends.proofs.InSessionGone.{change_next, keys_next, step_next}
use Rattle.check_fetched_ends.proofs.InSessionLast.{change_last, ended_on, last_kept, step_last}
use Rattle.check_fetched_ends.proofs.InSessionTold.{carries, few as few_of, fetched_on, its_message, judges, shows, stand, then_kept}
use Rattle.check_fetched_ends.proofs.OtherBytes.{flipped}
use Rattle.check_fetched_ends.proofs.StopsTold.{apart, ended_unasked, judges_then, one_measured, other_measured}
use Rattle.check_fetched_ends.proofs.session_fetch.chunk_judged.judges_chunk.Goals as goal
use Rattle.check_fetched_ends.specs.InSession.{IsReadIn}

pub returns-then-not-heard-clause-told : goal.returns-then-not-heard-clause-told
returns-then-not-heard-clause-told c = λ w q older rows f route own below byte now set_up none in_body stands.
    let fewer : length older < 2 ^ 64 - 1 = omega (arith, below) in
    let answer : List ℕ = c.args.answer.now in
    let turn = answers_in_turn f.kept route answer none in
    let limits = kept_limits q f.kept c.args.party.now.asker in_body.kept.beside.asker in
    let r = responder_for w f.kept in
    let at = now ∙ turn.answers.0 in
    let read = subst (λ (b : List ℕ). IsReadIn c.args.party.now c.args.fetched.now w q f rows b answer c.args.message.now c.args.whole.now) (ap body_in at) in_body in
    let g = with_large (Some c.args.fetched.now.id) c.args.whole.now f.kept.responder in
    let body = c.body-body.ensures ∙ ap body_in at in
    let carry = carries w q older rows f route answer byte limits own turn c.args.party.now c.args.fetched.now c.args.message.now c.args.whole.now read in
    let small = few_of w q older rows f route answer byte limits own turn c.args.party.now c.args.fetched.now c.args.message.now c.args.whole.now read fewer in
    let first = subst (λ (x : Connection). connected.StandsFor x r g) (sym c.coming_key-key.ensures.same) (judges w q older rows f route answer byte limits own turn c.args.party.now c.args.fetched.now c.args.message.now c.args.whole.now read) in
    let request = c.behind_type.ensures ∙ ap (λ (l : List ℕ). drop 1 l) body in
    let told = given_is w q older rows f route answer byte limits own turn c.args.party.now c.args.fetched.now c.args.message.now c.args.whole.now read c.behind_type.result.now c.answers_record.result request (c.answers_record.ensures.told r g turn.round.tag set_up first small) in
    let is = c.in-Some-Whole.is ∙ ap Some c.in-Some-Whole.field-0-is in
    let shown = told.whole.0 is in
    let behind = behind_whole w q older rows f route answer byte limits own turn c.args.party.now c.args.fetched.now c.args.message.now c.args.whole.now read c.answers_record.new.self c.behind_type.result.now request
    (subst (λ (x : Option Given). IfSome x (λ (y : Given). IsAnswerer c.answers_record.new.self r (history_behind r g turn.round.tag (record_body c.behind_type.result.now) answer y))) is (c.answers_record.ensures.stands r g turn.round.tag set_up first small)) in
    let new = c.go_on-heard.new.self in
    let e = entry w q older rows f route answer byte limits own turn c.args.party.now c.args.fetched.now c.args.message.now c.args.whole.now read in
    let answerer = subst (λ (x : JudgedResponder). IsAnswerer x r (e ∷ g)) (sym c.go_on-heard.ensures.answerer) behind in
    let coming = subst (λ (b : List ℕ). IsComingKey r g b c.coming_key-key.result) c.body-body.ensures (c.coming_key-key.ensures.key r g (judges w q older rows f route answer byte limits own turn c.args.party.now c.args.fetched.now c.args.message.now c.args.whole.now read) small) in
    let adds = adds_at w q older rows f route answer byte limits own turn c.args.party.now c.args.fetched.now c.args.message.now c.args.whole.now read c.args.round.now at in
    let keys = subst (StandFor new.keys r) adds (c.go_on-heard.ensures.keys r g [] (values w q older rows f route answer byte limits own turn c.args.party.now c.args.fetched.now c.args.message.now c.args.whole.now read) no_draw (keys_before w q older rows f route answer byte limits own turn c.args.party.now c.args.fetched.now c.args.message.now c.args.whole.now read) coming
    (subst (IsAnswerer c.answers_record.new.self r) (sym adds) behind)) in
    let next = (then_kept w q older rows f route answer byte limits own turn c.args.party.now c.args.fetched.now c.args.message.now c.args.whole.now read shown).kept in
    let change = change_next w q older f route answer byte limits own turn c.args.fetched.now.id read.kept.at read.record_is c.args.whole.now (stand w q older rows f route answer byte limits own turn c.args.party.now c.args.fetched.now c.args.message.now c.args.whole.now read) read.read.taken read.sealed shown c.answer_accepts.ensures c.whole_answer_changes.ensures c.change-change.result
    c.change-change.ensures.begun
    (c.change-change.ensures.accepted ∙ c.go_on-heard.ensures.accepted w q older f.kept turn.round carry fewer turn.answers.0 at in_body.kept.beside.asker)
    (c.change-change.ensures.taken ∙ c.taken-taken.ensures r g first ∙ ap (λ (b : List ℕ). taken_shown g b answer) body)
    c.change-change.ensures.asked
    (c.change-change.ensures.views r (e ∷ g) answerer (few_behind w q older rows f route answer byte limits own turn c.args.party.now c.args.fetched.now c.args.message.now c.args.whole.now read small)) in
    let step = step_next w q older f route answer byte limits own turn c.args.fetched.now.id read.kept.at read.record_is c.args.whole.now (stand w q older rows f route answer byte limits own turn c.args.party.now c.args.fetched.now c.args.message.now c.args.whole.now read) read.read.taken read.sealed shown c.answer_accepts.ensures c.whole_answer_changes.ensures in
    let number = c.go_on-heard.ensures.number ∙ in_body.kept.beside.number in
    let there = number ∙ ap (λ (s : ReqSetup). number_from 1 s.eid w.requesters) (sym in_body.kept.beside.asker.setup) in
    let places = subst (λ (x : Places). rows_of.StandFor x (restored f.kept) rows) (sym c.go_on-heard.ensures.places) in_body.kept.beside.places in
    let it = c.in_ok-take-in-Some-Whole.was in
    let table = subst (λ (x : Result Unit OutOfMemory). OnOk x (rows_of.StandsForRows c.take.new.self w (length older + 1) (rows_between (restored f.kept) (restored next) rows))) it
    (c.take.ensures.table w (length older) (restored f.kept) (restored next) rows change step fewer there stands places) in
    let stood = subst (λ (x : Result Unit OutOfMemory). OnOk x (rows_of.StandFor c.take.new.places (restored next) (rows_between (restored f.kept) (restored next) rows))) it
    (c.take.ensures.places w (length older) (restored f.kept) (restored next) rows change step stands places) in
    let fetches = c.go_on-heard.ensures.fetches w q older f.kept turn.round carry below turn.answers.0 at in_body.kept.beside.asker (awaits w q older rows f route answer byte limits own turn c.args.party.now c.args.fetched.now c.args.message.now c.args.whole.now read) in
    let idle = sym (ap (λ (n : ℕ). asks_upon f.kept n answer) turn.answers.1) ∙ sym fetches ∙ not-true _ c.if-not-heard.true in
    let asker = c.go_on-heard.ensures.asker w q older f.kept (e ∷ f.kept.responder) turn.round carry below turn.answers.0 at in_body.kept.beside.asker in
    let left : JudgedResponder = record new.answerer { connection = c.forget_bytes.new.connection } in
    let last = record new { places = c.take.new.places; answerer = left } in
    let forgotten = c.forget_bytes.ensures r (e ∷ f.kept.responder) c.args.whole.now (flipped c.args.whole.now) (apart w q older rows f route answer byte limits own turn c.args.party.now c.args.fetched.now c.args.message.now c.args.whole.now read shown) (one_measured w q older rows f route answer byte limits own turn c.args.party.now c.args.fetched.now c.args.message.now c.args.whole.now read shown) (other_measured w q older rows f route answer byte limits own turn c.args.party.now c.args.fetched.now c.args.message.now c.args.whole.now read shown) (judges_then w q older rows f route answer byte limits own turn c.args.party.now c.args.fetched.now c.args.message.now c.args.whole.now read shown new.answerer answerer) in
    ended_unasked w q older rows f route answer byte limits own turn c.args.party.now c.args.fetched.now c.args.message.now c.args.whole.now read shown last c.args.fetched.now c.take.new.self idle
    (subst (λ (n : ℕ). IsAsker new.asker q (heard_kept f.kept (e ∷ f.kept.responder) n turn.round answer)) turn.answers.1 asker) forgotten
    (keys_next w q older f route answer byte limits own turn c.args.fetched.now.id read.kept.at read.record_is c.args.whole.now (stand w q older rows f route answer byte limits own turn c.args.party.now c.args.fetched.now c.args.message.now c.args.whole.now read) read.read.taken read.sealed shown new.keys keys) number stood table

pub returns-then-not-is_measured-clause-told : goal.returns-then-not-is_measured-clause-told
returns-then-not-is_measured-clause-told c = λ w q older rows f route own below byte now set_up none in_body stands.
    let fewer : length older < 2 ^ 64 - 1 = omega (arith, below) in
    let answer : List ℕ = c.args.answer.now in
    let turn = answers_in_turn f.kept route answer none in
    let limits = kept_limits q f.kept c.args.party.now.asker in_body.kept.beside.asker in
    let r = responder_for w f.kept in
    let at = now ∙ turn.answers.0 in
    let read = subst (λ (b : List ℕ). IsReadIn c.args.party.now c.args.fetched.now w q f rows b answer c.args.message.now c.args.whole.now) (ap body_in at) in_body in
    let g = with_large (Some c.args.fetched.now.id) c.args.whole.now f.kept.responder in
    let body = c.body-body.ensures ∙ ap body_in at in
    let carry = carries w q older rows f route answer byte limits own turn c.args.party.now c.args.fetched.now c.args.message.now c.args.whole.now read in
    let small = few_of w q older rows f route answer byte limits own turn c.args.party.now c.args.fetched.now c.args.message.now c.args.whole.now read fewer in
    let first = subst (λ (x : Connection). connected.StandsFor x r g) (sym c.coming_key-key.ensures.same) (judges w q older rows f route answer byte limits own turn c.args.party.now c.args.fetched.now c.args.message.now c.args.whole.now read) in
    let request = c.behind_type.ensures ∙ ap (λ (l : List ℕ). drop 1 l) body in
    let told = given_is w q older rows f route answer byte limits own turn c.args.party.now c.args.fetched.now c.args.message.now c.args.whole.now read c.behind_type.result.now c.answers_record.result request (c.answers_record.ensures.told r g turn.round.tag set_up first small) in
    let is = c.in-Some-Last.is ∙ ap Some c.in-Some-Last.field-0-is in (
      turn.round,
      turn.answers.0,
      record {
        next = λ shown. absurd (whole_not_last (sym is ∙ told.whole.1 shown));
        last = λ ends measured. absurd (c.is_measured.ensures.none r set_up read.kept.found (long_whole w q older rows f route answer byte limits own turn c.args.party.now c.args.fetched.now c.args.message.now c.args.whole.now read) c.if-not-is_measured.true measured);
      },
    )

pub returns-then-heard-clause-told : goal.returns-then-heard-clause-told
returns-then-heard-clause-told c = λ w q older rows f route own below byte now set_up none in_body stands.
    let fewer : length older < 2 ^ 64 - 1 = omega (arith, below) in
    let answer : List ℕ = c.args.answer.now in
    let turn = answers_in_turn f.kept route answer none in
    let limits = kept_limits q f.kept c.args.party.now.asker in_body.kept.beside.asker in
    let r = responder_for w f.kept in
    let at = now ∙ turn.answers.0 in
    let read = subst (λ (b : List ℕ). IsReadIn c.args.party.now c.args.fetched.now w q f rows b answer c.args.message.now c.args.whole.now) (ap body_in at) in_body in
    let g = with_large (Some c.args.fetched.now.id) c.args.whole.now f.kept.responder in
    let body = c.body-body.ensures ∙ ap body_in at in
    let carry = carries w q older rows f route answer byte limits own turn c.args.party.now c.args.fetched.now c.args.message.now c.args.whole.now read in
    let small = few_of w q older rows f route answer byte limits own turn c.args.party.now c.args.fetched.now c.args.message.now c.args.whole.now read fewer in
    let first = subst (λ (x : Connection). connected.StandsFor x r g) (sym c.coming_key-key.ensures.same) (judges w q older rows f route answer byte limits own turn c.args.party.now c.args.fetched.now c.args.message.now c.args.whole.now read) in
    let request = c.behind_type.ensures ∙ ap (λ (l : List ℕ). drop 1 l) body in
    let told = given_is w q older rows f route answer byte limits own turn c.args.party.now c.args.fetched.now c.args.message.now c.args.whole.now read c.behind_type.result.now c.answers_record.result request (c.answers_record.ensures.told r g turn.round.tag set_up first small) in
    let is = c.in-Some-Last.is ∙ ap Some c.in-Some-Last.field-0-is in
    let fetches = c.go_on-heard-in-Some-Last.ensures.fetches w q older f.kept turn.round carry below turn.answers.0 at in_body.kept.beside.asker (awaits w q older rows f route answer byte limits own turn c.args.party.now c.args.fetched.now c.args.message.now c.args.whole.now read) in (
      turn.round,
      turn.answers.0,
      record {
        next = λ shown. absurd (whole_not_last (sym is ∙ told.whole.1 shown));
        last = λ ends measured. sym fetches ∙ c.if-heard.true;
      },
    )

pub returns-else-not-heard-clause-told : goal.returns-else-not-heard-clause-told
returns-else-not-heard-clause-told c = λ w q older rows f route own below byte now set_up none in_body stands.
    let fewer : length older < 2 ^ 64 - 1 = omega (arith, below) in
    let answer : List ℕ = c.args.answer.now in
    let turn = answers_in_turn f.kept route answer none in
    let limits = kept_limits q f.kept c.args.party.now.asker in_body.kept.beside.asker in
    let r = responder_for w f.kept in
    let at = now ∙ turn.answers.0 in
    let read = subst (λ (b : List ℕ). IsReadIn c.args.party.now c.args.fetched.now w q f rows b answer c.args.message.now c.args.whole.now) (ap body_in at) in_body in
    let g = with_large (Some c.args.fetched.now.id) c.args.whole.now f.kept.responder in
    let body = c.body-body.ensures ∙ ap body_in at in
    let carry = carries w q older rows f route answer byte limits own turn c.args.party.now c.args.fetched.now c.args.message.now c.args.whole.now read in
    let small = few_of w q older rows f route answer byte limits own turn c.args.party.now c.args.fetched.now c.args.message.now c.args.whole.now read fewer in
    let first = subst (λ (x : Connection). connected.StandsFor x r g) (sym c.coming_key-key.ensures.same) (judges w q older rows f route answer byte limits own turn c.args.party.now c.args.fetched.now c.args.message.now c.args.whole.now read) in
    let request = c.behind_type.ensures ∙ ap (λ (l : List ℕ). drop 1 l) body in
    let told = given_is w q older rows f route answer byte limits own turn c.args.party.now c.args.fetched.now c.args.message.now c.args.whole.now read c.behind_type.result.now c.answers_record.result request (c.answers_record.ensures.told r g turn.round.tag set_up first small) in
    let is = c.in-Some-Whole.is ∙ ap Some c.in-Some-Whole.field-0-is in
    let shown = told.whole.0 is in
    let behind = behind_whole w q older rows f route answer byte limits own turn c.args.party.now c.args.fetched.now c.args.message.now c.args.whole.now read c.answers_record.new.self c.behind_type.result.now request
    (subst (λ (x : Option Given). IfSome x (λ (y : Given). IsAnswerer c.answers_record.new.self r (history_behind r g turn.round.tag (record_body c.behind_type.result.now) answer y))) is (c.answers_record.ensures.stands r g turn.round.tag set_up first small)) in
    let new = c.go_on-heard.new.self in
    let e = entry w q older rows f route answer byte limits own turn c.args.party.now c.args.fetched.now c.args.message.now c.args.whole.now read in
    let answerer = subst (λ (x : JudgedResponder). IsAnswerer x r (e ∷ g)) (sym c.go_on-heard.ensures.answerer) behind in
    let coming = subst (λ (b : List ℕ). IsComingKey r g b c.coming_key-key.result) c.body-body.ensures (c.coming_key-key.ensures.key r g (judges w q older rows f route answer byte limits own turn c.args.party.now c.args.fetched.now c.args.message.now c.args.whole.now read) small) in
    let adds = adds_at w q older rows f route answer byte limits own turn c.args.party.now c.args.fetched.now c.args.message.now c.args.whole.now read c.args.round.now at in
    let keys = subst (StandFor new.keys r) adds (c.go_on-heard.ensures.keys r g [] (values w q older rows f route answer byte limits own turn c.args.party.now c.args.fetched.now c.args.message.now c.args.whole.now read) no_draw (keys_before w q older rows f route answer byte limits own turn c.args.party.now c.args.fetched.now c.args.message.now c.args.whole.now read) coming
    (subst (IsAnswerer c.answers_record.new.self r) (sym adds) behind)) in
    let next = (then_kept w q older rows f route answer byte limits own turn c.args.party.now c.args.fetched.now c.args.message.now c.args.whole.now read shown).kept in
    let change = change_next w q older f route answer byte limits own turn c.args.fetched.now.id read.kept.at read.record_is c.args.whole.now (stand w q older rows f route answer byte limits own turn c.args.party.now c.args.fetched.now c.args.message.now c.args.whole.now read) read.read.taken read.sealed shown c.answer_accepts.ensures c.whole_answer_changes.ensures c.change-change.result
    c.change-change.ensures.begun
    (c.change-change.ensures.accepted ∙ c.go_on-heard.ensures.accepted w q older f.kept turn.round carry fewer turn.answers.0 at in_body.kept.beside.asker)
    (c.change-change.ensures.taken ∙ c.taken-taken.ensures r g first ∙ ap (λ (b : List ℕ). taken_shown g b answer) body)
    c.change-change.ensures.asked
    (c.change-change.ensures.views r (e ∷ g) answerer (few_behind w q older rows f route answer byte limits own turn c.args.party.now c.args.fetched.now c.args.message.now c.args.whole.now read small)) in
    let step = step_next w q older f route answer byte limits own turn c.args.fetched.now.id read.kept.at read.record_is c.args.whole.now (stand w q older rows f route answer byte limits own turn c.args.party.now c.args.fetched.now c.args.message.now c.args.whole.now read) read.read.taken read.sealed shown c.answer_accepts.ensures c.whole_answer_changes.ensures in
    let number = c.go_on-heard.ensures.number ∙ in_body.kept.beside.number in
    let there = number ∙ ap (λ (s : ReqSetup). number_from 1 s.eid w.requesters) (sym in_body.kept.beside.asker.setup) in
    let places = subst (λ (x : Places). rows_of.StandFor x (restored f.kept) rows) (sym c.go_on-heard.ensures.places) in_body.kept.beside.places in
    let it = c.in_ok-take-in-Some-Whole.was in
    let table = subst (λ (x : Result Unit OutOfMemory). OnOk x (rows_of.StandsForRows c.take.new.self w (length older + 1) (rows_between (restored f.kept) (restored next) rows))) it
    (c.take.ensures.table w (length older) (restored f.kept) (restored next) rows change step fewer there stands places) in
    let stood = subst (λ (x : Result Unit OutOfMemory). OnOk x (rows_of.StandFor c.take.new.places (restored next) (rows_between (restored f.kept) (restored next) rows))) it
    (c.take.ensures.places w (length older) (restored f.kept) (restored next) rows change step stands places) in
    let last = record new { places = c.take.new.places } in
    let fetches = c.go_on-heard.ensures.fetches w q older f.kept turn.round carry below turn.answers.0 at in_body.kept.beside.asker (awaits w q older rows f route answer byte limits own turn c.args.party.now c.args.fetched.now c.args.message.now c.args.whole.now read) in
    let asks = sym (ap (λ (n : ℕ). asks_upon f.kept n answer) turn.answers.1) ∙ sym fetches ∙ not-false _ c.if-not-heard.false in
    let asker = c.go_on-heard.ensures.asker w q older f.kept (e ∷ f.kept.responder) turn.round carry below turn.answers.0 at in_body.kept.beside.asker in
    fetched_on w q older rows f route answer byte limits own turn c.args.party.now c.args.fetched.now c.args.message.now c.args.whole.now read shown last (record c.args.fetched.now { answer = c.take-in-Some-Whole.new.self }) c.take.new.self (record {
      asker = subst (λ (n : ℕ). IsAsker new.asker q (heard_kept f.kept (e ∷ f.kept.responder) n turn.round answer)) turn.answers.1 asker;
      answerer = answerer;
      keys = keys;
      number = number;
      places = stood;
      stands = table;
      came = c.take-in-Some-Whole.ensures f (then_kept w q older rows f route answer byte limits own turn c.args.party.now c.args.fetched.now c.args.message.now c.args.whole.now read shown) answer (shows w q older rows f route answer byte limits own turn c.args.party.now c.args.fetched.now c.args.message.now c.args.whole.now read shown) (its_message w q older rows f route answer byte limits own turn c.args.party.now c.args.fetched.now c.args.message.now c.args.whole.now read shown) read.kept.answer;
      id = refl;
      least = refl;
      most = refl;
      op = refl;
      left = refl;
    }) asks

pub returns-in_ok-take-in-Some-Last-clause-told : goal.returns-in_ok-take-in-Some-Last-clause-told
returns-in_ok-take-in-Some-Last-clause-told c = λ w q older rows f route own below byte now set_up none in_body stands.
    let fewer : length older < 2 ^ 64 - 1 = omega (arith, below) in
    let answer : List ℕ = c.args.answer.now in
    let turn = answers_in_turn f.kept route answer none in
    let limits = kept_limits q f.kept c.args.party.now.asker in_body.kept.beside.asker in
    let r = responder_for w f.kept in
    let at = now ∙ turn.answers.0 in
    let read = subst (λ (b : List ℕ). IsReadIn c.args.party.now c.args.fetched.now w q f rows b answer c.args.message.now c.args.whole.now) (ap body_in at) in_body in
    let g = with_large (Some c.args.fetched.now.id) c.args.whole.now f.kept.responder in
    let body = c.body-body.ensures ∙ ap body_in at in
    let carry = carries w q older rows f route answer byte limits own turn c.args.party.now c.args.fetched.now c.args.message.now c.args.whole.now read in
    let small = few_of w q older rows f route answer byte limits own turn c.args.party.now c.args.fetched.now c.args.message.now c.args.whole.now read fewer in
    let first = subst (λ (x : Connection). connected.StandsFor x r g) (sym c.coming_key-key.ensures.same) (judges w q older rows f route answer byte limits own turn c.args.party.now c.args.fetched.now c.args.message.now c.args.whole.now read) in
    let request = c.behind_type.ensures ∙ ap (λ (l : List ℕ). drop 1 l) body in
    let told = given_is w q older rows f route answer byte limits own turn c.args.party.now c.args.fetched.now c.args.message.now c.args.whole.now read c.behind_type.result.now c.answers_record.result request (c.answers_record.ensures.told r g turn.round.tag set_up first small) in
    let is = c.in-Some-Last.is ∙ ap Some c.in-Some-Last.field-0-is in
    let ends = told.last.0 is in
    let measured = c.is_measured.ensures.yes r set_up c.if-not-is_measured.false in
    let fetches = c.go_on-heard-in-Some-Last.ensures.fetches w q older f.kept turn.round carry below turn.answers.0 at in_body.kept.beside.asker (awaits w q older rows f route answer byte limits own turn c.args.party.now c.args.fetched.now c.args.message.now c.args.whole.now read) in
    let idle = sym (ap (λ (n : ℕ). asks_upon f.kept n answer) turn.answers.1) ∙ sym fetches ∙ c.if-heard.false in
    let behind = behind_last w q older rows f route answer byte limits own turn c.args.party.now c.args.fetched.now c.args.message.now c.args.whole.now read c.answers_record.new.self c.behind_type.result.now request
    (subst (λ (x : Option Given). IfSome x (λ (y : Given). IsAnswerer c.answers_record.new.self r (history_behind r g turn.round.tag (record_body c.behind_type.result.now) answer y))) is (c.answers_record.ensures.stands r g turn.round.tag set_up first small)) in
    let new = c.go_on-heard-in-Some-Last.new.self in
    let e = entry w q older rows f route answer byte limits own turn c.args.party.now c.args.fetched.now c.args.message.now c.args.whole.now read in
    let answerer = subst (λ (x : JudgedResponder). IsAnswerer x r (e ∷ g)) (sym c.go_on-heard-in-Some-Last.ensures.answerer) behind in
    let coming = subst (λ (b : List ℕ). IsComingKey r g b c.coming_key-key.result) c.body-body.ensures (c.coming_key-key.ensures.key r g (judges w q older rows f route answer byte limits own turn c.args.party.now c.args.fetched.now c.args.message.now c.args.whole.now read) small) in
    let adds = adds_at w q older rows f route answer byte limits own turn c.args.party.now c.args.fetched.now c.args.message.now c.args.whole.now read c.args.round.now at in
    let keys = subst (StandFor new.keys r) adds (c.go_on-heard-in-Some-Last.ensures.keys r g [] (values w q older rows f route answer byte limits own turn c.args.party.now c.args.fetched.now c.args.message.now c.args.whole.now read) no_draw (keys_before w q older rows f route answer byte limits own turn c.args.party.now c.args.fetched.now c.args.message.now c.args.whole.now read) coming
    (subst (IsAnswerer c.answers_record.new.self r) (sym adds) behind)) in
    let next = last_kept w q older rows f route answer byte limits own turn c.args.party.now c.args.fetched.now c.args.message.now c.args.whole.now read in
    let change = change_last w q older rows f route answer byte limits own turn c.args.party.now c.args.fetched.now c.args.message.now c.args.whole.now read ends measured idle c.answer_accepts.ensures c.last_chunk_changes.ensures c.change-change-in-Some-Last.result
    c.change-change-in-Some-Last.ensures.begun
    (c.change-change-in-Some-Last.ensures.accepted ∙ c.go_on-heard-in-Some-Last.ensures.accepted w q older f.kept turn.round carry fewer turn.answers.0 at in_body.kept.beside.asker)
    (c.change-change-in-Some-Last.ensures.taken ∙ c.taken-taken.ensures r g first ∙ ap (λ (b : List ℕ). taken_shown g b answer) body)
    c.change-change-in-Some-Last.ensures.asked
    (c.change-change-in-Some-Last.ensures.views r (e ∷ g) answerer (few_behind w q older rows f route answer byte limits own turn c.args.party.now c.args.fetched.now c.args.message.now c.args.whole.now read small)) in
    let step = step_last w q older rows f route answer byte limits own turn c.args.party.now c.args.fetched.now c.args.message.now c.args.whole.now read ends measured idle c.answer_accepts.ensures c.last_chunk_changes.ensures in
    let number = c.go_on-heard-in-Some-Last.ensures.number ∙ in_body.kept.beside.number in
    let there = number ∙ ap (λ (s : ReqSetup). number_from 1 s.eid w.requesters) (sym in_body.kept.beside.asker.setup) in
    let places = subst (λ (x : Places). rows_of.StandFor x (restored f.kept) rows) (sym c.go_on-heard-in-Some-Last.ensures.places) in_body.kept.beside.places in
    let it = c.in_ok-take-in-Some-Last.was in
    let table = subst (λ (x : Result Unit OutOfMemory). OnOk x (rows_of.StandsForRows c.take-in-Some-Last.new.self w (length older + 1) (rows_between (restored f.kept) (restored next) rows))) it
    (c.take-in-Some-Last.ensures.table w (length older) (restored f.kept) (restored next) rows change step fewer there stands places) in
    let stood = subst (λ (x : Result Unit OutOfMemory). OnOk x (rows_of.StandFor c.take-in-Some-Last.new.places (restored next) (rows_between (restored f.kept) (restored next) rows))) it
    (c.take-in-Some-Last.ensures.places w (length older) (restored f.kept) (restored next) rows change step stands places) in
    let last = record new { places = c.take-in-Some-Last.new.places } in
    let asker = c.go_on-heard-in-Some-Last.ensures.asker w q older f.kept (e ∷ g) turn.round carry below turn.answers.0 at in_body.kept.beside.asker in
    ended_on w q older rows f route answer byte limits own turn c.args.party.now c.args.fetched.now c.args.message.now c.args.whole.now read ends measured idle last c.args.fetched.now c.take-in-Some-Last.new.self
    (subst (λ (n : ℕ). IsAsker new.asker q (heard_kept f.kept (e ∷ g) n turn.round answer)) turn.answers.1 asker) answerer keys number stood table

pub returns-in-Some-Large-clause-told : goal.returns-in-Some-Large-clause-told
returns-in-Some-Large-clause-told c = λ w q older rows f route own below byte now set_up none in_body stands.
    let fewer : length older < 2 ^ 64 - 1 = omega (arith, below) in
    let answer : List ℕ = c.args.answer.now in
    let turn = answers_in_turn f.kept route answer none in
    let limits = kept_limits q f.kept c.args.party.now.asker in_body.kept.beside.asker in
    let r = responder_for w f.kept in
    let at = now ∙ turn.answers.0 in
    let read = subst (λ (b : List ℕ). IsReadIn c.args.party.now c.args.fetched.now w q f rows b answer c.args.message.now c.args.whole.now) (ap body_in at) in_body in
    let g = with_large (Some c.args.fetched.now.id) c.args.whole.now f.kept.responder in
    let body = c.body-body.ensures ∙ ap body_in at in
    let carry = carries w q older rows f route answer byte limits own turn c.args.party.now c.args.fetched.now c.args.message.now c.args.whole.now read in
    let small = few_of w q older rows f route answer byte limits own turn c.args.party.now c.args.fetched.now c.args.message.now c.args.whole.now read fewer in
    let first = subst (λ (x : Connection). connected.StandsFor x r g) (sym c.coming_key-key.ensures.same) (judges w q older rows f route answer byte limits own turn c.args.party.now c.args.fetched.now c.args.message.now c.args.whole.now read) in
    let request = c.behind_type.ensures ∙ ap (λ (l : List ℕ). drop 1 l) body in
    let told = given_is w q older rows f route answer byte limits own turn c.args.party.now c.args.fetched.now c.args.message.now c.args.whole.now read c.behind_type.result.now c.answers_record.result request (c.answers_record.ensures.told r g turn.round.tag set_up first small) in
    let is = c.in-Some-Large.is ∙ ap Some c.in-Some-Large.field-0-is in (
      turn.round,
      turn.answers.0,
      record {
        next = λ shown. large_not_whole (sym is ∙ told.whole.1 shown);
        last = λ ends measured. absurd (large_not_last (sym is ∙ told.last.1 ends));
      },
    )

pub returns-in-None-clause-told : goal.returns-in-None-clause-told
returns-in-None-clause-told c = λ w q older rows f route own below byte now set_up none in_body stands.
    let fewer : length older < 2 ^ 64 - 1 = omega (arith, below) in
    let answer : List ℕ = c.args.answer.now in
    let turn = answers_in_turn f.kept route answer none in
    let limits = kept_limits q f.kept c.args.party.now.asker in_body.kept.beside.asker in
    let r = responder_for w f.kept in
    let at = now ∙ turn.answers.0 in
    let read = subst (λ (b : List ℕ). IsReadIn c.args.party.now c.args.fetched.now w q f rows b answer c.args.message.now c.args.whole.now) (ap body_in at) in_body in
    let g = with_large (Some c.args.fetched.now.id) c.args.whole.now f.kept.responder in
    let body = c.body-body.ensures ∙ ap body_in at in
    let carry = carries w q older rows f route answer byte limits own turn c.args.party.now c.args.fetched.now c.args.message.now c.args.whole.now read in
    let small = few_of w q older rows f route answer byte limits own turn c.args.party.now c.args.fetched.now c.args.message.now c.args.whole.now read fewer in
    let first = subst (λ (x : Connection). connected.StandsFor x r g) (sym c.coming_key-key.ensures.same) (judges w q older rows f route answer byte limits own turn c.args.party.now c.args.fetched.now c.args.message.now c.args.whole.now read) in
    let request = c.behind_type.ensures ∙ ap (λ (l : List ℕ). drop 1 l) body in
    let told = given_is w q older rows f route answer byte limits own turn c.args.party.now c.args.fetched.now c.args.message.now c.args.whole.now read c.behind_type.result.now c.answers_record.result request (c.answers_record.ensures.told r g turn.round.tag set_up first small) in (
      turn.round,
      turn.answers.0,
      record {
        next = λ shown. none-some given.Whole (sym c.in-None.is ∙ told.whole.1 shown);
        last = λ ends measured. absurd (none-some given.Last (sym c.in-None.is ∙ told.last.1 ends));
      },
    )
