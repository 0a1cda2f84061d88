use Rattle.std.proofs.Common.{◌≡◌, ◌+◌, ◌-◌, ◌^◌, ◌<◌, ◌∙◌, refl, sym, ap, subst, drop, length, arith, List, [], ◌∷◌, ℕ, Bool, Some, Option, Result, is_some}
use Rattle.std.specs.Prelude.{OnOk}
use Rattle.std.specs.Option.{IfSome}
use Rattle.std.proofs.lemmas.Bool.{not-false, not-true}
use Rattle.std.proofs.lemmas.Option.{none-some, same_Some}
use Rattle.check_ends.proofs.InTurn.{answers_in_turn}
use Rattle.check_ends.proofs.PartyReplied.{kept_limits}
use Rattle.check_responder.specs.AnswerKeys.{IsComingKey, StandFor}
use Rattle.check_responder.specs.JudgedResponder.{IsAnswerer, history_shown}
use Rattle.check_requester.specs.JudgedRequester.{IsAsker}
use Rattle.check_requester.specs.HeardKept.{asks_upon, heard_kept}
use Rattle.check_responder.specs.RecordAnswers.{history_behind}
use Rattle.check_responder.specs.declared.judged_responder.JudgedResponder.{JudgedResponder}
use Rattle.check_responder.specs.declared.given.Given.{Given}
use Rattle.check_responder.specs.declared.given.Given.TheVariants as given
use Rattle.check_laws.specs.KeptChanges.{taken_shown}
use Rattle.check_laws.specs.Keeping.{restored}
use Rattle.check_laws.specs.Order.{body_in, tag_in}
use Rattle.check_laws.specs.RepliesShown.{responder_for}
use Rattle.check_laws.specs.Rows as rows_of
use Rattle.check_laws.specs.declared.places.Places.{Places}
use Rattle.responder_core.proofs.Table.{none_there}
use Rattle.responder_core.specs.Connected as connected
use Rattle.responder_core.specs.declared.connected.Connection.{Connection}
use Rattle.requester_machine.specs.Setup.{ReqSetup}
use Rattle.responder_machine.specs.May.{on_body, with_dropped}
use Rattle.responder_machine.specs.Responder.{after}
use Rattle.spdm_basis.specs.declared.OutOfMemory.{OutOfMemory}
use Rattle.spdm_machine.specs.Bodies.{record_body}
use Rattle.capture_machine.specs.LargeAnswers.{unseen, with_large}
use Rattle.capture_machine.specs.Rounds.{Round, no_draw}
use Rattle.capture_machine.specs.SessionTable.{number_from, rows_between}
use Rattle.check_fetched_ends.proofs.BeginsThere.{f0}
use Rattle.check_fetched_ends.proofs.InSessionRead.{few_kept, keys_kept}
use Rattle.check_fetched_laws.proofs.LargeTaken.{large_taken}
use Rattle.check_fetched_ends.proofs.NeverPrepared.{never_prepared}
use Rattle.check_fetched_ends.proofs.OthersStop.{judges_then, may_forget}
use Rattle.check_fetched_ends.proofs.OthersTold.{awaits, behind_given, behind_large, carries, change_then, ended_then, fetched_then, few_then, given_is, keys_then, no_last, none_of, refused_other, step_then, taken_is, then, then_kept}
use Rattle.check_fetched_ends.proofs.TurnedBehind.{both_added, both_behind, next, turned}
use Rattle.check_fetched_ends.proofs.TurnedStands.{few_turned, forgot, large_there, measures_there, turned_change, turned_ended, turned_step, turned_told, uncounted}
use Rattle.check_fetched_ends.proofs.session_fetch.session_others.judges_other.Goals as goal
use Rattle.check_fetched_ends.specs.InSession.{IsFetchedIn}
use Rattle.check_fetched_ends.specs.Prepared.{IsPrepared, IsPreparedFor, NeverLarge}
use Rattle.check_fetched_ends.specs.SessionOthers.{IsOtherAnswer, MayForget, left_then}
use Rattle.check_fetched_ends.specs.declared.session_fetch.in_session.InSession.{InSession}

pub returns-then-heard-clause-told : goal.returns-then-heard-clause-told
returns-then-heard-clause-told c = λ w q older rows f route own below byte now set_up none others kept stands.
    let fewer : length older < 2 ^ 64 - 1 = omega (arith, below) in
    let answer : List ℕ = c.args.answer.now in
    let party = c.args.party.now in
    let fetched = c.args.fetched.now in
    let refuses = c.args.refuses in
    let turn = answers_in_turn f.kept route answer none in
    let limits = kept_limits q f.kept party.asker kept.beside.asker in
    let r = responder_for w f.kept in
    let g = with_large (Some fetched.id) kept.whole f.kept.responder in
    let other = subst (λ (x : Round). IsOtherAnswer r fetched f x answer refuses) (same_Some others.0 turn.round (sym others.1 ∙ turn.answers.0)) others.2 in
    let at = now ∙ turn.answers.0 in
    let body = c.body-body.ensures ∙ ap body_in at in
    let small = few_kept w q older rows f route answer byte limits own turn party fetched kept [] fewer in
    let first = subst (λ (x : Connection). connected.StandsFor x r g) (sym c.reply_why-why.ensures.same) kept.judges in
    let second = subst (λ (x : Connection). connected.StandsFor x r g) (sym c.coming_key-key.ensures.same) first in
    let request = c.behind_type-request.ensures ∙ ap (λ (l : List ℕ). drop 1 l) body in
    let told = given_is w q older rows f route answer byte limits own turn party fetched kept refuses other c.behind_type-request.result.now c.answers_record.result request (c.answers_record.ensures.told r g turn.round.tag set_up second small) in
    let keys_before = keys_kept w q older rows f route answer byte limits own turn party fetched kept [] other.record_is in
    let carry = carries w q older rows f route answer byte limits own turn party fetched kept refuses other in
    let is = c.in-Some-Whole.is ∙ ap Some c.in-Some-Whole.field-0-is in
    let shown = told.whole.0 is in
    let fetches = c.go_on-heard.ensures.fetches w q older f.kept turn.round carry below turn.answers.0 at kept.beside.asker (awaits w q older rows f route answer byte limits own turn party fetched kept refuses other) in
    let G = history_shown r g turn.round.tag turn.round.body answer in
    let behind = behind_given w q older rows f route answer byte limits own turn party fetched kept refuses other c.answers_record.new.self c.behind_type-request.result.now request
    (subst (λ (x : Option Given). IfSome x (λ (y : Given). IsAnswerer c.answers_record.new.self r (history_behind r g turn.round.tag (record_body c.behind_type-request.result.now) answer y))) is (c.answers_record.ensures.stands r g turn.round.tag set_up second small)) in
    let new = c.go_on-heard.new.self in
    let answerer = subst (λ (x : JudgedResponder). IsAnswerer x r G) (sym c.go_on-heard.ensures.answerer) behind in
    let coming = subst (λ (b : List ℕ). IsComingKey r g b c.coming_key-key.result) c.body-body.ensures (c.coming_key-key.ensures.key r g first small) in
    let seen = c.args.round.now in
    let keys = keys_then w q older rows f route answer byte limits own turn party fetched kept refuses other shown seen at new
    (λ ids v here. c.go_on-heard.ensures.keys r g ids v no_draw keys_before coming
    (subst (λ (x : JudgedResponder). IsAnswerer x r (after (with_dropped g ids) (on_body r (with_dropped g ids) (tag_in seen) (body_in seen) v no_draw))) c.go_on-heard.ensures.answerer here)) answerer in
    let few = few_then w q older rows f route answer byte limits own turn party fetched kept refuses other shown small in
    let next = (then_kept w q older rows f route answer byte limits own turn party fetched kept refuses other shown).kept in
    let took = c.taken-taken.ensures r g second ∙ ap (λ (b : List ℕ). taken_shown g b answer) body in
    let change = change_then w q older rows f route answer byte limits own turn party fetched kept refuses other shown c.answer_accepts.ensures c.whole_answer_changes.ensures c.change-change.result
    c.change-change.ensures.begun
    (c.change-change.ensures.accepted ∙ c.go_on-heard.ensures.accepted w q older f.kept turn.round carry fewer turn.answers.0 at kept.beside.asker)
    (c.change-change.ensures.taken ∙ took)
    c.change-change.ensures.asked
    (c.change-change.ensures.views r G answerer few) in
    let step = step_then w q older rows f route answer byte limits own turn party fetched kept refuses other shown c.answer_accepts.ensures c.whole_answer_changes.ensures in
    let number = c.go_on-heard.ensures.number ∙ kept.beside.number in
    let owner = number ∙ ap (λ (s : ReqSetup). number_from 1 s.eid w.requesters) (sym kept.beside.asker.setup) in
    let places = subst (λ (x : Places). rows_of.StandFor x (restored f.kept) rows) (sym c.go_on-heard.ensures.places) kept.beside.places in
    let it = c.in_ok-take-in-Some-Whole.was in
    let table = subst (λ (x : Result Unit OutOfMemory). OnOk x (rows_of.StandsForRows c.take.new.self w (length older + 1) (rows_between (restored f.kept) (restored next) rows))) it
    (c.take.ensures.table w (length older) (restored f.kept) (restored next) rows change step fewer owner stands places) in
    let stood = subst (λ (x : Result Unit OutOfMemory). OnOk x (rows_of.StandFor c.take.new.places (restored next) (rows_between (restored f.kept) (restored next) rows))) it
    (c.take.ensures.places w (length older) (restored f.kept) (restored next) rows change step stands places) in
    let last = record new { places = c.take.new.places } in
    let asks = sym (ap (λ (n : ℕ). asks_upon f.kept n answer) turn.answers.1) ∙ sym fetches ∙ c.if-heard.true in
    let asker = c.go_on-heard.ensures.asker w q older f.kept (then w q older rows f route answer byte limits own turn party fetched kept refuses other shown) turn.round carry below turn.answers.0 at kept.beside.asker in
    let taken = taken_is w q older rows f route answer byte limits own turn party fetched kept refuses other shown c.whole_answer_changes.ensures c.taken-taken.result took in
    let left = c.left_then-left.ensures ∙ ap (λ (b : Bool). left_then fetched.left b c.is_none.result refuses) c.is_some-live.ensures ∙ ap (λ (b : Bool). left_then fetched.left (is_some c.view.result) b refuses) (none_of c.taken-taken.result c.is_none.result c.is_none.ensures) in
    fetched_then w q older rows f route answer byte limits own turn party fetched kept refuses other shown c.view.result (c.view.ensures r G answerer few) c.taken-taken.result taken c.left_then-left.result left last c.take.new.self
    (subst (λ (n : ℕ). IsAsker new.asker q (heard_kept f.kept (then w q older rows f route answer byte limits own turn party fetched kept refuses other shown) n turn.round answer)) turn.answers.1 asker) answerer keys number stood table asks

pub returns-else-heard-clause-told : goal.returns-else-heard-clause-told
returns-else-heard-clause-told c = λ w q older rows f route own below byte now set_up none others kept stands.
    let fewer : length older < 2 ^ 64 - 1 = omega (arith, below) in
    let answer : List ℕ = c.args.answer.now in
    let party = c.args.party.now in
    let fetched = c.args.fetched.now in
    let refuses = c.args.refuses in
    let turn = answers_in_turn f.kept route answer none in
    let limits = kept_limits q f.kept party.asker kept.beside.asker in
    let r = responder_for w f.kept in
    let g = with_large (Some fetched.id) kept.whole f.kept.responder in
    let other = subst (λ (x : Round). IsOtherAnswer r fetched f x answer refuses) (same_Some others.0 turn.round (sym others.1 ∙ turn.answers.0)) others.2 in
    let at = now ∙ turn.answers.0 in
    let body = c.body-body.ensures ∙ ap body_in at in
    let small = few_kept w q older rows f route answer byte limits own turn party fetched kept [] fewer in
    let first = subst (λ (x : Connection). connected.StandsFor x r g) (sym c.reply_why-why.ensures.same) kept.judges in
    let second = subst (λ (x : Connection). connected.StandsFor x r g) (sym c.coming_key-key.ensures.same) first in
    let request = c.behind_type-request.ensures ∙ ap (λ (l : List ℕ). drop 1 l) body in
    let told = given_is w q older rows f route answer byte limits own turn party fetched kept refuses other c.behind_type-request.result.now c.answers_record.result request (c.answers_record.ensures.told r g turn.round.tag set_up second small) in
    let keys_before = keys_kept w q older rows f route answer byte limits own turn party fetched kept [] other.record_is in
    let carry = carries w q older rows f route answer byte limits own turn party fetched kept refuses other in
    let is = c.in-Some-Whole.is ∙ ap Some c.in-Some-Whole.field-0-is in
    let shown = told.whole.0 is in
    let fetches = c.go_on-heard.ensures.fetches w q older f.kept turn.round carry below turn.answers.0 at kept.beside.asker (awaits w q older rows f route answer byte limits own turn party fetched kept refuses other) in
    let G = history_shown r g turn.round.tag turn.round.body answer in
    let behind = behind_given w q older rows f route answer byte limits own turn party fetched kept refuses other c.answers_record.new.self c.behind_type-request.result.now request
    (subst (λ (x : Option Given). IfSome x (λ (y : Given). IsAnswerer c.answers_record.new.self r (history_behind r g turn.round.tag (record_body c.behind_type-request.result.now) answer y))) is (c.answers_record.ensures.stands r g turn.round.tag set_up second small)) in
    let new = c.go_on-heard.new.self in
    let answerer = subst (λ (x : JudgedResponder). IsAnswerer x r G) (sym c.go_on-heard.ensures.answerer) behind in
    let coming = subst (λ (b : List ℕ). IsComingKey r g b c.coming_key-key.result) c.body-body.ensures (c.coming_key-key.ensures.key r g first small) in
    let seen = c.args.round.now in
    let keys = keys_then w q older rows f route answer byte limits own turn party fetched kept refuses other shown seen at new
    (λ ids v here. c.go_on-heard.ensures.keys r g ids v no_draw keys_before coming
    (subst (λ (x : JudgedResponder). IsAnswerer x r (after (with_dropped g ids) (on_body r (with_dropped g ids) (tag_in seen) (body_in seen) v no_draw))) c.go_on-heard.ensures.answerer here)) answerer in
    let few = few_then w q older rows f route answer byte limits own turn party fetched kept refuses other shown small in
    let next = (then_kept w q older rows f route answer byte limits own turn party fetched kept refuses other shown).kept in
    let took = c.taken-taken.ensures r g second ∙ ap (λ (b : List ℕ). taken_shown g b answer) body in
    let change = change_then w q older rows f route answer byte limits own turn party fetched kept refuses other shown c.answer_accepts.ensures c.whole_answer_changes.ensures c.change-change.result
    c.change-change.ensures.begun
    (c.change-change.ensures.accepted ∙ c.go_on-heard.ensures.accepted w q older f.kept turn.round carry fewer turn.answers.0 at kept.beside.asker)
    (c.change-change.ensures.taken ∙ took)
    c.change-change.ensures.asked
    (c.change-change.ensures.views r G answerer few) in
    let step = step_then w q older rows f route answer byte limits own turn party fetched kept refuses other shown c.answer_accepts.ensures c.whole_answer_changes.ensures in
    let number = c.go_on-heard.ensures.number ∙ kept.beside.number in
    let owner = number ∙ ap (λ (s : ReqSetup). number_from 1 s.eid w.requesters) (sym kept.beside.asker.setup) in
    let places = subst (λ (x : Places). rows_of.StandFor x (restored f.kept) rows) (sym c.go_on-heard.ensures.places) kept.beside.places in
    let it = c.in_ok-take-in-Some-Whole.was in
    let table = subst (λ (x : Result Unit OutOfMemory). OnOk x (rows_of.StandsForRows c.take.new.self w (length older + 1) (rows_between (restored f.kept) (restored next) rows))) it
    (c.take.ensures.table w (length older) (restored f.kept) (restored next) rows change step fewer owner stands places) in
    let stood = subst (λ (x : Result Unit OutOfMemory). OnOk x (rows_of.StandFor c.take.new.places (restored next) (rows_between (restored f.kept) (restored next) rows))) it
    (c.take.ensures.places w (length older) (restored f.kept) (restored next) rows change step stands places) in
    let stops = sym (ap (λ (n : ℕ). asks_upon f.kept n answer) turn.answers.1) ∙ sym fetches ∙ c.if-heard.false in
    let asker = c.go_on-heard.ensures.asker w q older f.kept (then w q older rows f route answer byte limits own turn party fetched kept refuses other shown) turn.round carry below turn.answers.0 at kept.beside.asker in
    let taken = taken_is w q older rows f route answer byte limits own turn party fetched kept refuses other shown c.whole_answer_changes.ensures c.taken-taken.result took in
    let left = c.left_then-left.ensures ∙ ap (λ (b : Bool). left_then fetched.left b c.is_none.result refuses) c.is_some-live.ensures ∙ ap (λ (b : Bool). left_then fetched.left (is_some c.view.result) b refuses) (none_of c.taken-taken.result c.is_none.result c.is_none.ensures) in
    let forgotten : JudgedResponder = record new.answerer { connection = c.forgets.new.connection } in
    let last = record new { places = c.take.new.places; answerer = forgotten } in
    let may = subst (λ (b : Bool). MayForget fetched.id (then w q older rows f route answer byte limits own turn party fetched kept refuses other shown) kept.whole c.left_then-left.result b) (sym c.is_some-live.ensures)
    (may_forget w q older rows f route answer byte limits own turn party fetched kept refuses other shown c.view.result (c.view.ensures r G answerer few) c.taken-taken.result taken c.left_then-left.result left) in
    let judges = judges_then w q older rows f route answer byte limits own turn party fetched kept refuses other shown c.view.result (c.view.ensures r G answerer few) c.taken-taken.result taken c.left_then-left.result left new.answerer answerer in
    let unseen = c.forgets.ensures r (then w q older rows f route answer byte limits own turn party fetched kept refuses other shown) kept.whole may judges in
    ended_then w q older rows f route answer byte limits own turn party fetched kept refuses other shown last fetched c.take.new.self
    (subst (λ (n : ℕ). IsAsker new.asker q (heard_kept f.kept (then w q older rows f route answer byte limits own turn party fetched kept refuses other shown) n turn.round answer)) turn.answers.1 asker) unseen keys number stood table stops

pub returns-in_default-clause-told : goal.returns-in_default-clause-told
returns-in_default-clause-told c = λ w q older rows f route own below byte now set_up none others kept stands.
    let fewer : length older < 2 ^ 64 - 1 = omega (arith, below) in
    let answer : List ℕ = c.args.answer.now in
    let party = c.args.party.now in
    let fetched = c.args.fetched.now in
    let refuses = c.args.refuses in
    let turn = answers_in_turn f.kept route answer none in
    let limits = kept_limits q f.kept party.asker kept.beside.asker in
    let r = responder_for w f.kept in
    let g = with_large (Some fetched.id) kept.whole f.kept.responder in
    let other = subst (λ (x : Round). IsOtherAnswer r fetched f x answer refuses) (same_Some others.0 turn.round (sym others.1 ∙ turn.answers.0)) others.2 in
    let at = now ∙ turn.answers.0 in
    let body = c.body-body.ensures ∙ ap body_in at in
    let small = few_kept w q older rows f route answer byte limits own turn party fetched kept [] fewer in
    let first = subst (λ (x : Connection). connected.StandsFor x r g) (sym c.reply_why-why.ensures.same) kept.judges in
    let second = subst (λ (x : Connection). connected.StandsFor x r g) (sym c.coming_key-key.ensures.same) first in
    let request = c.behind_type-request.ensures ∙ ap (λ (l : List ℕ). drop 1 l) body in
    let told = given_is w q older rows f route answer byte limits own turn party fetched kept refuses other c.behind_type-request.result.now c.answers_record.result request (c.answers_record.ensures.told r g turn.round.tag set_up second small) in
    let keys_before = keys_kept w q older rows f route answer byte limits own turn party fetched kept [] other.record_is in
    let carry = carries w q older rows f route answer byte limits own turn party fetched kept refuses other in
    let is = c.in-Some-Large.is ∙ ap Some c.in-Some-Large.field-0-is in
    let none_prepared = subst (NeverLarge r g) request
    (subst (λ (o : Option InSession). IsPreparedFor r g c.behind_type-request.result.now o) (none_there c.prepared-large.result c.in_default.not-Some) (c.prepared-large.ensures r g set_up kept.judges)) in
    absurd (never_prepared r g turn.round.tag turn.round.body answer other.record_is (told.large.0 is) none_prepared)

pub returns-then-not-heard-clause-told : goal.returns-then-not-heard-clause-told
returns-then-not-heard-clause-told c = λ w q older rows f route own below byte now set_up none others kept stands.
    let fewer : length older < 2 ^ 64 - 1 = omega (arith, below) in
    let answer : List ℕ = c.args.answer.now in
    let party = c.args.party.now in
    let fetched = c.args.fetched.now in
    let refuses = c.args.refuses in
    let turn = answers_in_turn f.kept route answer none in
    let limits = kept_limits q f.kept party.asker kept.beside.asker in
    let r = responder_for w f.kept in
    let g = with_large (Some fetched.id) kept.whole f.kept.responder in
    let other = subst (λ (x : Round). IsOtherAnswer r fetched f x answer refuses) (same_Some others.0 turn.round (sym others.1 ∙ turn.answers.0)) others.2 in
    let at = now ∙ turn.answers.0 in
    let body = c.body-body.ensures ∙ ap body_in at in
    let small = few_kept w q older rows f route answer byte limits own turn party fetched kept [] fewer in
    let first = subst (λ (x : Connection). connected.StandsFor x r g) (sym c.reply_why-why.ensures.same) kept.judges in
    let second = subst (λ (x : Connection). connected.StandsFor x r g) (sym c.coming_key-key.ensures.same) first in
    let request = c.behind_type-request.ensures ∙ ap (λ (l : List ℕ). drop 1 l) body in
    let told = given_is w q older rows f route answer byte limits own turn party fetched kept refuses other c.behind_type-request.result.now c.answers_record.result request (c.answers_record.ensures.told r g turn.round.tag set_up second small) in
    let keys_before = keys_kept w q older rows f route answer byte limits own turn party fetched kept [] other.record_is in
    let carry = carries w q older rows f route answer byte limits own turn party fetched kept refuses other in
    let is = c.in-Some-Large.is ∙ ap Some c.in-Some-Large.field-0-is in
    let shown = told.large.0 is in
    let prepared = subst (λ (m : List ℕ). IsPrepared r g m c.in-Some.next) request
    (subst (λ (o : Option InSession). IsPreparedFor r g c.behind_type-request.result.now o) c.in-Some.is (c.prepared-large.ensures r g set_up kept.judges)) in
    let op = c.in-Some.next.op in
    let will = large_taken r g turn.round.tag turn.round.body answer other.record_is shown in
    let e = turned w q older rows f route answer byte limits own turn party fetched kept refuses other will shown op prepared.asks in
    let then = next w q older rows f route answer byte limits own turn party fetched kept refuses other will shown op prepared.asks in
    let fetches = c.go_on-heard-in-Some-Large.ensures.fetches w q older f.kept turn.round carry below turn.answers.0 at kept.beside.asker (awaits w q older rows f route answer byte limits own turn party fetched kept refuses other) in
    let behind = both_behind w q older rows f route answer byte limits own turn party fetched kept refuses other will shown op prepared.asks c.answers_record.new.self
    (behind_large w q older rows f route answer byte limits own turn party fetched kept refuses other c.answers_record.new.self c.behind_type-request.result.now request
    (subst (λ (x : Option Given). IfSome x (λ (y : Given). IsAnswerer c.answers_record.new.self r (history_behind r g turn.round.tag (record_body c.behind_type-request.result.now) answer y))) is (c.answers_record.ensures.stands r g turn.round.tag set_up second small))) in
    let new = c.go_on-heard-in-Some-Large.new.self in
    let answerer = subst (λ (x : JudgedResponder). IsAnswerer x r (e ∷ g)) (sym c.go_on-heard-in-Some-Large.ensures.answerer) behind in
    let coming = subst (λ (b : List ℕ). IsComingKey r g b c.coming_key-key.result) c.body-body.ensures (c.coming_key-key.ensures.key r g first small) in
    let adds = both_added w q older rows f route answer byte limits own turn party fetched kept refuses other will shown op prepared.asks c.args.round.now at in
    let keys = subst (StandFor new.keys r) adds (c.go_on-heard-in-Some-Large.ensures.keys r g [] (f0 r g turn.round.tag turn.round.body answer other.record_is will shown) no_draw keys_before coming
    (subst (IsAnswerer c.answers_record.new.self r) (sym adds) behind)) in
    let asker = subst (λ (n : ℕ). IsAsker new.asker q (heard_kept f.kept (unseen e ∷ f.kept.responder) n turn.round answer)) turn.answers.1
    (c.go_on-heard-in-Some-Large.ensures.asker w q older f.kept (unseen e ∷ f.kept.responder) turn.round carry below turn.answers.0 at kept.beside.asker) in
    let change = turned_change w q older rows f route answer byte limits own turn party fetched kept refuses other will shown op prepared.asks prepared.wide c.answer_accepts.ensures c.large_answer_changes.ensures c.change-change-in-Some-Large.result
    c.change-change-in-Some-Large.ensures.begun
    (c.change-change-in-Some-Large.ensures.accepted ∙ c.go_on-heard-in-Some-Large.ensures.accepted w q older f.kept turn.round carry fewer turn.answers.0 at kept.beside.asker)
    (c.change-change-in-Some-Large.ensures.taken ∙ c.taken-taken.ensures r g second ∙ ap (λ (b : List ℕ). taken_shown g b answer) body)
    c.change-change-in-Some-Large.ensures.asked
    (c.change-change-in-Some-Large.ensures.views r (e ∷ g) answerer (few_turned w q older rows f route answer byte limits own turn party fetched kept refuses other will shown op prepared.asks prepared.wide small)) in
    let step = turned_step w q older rows f route answer byte limits own turn party fetched kept refuses other will shown op prepared.asks prepared.wide c.answer_accepts.ensures c.large_answer_changes.ensures in
    let number = c.go_on-heard-in-Some-Large.ensures.number ∙ kept.beside.number in
    let owner = number ∙ ap (λ (s : ReqSetup). number_from 1 s.eid w.requesters) (sym kept.beside.asker.setup) in
    let places = subst (λ (x : Places). rows_of.StandFor x (restored f.kept) rows) (sym c.go_on-heard-in-Some-Large.ensures.places) kept.beside.places in
    let it = c.in_ok-take-in-Some-Large.was in
    let table = subst (λ (x : Result Unit OutOfMemory). OnOk x (rows_of.StandsForRows c.take-in-Some-Large.new.self w (length older + 1) (rows_between (restored f.kept) (restored then.kept) rows))) it
    (c.take-in-Some-Large.ensures.table w (length older) (restored f.kept) (restored then.kept) rows change step fewer owner stands places) in
    let stood = subst (λ (x : Result Unit OutOfMemory). OnOk x (rows_of.StandFor c.take-in-Some-Large.new.places (restored then.kept) (rows_between (restored f.kept) (restored then.kept) rows))) it
    (c.take-in-Some-Large.ensures.places w (length older) (restored f.kept) (restored then.kept) rows change step stands places) in
    let uncounted_too = c.uncount_in.ensures r (e ∷ g) (e ∷ f.kept.responder) (uncounted w q older rows f route answer byte limits own turn party fetched kept refuses other will shown op prepared.asks prepared.wide c.in-Some.next.id prepared.id) answerer in
    let idle = sym (ap (λ (n : ℕ). asks_upon f.kept n answer) turn.answers.1) ∙ sym fetches ∙ not-true _ c.if-not-heard.true in
    let forgets = c.forget_in.ensures r (e ∷ f.kept.responder) (large_there w q older rows f route answer byte limits own turn party fetched kept refuses other will shown op prepared.asks prepared.wide c.in-Some.next.id prepared.id) (measures_there w q older rows f route answer byte limits own turn party fetched kept refuses other will shown op prepared.asks prepared.wide c.in-Some.next.id prepared.id) uncounted_too in
    let forgotten = subst (connected.StandsFor c.forget_in.new.self r) (forgot w q older rows f route answer byte limits own turn party fetched kept refuses other will shown op prepared.asks prepared.wide c.in-Some.next.id prepared.id) forgets in
    let last = record new { answerer = record new.answerer { connection = c.forget_in.new.self }; places = c.take-in-Some-Large.new.places } in
    turned_ended w q older rows f route answer byte limits own turn party fetched kept refuses other will shown op prepared.asks prepared.wide last fetched c.take-in-Some-Large.new.self asker forgotten keys number stood table idle

pub returns-else-not-heard-clause-told : goal.returns-else-not-heard-clause-told
returns-else-not-heard-clause-told c = λ w q older rows f route own below byte now set_up none others kept stands.
    let fewer : length older < 2 ^ 64 - 1 = omega (arith, below) in
    let answer : List ℕ = c.args.answer.now in
    let party = c.args.party.now in
    let fetched = c.args.fetched.now in
    let refuses = c.args.refuses in
    let turn = answers_in_turn f.kept route answer none in
    let limits = kept_limits q f.kept party.asker kept.beside.asker in
    let r = responder_for w f.kept in
    let g = with_large (Some fetched.id) kept.whole f.kept.responder in
    let other = subst (λ (x : Round). IsOtherAnswer r fetched f x answer refuses) (same_Some others.0 turn.round (sym others.1 ∙ turn.answers.0)) others.2 in
    let at = now ∙ turn.answers.0 in
    let body = c.body-body.ensures ∙ ap body_in at in
    let small = few_kept w q older rows f route answer byte limits own turn party fetched kept [] fewer in
    let first = subst (λ (x : Connection). connected.StandsFor x r g) (sym c.reply_why-why.ensures.same) kept.judges in
    let second = subst (λ (x : Connection). connected.StandsFor x r g) (sym c.coming_key-key.ensures.same) first in
    let request = c.behind_type-request.ensures ∙ ap (λ (l : List ℕ). drop 1 l) body in
    let told = given_is w q older rows f route answer byte limits own turn party fetched kept refuses other c.behind_type-request.result.now c.answers_record.result request (c.answers_record.ensures.told r g turn.round.tag set_up second small) in
    let keys_before = keys_kept w q older rows f route answer byte limits own turn party fetched kept [] other.record_is in
    let carry = carries w q older rows f route answer byte limits own turn party fetched kept refuses other in
    let is = c.in-Some-Large.is ∙ ap Some c.in-Some-Large.field-0-is in
    let shown = told.large.0 is in
    let prepared = subst (λ (m : List ℕ). IsPrepared r g m c.in-Some.next) request
    (subst (λ (o : Option InSession). IsPreparedFor r g c.behind_type-request.result.now o) c.in-Some.is (c.prepared-large.ensures r g set_up kept.judges)) in
    let op = c.in-Some.next.op in
    let will = large_taken r g turn.round.tag turn.round.body answer other.record_is shown in
    let e = turned w q older rows f route answer byte limits own turn party fetched kept refuses other will shown op prepared.asks in
    let then = next w q older rows f route answer byte limits own turn party fetched kept refuses other will shown op prepared.asks in
    let fetches = c.go_on-heard-in-Some-Large.ensures.fetches w q older f.kept turn.round carry below turn.answers.0 at kept.beside.asker (awaits w q older rows f route answer byte limits own turn party fetched kept refuses other) in
    let behind = both_behind w q older rows f route answer byte limits own turn party fetched kept refuses other will shown op prepared.asks c.answers_record.new.self
    (behind_large w q older rows f route answer byte limits own turn party fetched kept refuses other c.answers_record.new.self c.behind_type-request.result.now request
    (subst (λ (x : Option Given). IfSome x (λ (y : Given). IsAnswerer c.answers_record.new.self r (history_behind r g turn.round.tag (record_body c.behind_type-request.result.now) answer y))) is (c.answers_record.ensures.stands r g turn.round.tag set_up second small))) in
    let new = c.go_on-heard-in-Some-Large.new.self in
    let answerer = subst (λ (x : JudgedResponder). IsAnswerer x r (e ∷ g)) (sym c.go_on-heard-in-Some-Large.ensures.answerer) behind in
    let coming = subst (λ (b : List ℕ). IsComingKey r g b c.coming_key-key.result) c.body-body.ensures (c.coming_key-key.ensures.key r g first small) in
    let adds = both_added w q older rows f route answer byte limits own turn party fetched kept refuses other will shown op prepared.asks c.args.round.now at in
    let keys = subst (StandFor new.keys r) adds (c.go_on-heard-in-Some-Large.ensures.keys r g [] (f0 r g turn.round.tag turn.round.body answer other.record_is will shown) no_draw keys_before coming
    (subst (IsAnswerer c.answers_record.new.self r) (sym adds) behind)) in
    let asker = subst (λ (n : ℕ). IsAsker new.asker q (heard_kept f.kept (unseen e ∷ f.kept.responder) n turn.round answer)) turn.answers.1
    (c.go_on-heard-in-Some-Large.ensures.asker w q older f.kept (unseen e ∷ f.kept.responder) turn.round carry below turn.answers.0 at kept.beside.asker) in
    let change = turned_change w q older rows f route answer byte limits own turn party fetched kept refuses other will shown op prepared.asks prepared.wide c.answer_accepts.ensures c.large_answer_changes.ensures c.change-change-in-Some-Large.result
    c.change-change-in-Some-Large.ensures.begun
    (c.change-change-in-Some-Large.ensures.accepted ∙ c.go_on-heard-in-Some-Large.ensures.accepted w q older f.kept turn.round carry fewer turn.answers.0 at kept.beside.asker)
    (c.change-change-in-Some-Large.ensures.taken ∙ c.taken-taken.ensures r g second ∙ ap (λ (b : List ℕ). taken_shown g b answer) body)
    c.change-change-in-Some-Large.ensures.asked
    (c.change-change-in-Some-Large.ensures.views r (e ∷ g) answerer (few_turned w q older rows f route answer byte limits own turn party fetched kept refuses other will shown op prepared.asks prepared.wide small)) in
    let step = turned_step w q older rows f route answer byte limits own turn party fetched kept refuses other will shown op prepared.asks prepared.wide c.answer_accepts.ensures c.large_answer_changes.ensures in
    let number = c.go_on-heard-in-Some-Large.ensures.number ∙ kept.beside.number in
    let owner = number ∙ ap (λ (s : ReqSetup). number_from 1 s.eid w.requesters) (sym kept.beside.asker.setup) in
    let places = subst (λ (x : Places). rows_of.StandFor x (restored f.kept) rows) (sym c.go_on-heard-in-Some-Large.ensures.places) kept.beside.places in
    let it = c.in_ok-take-in-Some-Large.was in
    let table = subst (λ (x : Result Unit OutOfMemory). OnOk x (rows_of.StandsForRows c.take-in-Some-Large.new.self w (length older + 1) (rows_between (restored f.kept) (restored then.kept) rows))) it
    (c.take-in-Some-Large.ensures.table w (length older) (restored f.kept) (restored then.kept) rows change step fewer owner stands places) in
    let stood = subst (λ (x : Result Unit OutOfMemory). OnOk x (rows_of.StandFor c.take-in-Some-Large.new.places (restored then.kept) (rows_between (restored f.kept) (restored then.kept) rows))) it
    (c.take-in-Some-Large.ensures.places w (length older) (restored f.kept) (restored then.kept) rows change step stands places) in
    let uncounted_too = c.uncount_in.ensures r (e ∷ g) (e ∷ f.kept.responder) (uncounted w q older rows f route answer byte limits own turn party fetched kept refuses other will shown op prepared.asks prepared.wide c.in-Some.next.id prepared.id) answerer in
    let asks = sym (ap (λ (n : ℕ). asks_upon f.kept n answer) turn.answers.1) ∙ sym fetches ∙ not-false _ c.if-not-heard.false in
    let last = record new { answerer = record new.answerer { connection = c.uncount_in.new.self }; places = c.take-in-Some-Large.new.places } in
    turned_told w q older rows f route answer byte limits own turn party fetched kept refuses other will shown op prepared.asks prepared.wide last c.in-Some.next c.take-in-Some-Large.new.self asker uncounted_too keys number stood table asks prepared.id refl prepared.lengths prepared.none prepared.left prepared.found

pub returns-in-Some-Last-clause-told : goal.returns-in-Some-Last-clause-told
returns-in-Some-Last-clause-told c = λ w q older rows f route own below byte now set_up none others kept stands.
    let fewer : length older < 2 ^ 64 - 1 = omega (arith, below) in
    let answer : List ℕ = c.args.answer.now in
    let party = c.args.party.now in
    let fetched = c.args.fetched.now in
    let refuses = c.args.refuses in
    let turn = answers_in_turn f.kept route answer none in
    let limits = kept_limits q f.kept party.asker kept.beside.asker in
    let r = responder_for w f.kept in
    let g = with_large (Some fetched.id) kept.whole f.kept.responder in
    let other = subst (λ (x : Round). IsOtherAnswer r fetched f x answer refuses) (same_Some others.0 turn.round (sym others.1 ∙ turn.answers.0)) others.2 in
    let at = now ∙ turn.answers.0 in
    let body = c.body-body.ensures ∙ ap body_in at in
    let small = few_kept w q older rows f route answer byte limits own turn party fetched kept [] fewer in
    let first = subst (λ (x : Connection). connected.StandsFor x r g) (sym c.reply_why-why.ensures.same) kept.judges in
    let second = subst (λ (x : Connection). connected.StandsFor x r g) (sym c.coming_key-key.ensures.same) first in
    let request = c.behind_type-request.ensures ∙ ap (λ (l : List ℕ). drop 1 l) body in
    let told = given_is w q older rows f route answer byte limits own turn party fetched kept refuses other c.behind_type-request.result.now c.answers_record.result request (c.answers_record.ensures.told r g turn.round.tag set_up second small) in
    let keys_before = keys_kept w q older rows f route answer byte limits own turn party fetched kept [] other.record_is in
    let carry = carries w q older rows f route answer byte limits own turn party fetched kept refuses other in
    let is = c.in-Some-Last.is ∙ ap Some c.in-Some-Last.field-0-is in
    absurd (no_last w q older rows f route answer byte limits own turn party fetched kept refuses other (told.last.0 is))

pub returns-in-None-clause-told : goal.returns-in-None-clause-told
returns-in-None-clause-told c = λ w q older rows f route own below byte now set_up none others kept stands.
    let fewer : length older < 2 ^ 64 - 1 = omega (arith, below) in
    let answer : List ℕ = c.args.answer.now in
    let party = c.args.party.now in
    let fetched = c.args.fetched.now in
    let refuses = c.args.refuses in
    let turn = answers_in_turn f.kept route answer none in
    let limits = kept_limits q f.kept party.asker kept.beside.asker in
    let r = responder_for w f.kept in
    let g = with_large (Some fetched.id) kept.whole f.kept.responder in
    let other = subst (λ (x : Round). IsOtherAnswer r fetched f x answer refuses) (same_Some others.0 turn.round (sym others.1 ∙ turn.answers.0)) others.2 in
    let at = now ∙ turn.answers.0 in
    let body = c.body-body.ensures ∙ ap body_in at in
    let small = few_kept w q older rows f route answer byte limits own turn party fetched kept [] fewer in
    let first = subst (λ (x : Connection). connected.StandsFor x r g) (sym c.reply_why-why.ensures.same) kept.judges in
    let second = subst (λ (x : Connection). connected.StandsFor x r g) (sym c.coming_key-key.ensures.same) first in
    let request = c.behind_type-request.ensures ∙ ap (λ (l : List ℕ). drop 1 l) body in
    let told = given_is w q older rows f route answer byte limits own turn party fetched kept refuses other c.behind_type-request.result.now c.answers_record.result request (c.answers_record.ensures.told r g turn.round.tag set_up second small) in
    let keys_before = keys_kept w q older rows f route answer byte limits own turn party fetched kept [] other.record_is in
    let carry = carries w q older rows f route answer byte limits own turn party fetched kept refuses other in
    refused_other w q older rows f route answer byte limits own turn party fetched kept refuses other c.answers_record.result told
    (λ is. none-some given.Whole (sym c.in-None.is ∙ is)) (λ is. none-some given.Large (sym c.in-None.is ∙ is))
    c.reply_why-why.result (c.reply_why-why.ensures.told r (record (restored f.kept) { responder = g }) turn.round kept.judges small keys_before (sym body)) party (IsFetchedIn party fetched w q) c.args.table.now
