use Rattle.std.proofs.Common.{◌≡◌, ◌+◌, ◌-◌, ◌^◌, ◌<◌, ◌==◌, ◌∙◌, refl, sym, ap, subst, length, arith, List, [], ◌∷◌, ℕ, true, Some, None, Option, Result}
use Rattle.std.specs.Prelude.{OnOk, slice_index}
use Rattle.check_ends.proofs.InTurn.{answers_in_turn}
use Rattle.check_ends.proofs.KeptTyped.{kept_body}
use Rattle.check_ends.proofs.PartyReplied.{kept_limits}
use Rattle.check_responder.specs.AnswerKeys.{IsComingKey, StandFor}
use Rattle.check_responder.specs.JudgedResponder.{IsAnswerer}
use Rattle.check_requester.specs.JudgedRequester.{Carries, IsAsker}
use Rattle.check_requester.specs.HeardKept.{heard_kept}
use Rattle.check_responder.specs.Given.{IsApartInClear, IsGiven}
use Rattle.check_responder.specs.declared.judged_responder.JudgedResponder.{JudgedResponder}
use Rattle.check_responder.specs.declared.given.Judged.{Judged}
use Rattle.check_responder.specs.declared.given.Judged.TheVariants as judged
use Rattle.check_laws.specs.Keeping.{restored}
use Rattle.check_laws.specs.Order.{body_in, tag_in}
use Rattle.check_laws.specs.RepliesShown.{responder_for}
use Rattle.check_laws.specs.Rows as rows_of
use Rattle.check_laws.specs.declared.places.Places.{Places}
use Rattle.responder_core.specs.Connected as connected
use Rattle.responder_core.specs.Connected.{HasSizesAt}
use Rattle.responder_core.specs.declared.connected.Connection.{Connection}
use Rattle.check_fetched_laws.specs.StandsAlike.{version_entry}
use Rattle.requester_machine.specs.Setup.{ReqSetup}
use Rattle.responder_machine.specs.History.{History}
use Rattle.spdm_basis.specs.declared.OutOfMemory.{OutOfMemory}
use Rattle.capture_machine.specs.Capture.{IsBody}
use Rattle.capture_machine.specs.LargeAnswers.{with_large}
use Rattle.capture_machine.specs.Rounds.{no_draw}
use Rattle.capture_machine.specs.SessionTable.{number_from, rows_between}
use Rattle.check_fetched_ends.proofs.InSessionRead.{few_kept}
use Rattle.check_fetched_ends.proofs.InSessionVersion.{own_few, adds_there, anew_given, change_is, ended_on, few_behind, given_values, is_version, next, none_coming, other_refused, own_stand, stands_behind, step_is}
use Rattle.check_fetched_laws.proofs.SeenKeys.{keys_given}
use Rattle.check_fetched_laws.proofs.SizesSeen.{session_turns}
use Rattle.check_fetched_laws.proofs.VersionShown.{never_apart, never_large, never_last, shown_from, shown_is, version_body}
use Rattle.check_fetched_ends.specs.InSession.{IsFetchedIn}
use Rattle.check_fetched_ends.proofs.session_fetch.session_version.replies_version.Goals as goal

pub returns-in_ok-take-in-Given-Whole-clause-told : goal.returns-in_ok-take-in-Given-Whole-clause-told
returns-in_ok-take-in-Given-Whole-clause-told c = λ w q older rows f route own below byte now set_up none type kept stands.
    let fewer : length older < 2 ^ 64 - 1 = omega (arith, below) in
    let answer : List ℕ = c.args.answer.now in
    let fetched = c.args.fetched.now in
    let turn = answers_in_turn f.kept route answer none in
    let limits = kept_limits q f.kept c.args.party.now.asker kept.beside.asker in
    let r = responder_for w f.kept in
    let h = f.kept.responder in
    let g = with_large (Some fetched.id) kept.whole h in
    let at = now ∙ turn.answers.0 in
    let body = c.body-body.ensures ∙ ap body_in at in
    let clear = sym (ap (λ o. slice_index (body_in o) 0 == 5) at) ∙ type in
    let small = few_kept w q older rows f route answer byte limits own turn c.args.party.now fetched kept [] fewer in
    let sized = subst (HasSizesAt r) (session_turns fetched.id kept.whole h) kept.judges.sizes in
    let version = is_version w q older rows f route answer byte limits own turn fetched.id kept.at kept.whole kept.stands clear kept.room kept.anew sized in
    let anew = anew_given w q older rows f route answer byte limits own turn fetched.id kept.at kept.whole kept.stands clear kept.room kept.anew sized in
    let carries : Carries w q older f.kept = (Some kept.whole, own.all kept.whole kept.stands, own.kept) in
    let d = record (restored f.kept) { responder = g } in
    let first = subst (λ (x : Connection). connected.StandsFor x r g) (sym c.reply_why-why.ensures.same) kept.judges in
    let tag = c.tag.ensures ∙ ap tag_in at in
    let told = c.judges.ensures r d turn.round set_up first small (sym tag) (sym body) (subst IsBody (sym body) (kept_body w q older f.kept turn.round carries turn.answers.0))
    (λ apart. absurd (never_apart r f.kept g turn.round answer byte version anew apart)) in
    let given = subst (λ (x : Judged). IsGiven r d turn.round answer x c.judges.new.self) (c.in-Given-Whole.is ∙ ap judged.Given c.in-Given-Whole.field-0-is) told in
    let its = shown_is r f.kept g turn.round answer byte version anew given.0 in
    let one = version_entry turn.round.tag in
    let there = stands_behind w q older rows f route answer byte limits own turn fetched.id kept.at kept.whole kept.stands clear kept.room kept.anew sized c.judges.new.self (subst (IsAnswerer c.judges.new.self r) its.1 given.1) in
    let new = c.go_on-heard.new.self in
    let answerer = subst (λ (x : JudgedResponder). IsAnswerer x r (one ∷ h)) (sym c.go_on-heard.ensures.answerer) there in
    let adds = adds_there w q older rows f route answer byte limits own turn fetched.id kept.at kept.whole kept.stands clear kept.room kept.anew sized c.args.round.now at in
    let coming = subst (λ (b : List ℕ). IsComingKey r h b None) (sym (ap body_in at)) (none_coming w q older rows f route answer byte limits own turn fetched.id kept.at kept.whole kept.stands clear kept.room kept.anew sized) in
    let values = given_values w q older rows f route answer byte limits own turn fetched.id kept.at kept.whole kept.stands clear kept.room kept.anew sized in
    let keys = subst (StandFor new.keys r) adds (c.go_on-heard.ensures.keys r h [] values no_draw kept.beside.keys coming
    (subst (IsAnswerer c.judges.new.self r) (sym adds) there)) in
    let then = next w q older rows f route answer byte limits own turn fetched.id kept.at kept.whole kept.stands clear kept.room kept.anew sized its.0 in
    let change = change_is w q older rows f route answer byte limits own turn fetched.id kept.at kept.whole kept.stands clear kept.room kept.anew sized its.0 c.answer_accepts.ensures c.whole_answer_changes.ensures c.change-change.result
    c.change-change.ensures.begun
    (c.change-change.ensures.accepted ∙ c.go_on-heard.ensures.accepted w q older f.kept turn.round carries fewer turn.answers.0 at kept.beside.asker)
    c.change-change.ensures.taken
    c.change-change.ensures.asked
    (c.change-change.ensures.views r (one ∷ h) answerer (few_behind w q older rows f route answer byte limits own turn fetched.id kept.at kept.whole kept.stands clear kept.room kept.anew sized (own_few fetched.id kept.whole h small))) in
    let step = step_is w q older rows f route answer byte limits own turn fetched.id kept.at kept.whole kept.stands clear kept.room kept.anew sized its.0 c.answer_accepts.ensures c.whole_answer_changes.ensures in
    let number = c.go_on-heard.ensures.number ∙ kept.beside.number in
    let owner = number ∙ ap (λ (s : ReqSetup). number_from 1 s.eid w.requesters) (sym kept.beside.asker.setup) in
    let places = subst (λ (x : Places). rows_of.StandFor x (restored f.kept) rows) (sym c.go_on-heard.ensures.places) kept.beside.places in
    let it = c.in_ok-take-in-Given-Whole.was in
    let table = subst (λ (x : Result Unit OutOfMemory). OnOk x (rows_of.StandsForRows c.take.new.self w (length older + 1) (rows_between (restored f.kept) (restored then) rows))) it
    (c.take.ensures.table w (length older) (restored f.kept) (restored then) rows change step fewer owner stands places) in
    let stood = subst (λ (x : Result Unit OutOfMemory). OnOk x (rows_of.StandFor c.take.new.places (restored then) (rows_between (restored f.kept) (restored then) rows))) it
    (c.take.ensures.places w (length older) (restored f.kept) (restored then) rows change step stands places) in
    let last = record new { places = c.take.new.places } in
    let asker = c.go_on-heard.ensures.asker w q older f.kept (one ∷ h) turn.round carries below turn.answers.0 at kept.beside.asker in
    ended_on w q older rows f route answer byte limits own turn fetched.id kept.at kept.whole kept.stands clear kept.room kept.anew sized its.0 last (IsFetchedIn last fetched w q) c.take.new.self
    (subst (λ (n : ℕ). IsAsker new.asker q (heard_kept f.kept (one ∷ h) n turn.round answer)) turn.answers.1 asker) answerer keys number stood table

pub returns-in-Given-Large-clause-told : goal.returns-in-Given-Large-clause-told
returns-in-Given-Large-clause-told c = λ w q older rows f route own below byte now set_up none type kept stands.
    let fewer : length older < 2 ^ 64 - 1 = omega (arith, below) in
    let answer : List ℕ = c.args.answer.now in
    let fetched = c.args.fetched.now in
    let turn = answers_in_turn f.kept route answer none in
    let limits = kept_limits q f.kept c.args.party.now.asker kept.beside.asker in
    let r = responder_for w f.kept in
    let h = f.kept.responder in
    let g = with_large (Some fetched.id) kept.whole h in
    let at = now ∙ turn.answers.0 in
    let body = c.body-body.ensures ∙ ap body_in at in
    let clear = sym (ap (λ o. slice_index (body_in o) 0 == 5) at) ∙ type in
    let small = few_kept w q older rows f route answer byte limits own turn c.args.party.now fetched kept [] fewer in
    let sized = subst (HasSizesAt r) (session_turns fetched.id kept.whole h) kept.judges.sizes in
    let version = is_version w q older rows f route answer byte limits own turn fetched.id kept.at kept.whole kept.stands clear kept.room kept.anew sized in
    let anew = anew_given w q older rows f route answer byte limits own turn fetched.id kept.at kept.whole kept.stands clear kept.room kept.anew sized in
    let carries : Carries w q older f.kept = (Some kept.whole, own.all kept.whole kept.stands, own.kept) in
    let d = record (restored f.kept) { responder = g } in
    let first = subst (λ (x : Connection). connected.StandsFor x r g) (sym c.reply_why-why.ensures.same) kept.judges in
    let tag = c.tag.ensures ∙ ap tag_in at in
    let told = c.judges.ensures r d turn.round set_up first small (sym tag) (sym body) (subst IsBody (sym body) (kept_body w q older f.kept turn.round carries turn.answers.0))
    (λ apart. absurd (never_apart r f.kept g turn.round answer byte version anew apart)) in
    let given = subst (λ (x : Judged). IsGiven r d turn.round answer x c.judges.new.self) (c.in-Given-Large.is ∙ ap judged.Given c.in-Given-Large.field-0-is) told in
    other_refused w q older rows f route answer byte limits own turn fetched.id kept.at kept.whole kept.stands clear kept.room kept.anew sized (λ same. never_large r f.kept g turn.round answer byte version anew given)
    c.reply_why-why.result (c.reply_why-why.ensures.told r d turn.round kept.judges small (keys_given c.args.party.now.keys r fetched.id kept.whole h (own_stand w q older rows f route answer byte limits own turn fetched.id kept.at kept.whole kept.stands clear kept.room kept.anew sized) kept.beside.keys) (sym body))
    c.args.party.now (IsFetchedIn c.args.party.now fetched w q) c.args.table.now

pub returns-in-Given-Last-clause-told : goal.returns-in-Given-Last-clause-told
returns-in-Given-Last-clause-told c = λ w q older rows f route own below byte now set_up none type kept stands.
    let fewer : length older < 2 ^ 64 - 1 = omega (arith, below) in
    let answer : List ℕ = c.args.answer.now in
    let fetched = c.args.fetched.now in
    let turn = answers_in_turn f.kept route answer none in
    let limits = kept_limits q f.kept c.args.party.now.asker kept.beside.asker in
    let r = responder_for w f.kept in
    let h = f.kept.responder in
    let g = with_large (Some fetched.id) kept.whole h in
    let at = now ∙ turn.answers.0 in
    let body = c.body-body.ensures ∙ ap body_in at in
    let clear = sym (ap (λ o. slice_index (body_in o) 0 == 5) at) ∙ type in
    let small = few_kept w q older rows f route answer byte limits own turn c.args.party.now fetched kept [] fewer in
    let sized = subst (HasSizesAt r) (session_turns fetched.id kept.whole h) kept.judges.sizes in
    let version = is_version w q older rows f route answer byte limits own turn fetched.id kept.at kept.whole kept.stands clear kept.room kept.anew sized in
    let anew = anew_given w q older rows f route answer byte limits own turn fetched.id kept.at kept.whole kept.stands clear kept.room kept.anew sized in
    let carries : Carries w q older f.kept = (Some kept.whole, own.all kept.whole kept.stands, own.kept) in
    let d = record (restored f.kept) { responder = g } in
    let first = subst (λ (x : Connection). connected.StandsFor x r g) (sym c.reply_why-why.ensures.same) kept.judges in
    let tag = c.tag.ensures ∙ ap tag_in at in
    let told = c.judges.ensures r d turn.round set_up first small (sym tag) (sym body) (subst IsBody (sym body) (kept_body w q older f.kept turn.round carries turn.answers.0))
    (λ apart. absurd (never_apart r f.kept g turn.round answer byte version anew apart)) in
    let given = subst (λ (x : Judged). IsGiven r d turn.round answer x c.judges.new.self) (c.in-Given-Last.is ∙ ap judged.Given c.in-Given-Last.field-0-is) told in
    other_refused w q older rows f route answer byte limits own turn fetched.id kept.at kept.whole kept.stands clear kept.room kept.anew sized (λ same. never_last r f.kept g turn.round answer byte version anew given)
    c.reply_why-why.result (c.reply_why-why.ensures.told r d turn.round kept.judges small (keys_given c.args.party.now.keys r fetched.id kept.whole h (own_stand w q older rows f route answer byte limits own turn fetched.id kept.at kept.whole kept.stands clear kept.room kept.anew sized) kept.beside.keys) (sym body))
    c.args.party.now (IsFetchedIn c.args.party.now fetched w q) c.args.table.now

pub returns-in-Apart-clause-told : goal.returns-in-Apart-clause-told
returns-in-Apart-clause-told c = λ w q older rows f route own below byte now set_up none type kept stands.
    let fewer : length older < 2 ^ 64 - 1 = omega (arith, below) in
    let answer : List ℕ = c.args.answer.now in
    let fetched = c.args.fetched.now in
    let turn = answers_in_turn f.kept route answer none in
    let limits = kept_limits q f.kept c.args.party.now.asker kept.beside.asker in
    let r = responder_for w f.kept in
    let h = f.kept.responder in
    let g = with_large (Some fetched.id) kept.whole h in
    let at = now ∙ turn.answers.0 in
    let body = c.body-body.ensures ∙ ap body_in at in
    let clear = sym (ap (λ o. slice_index (body_in o) 0 == 5) at) ∙ type in
    let small = few_kept w q older rows f route answer byte limits own turn c.args.party.now fetched kept [] fewer in
    let sized = subst (HasSizesAt r) (session_turns fetched.id kept.whole h) kept.judges.sizes in
    let version = is_version w q older rows f route answer byte limits own turn fetched.id kept.at kept.whole kept.stands clear kept.room kept.anew sized in
    let anew = anew_given w q older rows f route answer byte limits own turn fetched.id kept.at kept.whole kept.stands clear kept.room kept.anew sized in
    let carries : Carries w q older f.kept = (Some kept.whole, own.all kept.whole kept.stands, own.kept) in
    let d = record (restored f.kept) { responder = g } in
    let first = subst (λ (x : Connection). connected.StandsFor x r g) (sym c.reply_why-why.ensures.same) kept.judges in
    let tag = c.tag.ensures ∙ ap tag_in at in
    let told = c.judges.ensures r d turn.round set_up first small (sym tag) (sym body) (subst IsBody (sym body) (kept_body w q older f.kept turn.round carries turn.answers.0))
    (λ apart. absurd (never_apart r f.kept g turn.round answer byte version anew apart)) in
    let given = subst (λ (x : Judged). IsGiven r d turn.round answer x c.judges.new.self) (c.in-Apart.is) told in
    other_refused w q older rows f route answer byte limits own turn fetched.id kept.at kept.whole kept.stands clear kept.room kept.anew sized (λ same. given.0.whole (shown_from r f.kept g turn.round answer byte version anew same))
    c.reply_why-why.result (c.reply_why-why.ensures.told r d turn.round kept.judges small (keys_given c.args.party.now.keys r fetched.id kept.whole h (own_stand w q older rows f route answer byte limits own turn fetched.id kept.at kept.whole kept.stands clear kept.room kept.anew sized) kept.beside.keys) (sym body))
    c.args.party.now (IsFetchedIn c.args.party.now fetched w q) c.args.table.now

pub returns-in-Refused-clause-told : goal.returns-in-Refused-clause-told
returns-in-Refused-clause-told c = λ w q older rows f route own below byte now set_up none type kept stands.
    let fewer : length older < 2 ^ 64 - 1 = omega (arith, below) in
    let answer : List ℕ = c.args.answer.now in
    let fetched = c.args.fetched.now in
    let turn = answers_in_turn f.kept route answer none in
    let limits = kept_limits q f.kept c.args.party.now.asker kept.beside.asker in
    let r = responder_for w f.kept in
    let h = f.kept.responder in
    let g = with_large (Some fetched.id) kept.whole h in
    let at = now ∙ turn.answers.0 in
    let body = c.body-body.ensures ∙ ap body_in at in
    let clear = sym (ap (λ o. slice_index (body_in o) 0 == 5) at) ∙ type in
    let small = few_kept w q older rows f route answer byte limits own turn c.args.party.now fetched kept [] fewer in
    let sized = subst (HasSizesAt r) (session_turns fetched.id kept.whole h) kept.judges.sizes in
    let version = is_version w q older rows f route answer byte limits own turn fetched.id kept.at kept.whole kept.stands clear kept.room kept.anew sized in
    let anew = anew_given w q older rows f route answer byte limits own turn fetched.id kept.at kept.whole kept.stands clear kept.room kept.anew sized in
    let carries : Carries w q older f.kept = (Some kept.whole, own.all kept.whole kept.stands, own.kept) in
    let d = record (restored f.kept) { responder = g } in
    let first = subst (λ (x : Connection). connected.StandsFor x r g) (sym c.reply_why-why.ensures.same) kept.judges in
    let tag = c.tag.ensures ∙ ap tag_in at in
    let told = c.judges.ensures r d turn.round set_up first small (sym tag) (sym body) (subst IsBody (sym body) (kept_body w q older f.kept turn.round carries turn.answers.0))
    (λ apart. absurd (never_apart r f.kept g turn.round answer byte version anew apart)) in
    let given = subst (λ (x : Judged). IsGiven r d turn.round answer x c.judges.new.self) (c.in-Refused.is) told in
    other_refused w q older rows f route answer byte limits own turn fetched.id kept.at kept.whole kept.stands clear kept.room kept.anew sized (λ same. given.0.whole (shown_from r f.kept g turn.round answer byte version anew same))
    c.reply_why-why.result (c.reply_why-why.ensures.told r d turn.round kept.judges small (keys_given c.args.party.now.keys r fetched.id kept.whole h (own_stand w q older rows f route answer byte limits own turn fetched.id kept.at kept.whole kept.stands clear kept.room kept.anew sized) kept.beside.keys) (sym body))
    c.args.party.now (IsFetchedIn c.args.party.now fetched w q) c.args.table.now
