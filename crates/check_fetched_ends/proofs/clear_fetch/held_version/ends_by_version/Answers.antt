use Rattle.std.proofs.Common.{◌≡◌, ◌-◌, ◌^◌, ◌<◌, ◌+◌, ◌∙◌, refl, sym, ap, subst, length, arith, drop, List, ℕ, ◌∷◌, Bool, true, false, Some, None, Result}
use Rattle.std.specs.Prelude.{OnOk}
use Rattle.std.proofs.lemmas.Bool.{false≢true}
use Rattle.std.proofs.lemmas.Option.{same_Some}
use Rattle.spdm_basis.specs.declared.OutOfMemory.{OutOfMemory}
use Rattle.check_requester.proofs.FewMessages.{kept_messages}
use Rattle.check_ends.proofs.InTurn.{answers_in_turn}
use Rattle.check_requester.specs.JudgedRequester.{IsAsker}
use Rattle.check_requester.specs.HeardKept.{heard_kept}
use Rattle.check_ends.specs.declared.party.Party.{Party}
use Rattle.check_laws.specs.Keeping.{restored}
use Rattle.check_laws.specs.Order.{body_in, tag_in}
use Rattle.check_laws.specs.RepliesShown.{responder_for}
use Rattle.check_laws.specs.Rows as rows_of
use Rattle.responder_core.specs.Connected as connected
use Rattle.check_fetched_laws.specs.StandsAlike.{IsAnew, version_entry}
use Rattle.check_fetched_ends.proofs.HeldOn.{carries, few}
use Rattle.check_fetched_ends.proofs.VersionEnds.{behind, ended_version, keys_behind, next, version_change, version_step}
use Rattle.check_fetched_ends.proofs.VersionGone.{refused_version}
use Rattle.check_fetched_ends.proofs.VersionRound.{anew_left, stands_behind}
use Rattle.check_fetched_ends.specs.Held.{IsHeldIn}
use Rattle.requester_machine.specs.May.{IsSetUp}
use Rattle.requester_machine.specs.Setup.{ReqSetup}
use Rattle.spdm_grammar.specs.Message.RequestMessage.{GetVersion}
use Rattle.spdm_grammar.specs.Requests.{canonical_request}
use Rattle.spdm_machine.specs.Bodies.{clear_body}
use Rattle.capture_machine.specs.Rounds.{Dialogue, Round}
use Rattle.capture_machine.specs.SessionTable.{number_from, rows_between}
use Rattle.check_fetched_ends.proofs.clear_fetch.held_version.ends_by_version.Goals as goal

pub returns-then-not-gives_version-clause-told : goal.returns-then-not-gives_version-clause-told
returns-then-not-gives_version-clause-told c = λ w q older rows f route held of own below now is version set_up none kept stands.
    let answer : List ℕ = c.args.answer.now in
    let turn = answers_in_turn f.kept route answer none in
    let party = c.args.party.now in
    let same : of ≡ turn.round = same_Some of turn.round (sym is ∙ turn.answers.0) in
    let version_here : turn.round.body ≡ clear_body (canonical_request GetVersion) = ap (λ (x : Round). x.body) (sym same) ∙ version in
    let body = c.body-body.ensures ∙ ap body_in (now ∙ turn.answers.0) in
    let r = responder_for w f.kept in
    let d : Dialogue = record (restored f.kept) { responder = kept.before.left } in
    let small = few w q older rows f own party held kept below in
    let new : Party = record party { answerer = c.reply_why.new.self } in
    let why = c.reply_why.ensures.told r d turn.round kept.before.stands small kept.before.keys (sym body) in
    refused_version w q older rows f own party held kept route answer turn version_here (λ given. false≢true (sym c.if-not-gives_version.true ∙ c.gives_version.ensures.1 (sym given))) new (IsHeldIn new held w q) c.args.table.now d c.reply_why.result refl why

pub returns-clause-told : goal.returns-clause-told
returns-clause-told c = λ w q older rows f route held of own below now is version set_up none kept stands.
    let answer : List ℕ = c.args.answer.now in
    let turn = answers_in_turn f.kept route answer none in
    let party = c.args.party.now in
    let same : of ≡ turn.round = same_Some of turn.round (sym is ∙ turn.answers.0) in
    let version_here : turn.round.body ≡ clear_body (canonical_request GetVersion) = ap (λ (x : Round). x.body) (sym same) ∙ version in
    let at = now ∙ turn.answers.0 in
    let body = c.body-body.ensures ∙ ap body_in at in
    let r = responder_for w f.kept in
    let limits = subst IsSetUp (sym kept.beside.asker.setup) kept.beside.asker.kept.limits in
    let carried = carries w q older rows f own party held kept in
    let tag : turn.round.tag ≡ c.tag-tag.result = sym (c.tag-tag.ensures ∙ ap tag_in at) in
    let given = sym (c.gives_version.ensures.0 c.if-not-gives_version.false) in
    let asked = c.behind_type.ensures ∙ ap (drop 1) (body ∙ version_here) in
    let anew = subst (IsAnew r kept.before.left) tag (anew_left w q older rows f own party held kept turn.round turn.answers.0 version_here) in
    let taken = c.take_version.ensures r kept.before.left set_up kept.before.stands asked anew in
    let standing = stands_behind w q older rows f own party held kept turn.round turn.answers.0 version_here c.take_version.new.connection (subst (λ (n : ℕ). connected.StandsFor c.take_version.new.connection r (version_entry n ∷ kept.before.left)) (sym tag) taken) in
    let f_behind = behind w q older rows f own party held kept route answer limits turn version_here in
    let f_next = next w q older rows f own party held kept route answer limits turn version_here in
    let messages = kept_messages w q older f.kept carried in
    let views = c.change-change.ensures.views r f_behind standing (omega (arith, messages, below)) in
    let change = version_change w q older rows f own party held kept route answer limits turn version_here c.answer_accepts.ensures c.whole_answer_changes.ensures c.change-change.result c.change-change.ensures.begun c.change-change.ensures.accepted c.change-change.ensures.taken c.change-change.ensures.asked views in
    let step = version_step w q older rows f own party held kept route answer limits turn version_here c.answer_accepts.ensures c.whole_answer_changes.ensures in
    let number = kept.beside.number ∙ ap (λ (s : ReqSetup). number_from 1 s.eid w.requesters) (sym kept.beside.asker.setup) in
    let it = c.in_ok-take.was in
    let table = subst (λ (x : Result Unit OutOfMemory). OnOk x (rows_of.StandsForRows c.take.new.self w (length older + 1) (rows_between (restored f.kept) (restored f_next) rows))) it
    (c.take.ensures.table w (length older) (restored f.kept) (restored f_next) rows change step (omega (arith, below)) number stands kept.beside.places) in
    let places = subst (λ (x : Result Unit OutOfMemory). OnOk x (rows_of.StandFor c.take.new.places (restored f_next) (rows_between (restored f.kept) (restored f_next) rows))) it
    (c.take.ensures.places w (length older) (restored f.kept) (restored f_next) rows change step stands kept.beside.places) in
    let new : Party = record party { asker = c.hears.new.self; answerer = record party.answerer { connection = c.take_version.new.connection }; places = c.take.new.places } in
    let asker = subst (λ (n : ℕ). IsAsker c.hears.new.self q (heard_kept f.kept f_behind n turn.round answer)) (sym tag ∙ turn.answers.1) (c.hears.ensures.kept w q older f.kept f_behind turn.round carried below turn.answers.0 tag kept.beside.asker) in
    ended_version w q older rows f own party held kept route answer limits turn version_here given new (IsHeldIn new held w q) c.take.new.self asker standing (keys_behind w q older rows f own party held kept route answer limits turn version_here party.keys kept.beside.keys) kept.beside.number places table
