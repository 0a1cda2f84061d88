use Rattle.std.proofs.Common.{◌∙◌, ap, subst, refl, ℕ, List, []}
use Rattle.requester_machine.specs.Message.Ask.{AskVerify}
use Rattle.requester_machine.specs.Sending.{inner_request}
use Rattle.requester_machine.specs.Session.{session_terms, response_epoch}
use Rattle.spdm_grammar.specs.Message.RequestMessage.{KeyUpdate}
use Rattle.psk_session.specs.Course.{with_asked}
use Rattle.psk_session.specs.ReqSession.{IsAwaiting}
use Rattle.psk_session.specs.Waiting.{Awaits}
use Rattle.psk_session.specs.declared.session_request.Awaited.TheVariants.{Verify}
use Rattle.psk_session.proofs.req_session.ReqSession.verify.Goals as goal

pub returns-clause-asked : goal.returns-clause-asked
returns-clause-asked c = λ psk s keeps stage few next.
    let awaits : Awaits Verify c.args.self.now.gathered (session_terms s).common.to_requester.max AskVerify =
    record { before = []; is = refl; behind = refl; gathered = tt } in
    subst (λ (m : List ℕ). IsAwaiting c.send.new.self psk (with_asked psk s AskVerify m c.args.pad.now) AskVerify)
    (c.write_inner_request.ensures.value ∙ ap (λ (t : ℕ). inner_request (KeyUpdate 3 t)) (c.update_tag.ensures psk s (response_epoch s) keeps))
    (c.send.ensures.sent psk s AskVerify keeps stage few next awaits)
