use Rattle.std.proofs.Common.{◌≡◌, ◌∙◌, sym, subst, ℕ, List}
use Rattle.std.proofs.lemmas.Option.{same_Some}
use Rattle.responder_machine.specs.Responder.{session_turn}
use Rattle.responder_machine.specs.Session.{stage_of}
use Rattle.responder_session.proofs.session.RspSession.answer_key.Goals as goal
use Rattle.responder_session.specs.OwnAnswers.{IsKeyOfReply}

pub returns-in-Ok-clause-live : goal.returns-in-Ok-clause-live
returns-in-Ok-clause-live c = λ r s f sizes epochs stands.
    let at : c.in_ok-stage.stage ≡ stage_of s = same_Some c.in_ok-stage.stage (stage_of s) (sym c.in_ok-stage.was ∙ stands.stage) in
    let opened = c.in-Ok.ensures.inner r.psk s stands.keeps in (
      c.in-Ok.ensures.fault r.psk s stands.keeps,
      opened,
      subst (λ (x : List ℕ). IsKeyOfReply c.reply_key.result r.psk s (session_turn r s x f)) (c.as_slice.ensures.value ∙ opened) (c.reply_key.ensures r s f sizes epochs stands at),
    )
