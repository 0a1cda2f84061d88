use Rattle.std.proofs.Common.{◌∙◌, ap, refl}
use Rattle.spdm_basis.specs.SessionIdBytes.{session_id_bytes}
use Rattle.spdm_basis.specs.declared.values.session_id.SessionId.{SessionId}
use Rattle.spdm_grammar.specs.Message.RequestMessage.{EndSession}
use Rattle.responder_session.specs.Turns.{answered_turn}
use Rattle.responder_session.specs.declared.kept.Kept.{Kept}
use Rattle.responder_session.proofs.session.RspSession.end.Goals as goal

pub returns : goal.returns
returns c = λ psk s stands. record {
  stage = refl;
  id = ap (λ (x : Kept). session_id_bytes x.id.req x.id.rsp) c.reply.ensures.rest ∙ ap (λ (i : SessionId). session_id_bytes i.req i.rsp) stands.keeps.id;
  last = c.reply.ensures.last psk s (answered_turn c.args.opened.now.message.now EndSession c.args.answer.now) stands.keeps refl refl;
}
