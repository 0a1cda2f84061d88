use Rattle.std.proofs.Common.{◌∙◌, ◌++◌, ap, sym}
use Rattle.responder_machine.specs.Session.{session_terms, session_vca, exchange_of, exchange_answer, t1_of}
use Rattle.spdm_grammar.specs.declared.messages.choice.Choice.{Choice}
use Rattle.spdm_grammar.specs.declared.messages.error_code.ErrorCode.TheVariants.{DecryptError}
use Rattle.responder_session.proofs.Allowed.{finish_in_handshake}
use Rattle.responder_session.proofs.Doing.{refused_deed, finished_turn, unverified_turn}
use Rattle.responder_session.proofs.session.RspSession.finish.Goals as goal

pub returns-else-is_verified : goal.returns-else-is_verified
returns-else-is_verified c = λ r s f stands place a.
    let is = c.is_verified.ensures (session_terms s).choice r.psk (t1_of s) (session_vca s ++ exchange_of s ++ exchange_answer s) (ap (λ (x : Choice). x.hash) stands.keeps.terms.choice) stands.handshake stands.pushed in
    refused_deed r s f c.args.message.now c.refused.new.out DecryptError c.refused.result c.refused.ensures.deed (c.refused.ensures.answer r s f place (λ e. cc))
    (unverified_turn r s f c.args.message.now c.args.verify.now a (sym is ∙ c.if-is_verified.false))

pub returns-then-is_verified : goal.returns-then-is_verified
returns-then-is_verified c = λ r s f stands place a.
    let is = c.is_verified.ensures (session_terms s).choice r.psk (t1_of s) (session_vca s ++ exchange_of s ++ exchange_answer s) (ap (λ (x : Choice). x.hash) stands.keeps.terms.choice) stands.handshake stands.pushed in
    record {
      turn = finished_turn r s f c.args.message.now c.args.verify.now a (sym is ∙ c.if-is_verified.true);
      fit = (finish_in_handshake r s c.args.message.now c.args.verify.now a, c.write_finish_answer.ensures);
    }
