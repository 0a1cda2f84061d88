use Rattle.std.proofs.Common.{refl}
use Rattle.responder_core.proofs.PutAnswers.{gets_bytes, live_changes}
use Rattle.responder_core.specs.declared.in_sessions.live_session.LiveSession.{LiveSession}
use Rattle.responder_rules.specs.LargeAnswer.{turn_with}
use Rattle.responder_core.proofs.in_sessions.live_session.LiveSession.set_pending_bytes.Goals as goal

pub returns : goal.returns
returns c = λ r s large pending measures stands.
    let old = c.args.self.now in
    let answer = c.args.answer.now in
    let new : LiveSession = record { session = c.set_pending_bytes.new.self; idle = old.idle; period = old.period } in
    live_changes (turn_with answer) (gets_bytes answer) r s old new measures stands (c.set_pending_bytes.ensures r s stands.sizes large pending measures stands.session) refl refl
