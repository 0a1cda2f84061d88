use Rattle.std.proofs.Common.{refl}
use Rattle.responder_core.proofs.PutAnswers.{live_changes, was_unseen}
use Rattle.responder_core.specs.declared.in_sessions.live_session.LiveSession.{LiveSession}
use Rattle.responder_rules.specs.LargeAnswer.{turn_unseen}
use Rattle.responder_core.proofs.in_sessions.live_session.LiveSession.forget.Goals as goal

pub returns : goal.returns
returns c = λ r s large measures stands.
    let old = c.args.self.now in
    let new : LiveSession = record { session = c.forget_pending.new.self; idle = old.idle; period = old.period } in
    live_changes turn_unseen was_unseen r s old new measures stands (c.forget_pending.ensures r.psk s large measures stands.session) refl refl
