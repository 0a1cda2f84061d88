use Rattle.std.proofs.Common.{refl}
use Rattle.responder_core.proofs.LateFetch.{pends_again}
use Rattle.responder_core.proofs.PutAnswers.{live_changes}
use Rattle.responder_core.specs.declared.in_sessions.live_session.LiveSession.{LiveSession}
use Rattle.responder_machine.specs.Session.{turns_of}
use Rattle.responder_session.proofs.LateFetch.{last_unseen}
use Rattle.responder_session.specs.LateFetch.{turn_pending}
use Rattle.responder_core.proofs.in_sessions.live_session.LiveSession.make_pending.Goals as goal

pub returns : goal.returns
returns c = λ r s large unseen stands.
    let old = c.args.self.now in
    let answer = c.args.answer.now in
    let handle = c.args.handle in
    let new : LiveSession = record { session = c.make_pending.new.self; idle = old.idle; period = old.period } in
    live_changes (turn_pending answer handle) (pends_again answer handle) r s old new (last_unseen (turns_of s) unseen) stands (c.make_pending.ensures r s stands.sizes large unseen stands.session) refl refl
