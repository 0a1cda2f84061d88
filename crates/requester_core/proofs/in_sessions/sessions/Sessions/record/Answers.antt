use Rattle.std.proofs.Common.{◌≡◌, ℕ, Some, subst, sym}
use Rattle.requester_core.proofs.SessionsRecorded.{awaited, named_is, record_is}
use Rattle.psk_session.specs.Waiting.{IsNewest}
use Rattle.requester_machine.specs.Order.{waiting_ask}
use Rattle.requester_machine.specs.Session.{session_of}
use Rattle.requester_core.proofs.in_sessions.sessions.Sessions.record.Goals as goal

pub returns-clause-bytes : goal.returns-clause-bytes
returns-clause-bytes c = λ q h sent id a waits aims stands.
    let old = c.args.self.now in
    let its : old.id ≡ id = named_is old q h sent id a stands waits aims in
    let newest = c.record_at.ensures.newest q.psk (session_of old.id h) a (stands.slots old.id)
    (subst (λ (i : ℕ). waiting_ask (session_of i h) ≡ Some a) (sym its) (awaited q h sent id a stands.holds waits aims)) in
    record_is q h sent id a c.record_at.result.now stands.holds waits aims (subst (λ (i : ℕ). IsNewest a c.record_at.result.now (session_of i h)) its newest)
