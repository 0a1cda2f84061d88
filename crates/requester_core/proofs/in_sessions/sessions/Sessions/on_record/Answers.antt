use Rattle.std.proofs.Common.{◌≡◌, ◌≢◌, ℕ, Some, subst, sym}
use Rattle.requester_core.proofs.SessionsRecorded.{awaited, few_requests, few_taken, named_is, recorded}
use Rattle.requester_core.specs.RecordOutcome.{IsStepped}
use Rattle.requester_core.specs.Sessions.{slot_of}
use Rattle.requester_machine.specs.Order.{waiting_ask}
use Rattle.requester_machine.specs.Session.{session_of}
use Rattle.requester_core.proofs.in_sessions.sessions.Sessions.on_record.Goals as goal

pub returns : goal.returns
returns c = λ q h f tag d sent id a sizes padded short waits aims stands.
    let old = c.args.self.now in
    let new = c.step.new.self in
    let its : old.id ≡ id = named_is old q h sent id a stands waits aims in
    let own = subst (λ (i : ℕ). IsStepped q.psk (session_of i h) a c.args.sealed.now c.args.pad.now (slot_of new i) c.step.result) its
    (c.step.ensures.own q.psk (session_of old.id h) a (stands.slots old.id) (subst (λ (i : ℕ). waiting_ask (session_of i h) ≡ Some a) (sym its) (awaited q h sent id a stands.holds waits aims))
    (few_requests h old.id short) (few_taken h old.id short)) in
    let others = subst (λ (n : ℕ). (i : ℕ) → i ≢ n → slot_of new i ≡ slot_of old i) its c.step.ensures.others in
    recorded old new q h f tag d sent id a c.args.sealed.now c.args.pad.now c.step.result sizes padded waits aims stands own others c.step.ensures.id
