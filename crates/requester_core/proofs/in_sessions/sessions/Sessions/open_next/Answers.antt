use Rattle.std.proofs.Common.{◌≤◌, subst}
use Rattle.requester_core.proofs.OwnSlots.{few_idle, opens_named, opens_none}
use Rattle.requester_core.specs.Sessions.{slot_of}
use Rattle.requester_machine.specs.History.{outstanding}
use Rattle.requester_machine.specs.Session.{Steps, request_next, session_of}
use Rattle.requester_core.proofs.in_sessions.sessions.Sessions.open_next.Goals as goal

pub returns-in-Some-clause-few : goal.returns-in-Some-clause-few
returns-in-Some-clause-few c = λ q h stands short few.
    let id = c.in-Some.id in
    opens_named q.psk h c.args.sealed.now id c.open_next_at.result c.open_next_at.new.out c.is_ok.result c.is_ok.ensures.value (c.in-Some.ensures q h stands short)
    (λ took same. c.open_next_at.ensures q.psk (session_of id h) (stands.slots id) took (subst (λ (s : Steps). request_next s ≤ 65535) same few))

pub returns-in-Some-clause-resting : goal.returns-in-Some-clause-resting
returns-in-Some-clause-resting c = λ q h stands short none.
    let id = c.in-Some.id in
    opens_named q.psk h c.args.sealed.now id c.open_next_at.result c.open_next_at.new.out c.is_ok.result c.is_ok.ensures.value (c.in-Some.ensures q h stands short)
    (λ took same. c.open_next_at.ensures q.psk (session_of id h) (stands.slots id) took (few_idle (slot_of c.args.self.now id) q.psk id (outstanding h) (session_of id h) none (stands.slots id) (stands.orders id)))

pub returns-in-None-clause-few : goal.returns-in-None-clause-few
returns-in-None-clause-few c = λ q h stands short few. opens_none q.psk h c.args.sealed.now c.args.out.now (c.in-None.ensures q h stands short)

pub returns-in-None-clause-resting : goal.returns-in-None-clause-resting
returns-in-None-clause-resting c = λ q h stands short none. opens_none q.psk h c.args.sealed.now c.args.out.now (c.in-None.ensures q h stands short)
