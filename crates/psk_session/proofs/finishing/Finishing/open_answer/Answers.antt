use Rattle.std.proofs.Common.{◌≡◌, sym, subst}
use Rattle.std.specs.Prelude.{None, Some, MatchResult}
use Rattle.key_schedule.specs.Purpose.{handshake_record}
use Rattle.key_schedule.specs.declared.direction.Direction.TheVariants.{Response}
use Rattle.requester_machine.specs.Records.{answer_fault, answer_inner}
use Rattle.requester_machine.specs.Session.{t1_of}
use Rattle.spdm_basis.specs.SessionIdBytes.{session_id_bytes}
use Rattle.spdm_basis.specs.declared.values.session_id.SessionId.{SessionId}
use Rattle.spdm_machine.specs.Keys.{record_fault}
use Rattle.spdm_machine.specs.Terms.{terms_of}
use Rattle.psk_session.specs.Finishing.{Seen, StandsFor}
use Rattle.psk_session.specs.Opening.{accepted}
use Rattle.psk_session.proofs.finishing.Finishing.open_answer.Goals as goal

pub returns-clause-fault : goal.returns-clause-fault
unfolding answer_fault
returns-clause-fault c = λ psk n exchange answer pad stands.
    let inside = subst (λ (x : Seen). StandsFor x psk n exchange answer pad) (sym c.self.view_is) stands in
    let p = handshake_record psk (t1_of (accepted n exchange answer)) Response in
    subst (λ (i : SessionId). MatchResult c.open_record.result (λ _. record_fault (terms_of n).choice p 0 (session_id_bytes i.req i.rsp) c.args.sealed.now ≡ None) (λ e. record_fault (terms_of n).choice p 0 (session_id_bytes i.req i.rsp) c.args.sealed.now ≡ Some e)) inside.id
    (c.open_record.ensures.fault (terms_of n).choice p inside.response)

pub returns-clause-inner : goal.returns-clause-inner
unfolding answer_inner
returns-clause-inner c = λ psk n exchange answer pad stands.
    let inside = subst (λ (x : Seen). StandsFor x psk n exchange answer pad) (sym c.self.view_is) stands in
    c.open_record.ensures.inner (terms_of n).choice (handshake_record psk (t1_of (accepted n exchange answer)) Response) inside.response
