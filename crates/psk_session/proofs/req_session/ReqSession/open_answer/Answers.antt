use Rattle.std.proofs.Common.{◌≡◌, subst, ℕ, List}
use Rattle.std.specs.Prelude.{None, Some, MatchResult, OnOk, Option}
use Rattle.key_schedule.specs.Purpose.{application_record}
use Rattle.key_schedule.specs.declared.direction.Direction.TheVariants.{Response}
use Rattle.requester_machine.specs.Session.{session_terms, t2_of}
use Rattle.spdm_basis.specs.declared.causes.record_fault.RecordFault.{RecordFault}
use Rattle.psk_session.specs.Waiting.{awaited_epoch}
use Rattle.psk_session.proofs.Past.{fault_kept, inner_kept}
use Rattle.psk_session.proofs.req_session.ReqSession.open_answer.Goals as goal

pub returns-clause-fault : goal.returns-clause-fault
returns-clause-fault c = λ psk s a stands.
    let keeps = stands.1.keeps in
    subst (λ (f : Option RecordFault). MatchResult c.open_record.result (λ _. f ≡ None) (λ e. f ≡ Some e))
    (fault_kept c.args.self.now.kept psk s a c.number-number.result c.args.sealed.now keeps (c.number-number.ensures psk s a stands))
    (c.open_record.ensures.fault (session_terms s).choice (application_record psk (t2_of s) Response (awaited_epoch s a)) keeps.response)

pub returns-clause-inner : goal.returns-clause-inner
returns-clause-inner c = λ psk s a stands.
    let keeps = stands.1.keeps in
    subst (λ (m : List ℕ). OnOk c.open_record.result (c.open_record.new.out ≡ m))
    (inner_kept c.args.self.now.kept psk s a c.number-number.result c.args.sealed.now keeps (c.number-number.ensures psk s a stands))
    (c.open_record.ensures.inner (session_terms s).choice (application_record psk (t2_of s) Response (awaited_epoch s a)) keeps.response)
