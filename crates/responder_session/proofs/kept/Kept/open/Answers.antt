use Rattle.std.proofs.Common.{◌≡◌, ◌∙◌, sym, subst, ℕ}
use Rattle.std.specs.Prelude.{None, Some, MatchResult, OnOk}
use Rattle.responder_machine.specs.Records.{request_purpose}
use Rattle.responder_machine.specs.Session.{session_terms}
use Rattle.spdm_basis.specs.SessionIdBytes.{session_id_bytes}
use Rattle.spdm_machine.specs.Keys.{record_fault, inner_message}
use Rattle.responder_session.proofs.KeptRecords.{opening_spent, opening_unspent, opened_kept}
use Rattle.responder_session.proofs.kept.Kept.open.Goals as goal

pub returns-then-is_spent-clause-fault : goal.returns-then-is_spent-clause-fault
returns-then-is_spent-clause-fault c = λ psk s keeps.
    opening_spent c.args.self.now psk s c.args.sealed.now keeps (sym c.is_spent.ensures.value ∙ c.if-is_spent.true)

pub returns-clause-fault : goal.returns-clause-fault
returns-clause-fault c = λ psk s keeps.
    opening_unspent c.open_record.result c.args.self.now psk s c.args.sealed.now keeps (sym c.is_spent.ensures.value ∙ c.if-is_spent.false)
    (subst (λ (n : ℕ). MatchResult c.open_record.result
    (λ _. record_fault (session_terms s).choice (request_purpose psk s) n (session_id_bytes c.args.self.now.id.req c.args.self.now.id.rsp) c.args.sealed.now ≡ None)
    (λ e. record_fault (session_terms s).choice (request_purpose psk s) n (session_id_bytes c.args.self.now.id.req c.args.self.now.id.rsp) c.args.sealed.now ≡ Some e))
    c.number-number.ensures (c.open_record.ensures.fault (session_terms s).choice (request_purpose psk s) keeps.request))

pub returns-clause-inner : goal.returns-clause-inner
returns-clause-inner c = λ psk s keeps.
    opened_kept c.open_record.result c.args.self.now psk s c.args.sealed.now c.open_record.new.out keeps
    (subst (λ (n : ℕ). OnOk c.open_record.result (c.open_record.new.out ≡ inner_message (session_terms s).choice (request_purpose psk s) n c.args.sealed.now))
    c.number-number.ensures (c.open_record.ensures.inner (session_terms s).choice (request_purpose psk s) keeps.request))
