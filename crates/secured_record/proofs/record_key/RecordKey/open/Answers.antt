use Rattle.std.proofs.Common.{◌≡◌, ◌≤◌, ◌∙◌, ap, subst, ℕ, List, length}
use Rattle.std.specs.Prelude.{None, Some, IsOk, MatchResult}
use Rattle.key_schedule.specs.Keys.{DirectionSecret}
use Rattle.spdm_basis.specs.SessionIdBytes.{session_id_bytes}
use Rattle.secured_record.specs.Format.{key_of, iv_of, record_of}
use Rattle.secured_record.specs.Faults.{fault_of}
use Rattle.secured_record.proofs.record_key.RecordKey.open.Goals as goal

pub returns-clause-fault : goal.returns-clause-fault
returns-clause-fault c =
    let id = session_id_bytes c.args.id.req c.args.id.rsp in
    let key : c.self.inside.cipher ≡ key_of c.args.self.now = c.self.invariant ∙ ap (λ (k : DirectionSecret). key_of k) c.self.view_is in
    let iv : c.iv.result.now ≡ iv_of c.args.self.now = c.iv.ensures.value ∙ ap (λ (k : DirectionSecret). iv_of k) c.self.view_is in
    subst (λ (v : List ℕ). MatchResult c.open_by.result (λ _. fault_of (key_of c.args.self.now) v id c.args.number c.args.sealed.now ≡ None) (λ e. fault_of (key_of c.args.self.now) v id c.args.number c.args.sealed.now ≡ Some e)) iv
    (subst (λ (k : List ℕ). MatchResult c.open_by.result (λ _. fault_of k c.iv.result.now id c.args.number c.args.sealed.now ≡ None) (λ e. fault_of k c.iv.result.now id c.args.number c.args.sealed.now ≡ Some e)) key c.open_by.ensures.fault)

pub returns-clause-opens : goal.returns-clause-opens
returns-clause-opens c =
    let id = session_id_bytes c.args.id.req c.args.id.rsp in
    let key : c.self.inside.cipher ≡ key_of c.args.self.now = c.self.invariant ∙ ap (λ (k : DirectionSecret). key_of k) c.self.view_is in
    let iv : c.iv.result.now ≡ iv_of c.args.self.now = c.iv.ensures.value ∙ ap (λ (k : DirectionSecret). iv_of k) c.self.view_is in
    subst (λ (v : List ℕ). (inner pad : List ℕ) → c.args.sealed.now ≡ record_of (key_of c.args.self.now) v id c.args.number inner pad → length c.args.sealed.now ≤ 4160 → IsOk c.open_by.result × (c.open_by.new.out ≡ inner)) iv
    (subst (λ (k : List ℕ). (inner pad : List ℕ) → c.args.sealed.now ≡ record_of k c.iv.result.now id c.args.number inner pad → length c.args.sealed.now ≤ 4160 → IsOk c.open_by.result × (c.open_by.new.out ≡ inner)) key c.open_by.ensures.opens)
