-- What opens under a number opens under the one that the record tells.
use Rattle.std.proofs.Common.{◌≡◌, ◌∙◌, ap, subst, ℕ, List}
use Rattle.std.specs.Prelude.{Result, Ok, Err, Some, None, MatchResult, OnOk}
use Rattle.capture_records.specs.Opening.{IsTried, number_in}
use Rattle.key_schedule.specs.Purpose.{Purpose}
use Rattle.spdm_basis.specs.SessionIdBytes.{session_id_bytes}
use Rattle.spdm_basis.specs.declared.RecordFault.{RecordFault}
use Rattle.spdm_basis.specs.declared.SessionId.{SessionId}
use Rattle.spdm_grammar.specs.declared.messages.choice.Choice.{Choice}
use Rattle.spdm_machine.specs.Keys.{inner_message, record_fault}

pub tried : (r : Result Unit RecordFault) (choice : Choice) (p : Purpose) (id : SessionId) (sealed out : List ℕ) (n : ℕ) → n ≡ number_in sealed
    → MatchResult r (λ _. record_fault choice p n (session_id_bytes id.req id.rsp) sealed ≡ None) (λ e. record_fault choice p n (session_id_bytes id.req id.rsp) sealed ≡ Some e)
    → OnOk r (out ≡ inner_message choice p n sealed) → IsTried choice p id sealed r out
tried (Ok u) choice p id sealed out n is fault inner = (
  subst (λ (k : ℕ). record_fault choice p k (session_id_bytes id.req id.rsp) sealed ≡ None) is fault,
  inner ∙ ap (λ (k : ℕ). inner_message choice p k sealed) is,
)
tried (Err e) choice p id sealed out n is fault inner =
    subst (λ (k : ℕ). record_fault choice p k (session_id_bytes id.req id.rsp) sealed ≡ Some e) is fault
