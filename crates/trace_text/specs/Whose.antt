-- Ends and answers as the printers are given them. This project's own.
use Rattle.std.specs.Prelude.{ℕ, if◌then◌else◌, Bool, Option, Some, None, Result, Ok, Err}
use Rattle.spdm_grammar.specs.Lines.{Whose}
use Rattle.spdm_grammar.specs.Lines.Whose.{Requester, Responder}

-- Requester q, or the responder towards it.
abbrev pub whose_of : ℕ → Bool → Whose
whose_of q responder = if responder then Responder q else Requester q

-- The fault of an answer.
abbrev pub fault_of : {T E : Type 0} → Result T E → Option E
fault_of (Ok _) = None
fault_of (Err e) = Some e
