-- The application message that is told of a packet before it is taken.
use Rattle.std.specs.Prelude.{◌≡◌, ◌≤◌, ℕ, length, Option, Some, None}
use Rattle.responder.specs.declared.peeking.Peeked.{Peeked}
use Rattle.responder_machine.specs.NewData.{Message}
use Rattle.spdm_grammar.specs.declared.names.TheConstants.{MAX_APP_DATA_LEN}

-- This is told, of an endpoint: the message that comes from there, where one comes.
abbrev pub IsBrought : Option Peeked → (eid : ℕ) → Option Message → Type 0
IsBrought None eid m = m ≡ None
IsBrought (Some peeked) eid m = (peeked.eid.number ≡ eid) × (m ≡ Some (peeked.id, peeked.data.now)) × (length peeked.data.now ≤ MAX_APP_DATA_LEN)
