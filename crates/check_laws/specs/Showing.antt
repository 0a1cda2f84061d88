-- A request shows its command, and the values that the requester chose for it. This project's own.
use Rattle.std.specs.Prelude.{◌≡◌, ◌≤◌, ◌↔◌, ℕ, List, [], length, false, Option, Some, None}
use Rattle.requester_machine.specs.Asking.{asks}
use Rattle.requester_machine.specs.Asking.Outcome.{Adds}
use Rattle.requester_machine.specs.Commands.{Free, command_fault}
use Rattle.requester_machine.specs.History.{History, outstanding}
use Rattle.requester_machine.specs.History.Entry.{Told}
use Rattle.requester_machine.specs.May.{IsAllowed, IsSetUp}
use Rattle.requester_machine.specs.Message.{Command}
use Rattle.requester_machine.specs.Message.Command.{Beat, Connect, End, Measure, Open, Send, Update}
use Rattle.requester_machine.specs.Records.{sealed_next}
use Rattle.requester_machine.specs.Sending.{inner_data, inner_request, key_update, operation_of, plain_sent}
use Rattle.requester_machine.specs.Session.{session_of}
use Rattle.requester_machine.specs.Setup.{ReqSetup}
use Rattle.spdm_grammar.specs.Message.{RequestMessage}
use Rattle.spdm_grammar.specs.Message.RequestMessage.{EndSession, GetMeasurements, GetVersion, Heartbeat, PskExchange}
use Rattle.spdm_grammar.specs.Requests.{canonical_request}
use Rattle.spdm_machine.specs.Bodies.{clear_body, record_body}
use Rattle.check_laws.specs.Keeping.{CommandsKept, Kept}
use Rattle.capture_machine.specs.Rounds.{no_draw}
use Rattle.spdm_grammar.specs.declared.names.TheConstants.{MAX_PADDING}

-- The command that sends such a request in the clear; none sends the others so.
abbrev pub command_shown : RequestMessage → Option Command
command_shown GetVersion = Some Connect
command_shown (PskExchange exchange) = Some (Open exchange.summary)
command_shown (GetMeasurements op) = Some (Measure None op)
command_shown _ = None

-- The values in its fields. Only PSK_EXCHANGE has any; of the others nothing depends on them.
abbrev pub values_shown : RequestMessage → Free
values_shown (PskExchange exchange) = record { id = exchange.req_id; context = exchange.context; opaque = exchange.opaque; pad = [] }
values_shown _ = record { id = 1; context = []; opaque = []; pad = [] }

-- A requester may choose these.
abbrev pub AreAllowed : ReqSetup → History → RequestMessage → Type 0
AreAllowed q h (PskExchange exchange) = IsAllowed q h (values_shown (PskExchange exchange))
AreAllowed q h _ = Unit {0}

-- At these values its command sends it, whole in one message.
abbrev pub IsCommanded : ReqSetup → History → RequestMessage → Type 0
IsCommanded q h asked =
    (command : Command) × (command_shown asked ≡ Some command) × AreAllowed q h asked
    × (asks false q h command (values_shown asked) no_draw ≡ Adds (Told command (plain_sent h asked) no_draw))

-- A command sends this body exactly when it encodes a request that its command sends at the values that it shows.
abbrev pub ClearIsShown : Type 0
ClearIsShown = (k : Kept) (m : List ℕ) → IsSetUp k.setup → k.owed ≡ None → outstanding k.requester ≡ None
    → ((after : History) × CommandsKept k (clear_body m) after) ↔ ((asked : RequestMessage) × IsCommanded k.setup k.requester asked × (m ≡ canonical_request asked))

-- ---- In a session.

-- The session that a command asks something of, and its inner message; none for a command that sends no record.
abbrev pub inner_for : History → Command → Option (ℕ × List ℕ)
inner_for h (Send id bytes) = Some (id, inner_data bytes)
inner_for h (Beat id) = Some (id, inner_request Heartbeat)
inner_for h (Update id all) = Some (id, inner_request (key_update (session_of id h) (operation_of all)))
inner_for h (Measure (Some id) op) = Some (id, inner_request (GetMeasurements op))
inner_for h (End id) = Some (id, inner_request EndSession)
inner_for h _ = None

-- A command without a fault has this inner message, and the record is that, sealed as the next one of its session with
-- a padding of at most 16 bytes.
abbrev pub IsCommandedIn : ReqSetup → History → List ℕ → Type 0
IsCommandedIn q h sealed =
    (command : Command) × (id : ℕ) × (inner : List ℕ) × (pad : List ℕ)
    × (inner_for h command ≡ Some (id, inner)) × (length pad ≤ MAX_PADDING)
    × (command_fault false q h command (values_shown EndSession) ≡ None)
    × (sealed ≡ sealed_next q.psk (session_of id h) inner pad)

-- A command sends this record exactly when that holds.
abbrev pub SealedIsShown : Type 0
SealedIsShown = (k : Kept) (sealed : List ℕ) → IsSetUp k.setup → k.owed ≡ None → outstanding k.requester ≡ None
    → ((after : History) × CommandsKept k (record_body sealed) after) ↔ IsCommandedIn k.setup k.requester sealed
