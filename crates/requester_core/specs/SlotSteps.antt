-- What is done with the session of one ReqSessionID, beside records that come.
use Rattle.std.specs.Prelude.{◌≡◌, ℕ, List, not, if◌then◌else◌, Option, Some, None, Result, Ok, Err}
use Rattle.std.specs.Option.{option_map}
use Rattle.requester_core.specs.Slot.{IsSlotOf}
use Rattle.requester_core.specs.declared.in_sessions.slot.Slot.{Slot}
use Rattle.psk_session.specs.AskLaws.{command_fault_of}
use Rattle.psk_session.specs.SessionRequest.{ask_fault, asked}
use Rattle.psk_session.specs.Opening.{finishing, open_fault, started}
use Rattle.psk_session.specs.declared.session_request.SessionRequest.{SessionRequest}
use Rattle.psk_session.specs.declared.open_fault.OpenFault.{OpenFault}
use Rattle.requester_machine.specs.Session.{Steps, is_live}
use Rattle.spdm_grammar.specs.declared.told.command_fault.CommandFault.{CommandFault}
use Rattle.spdm_grammar.specs.declared.told.command_fault.CommandFault.TheVariants as fault
use Rattle.transcript.specs.Transcripts.{Negotiation}

-- The fault of a command that asks this of a session of these steps, where there is one.
abbrev pub fault_in : Steps → SessionRequest → Option CommandFault
fault_in s a = if not (is_live s) then Some fault.NoSuchSession else option_map command_fault_of (ask_fault s a)

-- The session with the record that asks it, padded so; or the same session, with this fault.
abbrev pub IsAskedOf : (psk : List ℕ) → Steps → SessionRequest → (pad : List ℕ) → (new : Slot)
    → Result Unit CommandFault → Type 0
IsAskedOf psk s a pad new (Ok u) = (fault_in s a ≡ None) × IsSlotOf new psk (asked psk s a pad)
IsAskedOf psk s a pad new (Err fault) = (fault_in s a ≡ Some fault) × IsSlotOf new psk s

-- The session that an answer to PSK_EXCHANGE accepted, whose PSK_FINISH has this padding; or the same session, with the
-- fault of the answer.
abbrev pub IsAcceptedBy : (psk : List ℕ) → Negotiation → (exchange answer pad : List ℕ)
    → (new : Slot) → Result Unit OpenFault → Type 0
IsAcceptedBy psk n exchange answer pad new (Ok u) =
    (open_fault psk n exchange answer ≡ None)
    × IsSlotOf new psk (finishing psk n exchange answer pad)
IsAcceptedBy psk n exchange answer pad new (Err fault) =
    (open_fault psk n exchange answer ≡ Some fault) × IsSlotOf new psk (started n exchange)
