-- An ask of an open session is a command of the definitions of a requester.
use Rattle.std.specs.Prelude.{◌≡◌, ℕ, ◌∷◌, true, false, Option, Some, None}
use Rattle.requester_machine.specs.Asking as asking
use Rattle.requester_machine.specs.Asking.Outcome.{Fails, Adds}
use Rattle.requester_machine.specs.Commands.{Free, is_negotiated}
use Rattle.requester_machine.specs.History.{History, outstanding, phase_of}
use Rattle.requester_machine.specs.History.Entry.{Told}
use Rattle.requester_machine.specs.Message.{Command, Sent}
use Rattle.requester_machine.specs.Message.Command.{Send, Beat, Update, Measure, End}
use Rattle.requester_machine.specs.Session.{session_of, is_live}
use Rattle.requester_machine.specs.Setup.{ReqSetup}
use Rattle.spdm_grammar.specs.declared.told.command_fault.CommandFault.{CommandFault}
use Rattle.spdm_grammar.specs.declared.told.command_fault.CommandFault.TheVariants as fault
use Rattle.spdm_machine.specs.Keys.{Draw}
use Rattle.psk_session.specs.SessionRequest.{ask_fault, asked}
use Rattle.psk_session.specs.declared.session_request.SessionRequest.{SessionRequest}
use Rattle.psk_session.specs.declared.session_request.SessionRequest.TheVariants as ask
use Rattle.psk_session.specs.declared.ask_fault.AskFault.{AskFault}
use Rattle.psk_session.specs.declared.ask_fault.AskFault.TheVariants.{NotNegotiated, KeySpent, TooLong}

-- The command that asks it of the session with this ReqSessionID.
abbrev pub command_at : ℕ → SessionRequest → Command
command_at id (ask.Data bytes) = Send id bytes.now
command_at id ask.Beat = Beat id
command_at id ask.UpdateKey = Update id false
command_at id ask.UpdateAll = Update id true
command_at id (ask.Measure op) = Measure (Some id) op
command_at id ask.End = End id

-- The fault of that command.
abbrev pub command_fault_of : AskFault → CommandFault
command_fault_of NotNegotiated = fault.NotNegotiated
command_fault_of KeySpent = fault.KeySpent
command_fault_of TooLong = fault.TooLong

-- The command fails with the fault of the ask; without one it adds the record that asks it to the session.
abbrev pub LeadsBy : ReqSetup → History → Free → Draw → (id : ℕ) → SessionRequest → Option AskFault → Type 0
LeadsBy q h f d id a (Some cause) =
    asking.asks false q h (command_at id a) f d ≡ Fails (command_fault_of cause)
LeadsBy q h f d id a None =
    (sent : Sent)
    × (asking.asks false q h (command_at id a) f d ≡ Adds (Told (command_at id a) sent d))
    × (session_of id (Told (command_at id a) sent d ∷ h) ≡ asked q.psk (session_of id h) a f.pad)

-- So it is at each connected requester that is not worn out, has nothing outstanding, and whose session with this id is
-- live.
abbrev pub AskIsCommand : Type 0
AskIsCommand = (q : ReqSetup) (h : History) (f : Free) (d : Draw) (id : ℕ) (a : SessionRequest)
    → outstanding h ≡ None → is_negotiated (phase_of h) ≡ true → is_live (session_of id h) ≡ true
    → LeadsBy q h f d id a (ask_fault (session_of id h) a)
