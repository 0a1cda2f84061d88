-- What a body leaves as it was that is refused, comes again, or does not open.
use Rattle.std.specs.Prelude.{◌≡◌, ℕ, List, Some}
use Rattle.responder_machine.specs.Answer.{Free}
use Rattle.responder_machine.specs.Handling.{error_bytes}
use Rattle.responder_machine.specs.History.{History}
use Rattle.responder_machine.specs.History.Entry.{Sealed}
use Rattle.responder_machine.specs.Place.{clear_place, session_place}
use Rattle.responder_machine.specs.Refusal.{refusal}
use Rattle.responder_machine.specs.Responder.{after, on_clear, on_record}
use Rattle.responder_machine.specs.Responder.Outcome.{Adds}
use Rattle.responder_machine.specs.SameSession.{IsSameConnection, IsSameSession}
use Rattle.responder_machine.specs.Session.{id_in_record, session_of}
use Rattle.responder_machine.specs.Setup.{RspSetup}
use Rattle.responder_machine.specs.Turn.{Turn}
use Rattle.spdm_grammar.specs.ErrorNumber.{error_number}
use Rattle.spdm_grammar.specs.declared.messages.error_code.ErrorCode.{ErrorCode}
use Rattle.spdm_grammar.specs.declared.told.heard.Heard.{Heard}
use Rattle.spdm_grammar.specs.declared.told.heard.Heard.TheVariants as heard
use Rattle.spdm_machine.specs.Keys.{Draw}

-- A clear message is refused: the table gives the code that is told, its ERROR is sent, each session is exactly what it
-- was, and so is the rest of the connection.
pub record IsRefusedClear (r : RspSetup) (h : History) (tag : ℕ) (m : List ℕ) (f : Free) (d : Draw) (code : ℕ) (out : List ℕ) : Type 0 where
  pub error : ErrorCode
  pub refused : refusal r (clear_place h) m f ≡ Some error
  pub told : code ≡ error_number error
  pub sent : out ≡ error_bytes r (clear_place h) m f error
  pub sessions : (id : ℕ) → session_of id (after h (on_clear r h tag m f d)) ≡ session_of id h
  pub connection : IsSameConnection h (after h (on_clear r h tag m f d))

-- A clear message that is refused is harmless, and one that comes again changes nothing.
abbrev pub IsClearHarmless : RspSetup → History → (tag : ℕ) → List ℕ → Free → Draw → Heard → (out : List ℕ) → Type 0
IsClearHarmless r h tag m f d (heard.Refused code) out = IsRefusedClear r h tag m f d code out
IsClearHarmless r h tag m f d heard.Same out = after h (on_clear r h tag m f d) ≡ h
IsClearHarmless r h tag m f d _ out = Unit {0}

-- The request in a record is refused: its turn has the code that is told, its ERROR is sealed in the record that is
-- sent, each session is what it was but for the numbers, the stored reply and the clock of the one that it names, and
-- so is the rest of the connection.
pub record IsRefusedRecord (r : RspSetup) (h : History) (tag : ℕ) (m : List ℕ) (f : Free) (d : Draw) (code : ℕ) (out : List ℕ) : Type 0 where
  pub error : ErrorCode
  pub turn : Turn
  pub taken : on_record r h tag m f d ≡ Adds (Sealed tag m turn out d)
  pub refused : turn.refused ≡ Some error
  pub told : code ≡ error_number error
  pub sent : turn.reply ≡ error_bytes r (session_place (session_of (id_in_record m) h)) turn.message f error
  pub sessions : (id : ℕ) → IsSameSession (session_of id h) (session_of id (after h (on_record r h tag m f d)))
  pub connection : IsSameConnection h (after h (on_record r h tag m f d))

-- A record whose request is refused is harmless; one that comes again, and one that does not open, change nothing.
abbrev pub IsRecordHarmless : RspSetup → History → (tag : ℕ) → List ℕ → Free → Draw → Heard → (out : List ℕ) → Type 0
IsRecordHarmless r h tag m f d (heard.Refused code) out = IsRefusedRecord r h tag m f d code out
IsRecordHarmless r h tag m f d heard.Same out = after h (on_record r h tag m f d) ≡ h
IsRecordHarmless r h tag m f d heard.Unopened out = after h (on_record r h tag m f d) ≡ h
IsRecordHarmless r h tag m f d _ out = Unit {0}
