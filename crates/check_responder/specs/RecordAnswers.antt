-- How the program judges an answer to a record: what it brings is determined by its inner message. This project's own.
use Rattle.std.specs.Prelude.{◌≡◌, ◌==◌, ◌&&◌, ◌↔◌, if◌then◌else◌, Bool, ℕ, List, slice_index, drop, Option, Some, None}
use Rattle.responder_machine.specs.Answer.{Free}
use Rattle.responder_machine.specs.History.{History}
use Rattle.responder_machine.specs.May.{with_dropped}
use Rattle.responder_machine.specs.Responder.{after, on_record}
use Rattle.responder_machine.specs.Setup.{RspSetup}
use Rattle.check_responder.specs.JudgedResponder.{history_shown, shows_large}
use Rattle.check_responder.specs.ClearAnswers.{EndsLarge, given_of}
use Rattle.check_laws.specs.DropsShown.{IsShownAnswer, response_of}
use Rattle.check_laws.specs.LargeShown.{IsShownLarge, drops_before, large_shown, last_shown}
use Rattle.check_responder.specs.ShownBy.{IsRecordGiven, shows_last}
use Rattle.check_responder.specs.declared.given.Given.{Given}
use Rattle.check_responder.specs.declared.given.Given.TheVariants as given
use Rattle.capture_machine.specs.Rounds.{no_draw}
use Rattle.spdm_grammar.specs.declared.names.message_type.TheConstants.{SPDM}

-- ---- An inner message.

-- It has LargeResponse in it.
abbrev pub has_large : (inner : List ℕ) → Bool
has_large inner = slice_index inner 0 == SPDM && shows_large (response_of (drop 1 inner))

-- It has CHUNK_RESPONSE with the last chunk in it.
abbrev pub has_last : (inner : List ℕ) → Bool
has_last inner = slice_index inner 0 == SPDM && shows_last (drop 1 inner)

-- What an answer brings that has this inner message.
abbrev pub given_shown : (inner : List ℕ) → Given
given_shown inner = if has_large inner then given.Large else (if has_last inner then given.Last else given.Whole)

-- ---- An answer to a record at some values.

-- A record is answered so, and this is what the answer brings; or it is not.
abbrev pub IsRecordBrought : RspSetup → History → ℕ → (request : List ℕ) → Free → (answer : List ℕ) → Option Given → Type 0
IsRecordBrought r h tag request f answer None = IsRecordGiven r h tag request f answer → ⊥
IsRecordBrought r h tag request f answer (Some brought) = IsRecordGiven r h tag request f answer × (brought ≡ given_of h (on_record r h tag request f no_draw))

-- ---- An answer to a body, by what it shows.

-- What goes whole, or is not right.
abbrev pub whole_if : Bool → Option Given
whole_if is = if is then Some given.Whole else None

-- It brings this, or is not right.
pub record IsGivenTo (r : RspSetup) (h : History) (tag : ℕ) (body answer : List ℕ) (result : Option Given) : Type 0 where
  pub whole : (result ≡ Some given.Whole) ↔ IsShownAnswer r h tag body answer
  pub large : (result ≡ Some given.Large) ↔ IsShownLarge r h tag body answer
  pub last : (result ≡ Some given.Last) ↔ EndsLarge r h tag body answer

-- What it leads to, by what it brings.
abbrev pub history_behind : RspSetup → History → ℕ → (body answer : List ℕ) → Given → History
history_behind r h tag body answer given.Whole = history_shown r h tag body answer
history_behind r h tag body answer given.Large = after (with_dropped h (drops_before h body)) (large_shown r h tag body answer)
history_behind r h tag body answer given.Last = after h (last_shown r h tag body answer)
