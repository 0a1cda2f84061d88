-- What the responder gives: what is said of an answer, by what it shows. This project's own.
use Rattle.std.specs.Prelude.{◌≡◌, ℕ, List, slice_index, Option, Some, None}
use Rattle.responder_machine.specs.Setup.{RspSetup}
use Rattle.check_responder.specs.JudgedResponder.{IsAnswerer, history_shown}
use Rattle.check_laws.specs.ApartShown.{IsApartShown}
use Rattle.check_responder.specs.ClearAnswers.{EndsLarge}
use Rattle.check_laws.specs.DropsShown.{IsShownAnswer}
use Rattle.check_laws.specs.LargeShown.{IsShownLarge}
use Rattle.check_responder.specs.declared.judged_responder.JudgedResponder.{JudgedResponder}
use Rattle.check_responder.specs.declared.given.Given.{Given}
use Rattle.check_responder.specs.declared.given.Given.TheVariants as given
use Rattle.check_responder.specs.declared.given.Judged.{Judged}
use Rattle.check_responder.specs.declared.given.Judged.TheVariants as judged
use Rattle.capture_machine.specs.Rounds.{Dialogue, Round}

-- An answer may not be given by what it shows: whole, as one that begins a large response, or as one that ends one.
pub record IsGivenNever (r : RspSetup) (d : Dialogue) (round : Round) (answer : List ℕ) : Type 0 where
  pub whole : IsShownAnswer r d.responder round.tag round.body answer → ⊥
  pub large : IsShownLarge r d.responder round.tag round.body answer → ⊥
  pub last : EndsLarge r d.responder round.tag round.body answer → ⊥

-- What is said of an answer; where it goes whole, the history after it is kept.
abbrev pub IsGiven : RspSetup → Dialogue → Round → (answer : List ℕ) → Judged → (new : JudgedResponder) → Type 0
IsGiven r d round answer (judged.Given given.Whole) new =
    IsShownAnswer r d.responder round.tag round.body answer × IsAnswerer new r (history_shown r d.responder round.tag round.body answer)
IsGiven r d round answer (judged.Given given.Large) new = IsShownLarge r d.responder round.tag round.body answer
IsGiven r d round answer (judged.Given given.Last) new = EndsLarge r d.responder round.tag round.body answer
IsGiven r d round answer judged.Apart new = IsGivenNever r d round answer × IsApartShown r d round answer
IsGiven r d round answer judged.Refused new = IsGivenNever r d round answer × (IsApartShown r d round answer → ⊥)

-- What is said of an answer to a record, by what it brings: its verify data are never alone wrong.
abbrev pub judged_of : Option Given → Judged
judged_of None = judged.Refused
judged_of (Some brought) = judged.Given brought

-- An answer whose verify data are alone wrong is in the clear.
abbrev pub IsApartInClear : RspSetup → Dialogue → Round → (answer : List ℕ) → Type 0
IsApartInClear r d round answer = IsApartShown r d round answer → slice_index answer 0 ≡ 5
