-- Whether an answer in the clear begins a large one, by what would be said of it.
use Rattle.std.proofs.Common.{◌≡◌, ◌↔◌, ◌∙◌, ℕ, List, [], refl, sym, Bool, true, false, Option, Some, None}
use Rattle.std.proofs.lemmas.Bool.{false≢true}
use Rattle.std.proofs.lemmas.Option.{none-some}
use Rattle.responder_machine.specs.History.{History, kept_of}
use Rattle.responder_machine.specs.May.{with_dropped}
use Rattle.responder_machine.specs.Responder.{is_repeat}
use Rattle.responder_machine.specs.Setup.{RspSetup}
use Rattle.spdm_machine.specs.Bodies.{clear_body}
use Rattle.check_responder.proofs.ClearAnew.{judged_anew, large_never}
use Rattle.check_responder.proofs.ClearJudged.{again_still, large_to, never_large}
use Rattle.check_responder.specs.JudgedResponder.{shows_large}
use Rattle.check_responder.specs.ClearAnswers.{IsGivenAt, dropped_before, first_of_held, is_large_given}
use Rattle.check_responder.specs.declared.given.Given.{Given}
use Rattle.check_responder.specs.declared.given.Given.TheVariants as kinds
use Rattle.check_laws.specs.AnswersShown.{clear_values}
use Rattle.check_laws.specs.DropsShown.{response_of}
use Rattle.check_laws.specs.LargeShown.{IsShownLarge}

-- By what it brings.
large_by : (S : Type 0) (o : Option Given) → (o ≡ Some kinds.Large) ↔ S → (is_large_given o ≡ true) ↔ S
large_by S None both = (λ is. absurd (false≢true is), λ s. absurd (none-some kinds.Large (both.1 s)))
large_by S (Some kinds.Large) both = (λ is. both.0 refl, λ s. refl)
large_by S (Some kinds.Whole) both = (λ is. absurd (false≢true is), λ s. absurd (let e = both.1 s in cc))
large_by S (Some kinds.Last) both = (λ is. absurd (false≢true is), λ s. absurd (let e = both.1 s in cc))

module _ (r : RspSetup) (tag : ℕ) (m reply : List ℕ) (h : History) where
  abbrev Begins : Type 0
  Begins = IsShownLarge r h tag (clear_body m) (clear_body reply)

  -- A repeat does not.
  pub again_not : is_repeat (kept_of h) tag m ≡ true → (false ≡ true) ↔ Begins
  again_not again = (
    λ is. absurd (false≢true is),
    λ s. absurd (never_large r tag m reply h again (with_dropped h (first_of_held h)) _ (again_still r tag m reply h (first_of_held h) true again) (large_to r tag m reply h s)),
  )

  -- Nor does what is no LargeResponse.
  pub small_not : is_repeat (kept_of h) tag m ≡ false → shows_large (response_of reply) ≡ false → (false ≡ true) ↔ Begins
  small_not anew small = (λ is. absurd (false≢true is), λ s. absurd (large_never r tag m reply h anew small s))

  pub anew_by : is_repeat (kept_of h) tag m ≡ false → (o : Option Given)
      → IsGivenAt r (with_dropped h (dropped_before h reply)) tag m (clear_values r (with_dropped h (dropped_before h reply)) m reply) reply o
      → (is_large_given o ≡ true) ↔ Begins
  anew_by anew o given = large_by Begins o (judged_anew r tag m reply h anew o given).large
