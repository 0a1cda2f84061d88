-- The outcome for a capture is as exact as the answer that it tells.
use Rattle.std.proofs.Common.{◌≡◌, ◌∙◌, ◌⊎◌, inl, inr, ℕ, List, Bool, true, false, Option, refl, sym, ap, subst, Result, Ok, Err}
use Rattle.std.proofs.lemmas.Bool.{false≢true}
use Rattle.script_text.specs.declared.texts.script.Capture.{Capture}
use Rattle.spdm_command.specs.Checks.{IsJudgedExactly, outcome_of}
use Rattle.spdm_command.specs.declared.outcome.Outcome.{Outcome}
use Rattle.spdm_command.specs.declared.outcome.Outcome.TheVariants.{Done, Differs, OutOfMemory}
use Rattle.spdm_grammar.specs.declared.told.why.Why.{Why}
use Rattle.spdm_grammar.specs.declared.told.why.Why.TheVariants.{BadPacket}
use Rattle.trace_check.specs.Answers.{IsExact}
use Rattle.trace_check.specs.declared.answer.CheckAnswer.{CheckAnswer}
use Rattle.trace_check.specs.declared.answer.CheckAnswer.TheVariants as answer
use Rattle.trace_check.specs.declared.answer.CheckFault.{CheckFault}
use Rattle.trace_check.specs.declared.answer.CheckFault.TheVariants as fault

abbrev is_done : Outcome → Bool
is_done Done = true
is_done _ = false

abbrev is_differs : Outcome → Bool
is_differs (Differs packet why) = true
is_differs _ = false

abbrev packet_in : Outcome → ℕ
packet_in (Differs packet why) = packet
packet_in _ = 0

abbrev why_in : Outcome → Why
why_in (Differs packet why) = why
why_in _ = BadPacket

conforms_told : (a : Result CheckAnswer CheckFault) → outcome_of a ≡ Done → a ≡ Ok answer.Conforms
conforms_told (Ok answer.Conforms) is = refl
conforms_told (Ok (answer.Differs packet why)) is = absurd (false≢true (ap is_done is))
conforms_told (Err (fault.Line line f)) is = absurd (false≢true (ap is_done is))
conforms_told (Err fault.TooLong) is = absurd (false≢true (ap is_done is))
conforms_told (Err fault.ReadFault) is = absurd (false≢true (ap is_done is))
conforms_told (Err fault.WriteFault) is = absurd (false≢true (ap is_done is))
conforms_told (Err fault.OutOfMemory) is = absurd (false≢true (ap is_done is))

differs_told : (a : Result CheckAnswer CheckFault) (packet : ℕ) (why : Why) → outcome_of a ≡ Differs packet why → a ≡ Ok (answer.Differs packet why)
differs_told (Ok answer.Conforms) packet why is = absurd (false≢true (ap is_differs is))
differs_told (Ok (answer.Differs number because)) packet why is =
    ap (λ (n : ℕ). Ok (answer.Differs n because)) (ap packet_in is) ∙ ap (λ (w : Why). Ok (answer.Differs packet w)) (ap why_in is)
differs_told (Err (fault.Line line f)) packet why is = absurd (false≢true (ap is_differs is))
differs_told (Err fault.TooLong) packet why is = absurd (false≢true (ap is_differs is))
differs_told (Err fault.ReadFault) packet why is = absurd (false≢true (ap is_differs is))
differs_told (Err fault.WriteFault) packet why is = absurd (false≢true (ap is_differs is))
differs_told (Err fault.OutOfMemory) packet why is = absurd (false≢true (ap is_differs is))

told_exactly : (capture : Capture) (a : Result CheckAnswer CheckFault) → IsExact capture a → IsJudgedExactly capture (outcome_of a)
told_exactly capture a exact = record {
  conforms = (λ is. exact.conforms.0 (conforms_told a is), λ c. ap outcome_of (exact.conforms.1 c));
  differs = λ packet why. ((λ is. (exact.differs packet why).0 (differs_told a packet why is)), (λ d. ap outcome_of ((exact.differs packet why).1 d)));
}

pub judged_exactly : (capture : Capture) (a : Result CheckAnswer CheckFault) → (a ≡ Err fault.OutOfMemory) ⊎ IsExact capture a → (outcome_of a ≡ OutOfMemory) ⊎ IsJudgedExactly capture (outcome_of a)
judged_exactly capture a (inl none) = inl (ap outcome_of none)
judged_exactly capture a (inr exact) = inr (told_exactly capture a exact)
