-- The numbers that C is told in place of verdicts.
use Rattle.std.specs.Prelude.{◌≡◌, ℕ}
use Rattle.appraise.specs.declared.appraisal.Appraisal.{Appraisal}
use Rattle.appraise.specs.declared.appraisal.Appraisal.TheVariants as appraisal
use Rattle.attestor.specs.Attesting.{AttestStep}
use Rattle.attestor.specs.Standing.{IsAnswer}
use Rattle.attestor.specs.declared.progressed.Progressed.{Progressed}
use Rattle.attestor.specs.declared.progressed.Progressed.TheVariants as progress
use Rattle.c_attestor.specs.declared.verdict.Verdict.{Verdict}

-- Of this kind, at this place or index; 0 where there is none.
abbrev pub verdict_of : (kind number : ℕ) → Verdict
verdict_of kind number = record { kind = kind; number = number }

abbrev pub appraisal_told : Appraisal → Verdict
appraisal_told appraisal.Trusted = verdict_of 2 0
appraisal_told (appraisal.Malformed at) = verdict_of 3 at
appraisal_told (appraisal.Repeated index) = verdict_of 4 index
appraisal_told (appraisal.Unknown index) = verdict_of 5 index
appraisal_told (appraisal.Differs index) = verdict_of 6 index
appraisal_told (appraisal.Missing index) = verdict_of 7 index

abbrev pub progress_told : Progressed → Verdict
progress_told progress.Going = verdict_of 0 0
progress_told progress.Failed = verdict_of 1 0
progress_told (progress.Verdict appraisal) = appraisal_told appraisal

-- What is told of a step is the answer to what is decided at it, in its numbers.
pub record IsToldOf (step : AttestStep) (told : Verdict) : Type 0 where
  pub progress : Progressed
  pub is : told ≡ progress_told progress
  pub answer : IsAnswer step.after.rules step.decides progress
