-- What holds of a reader before its first line, and is kept by each line without a fault, holds at the end.
use Rattle.std.proofs.Common.{◌≡◌, ℕ, ◌+◌, List, [], ◌∷◌, refl, ap, Bool, true, false, Option, Some, None, Result, Ok}
use Rattle.std.specs.Prelude.{if◌then◌else◌}
use Rattle.std.specs.Result.{result_unwrap_or}
use Rattle.script_text.specs.Lines.{is_passed_over}
use Rattle.script_text.specs.Reading.{read_lines, line_fault, after_line, unless_bad, whole_or_missing}
use Rattle.script_text.specs.declared.texts.faults.LineFault.{LineFault}
use Rattle.script_text.specs.declared.texts.faults.ScriptFault.{ScriptFault}
use Rattle.spdm_basis.proofs.Options.{both}

-- a test is passed, and so are those after it

module _ {S V : Type 0} (fault : S → List ℕ → Option LineFault) (after : S → ℕ → List ℕ → S) (whole : S → Option V) (Holds : S → Type 0)
    (kept : (state : S) (number : ℕ) (line : List ℕ) → fault state line ≡ None → Holds state → Holds (after state number line)) where
  kept_by : (passed_over : Bool) (state : S) (number : ℕ) (line : List ℕ) → (if passed_over then None else fault state line) ≡ None →
      Holds state → Holds (if passed_over then state else after state number line)
  kept_by true state number line passed holds = holds
  kept_by false state number line passed holds = kept state number line passed holds

  kept_behind : (state : S) (number : ℕ) (line : List ℕ) → line_fault fault state line ≡ None → Holds state → Holds (after_line after state number line)
  kept_behind state number line fails holds = kept_by (is_passed_over line) state number line (both _ _ _ fails).1 holds

  -- the line has no fault, and the others are read
  goes_on : (found : Option LineFault) (number : ℕ) (others : Result V ScriptFault) (v : V) → unless_bad number found others ≡ Ok v → (found ≡ None) × (others ≡ Ok v)
  goes_on None number others v h = (refl, h)
  goes_on (Some f) number others v h = cc h

  at_end : (number : ℕ) (read : Option V) (v : V) → whole_or_missing number read ≡ Ok v → read ≡ Some v
  at_end number None v h = cc h
  at_end number (Some w) v h = ap (λ (r : Result V ScriptFault). Some (result_unwrap_or r w)) h

  -- so it holds of what was read
  pub held : (lines : List (List ℕ)) (number : ℕ) (state : S) (v : V) → read_lines fault after whole number state lines ≡ Ok v → Holds state →
      (last : S) × (whole last ≡ Some v) × Holds last
  held [] number state v h holds = (state, at_end number (whole state) v h, holds)
  held (line ∷ lines) number state v h holds =
      let on = goes_on (line_fault fault state line) number (read_lines fault after whole (number + 1) (after_line after state number line) lines) v h in
      held lines (number + 1) (after_line after state number line) v on.1 (kept_behind state number line on.0 holds)
