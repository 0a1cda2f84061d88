-- What is written of a capture: its packets, and behind them the first of them that does not conform. This project's own.
use Rattle.std.specs.Prelude.{◌≡◌, ◌++◌, ◌⊎◌, ℕ, List, Option, Result, Ok, Err}
use Rattle.capture_difference.specs.Difference.{IsJudged}
use Rattle.capture_difference.specs.Texts.{difference_text}
use Rattle.capture_difference.specs.declared.difference.Difference.{Difference}
use Rattle.packet_text.specs.Told.{packets_text}
use Rattle.packet_text.specs.declared.style.Style.{Style}
use Rattle.script_ends.specs.Configured.{configuration_in}
use Rattle.script_text.specs.Reading.{IsReading}
use Rattle.script_text.specs.ScriptText.{capture_in}
use Rattle.script_text.specs.declared.texts.faults.ScriptFault.{ScriptFault}
use Rattle.script_text.specs.declared.texts.script.Capture.{Capture}
use Rattle.spdm_basis.specs.Stream.{Takes, TakesPrefix}

-- A text is a capture of which this is told.
abbrev pub IsJudgedText : List ℕ → Option Difference → Type 0
IsJudgedText text told = (capture : Capture) × (capture_in text ≡ Ok capture) × IsJudged (configuration_in capture.config) capture.packets told

-- Or this is its first bad line. Allocation failure says nothing.
abbrev pub IsReadJudged : (text : List ℕ) → Result (Option Difference) ScriptFault → Type 0
IsReadJudged text (Ok told) = IsJudgedText text told
IsReadJudged text (Err fault) = IsReading (capture_in text) (Err fault)

abbrev pub judged_text : Style → List ℕ → Option Difference → List ℕ
judged_text style text told = packets_text style text ++ difference_text style told

-- All of it was written.
abbrev pub IsWritten : Style → (text : List ℕ) → (old new : Option (List ℕ)) → Type 0
IsWritten style text old new = (told : Option Difference) × IsJudgedText text told × Takes old (judged_text style text told) new

-- Nothing was written, or a beginning of it.
abbrev pub IsBegun : Style → (text : List ℕ) → (old new : Option (List ℕ)) → Type 0
IsBegun style text old new =
    (new ≡ old) ⊎ ((told : Option Difference) × IsJudgedText text told × TakesPrefix old (judged_text style text told) new)
