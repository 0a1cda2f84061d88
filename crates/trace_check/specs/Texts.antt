-- What a text comes to as a capture. This project's own.
use Rattle.std.specs.Prelude.{◌≡◌, ℕ, List, Result, Ok, Err}
use Rattle.check_laws.specs.Verdict.{IsVerdict}
use Rattle.check_laws.specs.declared.verdict.Verdict.{Verdict}
use Rattle.script_ends.specs.Configured.{configuration_in}
use Rattle.script_text.specs.Reading.{IsReading}
use Rattle.script_text.specs.ScriptText.{capture_in}
use Rattle.script_text.specs.declared.texts.faults.ScriptFault.{ScriptFault}
use Rattle.script_text.specs.declared.texts.script.Capture.{Capture}

-- The text is a capture that has this verdict; or this is its first bad line. Allocation failure says nothing.
abbrev pub IsCheckedText : (text : List ℕ) → Result Verdict ScriptFault → Type 0
IsCheckedText text (Ok told) =
    (capture : Capture) × (capture_in text ≡ Ok capture) × IsVerdict (configuration_in capture.config) capture.packets told
IsCheckedText text (Err fault) = IsReading (capture_in text) (Err fault)
