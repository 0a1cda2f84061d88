-- What is answered for a text as a capture, and what is written then. This project's own.
use Rattle.std.specs.Prelude.{◌≡◌, ◌<◌, ◌≤◌, ◌↔◌, ℕ, List, length, Bool, true, false, Option, Some, Result, Ok, Err}
use Rattle.capture_machine.specs.Capture.{Conforms}
use Rattle.capture_machine.specs.Difference.{IsDifference}
use Rattle.check_laws.specs.Judged.{why_of}
use Rattle.check_laws.specs.declared.verdict.Seen.{Seen}
use Rattle.check_laws.specs.declared.verdict.Verdict.{Verdict}
use Rattle.check_laws.specs.declared.verdict.Verdict.TheVariants as verdict
use Rattle.check_laws.specs.Verdict.{IsVerdict}
use Rattle.script_ends.specs.Configured.{configuration_in}
use Rattle.script_text.specs.Reading.{BadLine, bad_line_in}
use Rattle.script_text.specs.ScriptText.{capture_in}
use Rattle.script_text.specs.declared.texts.faults.LineFault.TheVariants.{TooManyEvents}
use Rattle.script_text.specs.declared.texts.faults.ScriptFault.{ScriptFault}
use Rattle.script_text.specs.declared.texts.faults.ScriptFault.TheVariants as script
use Rattle.script_text.specs.declared.texts.script.Capture.{Capture}
use Rattle.script_text.specs.declared.configuration.config_text.TheConstants.{TEXT_LIMIT}
use Rattle.spdm_basis.specs.Stream.{Takes, TakesPrefix}
use Rattle.spdm_grammar.specs.declared.told.why.Why.{Why}
use Rattle.trace_check.specs.Lines.{verdict_text}
use Rattle.trace_check.specs.declared.answer.CheckAnswer.{CheckAnswer}
use Rattle.trace_check.specs.declared.answer.CheckAnswer.TheVariants as answer
use Rattle.trace_check.specs.declared.answer.CheckFault.{CheckFault}
use Rattle.trace_check.specs.declared.answer.CheckFault.TheVariants as fault

-- ---- What a text is.

-- It has at most 4 MiB and is this capture.
abbrev pub IsCapture : (text : List ℕ) → Capture → Type 0
IsCapture text capture = (length text ≤ TEXT_LIMIT) × (capture_in text ≡ Ok capture)

-- It has at most 4 MiB, and this is its first bad line, with its first fault.
abbrev pub HasBadLine : (text : List ℕ) → BadLine → Type 0
HasBadLine text bad = (length text ≤ TEXT_LIMIT) × (bad_line_in (capture_in text) ≡ Some bad)

-- It is a capture that has this verdict.
abbrev pub HasVerdict : (text : List ℕ) → Verdict → Type 0
HasVerdict text told = (capture : Capture) × IsCapture text capture × IsVerdict (configuration_in capture.config) capture.packets told

-- ---- What is answered.

-- The text has this verdict, and its lines were written whole.
pub record IsWritten (text : List ℕ) (old now : Option (List ℕ)) (told : Verdict) : Type 0 where
  pub has : HasVerdict text told
  pub wrote : Takes old (verdict_text told) now

-- What is answered for a text, and what was written then. Nothing of the text is said by a call that failed, nor by
-- allocation failure.
abbrev pub IsAnswered : (text : List ℕ) → (old now : Option (List ℕ)) → Result CheckAnswer CheckFault → Type 0
IsAnswered text old now (Ok answer.Conforms) = (table : List Seen) × IsWritten text old now (verdict.Conforms table)
IsAnswered text old now (Ok (answer.Differs packet why)) = IsWritten text old now (verdict.Differs packet why)
IsAnswered text old now (Err (fault.Line line f)) = HasBadLine text (record { line = line; fault = f })
IsAnswered text old now (Err fault.TooLong) = TEXT_LIMIT < length text
IsAnswered text old now (Err fault.WriteFault) = (told : Verdict) × HasVerdict text told × TakesPrefix old (verdict_text told) now
IsAnswered text old now (Err fault.ReadFault) = now ≡ old
IsAnswered text old now (Err fault.OutOfMemory) = now ≡ old

-- The verdict on a capture is exact: that it conforms where it does and nowhere else, and a packet with a reason where
-- the first difference is that packet for this reason, and nowhere else.
pub record IsExact (capture : Capture) (given : Result CheckAnswer CheckFault) : Type 0 where
  pub conforms : (given ≡ Ok answer.Conforms) ↔ Conforms (configuration_in capture.config) capture.packets
  pub differs : (packet : ℕ) (why : Why) → (given ≡ Ok (answer.Differs packet why)) ↔ IsDifference (configuration_in capture.config) capture.packets packet (why_of why)

-- Nothing is written with this answer.
abbrev pub writes_nothing : Result CheckAnswer CheckFault → Bool
writes_nothing (Ok answer.Conforms) = false
writes_nothing (Ok (answer.Differs packet why)) = false
writes_nothing (Err fault.WriteFault) = false
writes_nothing (Err _) = true

-- What is reported of a verdict.
abbrev pub answer_of : Verdict → CheckAnswer
answer_of (verdict.Conforms table) = answer.Conforms
answer_of (verdict.Differs packet why) = answer.Differs packet why

-- The fault of a text that is not a capture, as it is reported.
abbrev pub fault_of : ScriptFault → CheckFault
fault_of (script.Line line f) = fault.Line line f
fault_of (script.TooManyEvents line) = fault.Line line TooManyEvents
fault_of script.OutOfMemory = fault.OutOfMemory

-- ---- What is to be answered.

-- What there is to find of a text: it is too long, has this first bad line, or is a capture with this verdict.
pub data Finding : Type 0 where
  LongText : Finding
  BadText : (bad : BadLine) → Finding
  Judged : (told : Verdict) → Finding

-- This is to be found of the text.
abbrev pub HasFinding : (text : List ℕ) → Finding → Type 0
HasFinding text LongText = TEXT_LIMIT < length text
HasFinding text (BadText bad) = HasBadLine text bad
HasFinding text (Judged told) = HasVerdict text told

-- The answer where nothing fails, and memory does not run out.
abbrev pub answer_for : Finding → Result CheckAnswer CheckFault
answer_for LongText = Err fault.TooLong
answer_for (BadText bad) = Err (fault.Line bad.line bad.fault)
answer_for (Judged told) = Ok (answer_of told)
