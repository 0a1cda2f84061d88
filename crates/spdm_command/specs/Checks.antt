-- What `check` answers for a capture. This project's own.
use Rattle.std.specs.Prelude.{◌≡◌, ◌↔◌, ℕ, List, Bool, true, false, Option, Result, Ok, Err}
use Rattle.capture_machine.specs.Capture.{Conforms}
use Rattle.capture_machine.specs.Difference.{IsDifference}
use Rattle.check_laws.specs.Judged.{why_of}
use Rattle.script_ends.specs.Configured.{configuration_in}
use Rattle.script_text.specs.declared.texts.script.Capture.{Capture}
use Rattle.spdm_grammar.specs.declared.told.why.Why.{Why}
use Rattle.trace_check.specs.Answers.{Finding, IsAnswered, answer_for}
use Rattle.trace_check.specs.declared.answer.CheckAnswer.{CheckAnswer}
use Rattle.trace_check.specs.declared.answer.CheckAnswer.TheVariants as answer
use Rattle.trace_check.specs.declared.answer.CheckFault.{CheckFault}
use Rattle.trace_check.specs.declared.answer.CheckFault.TheVariants as fault
use Rattle.spdm_command.specs.declared.outcome.Outcome.{Outcome}
use Rattle.spdm_command.specs.declared.outcome.Outcome.TheVariants.{Done, Differs, BadScript, ReadFault, WriteFault, OutOfMemory, TooLong}

-- The outcome of what was answered: a capture that conforms is done.
abbrev pub outcome_of : Result CheckAnswer CheckFault → Outcome
outcome_of (Ok answer.Conforms) = Done
outcome_of (Ok (answer.Differs packet why)) = Differs packet why
outcome_of (Err (fault.Line line f)) = BadScript line f
outcome_of (Err fault.TooLong) = TooLong
outcome_of (Err fault.ReadFault) = ReadFault
outcome_of (Err fault.WriteFault) = WriteFault
outcome_of (Err fault.OutOfMemory) = OutOfMemory

-- The outcome is that of an answer to this text as a capture, with which this was written.
pub record IsChecked (text : List ℕ) (old now : Option (List ℕ)) (outcome : Outcome) : Type 0 where
  pub answer : Result CheckAnswer CheckFault
  pub is : outcome ≡ outcome_of answer
  pub answered : IsAnswered text old now answer

-- The outcome for what there is to find of a text, where nothing fails and memory does not run out.
abbrev pub outcome_for : Finding → Outcome
outcome_for found = outcome_of (answer_for found)

-- The outcome for a capture is exact: done where it conforms and nowhere else, and a packet with a reason where its
-- first difference is that packet for this reason, and nowhere else.
pub record IsJudgedExactly (capture : Capture) (outcome : Outcome) : Type 0 where
  pub conforms : (outcome ≡ Done) ↔ Conforms (configuration_in capture.config) capture.packets
  pub differs : (packet : ℕ) (why : Why) → (outcome ≡ Differs packet why) ↔ IsDifference (configuration_in capture.config) capture.packets packet (why_of why)

-- A capture was read to its end with this outcome.
abbrev pub is_judged : Outcome → Bool
is_judged Done = true
is_judged (Differs packet why) = true
is_judged _ = false

-- This comes of captures alone.
abbrev pub is_of_captures : Outcome → Bool
is_of_captures (Differs packet why) = true
is_of_captures _ = false
