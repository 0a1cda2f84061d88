-- An input has one end, which what was answered shows.
use Rattle.std.proofs.Common.{◌≡◌, ◌∙◌, ◌≤◌, ◌<◌, ℕ, List, length, refl, ap, sym, arith, Option, Some, Result, Ok}
use Rattle.std.proofs.lemmas.Option.{none-some, same_Some}
use Rattle.appraise.specs.declared.appraisal.Appraisal.{Appraisal}
use Rattle.attest_command.specs.InputEnds.{Answers, HasEnd}
use Rattle.attest_command.specs.Outcome.{HasVerdict, IsAttested, attesting_command}
use Rattle.attest_command.specs.Text.{Setting, setting_before, stream_behind, stream_in, texts_before, whole_text}
use Rattle.frame_stream.proofs.Unique.{stream_is_one}
use Rattle.frame_stream.specs.Frames.{Ending, stream_limit}
use Rattle.frame_stream.specs.Frames.Ending.{Done}
use Rattle.requester_attest.specs.Attested.{attested_kinds}
use Rattle.script_text.specs.Reading.{BadLine, bad_line_in}
use Rattle.script_text.specs.declared.texts.faults.ScriptFault.{ScriptFault}
use Rattle.stream_commands.proofs.Exactly.{HasExactEnds}
use Rattle.stream_commands.specs.InputEnds.{InputEnd}
use Rattle.stream_commands.specs.InputEnds.InputEnd.{BadText, InStream, LongText}
use Rattle.stream_commands.specs.Outside.{Outside}
use Rattle.stream_commands.specs.Texts.{text_limit}

no_bad_line : (read : Result Setting ScriptFault) (setting : Setting) (bad : BadLine) → read ≡ Ok setting → bad_line_in read ≡ Some bad → ⊥
no_bad_line read setting bad ok is = none-some bad (sym (ap (λ (r : Result Setting ScriptFault). bad_line_in r) ok) ∙ is)

short_long : (n m : ℕ) → n ≤ m → m < n → ⊥
short_long n m le lt = omega (arith, le, lt)

-- a stream ends in one way
one_end : (input : List ℕ) (e d : InputEnd) → HasEnd input e → HasEnd input d → e ≡ d
one_end input LongText LongText long other = refl
one_end input LongText (BadText bad) long other = absurd (short_long (length (whole_text input)) text_limit other.0 long)
one_end input LongText (InStream ending) long other = absurd (short_long (length (whole_text input)) text_limit other.0 long)
one_end input (BadText bad) LongText is long = absurd (short_long (length (whole_text input)) text_limit is.0 long)
one_end input (BadText bad) (BadText its) is other = ap BadText (same_Some bad its (sym is.1 ∙ other.1))
one_end input (BadText bad) (InStream ending) is other = absurd (no_bad_line (setting_before input) other.1.0 bad other.1.1 is.1)
one_end input (InStream ending) LongText is long = absurd (short_long (length (whole_text input)) text_limit is.0 long)
one_end input (InStream ending) (BadText bad) is other = absurd (no_bad_line (setting_before input) is.1.0 bad is.1.1 other.1)
one_end input (InStream ending) (InStream its) is other = ap InStream (stream_is_one attested_kinds stream_limit (stream_behind input) is.1.2.0 other.1.2.0 ending its is.1.2.1 other.1.2.1).1

-- a good text has a stream
good_end : (input : List ℕ) → texts_before.good (Some input) → (end : InputEnd) → HasEnd input end → (ending : Ending) × (end ≡ InStream ending)
good_end input good LongText long = absurd (short_long (length (whole_text input)) text_limit (good.1 input refl).0 long)
good_end input good (BadText bad) is = absurd (no_bad_line (setting_before input) good.0 bad (good.1 input refl).1 is.1)
good_end input good (InStream ending) is = (ending, refl)

-- where what all whole frames led to was written, the input ends so
attested_end : (boot : ℕ) (before after : Outside) (input : List ℕ) (ending : Ending) → before.left ≡ Some input → IsAttested boot before after ending → HasEnd input (InStream ending)
attested_end boot before after input ending left s =
    let set = s.set_up.set input left in
    (set.0, (s.setting, set.1, (s.attested.frames, s.attested.stream (stream_behind input) (ap stream_in left))))

verdict_end : (boot : ℕ) (before after : Outside) (input : List ℕ) (verdict : Option Appraisal) → before.left ≡ Some input → HasVerdict boot before after verdict → HasEnd input (InStream Done)
verdict_end boot before after input verdict left s =
    let set = s.set_up.set input left in
    (set.0, (s.setting, set.1, (s.attested.whole.frames, s.attested.whole.stream (stream_behind input) (ap stream_in left))))

pub attesting_ends : HasExactEnds (Option Appraisal) attesting_command HasEnd Answers
attesting_ends = record {
  one = one_end;
  long = λ input long. long input refl;
  bad = λ bad input is. is input refl;
  good = good_end;
  whole = attested_end;
  done = verdict_end;
  to_long = refl;
  to_bad = λ bad. refl;
  to_done = λ answer. refl;
  to_bad_frame = λ at. refl;
  to_long_stream = refl;
}
