-- The inputs of a device: each has one end, which what was answered shows.
use Rattle.std.proofs.Common.{◌≡◌, ◌∙◌, ◌≤◌, ◌<◌, ℕ, List, length, refl, ap, sym, subst, arith, Some, Result, Ok}
use Rattle.std.proofs.lemmas.Option.{none-some, same_Some}
use Rattle.std.specs.Result.{result_unwrap_or}
use Rattle.device_command.specs.Devised.{IsDevised, IsStreamToDevise, devising_command}
use Rattle.device_serve.proofs.Unique.{device_stream_is_one}
use Rattle.frame_stream.specs.Frames.{Ending, GivenFrame}
use Rattle.frame_stream.specs.Frames.Ending.{Done}
use Rattle.frame_stream.specs.Text.{stream_of, text_of}
use Rattle.script_text.specs.ConfigText.{config_in}
use Rattle.script_text.specs.Reading.{BadLine, bad_line_in}
use Rattle.script_text.specs.declared.configuration.config.ScriptConfig.{ScriptConfig}
use Rattle.script_text.specs.declared.texts.faults.ScriptFault.{ScriptFault}
use Rattle.stream_commands.proofs.Ends.{IsAnswerFor}
use Rattle.stream_commands.proofs.Exactly.{HasExactEnds}
use Rattle.stream_commands.specs.StreamStart.{config_text, stream_in}
use Rattle.stream_commands.specs.InputEnds.{HasEnd, InputEnd}
use Rattle.stream_commands.specs.InputEnds.InputEnd.{BadText, InStream, LongText}
use Rattle.stream_commands.specs.Outside.{Outside}
use Rattle.stream_commands.specs.Texts.{text_limit}

no_bad_line : (read : Result ScriptConfig ScriptFault) (c : ScriptConfig) (bad : BadLine) → read ≡ Ok c → bad_line_in read ≡ Some bad → ⊥
no_bad_line read c bad ok is = none-some bad (sym (ap bad_line_in ok) ∙ is)

short_long : (n m : ℕ) → n ≤ m → m < n → ⊥
short_long n m le lt = omega (arith, le, lt)

-- What a stream's frames are, and how it ends, by its configuration: a stream ends in one way.
module _ (Streams : ScriptConfig → List ℕ → List GivenFrame → Ending → Type 0)
    (one : (c : ScriptConfig) (stream : List ℕ) (fs gs : List GivenFrame) (e d : Ending) → Streams c stream fs e → Streams c stream gs d → e ≡ d) where
  one_end : (input : List ℕ) (e d : InputEnd) → HasEnd Streams input e → HasEnd Streams input d → e ≡ d
  one_end input LongText LongText long other = refl
  one_end input LongText (BadText bad) long other = absurd (short_long (length (text_of input)) text_limit other.0 long)
  one_end input LongText (InStream ending) long other = absurd (short_long (length (text_of input)) text_limit other.0 long)
  one_end input (BadText bad) LongText is long = absurd (short_long (length (text_of input)) text_limit is.0 long)
  one_end input (BadText bad) (BadText its) is other = ap BadText (same_Some bad its (sym is.1 ∙ other.1))
  one_end input (BadText bad) (InStream ending) is other = absurd (no_bad_line (config_in (text_of input)) other.1.0 bad other.1.1 is.1)
  one_end input (InStream ending) LongText is long = absurd (short_long (length (text_of input)) text_limit is.0 long)
  one_end input (InStream ending) (BadText bad) is other = absurd (no_bad_line (config_in (text_of input)) is.1.0 bad is.1.1 other.1)
  one_end input (InStream ending) (InStream its) is other =
      let same : other.1.0 ≡ is.1.0 = ap (λ (r : Result ScriptConfig ScriptFault). result_unwrap_or r is.1.0) (sym other.1.1 ∙ is.1.1) in
      ap InStream (one is.1.0 (stream_of input) is.1.2.0 other.1.2.0 ending its is.1.2.1 (subst (λ (c : ScriptConfig). Streams c (stream_of input) other.1.2.0 its) same other.1.2.1))

  -- a good text has a stream
  good_end : (input : List ℕ) → config_text.good (Some input) → (end : InputEnd) → HasEnd Streams input end → (ending : Ending) × (end ≡ InStream ending)
  good_end input good LongText long = absurd (short_long (length (text_of input)) text_limit (good.1 input refl).0 long)
  good_end input good (BadText bad) is = absurd (no_bad_line (config_in (text_of input)) good.0 bad (good.1 input refl).1 is.1)
  good_end input good (InStream ending) is = (ending, refl)

one_ending : (c : ScriptConfig) (stream : List ℕ) (fs gs : List GivenFrame) (e d : Ending) → IsStreamToDevise c stream fs e → IsStreamToDevise c stream gs d → e ≡ d
one_ending c stream fs gs e d is other = (device_stream_is_one stream fs gs e d is other).1

devised_end : (boot : ℕ) (before after : Outside) (input : List ℕ) (ending : Ending) → before.left ≡ Some input → IsDevised boot before after ending → HasEnd IsStreamToDevise input (InStream ending)
devised_end boot before after input ending left s =
    let configured = s.set_up.configured input left in
    (configured.0, (s.config, configured.1, (s.devised.frames, s.devised.stream (stream_of input) (ap stream_in left))))

done_is : (answer : Unit {0}) → IsAnswerFor (InStream Done) (Ok answer)
done_is tt = refl

pub devising_ends : HasExactEnds (Unit {0}) devising_command (HasEnd IsStreamToDevise) IsAnswerFor
devising_ends = record {
  one = one_end IsStreamToDevise one_ending;
  long = λ input long. long input refl;
  bad = λ bad input is. is input refl;
  good = good_end IsStreamToDevise one_ending;
  whole = devised_end;
  done = λ boot before after input answer left s. devised_end boot before after input Done left s;
  to_long = refl;
  to_bad = λ bad. refl;
  to_done = done_is;
  to_bad_frame = λ at. refl;
  to_long_stream = refl;
}
