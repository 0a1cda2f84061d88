-- The inputs of the commands whose text is a configuration: each has one end, which what was answered shows.
use Rattle.std.proofs.Common.{◌≡◌, ◌∙◌, ◌≤◌, ◌<◌, ◌⊎◌, inl, inr, ℕ, List, length, refl, ap, sym, subst, arith, Bool, Some, Result, Ok, Err}
use Rattle.std.proofs.lemmas.Bool.{le-ltb, lt-ltb}
use Rattle.std.proofs.lemmas.Option.{none-some, same_Some}
use Rattle.std.specs.Prelude.{if◌then◌else◌}
use Rattle.std.specs.Result.{result_unwrap_or}
use Rattle.boot_keeper.specs.Slots.{greatest, last_boot}
use Rattle.boot_keeper.specs.declared.boot_fault.BootFault.TheVariants.{Spent}
use Rattle.frame_stream.proofs.Unique.{stream_is_one}
use Rattle.frame_stream.specs.Frames.{Ending, GivenFrame, stream_limit}
use Rattle.frame_stream.specs.Frames.Ending.{Done}
use Rattle.frame_stream.specs.Text.{stream_of, text_of}
use Rattle.requester_drive.proofs.Unique.{driven_is_one}
use Rattle.responder_serve.specs.Served.{served_kinds}
use Rattle.script_text.specs.ConfigText.{config_in}
use Rattle.script_text.specs.Reading.{BadLine, bad_line_in}
use Rattle.script_text.specs.declared.configuration.config.ScriptConfig.{ScriptConfig}
use Rattle.script_text.specs.declared.texts.faults.ScriptFault.{ScriptFault}
use Rattle.stream_commands.proofs.Exactly.{HasExactEnds}
use Rattle.stream_commands.specs.StreamStart.{config_text, stream_in}
use Rattle.stream_commands.specs.Driven.{IsDriven, driving_command}
use Rattle.stream_commands.specs.InputEnds as stream
use Rattle.stream_commands.specs.InputEnds.{HasEnd, InputEnd, IsStreamToDrive, IsStreamToServe}
use Rattle.stream_commands.specs.InputEnds.InputEnd.{BadText, InStream, LongText}
use Rattle.stream_commands.specs.Kept.{KeptAnswers, answer_for, told_of}
use Rattle.stream_commands.specs.Outside.{Outside}
use Rattle.stream_commands.specs.Served.{IsServed, serving_command}
use Rattle.stream_commands.specs.Texts.{text_limit}
use Rattle.stream_commands.specs.declared.fault.StreamFault.{StreamFault}
use Rattle.stream_commands.specs.declared.kept_fault.KeptFault.{KeptFault}
use Rattle.stream_commands.specs.declared.fault.StreamFault.TheVariants.{OutOfMemory}
use Rattle.stream_commands.specs.declared.kept_fault.KeptFault.TheVariants.{Boot, Stream}

no_bad_line : (read : Result ScriptConfig ScriptFault) (c : ScriptConfig) (bad : BadLine) → read ≡ Ok c → bad_line_in read ≡ Some bad → ⊥
no_bad_line read c bad ok is = none-some bad (sym (ap bad_line_in ok) ∙ is)

short_long : (n m : ℕ) → n ≤ m → m < n → ⊥
short_long n m le lt = omega (arith, le, lt)

-- What a stream's frames are, and how it ends, by its configuration: a stream ends in one way.
module _ (Streams : ScriptConfig → List ℕ → List GivenFrame → Ending → Type 0)
    (one : (c : ScriptConfig) (stream : List ℕ) (fs gs : List GivenFrame) (e d : Ending) → Streams c stream fs e → Streams c stream gs d → e ≡ d) where
  one_end : (input : List ℕ) (e d : InputEnd) → HasEnd Streams input e → HasEnd Streams input d → e ≡ d
  one_end input LongText LongText long other = refl
  one_end input LongText (BadText bad) long other = absurd (short_long (length (text_of input)) text_limit other.0 long)
  one_end input LongText (InStream ending) long other = absurd (short_long (length (text_of input)) text_limit other.0 long)
  one_end input (BadText bad) LongText is long = absurd (short_long (length (text_of input)) text_limit is.0 long)
  one_end input (BadText bad) (BadText its) is other = ap BadText (same_Some bad its (sym is.1 ∙ other.1))
  one_end input (BadText bad) (InStream ending) is other = absurd (no_bad_line (config_in (text_of input)) other.1.0 bad other.1.1 is.1)
  one_end input (InStream ending) LongText is long = absurd (short_long (length (text_of input)) text_limit is.0 long)
  one_end input (InStream ending) (BadText bad) is other = absurd (no_bad_line (config_in (text_of input)) is.1.0 bad is.1.1 other.1)
  one_end input (InStream ending) (InStream its) is other =
      let same : other.1.0 ≡ is.1.0 = ap (λ (r : Result ScriptConfig ScriptFault). result_unwrap_or r is.1.0) (sym other.1.1 ∙ is.1.1) in
      ap InStream (one is.1.0 (stream_of input) is.1.2.0 other.1.2.0 ending its is.1.2.1 (subst (λ (c : ScriptConfig). Streams c (stream_of input) other.1.2.0 its) same other.1.2.1))

  -- a good text has a stream
  good_end : (input : List ℕ) → config_text.good (Some input) → (end : InputEnd) → HasEnd Streams input end → (ending : Ending) × (end ≡ InStream ending)
  good_end input good LongText long = absurd (short_long (length (text_of input)) text_limit (good.1 input refl).0 long)
  good_end input good (BadText bad) is = absurd (no_bad_line (config_in (text_of input)) good.0 bad (good.1 input refl).1 is.1)
  good_end input good (InStream ending) is = (ending, refl)

-- ---- A responder.

one_ending : (c : ScriptConfig) (stream : List ℕ) (fs gs : List GivenFrame) (e d : Ending) → IsStreamToServe c stream fs e → IsStreamToServe c stream gs d → e ≡ d
one_ending c stream fs gs e d is other = (stream_is_one served_kinds stream_limit stream fs gs e d is other).1

served_end : (boot : ℕ) (before after : Outside) (input : List ℕ) (ending : Ending) → before.left ≡ Some input → IsServed boot before after ending → HasEnd IsStreamToServe input (InStream ending)
served_end boot before after input ending left s =
    let configured = s.set_up.configured input left in
    (configured.0, (s.config, configured.1, (s.served.frames, s.served.stream (stream_of input) (ap stream_in left))))

-- the answer is told
abbrev pub IsAnswerFor : InputEnd → Result (Unit {0}) StreamFault → Type 0
IsAnswerFor end answer = answer ≡ stream.answer_for end

done_is : (answer : Unit {0}) → IsAnswerFor (InStream Done) (Ok answer)
done_is tt = refl

pub serving_ends : HasExactEnds (Unit {0}) serving_command (HasEnd IsStreamToServe) IsAnswerFor
serving_ends = record {
  one = one_end IsStreamToServe one_ending;
  long = λ input long. long input refl;
  bad = λ bad input is. is input refl;
  good = good_end IsStreamToServe one_ending;
  whole = served_end;
  done = λ boot before after input answer left s. served_end boot before after input Done left s;
  to_long = refl;
  to_bad = λ bad. refl;
  to_done = done_is;
  to_bad_frame = λ at. refl;
  to_long_stream = refl;
}

-- ---- A requester.

one_driving : (c : ScriptConfig) (stream : List ℕ) (fs gs : List GivenFrame) (e d : Ending) → IsStreamToDrive c stream fs e → IsStreamToDrive c stream gs d → e ≡ d
one_driving c stream fs gs e d is other = (driven_is_one c stream fs gs e d is other).1

driven_end : (boot : ℕ) (before after : Outside) (input : List ℕ) (ending : Ending) → before.left ≡ Some input → IsDriven boot before after ending → HasEnd IsStreamToDrive input (InStream ending)
driven_end boot before after input ending left s =
    let configured = s.set_up.configured input left in
    (configured.0, (s.config, configured.1, (s.driven.frames, s.driven.stream (stream_of input) (ap stream_in left))))

pub driving_ends : HasExactEnds (Unit {0}) driving_command (HasEnd IsStreamToDrive) IsAnswerFor
driving_ends = record {
  one = one_end IsStreamToDrive one_driving;
  long = λ input long. long input refl;
  bad = λ bad input is. is input refl;
  good = good_end IsStreamToDrive one_driving;
  whole = driven_end;
  done = λ boot before after input answer left s. driven_end boot before after input Done left s;
  to_long = refl;
  to_bad = λ bad. refl;
  to_done = done_is;
  to_bad_frame = λ at. refl;
  to_long_stream = refl;
}

-- ---- In the life of a kept boot: the answer is the one for the device and the end.

pub kept_answer : (device : List ℕ) (end : InputEnd) (told : Result (Unit {0}) KeptFault) → (told ≡ Err (Stream OutOfMemory)) ⊎ KeptAnswers IsAnswerFor device end told →
    (told ≡ Err (Stream OutOfMemory)) ⊎ (told ≡ answer_for device end)
kept_answer device end told (inl none) = inl none
kept_answer device LongText told (inr is) = inr (is.1 ∙ ap told_of is.2)
kept_answer device (BadText bad) told (inr is) = inr (is.1 ∙ ap told_of is.2)
kept_answer device (InStream ending) told (inr (inl some)) =
    let own = some.1 in
    inr (own.1 ∙ ap told_of own.2 ∙ sym (ap (λ (b : Bool). if b then told_of (stream.answer_for (InStream ending)) else Err (Boot Spent)) (lt-ltb (greatest device) last_boot some.0)))
kept_answer device (InStream ending) told (inr (inr none)) =
    inr (none.1 ∙ sym (ap (λ (b : Bool). if b then told_of (stream.answer_for (InStream ending)) else Err (Boot Spent)) (le-ltb (greatest device) last_boot none.0)))
