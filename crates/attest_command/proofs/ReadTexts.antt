-- The two texts that were read are those before the stream.
use Rattle.std.proofs.Common.{◌≡◌, ◌∙◌, ◌≤◌, ◌<◌, ◌+◌, ◌-◌, ◌++◌, ℕ, List, ap, arith, length, length-append, sym, Option, Some, Ok}
use Rattle.attest_command.specs.Policy.{behind_policy, policy_of}
use Rattle.attest_command.specs.Text.{IsBadText, IsLongText, IsSet, Setting, setting_before, setting_in, stream_behind, whole_text}
use Rattle.frame_stream.proofs.Fronts.{in_front_of}
use Rattle.frame_stream.specs.Parts.{IsTextOf, IsTextTo}
use Rattle.frame_stream.specs.Standing.{in_front}
use Rattle.frame_stream.specs.Text.{go_line, stream_of, text_of}
use Rattle.script_text.specs.Reading.{BadLine, bad_line_in}
use Rattle.stream_commands.specs.Texts.{text_limit}

-- what was read of an input, one text behind the other
pub record AreTexts (input config policy before : List ℕ) (new : Option (List ℕ)) : Type 0 where
  pub config_is : config ≡ text_of input
  pub policy_is : policy ≡ policy_of (stream_of input)
  pub rest : List ℕ
  pub left : new ≡ Some rest
  pub behind : stream_behind input ≡ before ++ rest

pub texts_read : (old mid new : Option (List ℕ)) (config ahead policy before : List ℕ) → IsTextOf old config ahead mid → IsTextTo go_line (in_front ahead mid) policy before new →
    (input : List ℕ) → old ≡ Some input → AreTexts input config policy before new
texts_read old mid new config ahead policy before first then input e =
    let a = first input e in
    let rest = a.1.0 in
    let b = then (ahead ++ rest) (in_front_of ahead rest mid a.1.1) in
    record {
      config_is = a.0;
      policy_is = b.0 ∙ ap policy_of (sym a.1.2);
      rest = b.1.0;
      left = b.1.1;
      behind = ap behind_policy a.1.2 ∙ b.1.2;
    }

-- a configuration that is too long makes the text too long
pub long_config : (old : Option (List ℕ)) → ((left : List ℕ) → old ≡ Some left → text_limit < length (text_of left)) → IsLongText old
long_config old long input e = let over = long input e in omega (arith, over, length-append (text_of input) (policy_of (stream_of input)))

-- and so does a policy that passes what the configuration leaves of the limit
pub long_policy : (old mid : Option (List ℕ)) (config ahead : List ℕ) (limit : ℕ) → limit ≡ text_limit - length config → length config ≤ text_limit → IsTextOf old config ahead mid →
    ((left : List ℕ) → in_front ahead mid ≡ Some left → limit < length (policy_of left)) → IsLongText old
long_policy old mid config ahead limit rest within first long input e =
    let a = first input e in
    let over = long (ahead ++ a.1.0) (in_front_of ahead a.1.0 mid a.1.1) in
    let is : length (policy_of (stream_of input)) ≡ length (policy_of (ahead ++ a.1.0)) = ap (λ (l : List ℕ). length (policy_of l)) a.1.2 in
    let own : length config ≡ length (text_of input) = ap (λ (l : List ℕ). length l) a.0 in
    omega (arith, over, is, own, rest, within, length-append (text_of input) (policy_of (stream_of input)))

-- ---- What the text before a stream says is what the texts say that were read.

-- where they have few bytes together
pub short_text : (input config policy : List ℕ) → config ≡ text_of input → policy ≡ policy_of (stream_of input) → length config + length policy ≤ text_limit → length (whole_text input) ≤ text_limit
short_text input config policy first then few =
    let own : length config ≡ length (text_of input) = ap (λ (l : List ℕ). length l) first in
    let other : length policy ≡ length (policy_of (stream_of input)) = ap (λ (l : List ℕ). length l) then in
    omega (arith, own, other, few, length-append (text_of input) (policy_of (stream_of input)))

same_setting : (input config policy : List ℕ) → config ≡ text_of input → policy ≡ policy_of (stream_of input) → setting_before input ≡ setting_in config policy
same_setting input config policy first then =
    ap (λ (l : List ℕ). setting_in l (policy_of (stream_of input))) (sym first) ∙ ap (λ (l : List ℕ). setting_in config l) (sym then)

module _ (left : Option (List ℕ)) (config policy : List ℕ) (few : length config + length policy ≤ text_limit)
    (first : (input : List ℕ) → left ≡ Some input → config ≡ text_of input) (then : (input : List ℕ) → left ≡ Some input → policy ≡ policy_of (stream_of input)) where
  pub is_set : (setting : Setting) → setting_in config policy ≡ Ok setting → IsSet setting left
  is_set setting is input e =
      (short_text input config policy (first input e) (then input e) few, same_setting input config policy (first input e) (then input e) ∙ is)

  pub is_bad : (bad : BadLine) → bad_line_in (setting_in config policy) ≡ Some bad → IsBadText bad left
  is_bad bad is input e =
      (short_text input config policy (first input e) (then input e) few, ap (λ r. bad_line_in {V = Setting} r) (same_setting input config policy (first input e) (then input e)) ∙ is)
