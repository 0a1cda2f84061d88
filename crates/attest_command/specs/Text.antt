-- The text before a stream: a configuration up to the line `end`, and a policy after it up to the line `go`. This project's
-- own.
use Rattle.std.specs.Prelude.{◌≡◌, ◌≤◌, ◌<◌, ◌+◌, ◌++◌, ℕ, List, length, Option, Some, Result, Ok, Err}
use Rattle.std.specs.Option.{option_map}
use Rattle.attest_command.specs.Policy.{behind_policy, policy_of}
use Rattle.frame_stream.specs.Text.{stream_of, text_of}
use Rattle.script_text.specs.ConfigText.{config_in}
use Rattle.script_text.specs.Lines.{lines_of}
use Rattle.script_text.specs.PolicyText.{policy_in}
use Rattle.script_text.specs.Reading.{BadLine, bad_line_in}
use Rattle.script_text.specs.declared.configuration.config.ScriptConfig.{ScriptConfig}
use Rattle.script_text.specs.declared.texts.faults.ScriptFault.{ScriptFault}
use Rattle.script_text.specs.declared.texts.rule.Rule.{Rule}
use Rattle.stream_commands.specs.Texts.{TextKind, text_limit}

-- The text of an input: its bytes up to and with the first line that is `go` behind the first that is `end`, or all of them.
abbrev pub whole_text : List ℕ → List ℕ
whole_text input = text_of input ++ policy_of (stream_of input)

-- The stream of an input: all bytes after its text.
abbrev pub stream_behind : List ℕ → List ℕ
stream_behind input = behind_policy (stream_of input)

-- The stream of what a source tells it has left.
abbrev pub stream_in : Option (List ℕ) → Option (List ℕ)
stream_in left = option_map stream_behind left

-- ---- What a text says.

pub record Setting : Type 0 where
  pub config : ScriptConfig
  pub rules : List Rule

-- A bad line of the configuration comes before one of the policy.
abbrev pub with_rules : ScriptConfig → Result (List Rule) ScriptFault → Result Setting ScriptFault
with_rules config (Ok rules) = Ok (record { config = config; rules = rules })
with_rules config (Err fault) = Err fault

abbrev pub setting_of : Result ScriptConfig ScriptFault → Result (List Rule) ScriptFault → Result Setting ScriptFault
setting_of (Ok config) rules = with_rules config rules
setting_of (Err fault) rules = Err fault

-- The number of the line behind a text.
abbrev pub line_behind : List ℕ → ℕ
line_behind text = length (lines_of text) + 1

-- The configuration and the rules that two texts are, one behind the other, or their first bad line. Lines are counted on.
abbrev pub setting_in : (config policy : List ℕ) → Result Setting ScriptFault
setting_in config policy = setting_of (config_in config) (policy_in (line_behind config) policy)

-- The same of the text of an input.
abbrev pub setting_before : List ℕ → Result Setting ScriptFault
setting_before input = setting_in (text_of input) (policy_of (stream_of input))

-- ---- The text in front of a stream, of which what a source has left is known where it tells that.

-- It is this configuration and these rules.
abbrev pub IsSet : Setting → (left : Option (List ℕ)) → Type 0
IsSet setting left =
    (input : List ℕ) → left ≡ Some input → (length (whole_text input) ≤ text_limit) × (setting_before input ≡ Ok setting)

-- It is too long, whatever its lines are.
abbrev pub IsLongText : (left : Option (List ℕ)) → Type 0
IsLongText left = (input : List ℕ) → left ≡ Some input → text_limit < length (whole_text input)

-- This is its first bad line.
abbrev pub IsBadText : BadLine → (left : Option (List ℕ)) → Type 0
IsBadText bad left =
    (input : List ℕ) → left ≡ Some input
    → (length (whole_text input) ≤ text_limit) × (bad_line_in (setting_before input) ≡ Some bad)

abbrev pub texts_before : TextKind
texts_before = record {
  good = λ left. (setting : Setting) × IsSet setting left;
  long = IsLongText;
  bad = IsBadText;
  behind = stream_behind;
}
