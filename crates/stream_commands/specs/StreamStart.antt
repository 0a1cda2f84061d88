-- What precedes a stream: a configuration up to `end`, and the seed of the end that it sets up. This project's own.
use Rattle.std.specs.Prelude.{◌≡◌, ◌<◌, ◌≤◌, ℕ, List, length, Option, Some, Result, Ok, Err}
use Rattle.std.specs.Option.{option_map}
use Rattle.frame_stream.specs.Parts.{IsTextOf}
use Rattle.frame_stream.specs.Text.{stream_of, text_of}
use Rattle.script_text.specs.ConfigText.{config_in}
use Rattle.script_text.specs.Reading.{BadLine, bad_line_in}
use Rattle.script_text.specs.declared.configuration.config.ScriptConfig.{ScriptConfig}
use Rattle.spdm_basis.specs.Stream.{GivesSeed}
use Rattle.stream_commands.specs.Texts.{IsBeginCauseOf, TextKind, Tries, text_limit}
use Rattle.stream_commands.specs.declared.begin.StreamStart.{StreamStart}
use Rattle.stream_commands.specs.declared.fault.StreamFault.{StreamFault}
use Rattle.stream_commands.specs.declared.fault.StreamFault.TheVariants as fault

-- The stream of what a source tells it has left.
abbrev pub stream_in : Option (List ℕ) → Option (List ℕ)
stream_in left = option_map stream_of left

-- ---- The text in front of a stream, of which what a source has left is known where it tells that.

-- It is this configuration.
abbrev pub IsConfigured : ScriptConfig → (left : Option (List ℕ)) → Type 0
IsConfigured c left =
    (input : List ℕ) → left ≡ Some input → (length (text_of input) ≤ text_limit) × (config_in (text_of input) ≡ Ok c)

-- It is too long, whatever its lines are.
abbrev pub IsLongText : (left : Option (List ℕ)) → Type 0
IsLongText left = (input : List ℕ) → left ≡ Some input → text_limit < length (text_of input)

-- This is its first bad line.
abbrev pub IsBadText : BadLine → (left : Option (List ℕ)) → Type 0
IsBadText bad left =
    (input : List ℕ) → left ≡ Some input
    → (length (text_of input) ≤ text_limit) × (bad_line_in (config_in (text_of input)) ≡ Some bad)

abbrev pub config_text : TextKind
config_text = record {
  good = λ left. (c : ScriptConfig) × IsConfigured c left;
  long = IsLongText;
  bad = IsBadText;
  behind = stream_of;
}

-- ---- The beginning of a command.

-- The configuration and the seed are these: one seed was taken. These bytes of the stream were read with the text.
pub record IsBegun (left : Option (List ℕ)) (seeds : Option (List (List ℕ))) (begun : StreamStart) (rest : Option (List ℕ)) (others : Option (List (List ℕ))) : Type 0 where
  pub configured : IsConfigured begun.config left
  pub text : List ℕ
  pub read : IsTextOf left text begun.before rest
  pub seed : GivesSeed seeds begun.seed others
  pub is : config_in text ≡ Ok begun.config

-- Why there is no beginning.
abbrev pub IsBeginCause : (left : Option (List ℕ)) → Tries → StreamFault → Type 0
IsBeginCause left n fault = IsBeginCauseOf config_text left n fault

-- A configuration that was read from a text.
abbrev pub IsRead : ScriptConfig → Type 0
IsRead config = (text : List ℕ) × (config_in text ≡ Ok config)

-- ---- Within it.

-- What was parsed of a text.
abbrev pub IsParsed : List ℕ → Result ScriptConfig StreamFault → Type 0
IsParsed text (Ok config) = config_in text ≡ Ok config
IsParsed text (Err (fault.BadScript line f)) = bad_line_in (config_in text) ≡ Some (record { line = line; fault = f })
IsParsed text (Err fault.OutOfMemory) = Unit {0}
IsParsed text (Err other) = ⊥
