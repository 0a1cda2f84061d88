-- What precedes a stream: a configuration and a policy, and the seed of the requester that they set up. This project's own.
use Rattle.std.specs.Prelude.{◌≡◌, ◌++◌, ℕ, List, Option, Some, None, Result, Ok, Err}
use Rattle.appraise.specs.Policies.{policy_fault}
use Rattle.attest_command.specs.Policy.{policy_of}
use Rattle.attest_command.specs.Text.{IsLongText, IsSet, Setting, setting_in, stream_behind, texts_before}
use Rattle.attest_command.specs.declared.begin.AttestStart.{AttestStart}
use Rattle.attest_command.specs.declared.parsing.Parsed.{Parsed}
use Rattle.attest_command.specs.declared.texts.Texts.{Texts}
use Rattle.frame_stream.specs.Text.{stream_of, text_of}
use Rattle.script_text.specs.ConfigText.{config_in}
use Rattle.script_text.specs.Reading.{bad_line_in}
use Rattle.spdm_basis.specs.Stream.{GivesSeed, HasFault}
use Rattle.stream_commands.specs.Texts.{IsBeginCauseOf, Tries}
use Rattle.stream_commands.specs.declared.fault.StreamFault.{StreamFault}
use Rattle.stream_commands.specs.declared.fault.StreamFault.TheVariants as fault

-- ---- Reading.

-- Of a source that tells what it has left the two texts were read, with these bytes of the stream after them; what it has
-- left now are the other bytes of the stream.
abbrev pub AreTextsOf : Option (List ℕ) → Texts → Option (List ℕ) → Type 0
AreTextsOf old texts new =
    (input : List ℕ) → old ≡ Some input
    → (texts.config ≡ text_of input) × (texts.policy ≡ policy_of (stream_of input))
    × ((rest : List ℕ) × (new ≡ Some rest) × (stream_behind input ≡ texts.before ++ rest))

-- Why they were not read, by the counts of faults of the source before a call and after it.
abbrev pub IsReadCause : (left : Option (List ℕ)) → (before after : ℕ) → StreamFault → Type 0
IsReadCause left before after fault.ReadFault = HasFault before after
IsReadCause left before after fault.TooLong = IsLongText left
IsReadCause left before after fault.OutOfMemory = Unit {0}
IsReadCause left before after other = ⊥

-- ---- Parsing.

-- What was parsed.
abbrev pub setting_as : Parsed → Setting
setting_as parsed = record { config = parsed.config; rules = parsed.policy }

-- What was parsed of two texts.
abbrev pub IsParsed : Texts → Result Parsed StreamFault → Type 0
IsParsed texts (Ok parsed) =
    (setting_in texts.config texts.policy ≡ Ok (setting_as parsed)) × (config_in texts.config ≡ Ok parsed.config)
    × (policy_fault parsed.policy ≡ None)
IsParsed texts (Err (fault.BadScript line f)) = bad_line_in (setting_in texts.config texts.policy) ≡ Some (record { line = line; fault = f })
IsParsed texts (Err fault.OutOfMemory) = Unit {0}
IsParsed texts (Err other) = ⊥

-- ---- The beginning of a command.

-- The configuration, the rules and the seed are these: one seed was taken. These bytes of the stream were read with the
-- texts.
pub record IsBegun (left : Option (List ℕ)) (seeds : Option (List (List ℕ))) (begun : AttestStart) (rest : Option (List ℕ)) (others : Option (List (List ℕ))) : Type 0 where
  pub set : IsSet (setting_as begun.parsed) left
  pub text : List ℕ
  pub is : config_in text ≡ Ok begun.parsed.config
  pub sound : policy_fault begun.parsed.policy ≡ None
  pub read : (input : List ℕ) → left ≡ Some input → (behind : List ℕ) × (rest ≡ Some behind) × (stream_behind input ≡ begun.before ++ behind)
  pub seed : GivesSeed seeds begun.seed others

-- Why there is no beginning.
abbrev pub IsBeginCause : (left : Option (List ℕ)) → Tries → StreamFault → Type 0
IsBeginCause left n fault = IsBeginCauseOf texts_before left n fault

-- A configuration and a policy that were read.
abbrev pub IsRead : Parsed → Type 0
IsRead parsed = ((text : List ℕ) × (config_in text ≡ Ok parsed.config)) × (policy_fault parsed.policy ≡ None)
