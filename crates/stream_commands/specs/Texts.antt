-- What a command on a stream says of the text in front of its stream. This project's own.
use Rattle.std.specs.Prelude.{ℕ, List, Option}
use Rattle.std.specs.Option.{option_map}
use Rattle.script_text.specs.Reading.{BadLine}
use Rattle.spdm_basis.specs.Stream.{HasFault}
use Rattle.stream_commands.specs.declared.fault.StreamFault.{StreamFault}
use Rattle.stream_commands.specs.declared.fault.StreamFault.TheVariants as fault

-- The longest text: 4 MiB.
abbrev pub text_limit : ℕ
text_limit = 4194304

-- A text in front of a stream, of which what a source has left is known where it tells that: it is good, it is too long, or
-- this is its first bad line. Of an input the stream is what stands behind the text.
pub record TextKind : Type 1 where
  pub good : (left : Option (List ℕ)) → Type 0
  pub long : (left : Option (List ℕ)) → Type 0
  pub bad : BadLine → (left : Option (List ℕ)) → Type 0
  pub behind : List ℕ → List ℕ

-- The counts of faults of the source and of the seeds, before a call and after it.
pub record Tries : Type 0 where
  pub read_before : ℕ
  pub read_after : ℕ
  pub seeded_before : ℕ
  pub seeded_after : ℕ

-- Why a text was not read and no seed was taken.
abbrev pub IsBeginCauseOf : TextKind → (left : Option (List ℕ)) → Tries → StreamFault → Type 0
IsBeginCauseOf text left n fault.ReadFault = HasFault n.read_before n.read_after
IsBeginCauseOf text left n fault.SeedFault = HasFault n.seeded_before n.seeded_after × text.good left
IsBeginCauseOf text left n fault.TooLong = text.long left
IsBeginCauseOf text left n (fault.BadScript line f) = text.bad (record { line = line; fault = f }) left
IsBeginCauseOf text left n fault.OutOfMemory = Unit {0}
IsBeginCauseOf text left n fault.WriteFault = ⊥
IsBeginCauseOf text left n (fault.BadFrame at) = ⊥

-- The stream of what a source tells it has left.
abbrev pub stream_left : TextKind → Option (List ℕ) → Option (List ℕ)
stream_left text left = option_map text.behind left
