-- What a command answers to a stream. This project's own.
use Rattle.std.specs.Prelude.{◌≡◌, Bool, true, false, Option, Some, None, Result, Ok, Err}
use Rattle.spdm_command.specs.declared.outcome.Outcome.{Outcome}
use Rattle.spdm_command.specs.declared.outcome.Outcome.TheVariants.{Done, Usage, Differs, BadFrame, BadScript, BootsSpent, KeeperFault, NoVerdict, ReadFault, WriteFault, OutOfMemory, SeedFault, TooLong, LinkFull, Untrusted}
use Rattle.spdm_command.specs.declared.words.Command.{Command}
use Rattle.spdm_command.specs.declared.words.Command.TheVariants.{Attest, Check, Drive, Serve, ServeKept, Text}
use Rattle.appraise.specs.declared.appraisal.Appraisal.{Appraisal}
use Rattle.appraise.specs.declared.appraisal.Appraisal.TheVariants.{Trusted}
use Rattle.attest_command.specs.InputEnds.{Answers}
use Rattle.attest_command.specs.Outcome as attested
use Rattle.boot_keeper.specs.declared.boot_fault.BootFault.TheVariants as boot
use Rattle.stream_commands.specs.Driven as driven
use Rattle.stream_commands.specs.InputEnds.{InputEnd}
use Rattle.stream_commands.specs.Kept.{KeeperState}
use Rattle.stream_commands.specs.Outside.{Outside}
use Rattle.stream_commands.specs.Served as served
use Rattle.stream_commands.specs.declared.fault.StreamFault.{StreamFault}
use Rattle.stream_commands.specs.declared.fault.StreamFault.TheVariants as fault
use Rattle.stream_commands.specs.declared.kept_fault.KeptFault.{KeptFault}
use Rattle.stream_commands.specs.declared.kept_fault.KeptFault.TheVariants.{Boot, Stream}

-- The command answers a stream.
abbrev pub answers_stream : Option Command → Bool
answers_stream (Some Serve) = true
answers_stream (Some ServeKept) = true
answers_stream (Some Drive) = true
answers_stream (Some Attest) = true
answers_stream (Some Check) = false
answers_stream (Some (Text command)) = false
answers_stream None = false

-- The outcome of what was answered.
abbrev pub outcome_of : Result (Unit {0}) StreamFault → Outcome
outcome_of (Ok done) = Done
outcome_of (Err (fault.BadScript line f)) = BadScript line f
outcome_of (Err fault.ReadFault) = ReadFault
outcome_of (Err fault.WriteFault) = WriteFault
outcome_of (Err fault.SeedFault) = SeedFault
outcome_of (Err fault.TooLong) = TooLong
outcome_of (Err (fault.BadFrame at)) = BadFrame at
outcome_of (Err fault.OutOfMemory) = OutOfMemory

-- The outcome of what was answered in the life of a kept boot.
abbrev pub outcome_of_kept : Result (Unit {0}) KeptFault → Outcome
outcome_of_kept (Ok done) = Done
outcome_of_kept (Err (Stream fault)) = outcome_of (Err fault)
outcome_of_kept (Err (Boot boot.KeeperFault)) = KeeperFault
outcome_of_kept (Err (Boot boot.Spent)) = BootsSpent

-- The outcome of a verdict, or of there being none.
abbrev pub outcome_of_verdict : Option Appraisal → Outcome
outcome_of_verdict (Some Trusted) = Done
outcome_of_verdict (Some appraisal) = Untrusted appraisal
outcome_of_verdict None = NoVerdict

-- The outcome of what came of an attestation.
abbrev pub outcome_of_attestation : Result (Option Appraisal) StreamFault → Outcome
outcome_of_attestation (Ok verdict) = outcome_of_verdict verdict
outcome_of_attestation (Err fault) = outcome_of (Err fault)

-- The command asks the keeper for its next boot.
abbrev pub asks_keeper : Option Command → Bool
asks_keeper (Some ServeKept) = true
asks_keeper _ = false

-- With these outcomes the keeper was not asked.
abbrev pub is_unasked : Outcome → Bool
is_unasked Usage = true
is_unasked (BadScript line f) = true
is_unasked SeedFault = true
is_unasked _ = false

-- This comes of a command alone that asks the keeper.
abbrev pub is_of_keepers : Outcome → Bool
is_of_keepers KeeperFault = true
is_of_keepers BootsSpent = true
is_of_keepers _ = false

-- This comes of an attestation alone.
abbrev pub is_of_verdicts : Outcome → Bool
is_of_verdicts (Untrusted appraisal) = true
is_of_verdicts NoVerdict = true
is_of_verdicts _ = false

-- The command attests.
abbrev pub attests : Option Command → Bool
attests (Some Attest) = true
attests _ = false

-- This comes of streams alone.
abbrev pub is_of_streams : Outcome → Bool
is_of_streams SeedFault = true
is_of_streams KeeperFault = true
is_of_streams BootsSpent = true
is_of_streams (BadFrame at) = true
is_of_streams (Untrusted appraisal) = true
is_of_streams NoVerdict = true
is_of_streams Done = false
is_of_streams Usage = false
is_of_streams (BadScript line f) = false
is_of_streams ReadFault = false
is_of_streams WriteFault = false
is_of_streams OutOfMemory = false
is_of_streams TooLong = false
is_of_streams (LinkFull line) = false
is_of_streams (Differs packet why) = false

-- The outcome is that of an answer which a responder gave so.
pub record IsServed (before after : Outside) (outcome : Outcome) : Type 0 where
  pub answer : Result (Unit {0}) StreamFault
  pub is : outcome ≡ outcome_of answer
  pub answered : served.IsAnswered before after answer

-- The same in the life of the next boot of a keeper.
pub record IsServedKept (found left : KeeperState) (before after : Outside) (outcome : Outcome) : Type 0 where
  pub answer : Result (Unit {0}) KeptFault
  pub is : outcome ≡ outcome_of_kept answer
  pub answered : served.IsAnsweredKept found left before after answer

-- The outcome is that of an answer which came of driving a requester so.
pub record IsDriven (before after : Outside) (outcome : Outcome) : Type 0 where
  pub answer : Result (Unit {0}) StreamFault
  pub is : outcome ≡ outcome_of answer
  pub answered : driven.IsAnswered before after answer

-- The outcome is that of an answer which came of an attestation so.
pub record IsAttested (before after : Outside) (outcome : Outcome) : Type 0 where
  pub answer : Result (Option Appraisal) StreamFault
  pub is : outcome ≡ outcome_of_attestation answer
  pub answered : attested.IsAnswered before after answer

-- The outcome is that of an answer to an input that ends so.
pub record IsAttestedFor (end : InputEnd) (outcome : Outcome) : Type 0 where
  pub answer : Result (Option Appraisal) StreamFault
  pub is : outcome ≡ outcome_of_attestation answer
  pub answers : Answers end answer
