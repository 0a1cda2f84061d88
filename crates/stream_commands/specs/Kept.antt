-- What a command on a stream answers in the life of a boot that a keeper counts. This project's own.
use Rattle.std.specs.Prelude.{◌≡◌, ◌<◌, ◌≤◌, ◌⊎◌, ◌++◌, ℕ, List, length, nat_lt, if◌then◌else◌, Bool, true, false, Option, Some, Result, Ok, Err}
use Rattle.boot_keeper.specs.Boots.{BootsNext}
use Rattle.boot_keeper.specs.Slots.{greatest, last_boot}
use Rattle.boot_keeper.specs.declared.boot_fault.BootFault.{BootFault}
use Rattle.boot_keeper.specs.declared.boot_fault.BootFault.TheVariants.{KeeperFault, Spent}
use Rattle.frame_stream.specs.Frames.Ending.{Bad, TooLong}
use Rattle.spdm_basis.specs.Stream.{HasFault}
use Rattle.stream_commands.specs.InputEnds as stream
use Rattle.stream_commands.specs.InputEnds.{InputEnd}
use Rattle.stream_commands.specs.InputEnds.InputEnd.{BadText, InStream, LongText}
use Rattle.stream_commands.specs.Outside.{IsReadToEnd, IsSeeded, IsUntouched, IsUnwritten, Outside, StreamCommand}
use Rattle.stream_commands.specs.Texts.{TextKind}
use Rattle.stream_commands.specs.declared.fault.StreamFault.{StreamFault}
use Rattle.stream_commands.specs.declared.fault.StreamFault.TheVariants as fault
use Rattle.stream_commands.specs.declared.kept_fault.KeptFault.{KeptFault}
use Rattle.stream_commands.specs.declared.kept_fault.KeptFault.TheVariants.{Boot, Stream}

-- What a call finds of a keeper, and what it leaves of it: the bytes of its device, where it tells them, and the count of its faults.
pub record KeeperState : Type 0 where
  pub held : Option (List ℕ)
  pub faults : ℕ

abbrev pub keeper_state : (held : Option (List ℕ)) → (faults : ℕ) → KeeperState
keeper_state held faults = record { held = held; faults = faults }

-- The keeper was asked for its next boot, once, and this was answered.
pub record IsNextBoot (boot : ℕ) (found left : KeeperState) : Type 0 where
  pub next : BootsNext found.held (Ok boot) left.held
  pub above : 0 < boot
  pub fits : boot ≤ last_boot
  pub quiet : left.faults ≡ found.faults

-- In the life of the next boot, which is used up, this is so.
pub record InNextLife (Is : (boot : ℕ) → Type 0) (found left : KeeperState) : Type 0 where
  pub boot : ℕ
  pub next : IsNextBoot boot found left
  pub is : Is boot

-- ---- There is no next boot.

-- The source has left the stream, but for its first bytes, which were read with the text: at most 4,096.
abbrev pub IsStreamUnread : TextKind → (before after : Outside) → Type 0
IsStreamUnread text before after =
    (input : List ℕ) → before.left ≡ Some input
    → (first : List ℕ) × (rest : List ℕ) × (after.left ≡ Some rest) × (text.behind input ≡ first ++ rest) × (length first ≤ 4096)

-- The cause, by the count of the keeper.
abbrev pub IsBootCause : (found left : KeeperState) → BootFault → Type 0
IsBootCause found left KeeperFault = HasFault found.faults left.faults
IsBootCause found left Spent = left.faults ≡ found.faults

-- The seed was taken, the keeper was asked, and nothing was written.
pub record HasNoBoot (text : TextKind) (found left : KeeperState) (before after : Outside) (none : BootFault) : Type 0 where
  pub seeded : IsSeeded text before after
  pub next : BootsNext found.held (Err none) left.held
  pub cause : IsBootCause found left none
  pub unwritten : IsUnwritten before after
  pub unread : IsStreamUnread text before after

-- ---- What is answered.

-- Nothing was written, no seed was taken and the keeper was not asked.
abbrev pub IsNotBegun : (found left : KeeperState) → (before after : Outside) → Type 0
IsNotBegun found left before after = IsUntouched before after × (left ≡ found)

-- The seed was taken, and the keeper answered its next boot.
abbrev pub IsSetUpToFollow : TextKind → (found left : KeeperState) → (before after : Outside) → Type 0
IsSetUpToFollow text found left before after = IsSeeded text before after × InNextLife (λ boot. Unit {0}) found left

-- The cause of a fault, and what was written before it. Memory runs out before the seed is taken, or before the first
-- frame.
abbrev pub IsKeptCauseOf : {A : Type 0} → StreamCommand A → (found left : KeeperState) → (before after : Outside) → KeptFault → Type 0
IsKeptCauseOf command found left before after (Boot none) = HasNoBoot command.text found left before after none
IsKeptCauseOf command found left before after (Stream fault.ReadFault) =
    HasFault before.read_faults after.read_faults
    × (IsNotBegun found left before after ⊎ InNextLife (λ boot. command.part boot before after) found left)
IsKeptCauseOf command found left before after (Stream fault.WriteFault) =
    HasFault before.write_faults after.write_faults × InNextLife (λ boot. command.part boot before after) found left
IsKeptCauseOf command found left before after (Stream fault.SeedFault) =
    HasFault before.seed_faults after.seed_faults × command.text.good before.left × IsNotBegun found left before after
IsKeptCauseOf command found left before after (Stream fault.TooLong) =
    (command.text.long before.left × IsNotBegun found left before after)
    ⊎ InNextLife (λ boot. command.whole boot before after TooLong) found left
IsKeptCauseOf command found left before after (Stream (fault.BadFrame at)) =
    InNextLife (λ boot. command.whole boot before after (Bad at)) found left
IsKeptCauseOf command found left before after (Stream (fault.BadScript line f)) =
    command.text.bad (record { line = line; fault = f }) before.left × IsNotBegun found left before after
IsKeptCauseOf command found left before after (Stream fault.OutOfMemory) =
    IsUnwritten before after
    × (((after.seeds ≡ before.seeds) × (left ≡ found)) ⊎ IsSetUpToFollow command.text found left before after)

-- With `Ok` the stream was read to its end.
abbrev pub IsKeptAnswerOf : {A : Type 0} → StreamCommand A → (found left : KeeperState) → (before after : Outside) → Result A KeptFault → Type 0
IsKeptAnswerOf command found left before after (Ok answer) =
    InNextLife (λ boot. command.done boot before after answer) found left × IsReadToEnd before after
IsKeptAnswerOf command found left before after (Err fault) = IsKeptCauseOf command found left before after fault

-- With these answers the keeper was not asked.
abbrev pub is_unasked : {A : Type 0} → Result A KeptFault → Bool
is_unasked (Err (Stream fault.SeedFault)) = true
is_unasked (Err (Stream (fault.BadScript line f))) = true
is_unasked _ = false

-- ---- Where nothing fails.

-- An answer of a stream, as it is told.
abbrev pub told_of : {A : Type 0} → Result A StreamFault → Result A KeptFault
told_of (Ok answer) = Ok answer
told_of (Err fault) = Err (Stream fault)

-- This is told of an answer that is so.
abbrev pub IsToldOf : {A : Type 0} → (Is : Result A StreamFault → Type 0) → Result A KeptFault → Type 0
IsToldOf Is told = (answer : Result _ StreamFault) × (told ≡ told_of answer) × Is answer

-- An answer to an input that ends so, of a keeper with this device, where nothing fails and memory does not run out, by
-- the answers without a keeper. A fault of the text stands in front of one that no boot is left.
abbrev pub KeptAnswers : {A : Type 0} → (Answers : InputEnd → Result A StreamFault → Type 0) → (device : List ℕ) → InputEnd → Result A KeptFault → Type 0
KeptAnswers Answers device LongText told = IsToldOf (Answers LongText) told
KeptAnswers Answers device (BadText bad) told = IsToldOf (Answers (BadText bad)) told
KeptAnswers Answers device (InStream ending) told =
    ((greatest device < last_boot) × IsToldOf (Answers (InStream ending)) told)
    ⊎ ((last_boot ≤ greatest device) × (told ≡ Err (Boot Spent)))

-- The answer, of a command of which the stream tells it.
abbrev pub answer_for : (device : List ℕ) → InputEnd → Result (Unit {0}) KeptFault
answer_for device LongText = told_of (stream.answer_for LongText)
answer_for device (BadText bad) = told_of (stream.answer_for (BadText bad))
answer_for device (InStream ending) =
    if nat_lt (greatest device) last_boot then told_of (stream.answer_for (InStream ending)) else Err (Boot Spent)
