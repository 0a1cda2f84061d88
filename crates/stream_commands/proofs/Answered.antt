-- What a command on a stream answers, by what its beginning, the keeper and the frames of its stream came to.
use Rattle.std.proofs.Common.{◌≡◌, inl, inr, refl, ℕ, List, true, Option, Result, Ok, Err}
use Rattle.std.proofs.lemmas.Bool.{false≢true}
use Rattle.boot_keeper.specs.Boots.{BootsNext}
use Rattle.boot_keeper.specs.declared.boot_fault.BootFault.{BootFault}
use Rattle.boot_keeper.specs.declared.boot_fault.BootFault.TheVariants.{KeeperFault, Spent}
use Rattle.spdm_basis.specs.Stream.{HasFault}
use Rattle.stream_commands.specs.Kept.{HasNoBoot, IsBootCause, IsKeptAnswerOf, IsKeptCauseOf, IsNextBoot, IsStreamUnread, KeeperState, is_unasked, told_of}
use Rattle.stream_commands.specs.Outside.{IsAnswerOf, IsCauseOf, IsFollowedBy, IsSeeded, IsUnwritten, Outside, StreamCommand, outside}
use Rattle.stream_commands.specs.Texts.{IsBeginCauseOf, TextKind, Tries}
use Rattle.stream_commands.specs.declared.fault.StreamFault.{StreamFault}
use Rattle.stream_commands.specs.declared.fault.StreamFault.TheVariants as fault
use Rattle.stream_commands.specs.declared.kept_fault.KeptFault.TheVariants.{Stream}

-- ---- Without a keeper.

-- Where there is no beginning nothing was written, and no seed is gone.
pub not_begun : {A : Type 0} (command : StreamCommand A) (boot : ℕ) (left rest held : Option (List ℕ)) (seeds others : Option (List (List ℕ))) (n : Tries) (written : ℕ) (f : StreamFault) →
    others ≡ seeds → IsBeginCauseOf command.text left n f →
    IsCauseOf command boot (outside left held seeds n.read_before written n.seeded_before) (outside rest held others n.read_after written n.seeded_after) f
not_begun command boot left rest held seeds others n written fault.ReadFault same is = (is, inl (refl, same))
not_begun command boot left rest held seeds others n written fault.SeedFault same is = (is.0, is.1, (refl, same))
not_begun command boot left rest held seeds others n written fault.TooLong same is = inl (is, (refl, same))
not_begun command boot left rest held seeds others n written (fault.BadScript line f) same is = (is, (refl, same))
not_begun command boot left rest held seeds others n written fault.OutOfMemory same is = (refl, inl same)
not_begun command boot left rest held seeds others n written fault.WriteFault same is = absurd is
not_begun command boot left rest held seeds others n written (fault.BadFrame at) same is = absurd is

-- Where there is one, what came of the stream is answered.
pub answered : {A : Type 0} (command : StreamCommand A) (boot : ℕ) (before after : Outside) → IsSeeded command.text before after → (result : Result A StreamFault) →
    IsFollowedBy command boot before after result → IsAnswerOf command boot before after result
answered command boot before after seeded (Ok answer) is = is
answered command boot before after seeded (Err fault.ReadFault) is = (is.0, inr is.1)
answered command boot before after seeded (Err fault.WriteFault) is = is
answered command boot before after seeded (Err fault.TooLong) is = inr is
answered command boot before after seeded (Err (fault.BadFrame at)) is = is
answered command boot before after seeded (Err fault.OutOfMemory) is = (is, inr seeded)
answered command boot before after seeded (Err fault.SeedFault) is = absurd is
answered command boot before after seeded (Err (fault.BadScript line f)) is = absurd is

-- ---- In the life of the next boot of a keeper.

-- Where there is no beginning the keeper was not asked.
pub not_begun_kept : {A : Type 0} (command : StreamCommand A) (found : KeeperState) (left rest held : Option (List ℕ)) (seeds others : Option (List (List ℕ))) (n : Tries) (written : ℕ) (f : StreamFault) →
    others ≡ seeds → IsBeginCauseOf command.text left n f →
    IsKeptCauseOf command found found (outside left held seeds n.read_before written n.seeded_before) (outside rest held others n.read_after written n.seeded_after) (Stream f)
not_begun_kept command found left rest held seeds others n written fault.ReadFault same is = (is, inl ((refl, same), refl))
not_begun_kept command found left rest held seeds others n written fault.SeedFault same is = (is.0, is.1, ((refl, same), refl))
not_begun_kept command found left rest held seeds others n written fault.TooLong same is = inl (is, ((refl, same), refl))
not_begun_kept command found left rest held seeds others n written (fault.BadScript line f) same is = (is, ((refl, same), refl))
not_begun_kept command found left rest held seeds others n written fault.OutOfMemory same is = (refl, inl (same, refl))
not_begun_kept command found left rest held seeds others n written fault.WriteFault same is = absurd is
not_begun_kept command found left rest held seeds others n written (fault.BadFrame at) same is = absurd is

-- There is no next boot.
boot_cause : (found left : KeeperState) (f : BootFault) → (f ≡ KeeperFault → HasFault found.faults left.faults) → (f ≡ Spent → left.faults ≡ found.faults) → IsBootCause found left f
boot_cause found left KeeperFault failed spent = failed refl
boot_cause found left Spent failed spent = spent refl

pub no_boot : (text : TextKind) (found left : KeeperState) (before after : Outside) (none : BootFault) → IsSeeded text before after → IsStreamUnread text before after → IsUnwritten before after →
    BootsNext found.held (Err none) left.held → (none ≡ KeeperFault → HasFault found.faults left.faults) → (none ≡ Spent → left.faults ≡ found.faults) → HasNoBoot text found left before after none
no_boot text found left before after none seeded unread unwritten next failed spent = record {
  seeded = seeded;
  next = next;
  cause = boot_cause found left none failed spent;
  unwritten = unwritten;
  unread = unread;
}

-- There is one, and what came of the stream in its life is answered.
pub answered_kept : {A : Type 0} (command : StreamCommand A) (boot : ℕ) (found left : KeeperState) (before after : Outside) → IsNextBoot boot found left → IsSeeded command.text before after →
    (result : Result A StreamFault) → IsFollowedBy command boot before after result → IsKeptAnswerOf command found left before after (told_of result)
answered_kept command boot found left before after next seeded (Ok answer) is = (record { boot = boot; next = next; is = is.0 }, is.1)
answered_kept command boot found left before after next seeded (Err fault.ReadFault) is = (is.0, inr (record { boot = boot; next = next; is = is.1 }))
answered_kept command boot found left before after next seeded (Err fault.WriteFault) is = (is.0, record { boot = boot; next = next; is = is.1 })
answered_kept command boot found left before after next seeded (Err fault.TooLong) is = inr (record { boot = boot; next = next; is = is })
answered_kept command boot found left before after next seeded (Err (fault.BadFrame at)) is = record { boot = boot; next = next; is = is }
answered_kept command boot found left before after next seeded (Err fault.OutOfMemory) is = (is, inr (seeded, record { boot = boot; next = next; is = tt }))
answered_kept command boot found left before after next seeded (Err fault.SeedFault) is = absurd is
answered_kept command boot found left before after next seeded (Err (fault.BadScript line f)) is = absurd is

-- A fault of the stream comes of a keeper that was asked.
pub was_asked : {A G : Type 0} (command : StreamCommand A) (boot : ℕ) (before after : Outside) (f : StreamFault) → IsFollowedBy command boot before after (Err f) → is_unasked {A = A} (Err (Stream f)) ≡ true → G
was_asked command boot before after fault.ReadFault is unasked = absurd (false≢true unasked)
was_asked command boot before after fault.WriteFault is unasked = absurd (false≢true unasked)
was_asked command boot before after fault.TooLong is unasked = absurd (false≢true unasked)
was_asked command boot before after (fault.BadFrame at) is unasked = absurd (false≢true unasked)
was_asked command boot before after fault.OutOfMemory is unasked = absurd (false≢true unasked)
was_asked command boot before after fault.SeedFault is unasked = absurd is
was_asked command boot before after (fault.BadScript line f) is unasked = absurd is
