-- The first packet of a capture that does not conform, and a byte of it, or of a packet before it, with whose change the
-- packets conform.
-- This project's own.
use Rattle.std.specs.Prelude.{◌≡◌, ◌<◌, ◌+◌, ◌++◌, ◌∷◌, [], ℕ, List, length, reverse, slice_index, slice_index_or, take, drop, Bool, true, false, Option, Some, None}
use Rattle.capture_difference.specs.Changes.{change_of, changed, changes_of, keeps_end, share_of}
use Rattle.capture_difference.specs.Spots.{spot_at}
use Rattle.capture_difference.specs.declared.changes.Change.{Change}
use Rattle.capture_difference.specs.declared.difference.Difference.{Difference}
use Rattle.capture_difference.specs.declared.difference.WrongByte.{WrongByte}
use Rattle.capture_machine.specs.Capture.{Conforms}
use Rattle.capture_machine.specs.Difference.{IsDifference}
use Rattle.check_laws.specs.Judged.{why_of}
use Rattle.trace_check.specs.Checker.{IsChecker}
use Rattle.trace_check.specs.declared.checker.Checker.{Checker}
use Rattle.world_machine.specs.Setup.{Configuration}

-- ---- Whether packets conform.

abbrev pub IsWhether : Configuration → List (List ℕ) → Bool → Type 0
IsWhether w packets true = Conforms w packets
IsWhether w packets false = Conforms w packets → ⊥

-- They do, and this is kept of them; or they do not.
abbrev pub IsFollowed : Configuration → List (List ℕ) → Bool → Checker → Type 0
IsFollowed w packets true seen = IsChecker seen w (reverse packets)
IsFollowed w packets false seen = Conforms w packets → ⊥

-- ---- A packet, with those before it and those behind it.

-- With this change of it, by which it ends a body if it did, the packets conform.
abbrev pub Mends : Configuration → (before : List (List ℕ)) → (packet : List ℕ) → (behind : List (List ℕ)) → (number : ℕ) → Type 0
Mends w before packet behind number =
    (keeps_end packet (change_of packet number) ≡ true) × Conforms w (before ++ changed packet (change_of packet number) ∷ behind)

-- With none of its first changes they do.
abbrev pub NoneMends : Configuration → (before : List (List ℕ)) → (packet : List ℕ) → (behind : List (List ℕ)) → (most : ℕ) → Type 0
NoneMends w before packet behind most = (number : ℕ) → number < most → Mends w before packet behind number → ⊥

-- What is told of a change of the packet that has this number in the capture.
abbrev pub wrong_byte : (number : ℕ) → (packet : List ℕ) → Change → WrongByte
wrong_byte number packet change = record {
  packet = number;
  place = change.place;
  came = slice_index packet change.place;
  conforms = change.byte;
  spot = spot_at (changed packet change) change.place;
}

-- What is told of one change.
abbrev pub IsTried : Configuration → (before : List (List ℕ)) → (packet : List ℕ) → (behind : List (List ℕ)) → (number : ℕ) → Option WrongByte → Type 0
IsTried w before packet behind number None = Mends w before packet behind number → ⊥
IsTried w before packet behind number (Some b) =
    Mends w before packet behind number × (b ≡ wrong_byte (length before + 1) packet (change_of packet number))

-- What is told of so many changes: the first with which the packets conform, if there is one.
abbrev pub IsFound : Configuration → (before : List (List ℕ)) → (packet : List ℕ) → (behind : List (List ℕ)) → (most : ℕ) → Option WrongByte → Type 0
IsFound w before packet behind most None = NoneMends w before packet behind most
IsFound w before packet behind most (Some b) =
    (number : ℕ) × (number < most) × Mends w before packet behind number × NoneMends w before packet behind number
    × (b ≡ wrong_byte (length before + 1) packet (change_of packet number))

-- ---- Packets of which the last does not conform.

abbrev pub packet_at : List (List ℕ) → (place : ℕ) → List ℕ
packet_at packets place = slice_index_or packets place []

-- How many changes are tried of the packet at a place.
abbrev pub tries_at : List (List ℕ) → (place : ℕ) → ℕ
tries_at packets place = changes_of (length packets) (share_of place (length packets)) (length (packet_at packets place))

abbrev pub IsFoundAt : Configuration → List (List ℕ) → (place : ℕ) → Option WrongByte → Type 0
IsFoundAt w packets place found =
    IsFound w (take place packets) (packet_at packets place) (drop (place + 1) packets) (tries_at packets place) found

-- A byte of which another value is enough: of the last packet where one is found in it, and else of the one before it, and so on.
abbrev pub IsSought : Configuration → List (List ℕ) → Option WrongByte → Type 0
IsSought w packets None = (place : ℕ) → place < length packets → IsFoundAt w packets place None
IsSought w packets (Some b) =
    (place : ℕ) × (place < length packets) × IsFoundAt w packets place (Some b)
    × ((later : ℕ) → place < later → later < length packets → IsFoundAt w packets later None)

-- ---- A capture.

-- What is told of it: nothing, and it conforms; or its first packet that does not, with the reason, and a byte
-- among the packets up to it of which another value is enough.
abbrev pub IsJudged : Configuration → List (List ℕ) → Option Difference → Type 0
IsJudged w packets None = Conforms w packets
IsJudged w packets (Some d) = IsDifference w packets d.packet (why_of d.why) × IsSought w (take d.packet packets) d.byte

-- Of no capture two things are told.
abbrev pub OneDifference : Type 0
OneDifference = (w : Configuration) (packets : List (List ℕ)) (one other : Option Difference)
    → IsJudged w packets one → IsJudged w packets other → one ≡ other
