-- Streams of frames. This project's own.
use Rattle.std.specs.Prelude.{◌≡◌, ◌≢◌, ◌<◌, ◌≤◌, ◌+◌, ◌-◌, ◌/◌, ◌%◌, ◌^◌, ◌⊎◌, ◌++◌, ◌==◌, ◌&&◌, ◌||◌, ℕ, List, [], ◌∷◌, Bool, false, true, length, take}
use Rattle.frame_stream.specs.declared.kinds.Kinds.{Kinds}

-- A frame that is read: a packet, seconds that passed, or a line with a command.
pub data GivenFrame : Type 0 where
  PacketOf : (bytes : List ℕ) → GivenFrame
  TicksOf : (seconds : ℕ) → GivenFrame
  CommandOf : (line : List ℕ) → GivenFrame

-- Its kind.
abbrev pub kind_of : GivenFrame → ℕ
kind_of (PacketOf bytes) = 1
kind_of (TicksOf seconds) = 2
kind_of (CommandOf line) = 3

-- Bytes after their length, which has two bytes, little-endian.
abbrev pub counted : List ℕ → List ℕ
counted bytes = length bytes % 256 ∷ length bytes / 256 ∷ bytes

-- A number of four bytes, little-endian.
abbrev pub four_bytes : ℕ → List ℕ
four_bytes n = n % 256 ∷ n / 256 % 256 ∷ n / 65536 % 256 ∷ n / 16777216 ∷ []

-- What follows the kind.
abbrev pub content_of : GivenFrame → List ℕ
content_of (PacketOf bytes) = counted bytes
content_of (TicksOf seconds) = four_bytes seconds
content_of (CommandOf line) = counted line

-- The bytes of a frame: its kind, and its content.
abbrev pub spelled : GivenFrame → List ℕ
spelled frame = kind_of frame ∷ content_of frame

-- The length, or the seconds, fit into their bytes.
abbrev pub fits : GivenFrame → Type 0
fits (PacketOf bytes) = length bytes < 2 ^ 16
fits (TicksOf seconds) = seconds < 2 ^ 32
fits (CommandOf line) = length line < 2 ^ 16

-- The kind of a frame is one of these: packets always, seconds and commands where they are read.
abbrev pub may_be : Kinds → ℕ → Bool
may_be kinds kind = kind == 1 || kind == 2 && kinds.ticks || kind == 3 && kinds.commands

-- A frame as it may stand in a stream of these kinds.
abbrev pub IsFrame : Kinds → GivenFrame → Type 0
IsFrame kinds frame = (may_be kinds (kind_of frame) ≡ true) × fits frame

-- All of them may.
abbrev pub AreFrames : Kinds → List GivenFrame → Type 0
AreFrames kinds [] = Unit {0}
AreFrames kinds (frame ∷ others) = IsFrame kinds frame × AreFrames kinds others

-- The bytes of frames, one after the other.
abbrev pub all_spelled : List GivenFrame → List ℕ
all_spelled [] = []
all_spelled (frame ∷ others) = spelled frame ++ all_spelled others

-- These frames precede a stream.
pub record Begin (kinds : Kinds) (frames : List GivenFrame) (stream : List ℕ) : Type 0 where
  pub rest : List ℕ
  pub parts : stream ≡ all_spelled frames ++ rest
  pub allowed : AreFrames kinds frames

-- The most bytes of a stream that are read.
abbrev pub stream_limit : ℕ
stream_limit = 2 ^ 40

-- ---- Where a stream ends.

-- The first byte is no kind.
abbrev pub IsWrong : Kinds → List ℕ → Type 0
IsWrong kinds [] = ⊥
IsWrong kinds (kind ∷ bytes) = may_be kinds kind ≡ false

-- No whole frame stands in front.
abbrev pub HasNoFrame : Kinds → List ℕ → Type 0
HasNoFrame kinds bytes = (frame : GivenFrame) (rest : List ℕ) → IsFrame kinds frame → bytes ≡ spelled frame ++ rest → ⊥

-- Of a stream at most `limit` bytes are read; the frame that begins at this byte precedes the bytes that are left. It
-- is bad: its kind is wrong, or it is cut by the end of input.
abbrev pub IsBad : Kinds → (limit at : ℕ) → List ℕ → Type 0
IsBad kinds limit at bytes =
    IsWrong kinds (take (limit - at) bytes)
    ⊎ ((bytes ≢ []) × (at + length bytes ≤ limit) × HasNoFrame kinds bytes)

-- It is not bad in the bytes that are read, and not whole there, and there is one more.
pub record IsLong (kinds : Kinds) (limit at : ℕ) (bytes : List ℕ) : Type 0 where
  pub more : limit < at + length bytes
  pub right : IsWrong kinds (take (limit - at) bytes) → ⊥
  pub unfinished : HasNoFrame kinds (take (limit - at) bytes)

-- How a stream ends: between two frames, with a bad one that begins at this byte, or beyond the limit.
pub data Ending : Type 0 where
  Done : Ending
  Bad : (at : ℕ) → Ending
  TooLong : Ending

-- The bytes that are left end so.
abbrev pub Ends : Kinds → (limit at : ℕ) → List ℕ → Ending → Type 0
Ends kinds limit at bytes Done = bytes ≡ []
Ends kinds limit at bytes (Bad place) = (place ≡ at) × IsBad kinds limit at bytes
Ends kinds limit at bytes TooLong = IsLong kinds limit at bytes

-- A stream: its whole frames in order, and how it ends after them.
pub record IsStream (kinds : Kinds) (limit : ℕ) (stream : List ℕ) (frames : List GivenFrame) (ending : Ending) : Type 0 where
  pub rest : List ℕ
  pub parts : stream ≡ all_spelled frames ++ rest
  pub allowed : AreFrames kinds frames
  pub within : length (all_spelled frames) ≤ limit
  pub ends : Ends kinds limit (length (all_spelled frames)) rest ending
