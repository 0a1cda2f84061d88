-- What a reader of frames keeps of a stream, and what its calls answer. This project's own.
use Rattle.std.specs.Prelude.{◌≡◌, ◌<◌, ◌≤◌, ◌+◌, ◌-◌, ◌*◌, ◌^◌, ◌++◌, ◌≢◌, ℕ, List, ◌∷◌, true, length, take, drop, slice_index, Option, Some, None}
use Rattle.spdm_basis.specs.Stream.{Gives, HasFault, IsAtEnd}
use Rattle.frame_stream.specs.Frames.{GivenFrame, IsBad, IsFrame, IsLong, counted, may_be, spelled}
use Rattle.frame_stream.specs.Frames.GivenFrame.{PacketOf, TicksOf, CommandOf}
use Rattle.frame_stream.specs.declared.kinds.FrameKind.{FrameKind}
use Rattle.frame_stream.specs.declared.kinds.FrameKind.TheVariants.{Packet, Tick, Command}
use Rattle.frame_stream.specs.declared.kinds.FrameFault.{FrameFault}
use Rattle.frame_stream.specs.declared.kinds.FrameFault.TheVariants.{ReadFault, TooLong, BadFrame}
use Rattle.frame_stream.specs.declared.kinds.Kinds.{Kinds}
use Rattle.frame_stream.specs.declared.reader.FrameReader.{FrameReader}
use Rattle.frame_stream.specs.declared.filling.Stop.{Stop}
use Rattle.frame_stream.specs.declared.filling.Stop.TheVariants as stop

-- Bytes that were read already, before those that a source tells it has left.
abbrev pub in_front : List ℕ → Option (List ℕ) → Option (List ℕ)
in_front bytes None = None
in_front bytes (Some left) = Some (bytes ++ left)

-- What is left of the stream: what the reader has read ahead, and what its source has left.
abbrev pub left_of : FrameReader → Option (List ℕ) → Option (List ℕ)
left_of reader remaining = in_front reader.ahead remaining

-- The bytes of the packet or of the command that was read last.
abbrev pub content_in : FrameReader → List ℕ
content_in reader = drop 3 reader.frame

-- The frame of a kind, with this content.
abbrev pub frame_as : FrameKind → List ℕ → GivenFrame
frame_as Packet bytes = PacketOf bytes
frame_as (Tick seconds) bytes = TicksOf seconds
frame_as Command bytes = CommandOf bytes

-- A frame was read: it stood before what was left.
pub record IsRead (old : FrameReader) (before : Option (List ℕ)) (is : GivenFrame) (new : FrameReader) (after : Option (List ℕ)) : Type 0 where
  pub allowed : IsFrame old.kinds is
  pub gives : Gives (left_of old before) (spelled is) (left_of new after)
  pub taken : new.taken ≡ old.taken + length (spelled is)
  pub begins : new.taken ≡ length new.frame + old.taken
  pub kinds : new.kinds ≡ old.kinds
  pub limit : new.limit ≡ old.limit

-- Nothing was left, and nothing changed.
pub record IsDone (old : FrameReader) (before : Option (List ℕ)) (new : FrameReader) (after : Option (List ℕ)) : Type 0 where
  pub ended : IsAtEnd (left_of old before)
  pub same : (left : List ℕ) → left_of old before ≡ Some left → left_of new after ≡ Some left
  pub taken : new.taken ≡ old.taken
  pub kinds : new.kinds ≡ old.kinds
  pub limit : new.limit ≡ old.limit

-- The answer is the next frame, or that there is none.
abbrev pub IsNext : FrameReader → Option (List ℕ) → Option FrameKind → FrameReader → Option (List ℕ) → Type 0
IsNext old before None new after = IsDone old before new after
IsNext old before (Some kind) new after = IsRead old before (frame_as kind (content_in new)) new after

-- The cause of a fault: what is left of the stream, or a count of faults.
abbrev pub IsCause : FrameReader → Option (List ℕ) → (failed fails : ℕ) → FrameFault → Type 0
IsCause old before failed fails ReadFault = HasFault failed fails
IsCause old before failed fails TooLong = (left : List ℕ) → left_of old before ≡ Some left → IsLong old.kinds old.limit old.taken left
IsCause old before failed fails (BadFrame at) =
    (at ≡ old.taken) × ((left : List ℕ) → left_of old before ≡ Some left → IsBad old.kinds old.limit old.taken left)

-- A reader that has read nothing but these bytes.
pub record IsNew (allowed : Kinds) (most : ℕ) (before : List ℕ) (reader : FrameReader) : Type 0 where
  pub kinds : reader.kinds ≡ allowed
  pub limit : reader.limit ≡ most
  pub taken : reader.taken ≡ 0
  pub ahead : reader.ahead ≡ before

-- ---- Within a frame.

-- All bytes from the beginning of a frame on, of which some were taken.
abbrev pub whole_of : FrameReader → Option (List ℕ) → Option (List ℕ)
whole_of reader remaining = in_front reader.frame (left_of reader remaining)

-- More bytes of the frame were taken, and no others.
pub record IsMoved (old : FrameReader) (before : Option (List ℕ)) (new : FrameReader) (after : Option (List ℕ)) : Type 0 where
  pub more : List ℕ
  pub frame : new.frame ≡ old.frame ++ more
  pub whole : (left : List ℕ) → whole_of old before ≡ Some left → whole_of new after ≡ Some left
  pub taken : new.taken ≡ old.taken + length more
  pub kinds : new.kinds ≡ old.kinds
  pub limit : new.limit ≡ old.limit

-- Bytes may have been read ahead, and nothing else happened.
pub record IsSupplied (old : FrameReader) (before : Option (List ℕ)) (new : FrameReader) (after : Option (List ℕ)) : Type 0 where
  pub whole : (left : List ℕ) → left_of old before ≡ Some left → left_of new after ≡ Some left
  pub frame : new.frame ≡ old.frame
  pub taken : new.taken ≡ old.taken
  pub kinds : new.kinds ≡ old.kinds
  pub limit : new.limit ≡ old.limit

-- Some bytes that were read ahead were taken, and no more than these.
pub record IsTaken (most : ℕ) (old new : FrameReader) : Type 0 where
  pub count : ℕ
  pub some : 0 < count
  pub few : count ≤ most
  pub there : count ≤ length old.ahead
  pub frame : new.frame ≡ old.frame ++ take count old.ahead
  pub ahead : new.ahead ≡ drop count old.ahead
  pub taken : new.taken ≡ old.taken + count
  pub kinds : new.kinds ≡ old.kinds
  pub limit : new.limit ≡ old.limit

-- Why no further byte is taken.
abbrev pub IsShort : FrameReader → Option (List ℕ) → (failed fails : ℕ) → Stop → Type 0
IsShort old before failed fails stop.End = IsAtEnd (left_of old before)
IsShort old before failed fails stop.TooLong =
    (old.taken ≡ old.limit) × ((left : List ℕ) → left_of old before ≡ Some left → 0 < length left)
IsShort old before failed fails stop.ReadFault = HasFault failed fails

-- Bytes precede more bytes.
abbrev pub IsCutShort : List ℕ → List ℕ → Type 0
IsCutShort bytes all = (behind : List ℕ) × (all ≡ bytes ++ behind) × (0 < length behind)

-- Why the frame has fewer bytes than so many.
abbrev pub IsStopped : (size : ℕ) → FrameReader → Option (List ℕ) → FrameReader → (failed fails : ℕ) → Stop → Type 0
IsStopped size old before new failed fails stop.End =
    (length new.frame < size) × ((left : List ℕ) → whole_of old before ≡ Some left → left ≡ new.frame)
IsStopped size old before new failed fails stop.TooLong =
    (length new.frame < size) × (new.taken ≡ new.limit)
    × ((left : List ℕ) → whole_of old before ≡ Some left → IsCutShort new.frame left)
IsStopped size old before new failed fails stop.ReadFault = HasFault failed fails

-- The frame of this kind is whole, and what follows it is left.
pub record IsWhole (old : FrameReader) (before : Option (List ℕ)) (new : FrameReader) (after : Option (List ℕ)) (frame : GivenFrame) : Type 0 where
  pub is : new.frame ≡ spelled frame
  pub fit : IsFrame old.kinds frame
  pub moved : IsMoved old before new after

-- Where the frame began of which some bytes were taken.
abbrev pub beginning_of : FrameReader → ℕ
beginning_of reader = reader.taken - length reader.frame

-- The size of the frame whose length is the two bytes after the kind.
abbrev pub size_in : List ℕ → ℕ
size_in frame = 3 + slice_index frame 1 + 256 * slice_index frame 2

-- The kind is one of a frame of counted bytes.
abbrev pub IsCountedKind : FrameReader → Type 0
IsCountedKind reader = (may_be reader.kinds (slice_index reader.frame 0) ≡ true) × (slice_index reader.frame 0 ≢ 2)

-- All counted bytes were taken.
pub record IsCounted (old : FrameReader) (before : Option (List ℕ)) (new : FrameReader) (after : Option (List ℕ)) : Type 0 where
  pub is : new.frame ≡ slice_index old.frame 0 ∷ counted (content_in new)
  pub fit : length (content_in new) < 2 ^ 16
  pub moved : IsMoved old before new after

-- The cause of a fault within a frame, of which these bytes were taken.
abbrev pub IsCauseWithin : FrameReader → Option (List ℕ) → (failed fails : ℕ) → FrameFault → Type 0
IsCauseWithin old before failed fails ReadFault = HasFault failed fails
IsCauseWithin old before failed fails TooLong = (left : List ℕ) → whole_of old before ≡ Some left → IsLong old.kinds old.limit (beginning_of old) left
IsCauseWithin old before failed fails (BadFrame at) =
    (at ≡ beginning_of old) × ((left : List ℕ) → whole_of old before ≡ Some left → IsBad old.kinds old.limit (beginning_of old) left)
