-- Frames that are read one after another. This project's own.
use Rattle.std.specs.Prelude.{◌≡◌, ◌+◌, ℕ, List, length, Option}
use Rattle.spdm_basis.specs.Stream.{Gives}
use Rattle.frame_stream.specs.Frames.{AreFrames, GivenFrame, all_spelled}
use Rattle.frame_stream.specs.Standing.{IsDone, left_of}
use Rattle.frame_stream.specs.declared.kinds.Kinds.{Kinds}
use Rattle.frame_stream.specs.declared.reader.FrameReader.{FrameReader}

-- A stream of these kinds, of which so many bytes are read at most, with nothing taken yet.
pub record IsFresh (allowed : Kinds) (most : ℕ) (reader : FrameReader) : Type 0 where
  pub kinds : reader.kinds ≡ allowed
  pub limit : reader.limit ≡ most
  pub taken : reader.taken ≡ 0

-- These frames were read in order: they stood before what was left.
pub record AreRead (old : FrameReader) (before : Option (List ℕ)) (frames : List GivenFrame) (new : FrameReader) (after : Option (List ℕ)) : Type 0 where
  pub allowed : AreFrames old.kinds frames
  pub gives : Gives (left_of old before) (all_spelled frames) (left_of new after)
  pub taken : new.taken ≡ old.taken + length (all_spelled frames)
  pub kinds : new.kinds ≡ old.kinds
  pub limit : new.limit ≡ old.limit

-- There was no further frame, and nothing was written.
pub record IsOver (old : FrameReader) (before held : Option (List ℕ)) (new : FrameReader) (after holds : Option (List ℕ)) : Type 0 where
  pub done : IsDone old before new after
  pub same : holds ≡ held

-- The counts of faults of a source and of a sink, before a call and after it.
pub record Counts : Type 0 where
  pub read_before : ℕ
  pub read_after : ℕ
  pub written_before : ℕ
  pub written_after : ℕ
