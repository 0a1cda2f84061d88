-- Packets as frames. This project's own.
use Rattle.std.specs.Prelude.{◌<◌, ◌^◌, ◌++◌, ℕ, List, [], ◌∷◌, length}
use Rattle.frame_stream.specs.Frames.{spelled}
use Rattle.frame_stream.specs.Frames.GivenFrame.{PacketOf}

-- Packets as frames, one after the other.
abbrev pub packet_frames : List (List ℕ) → List ℕ
packet_frames [] = []
packet_frames (packet ∷ others) = spelled (PacketOf packet) ++ packet_frames others

-- Packets that each fit into a frame.
abbrev pub AreShort : List (List ℕ) → Type 0
AreShort [] = Unit {0}
AreShort (packet ∷ others) = (length packet < 2 ^ 16) × AreShort others
