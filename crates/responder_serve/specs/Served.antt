-- What a responder writes on a stream of frames. This project's own.
use Rattle.std.specs.Prelude.{◌≡◌, ◌++◌, ℕ, List, [], ◌∷◌, true, false, Option, Some}
use Rattle.script_ends.specs.Configured.{responder_end}
use Rattle.frame_stream.specs.Frames.{Begin, Ending, GivenFrame, IsStream, stream_limit}
use Rattle.frame_stream.specs.Frames.GivenFrame.{PacketOf, TicksOf, CommandOf}
use Rattle.frame_stream.specs.Packets.{packet_frames}
use Rattle.frame_stream.specs.declared.kinds.Kinds.{Kinds}
use Rattle.responder_machine.specs.Responding.{Responding, new_responding, responder_hears, ticks}
use Rattle.script_text.specs.declared.configuration.config.ScriptConfig.{ScriptConfig}
use Rattle.spdm_basis.specs.Stream.{Takes, TakesPrefix}

-- A responder reads packets and seconds that passed, and no commands.
abbrev pub served_kinds : Kinds
served_kinds = record { ticks = true; commands = false }

-- The packets that are sent in answer to a frame. No frame with a command stands in such a stream.
abbrev pub sent_for : Responding → GivenFrame → List (List ℕ)
sent_for r (PacketOf packet) = (responder_hears r packet).sent
sent_for r (TicksOf seconds) = []
sent_for r (CommandOf line) = []

-- The responder after a frame, and after all of them in order.
abbrev pub after_frame : Responding → GivenFrame → Responding
after_frame r (PacketOf packet) = (responder_hears r packet).after
after_frame r (TicksOf seconds) = ticks r seconds
after_frame r (CommandOf line) = r

abbrev pub after_frames : Responding → List GivenFrame → Responding
after_frames r [] = r
after_frames r (frame ∷ others) = after_frames (after_frame r frame) others

-- What is written in answer to all of them: the packets of each answer as frames, in order.
abbrev pub served_from : Responding → List GivenFrame → List ℕ
served_from r [] = []
served_from r (frame ∷ others) = packet_frames (sent_for r frame) ++ served_from (after_frame r frame) others

-- The responder of a configuration with a seed, in the life of a boot number, which was given nothing yet.
abbrev pub responder_in_life : ScriptConfig → (seed : List ℕ) → (boot : ℕ) → Responding
responder_in_life c seed boot = new_responding (responder_end c seed boot)

-- The same in its first life.
abbrev pub responder_of : ScriptConfig → (seed : List ℕ) → Responding
responder_of c seed = responder_in_life c seed 0

-- ---- What was read and written in a call, of a responder. Of a source that tells what it has left the stream is
-- known: `before` the call.

-- The answers to the frames of the stream were written, and no more. The stream ends so after them.
pub record IsServed (r : Responding) (before held holds : Option (List ℕ)) (ending : Ending) : Type 0 where
  pub frames : List GivenFrame
  pub stream : (left : List ℕ) → before ≡ Some left → IsStream served_kinds stream_limit left frames ending
  pub written : Takes held (served_from r frames) holds

-- The answers to the first frames of the stream were written, and no more.
pub record IsServedSoFar (r : Responding) (before held holds : Option (List ℕ)) : Type 0 where
  pub frames : List GivenFrame
  pub stream : (left : List ℕ) → before ≡ Some left → Begin served_kinds frames left
  pub written : Takes held (served_from r frames) holds

-- A prefix of them was written.
pub record IsServedInPart (r : Responding) (before held holds : Option (List ℕ)) : Type 0 where
  pub frames : List GivenFrame
  pub stream : (left : List ℕ) → before ≡ Some left → Begin served_kinds frames left
  pub written : TakesPrefix held (served_from r frames) holds
