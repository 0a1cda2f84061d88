-- What is written as frames.
use Rattle.std.proofs.Common.{◌≡◌, ◌∙◌, ◌++◌, ℕ, List, [], ◌∷◌, map, refl, ap, sym, append-nil}
use Rattle.device_serve.specs.Devised.{frames_of}
use Rattle.device_serve.specs.Devised.Writing.{Sends, Tells}
use Rattle.frame_stream.specs.Frames.{counted, spelled}
use Rattle.frame_stream.specs.Frames.GivenFrame.{PacketOf}
use Rattle.frame_stream.specs.Packets.{packet_frames}
use Rattle.requester_drive.specs.Driven.{line_frame, without_feed}
use Rattle.spdm_grammar.specs.Lines.{Line}
use Rattle.trace_text.specs.TraceLines.{line_text}

pub framed : (line : Line) (text : List ℕ) → text ≡ line_text line → 4 ∷ counted (without_feed text) ≡ line_frame line
framed line text is = ap (λ (t : List ℕ). 4 ∷ counted (without_feed t)) is

pub framed_alone : (line : Line) (text : List ℕ) → text ≡ line_text line → 4 ∷ counted (without_feed text) ≡ frames_of (Tells line ∷ [])
framed_alone line text is = framed line text is ∙ sym (append-nil (line_frame line))

pub sent_frames : (packets : List (List ℕ)) → packet_frames packets ≡ frames_of (map Sends packets)
sent_frames [] = refl
sent_frames (packet ∷ others) = ap (λ (l : List ℕ). spelled (PacketOf packet) ++ l) (sent_frames others)
