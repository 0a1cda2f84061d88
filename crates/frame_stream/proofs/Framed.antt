-- Packets as frames, one after another.
use Rattle.std.proofs.Common.{◌≡◌, ◌∙◌, ◌++◌, ◌+◌, ◌<◌, ◌≤◌, ◌^◌, ℕ, zero, suc, List, [], ◌∷◌, Some, length, get_or, take, drop, ap, sym, arith, append_assoc, append-nil}
use Rattle.std.proofs.lemmas.Option.{none-some, same_Some}
use Rattle.std.specs.List.{slice_get}
use Rattle.mctp_framing.proofs.Packets.{packets_fit}
use Rattle.mctp_framing.specs.Cutting.{RouteFields, packets_of}
use Rattle.frame_stream.specs.Frames.{spelled}
use Rattle.frame_stream.specs.Frames.GivenFrame.{PacketOf}
use Rattle.frame_stream.specs.Packets.{AreShort, packet_frames}

-- the frames up to one, its own, and those after it
pub frames_at : (i : ℕ) (packets : List (List ℕ)) (packet : List ℕ) → Some packet ≡ slice_get packets i →
    packet_frames packets ≡ packet_frames (take i packets) ++ (spelled (PacketOf packet) ++ packet_frames (drop (suc i) packets))
frames_at i [] packet is = absurd (none-some packet (sym is))
frames_at zero (p ∷ packets) packet is = ap (λ (l : List ℕ). spelled (PacketOf l) ++ packet_frames packets) (sym (same_Some packet p is))
frames_at (suc i) (p ∷ packets) packet is =
    ap (λ (l : List ℕ). spelled (PacketOf p) ++ l) (frames_at i packets packet is)
    ∙ sym (append_assoc (spelled (PacketOf p)) (packet_frames (take i packets)) (spelled (PacketOf packet) ++ packet_frames (drop (suc i) packets)))

-- one more of them
pub frames_more : (i : ℕ) (packets : List (List ℕ)) (packet : List ℕ) → Some packet ≡ slice_get packets i →
    packet_frames (take (suc i) packets) ≡ packet_frames (take i packets) ++ spelled (PacketOf packet)
frames_more i [] packet is = absurd (none-some packet (sym is))
frames_more zero (p ∷ packets) packet is = ap (λ (l : List ℕ). spelled (PacketOf l) ++ []) (sym (same_Some packet p is)) ∙ append-nil (spelled (PacketOf packet))
frames_more (suc i) (p ∷ packets) packet is =
    ap (λ (l : List ℕ). spelled (PacketOf p) ++ l) (frames_more i packets packet is)
    ∙ sym (append_assoc (spelled (PacketOf p)) (packet_frames (take i packets)) (spelled (PacketOf packet)))

pub short_at : (i : ℕ) (packets : List (List ℕ)) (packet : List ℕ) → Some packet ≡ slice_get packets i → AreShort packets → length packet < 2 ^ 16
short_at i [] packet is short = absurd (none-some packet (sym is))
short_at zero (p ∷ packets) packet is short = rw (same_Some packet p is) short.0
short_at (suc i) (p ∷ packets) packet is short = short_at i packets packet is short.1

-- ---- Packets that a body was cut into.

-- packets of at most so many bytes
all_short : (most : ℕ) (packets : List (List ℕ)) → most < 2 ^ 16 → ((k : ℕ) (d : List ℕ) → k < length packets → length (get_or packets k d) ≤ most) → AreShort packets
all_short most [] few fit = tt
all_short most (p ∷ packets) few fit =
    let own : length p ≤ most = fit 0 [] (omega arith) in
    (omega (arith, own, few), all_short most packets few (λ k d inside. fit (suc k) d (omega (arith, inside))))

pub cut_short : (route : RouteFields) (unit : ℕ) (body : List ℕ) → unit ≤ 1024 → AreShort (packets_of route unit body)
cut_short route unit body few = all_short (unit + 4) (packets_of route unit body) (omega (arith, few)) (packets_fit route unit body)
