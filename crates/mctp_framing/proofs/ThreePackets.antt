-- A body of 130 bytes at a unit of 64, with the tag owner bit and tag 3: three packets, with payloads of 64, 64 and 2
-- bytes and fourth bytes 8b, 1b and 6b.
use Rattle.std.proofs.Common.{◌≡◌, refl, ℕ, true, List, [], ◌∷◌, ◌++◌, length, map, drop, slice_index, get_or}
use Rattle.std.specs.List.{range_with_len}
use Rattle.spdm_basis.specs.declared.DropCause.TheVariants.{WrongSequence, NoStart}
use Rattle.mctp_framing.specs.Packet.{PacketFields, fields_of}
use Rattle.mctp_framing.specs.Cutting.{RouteFields, packets_of}
use Rattle.mctp_framing.specs.Gathering.{Receiver, all_gathered}
use Rattle.mctp_framing.specs.Gathering.Gathered.{Whole, More, Dropped}

abbrev body : List ℕ
body = 5 ∷ range_with_len 1 127 ++ 0x80 ∷ 0x81 ∷ []

abbrev route : RouteFields
route = record { to = 9; from = 8; owner = true; tag = 3 }

abbrev receiver : Receiver
receiver = record { own = 9; peer = 8; limit = 130 }

pub payload_sizes : map (λ (p : List ℕ). length (drop 4 p)) (packets_of route 64 body) ≡ 64 ∷ 64 ∷ 2 ∷ []
payload_sizes = refl

pub fourth_bytes : map (λ (p : List ℕ). slice_index p 3) (packets_of route 64 body) ≡ 0x8b ∷ 0x1b ∷ 0x6b ∷ []
fourth_bytes = refl

abbrev nth : ℕ → PacketFields
nth k = fields_of (get_or (packets_of route 64 body) k [])

pub in_order : all_gathered receiver (nth 2 ∷ nth 1 ∷ nth 0 ∷ []) ≡ Whole route body ∷ More ∷ More ∷ []
in_order = refl

pub second_left_out : all_gathered receiver (nth 2 ∷ nth 0 ∷ []) ≡ Dropped WrongSequence ∷ More ∷ []
second_left_out = refl

-- after that nothing is unfinished
pub again_after_fault : all_gathered receiver (nth 2 ∷ nth 2 ∷ nth 0 ∷ []) ≡ Dropped NoStart ∷ Dropped WrongSequence ∷ More ∷ []
again_after_fault = refl
