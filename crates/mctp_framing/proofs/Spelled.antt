-- The fields of a packet as it is written are its fields.
use Rattle.std.proofs.Common.{◌≡◌, ◌∙◌, refl, suc, nat_lt, length, ◌<◌, ◌+◌, ◌*◌, ◌/◌, ◌%◌, ℕ, Bool, true, false, List, nat_eq, ap, arith, eq-eqb}
use Rattle.std.proofs.lemmas.Grind.{common_steps}
use Rattle.std.proofs.lemmas.Bool.{ne_eqb}
use Rattle.std.specs.Prelude.{Option, None, Result, Ok}
use Rattle.spdm_basis.specs.declared.PacketFault.{PacketFault}
use Rattle.mctp_framing.specs.Packet.{PacketFields, bit, fault_or, fields_of, packet_fault, parsed, spelled_packet}

bit_small : (x : Bool) → bit x < 2
bit_small true = omega arith
bit_small false = omega arith

-- a bit is set where its number is 1
set_as : (x : Bool) (n : ℕ) → n ≡ bit x → nat_eq n 1 ≡ x
set_as true n e = eq-eqb n 1 e
set_as false n e = ne_eqb n 1 (λ one. omega (arith, e, one))

-- the parts of the fourth byte
record Marks (a b q c t m : ℕ) : Type 0 where
  first : m / 128 ≡ a
  second : m / 64 % 2 ≡ b
  third : m / 16 % 4 ≡ q
  fourth : m / 8 % 2 ≡ c
  fifth : m % 8 ≡ t

marks_parts : (a b q c t : ℕ) → a < 2 → b < 2 → q < 4 → c < 2 → t < 8 → Marks a b q c t (a * 128 + b * 64 + q * 16 + c * 8 + t)
marks_parts a b q c t ha hb hq hc ht = record {
  first = omega arith;
  second = omega arith;
  third = omega arith;
  fourth = omega arith;
  fifth = omega arith;
}

same_fields : (p : PacketFields) (start end owner : Bool) (sequence tag : ℕ) → start ≡ p.start → end ≡ p.end → sequence ≡ p.sequence → owner ≡ p.owner → tag ≡ p.tag →
    record { to = p.to; from = p.from; start = start; end = end; sequence = sequence; owner = owner; tag = tag; payload = p.payload } ≡ p
same_fields p start end owner sequence tag a b c d e = rw (a, b, c, d, e) refl

pub fields_of-spelled_packet : (p : PacketFields) → p.sequence < 4 → p.tag < 8 → fields_of (spelled_packet p) ≡ p
fields_of-spelled_packet p few small =
    let m = marks_parts (bit p.start) (bit p.end) p.sequence (bit p.owner) p.tag (bit_small p.start) (bit_small p.end) few (bit_small p.owner) small in
    same_fields p _ _ _ _ _ (set_as p.start _ m.first) (set_as p.end _ m.second) m.third (set_as p.owner _ m.fourth) m.fifth

long_enough : (n : ℕ) → nat_lt (suc (suc (suc (suc n)))) 4 ≡ false
long_enough n = grind (arith, common_steps)

no_fault : (p : PacketFields) → packet_fault (spelled_packet p) ≡ None
no_fault p = rw (long_enough (length p.payload)) refl

read_where_sound : (bytes : List ℕ) → packet_fault bytes ≡ None → parsed bytes ≡ Ok (fields_of bytes)
read_where_sound bytes sound = ap (λ (fault : Option PacketFault). fault_or fault (fields_of bytes)) sound

-- a packet as it is written is read as its fields
pub parsed-spelled_packet : (p : PacketFields) → p.sequence < 4 → p.tag < 8 → parsed (spelled_packet p) ≡ Ok p
parsed-spelled_packet p few small =
    read_where_sound (spelled_packet p) (no_fault p)
    ∙ ap (λ (q : PacketFields). let r : Result PacketFields PacketFault = Ok q in r) (fields_of-spelled_packet p few small)
