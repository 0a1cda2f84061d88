-- Packets that wait: one that is sent where none waits is the next that a pump gives, and none waits after it.
use Rattle.std.proofs.Common.{◌≡◌, ◌∙◌, ℕ, suc, ◌+◌, List, [], ◌∷◌, Bool, true, false, Option, Some, None, refl, ap, arith}
use Rattle.std.specs.Prelude.{if◌then◌else◌}
use Rattle.world_machine.specs.World.{SentPacket, first_waiting, next_number, packet_at, stopped_at, with_sent}

-- This packet alone waits, under this number.
pub record OneWaits (packet : List ℕ) (sent : List SentPacket) : Type 0 where
  pub place : ℕ
  pub first : first_waiting sent ≡ Some (suc place)
  pub is : packet_at place sent ≡ Some packet
  pub none_after : first_waiting (stopped_at place sent) ≡ None

next_none : (o : Option ℕ) → next_number o ≡ None → o ≡ None
next_none None e = refl
next_none (Some n) e = absurd (cc)

pub one_more : (place : ℕ) → suc place + 1 ≡ suc (suc place)
one_more place = omega arith

behind_idle : (b : Bool) (bytes packet : List ℕ) (others : List SentPacket) → (if b then Some 1 else next_number (first_waiting others)) ≡ None → (first_waiting others ≡ None → OneWaits packet (with_sent others (packet ∷ [])))
    → OneWaits packet (record { bytes = bytes; waits = b } ∷ with_sent others (packet ∷ []))
behind_idle true bytes packet others idle next = absurd (cc)
behind_idle false bytes packet others idle next =
    let w = next (next_none (first_waiting others) idle) in record {
      place = suc w.place;
      first = ap next_number w.first ∙ ap (λ (n : ℕ). let o : Option ℕ = Some n in o) (one_more w.place);
      is = w.is;
      none_after = ap next_number w.none_after;
    }

pub one_waits : (sent : List SentPacket) (packet : List ℕ) → first_waiting sent ≡ None → OneWaits packet (with_sent sent (packet ∷ []))
one_waits [] packet idle = record { place = 0; first = refl; is = refl; none_after = refl }
one_waits (s ∷ others) packet idle = behind_idle s.waits s.bytes packet others idle (one_waits others packet)

pub none_more : (sent : List SentPacket) → with_sent sent [] ≡ sent
none_more [] = refl
none_more (s ∷ others) = ap (λ (x : List SentPacket). s ∷ x) (none_more others)
