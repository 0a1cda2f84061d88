-- A short clear message is one packet, which is gathered whole whatever came before it.
use Rattle.std.proofs.Common.{◌≡◌, ◌∙◌, ℕ, ◌<◌, List, [], ◌∷◌, length, Bool, true, false, nat_lt, nat_le, Option, None, Ok, ◌==◌, ◌&&◌, not, refl, ap, arith, eq-eqb}
use Rattle.spdm_basis.proofs.Bools.{lt_false}
use Rattle.std.specs.Prelude.{if◌then◌else◌}
use Rattle.std.proofs.lemmas.Bool.Decides.{nat_tests}
use Rattle.mctp_framing.specs.Packet.{PacketFields, spelled_packet, parsed}
use Rattle.mctp_framing.specs.Cutting.{RouteFields, only_packet}
use Rattle.mctp_framing.specs.Gathering.{Gathered, answer_from, first_cause}
use Rattle.mctp_framing.specs.Gathering.Gathered.{Whole}
use Rattle.mctp_framing.proofs.Packets.{packets_of-short}
use Rattle.mctp_framing.proofs.Spelled.{parsed-spelled_packet}
use Rattle.spdm_basis.specs.declared.DropCause.{DropCause}
use Rattle.spdm_basis.specs.declared.DropCause.TheVariants.{WrongSize, IntegritySet, TooLong}
use Rattle.spdm_machine.specs.Bodies.{clear_body}
use Rattle.spdm_machine.specs.Packets.{gathered_from, packets_to, body_limit}

abbrev pub route_to : (to from : ℕ) → Bool → ℕ → RouteFields
route_to to from owner tag = record { to = to; from = from; owner = owner; tag = tag }

abbrev pub fields_to : (to from : ℕ) → Bool → ℕ → List ℕ → PacketFields
fields_to to from owner tag m = only_packet (route_to to from owner tag) (clear_body m)

-- The packet of a short clear message.
abbrev pub packet_to : (to from : ℕ) → Bool → ℕ → List ℕ → List ℕ
packet_to to from owner tag m = spelled_packet (fields_to to from owner tag m)

pub one_packet : (to from : ℕ) (owner : Bool) (tag unit : ℕ) (m : List ℕ) → length m < unit → packets_to to from owner tag unit (clear_body m) ≡ packet_to to from owner tag m ∷ []
one_packet to from owner tag unit m short = packets_of-short (route_to to from owner tag) unit (clear_body m) (omega arith) (omega arith)

pub packet_read : (to from : ℕ) (owner : Bool) (tag : ℕ) (m : List ℕ) → tag < 8 → parsed (packet_to to from owner tag m) ≡ Ok (fields_to to from owner tag m)
packet_read to from owner tag m small = parsed-spelled_packet (fields_to to from owner tag m) (omega arith) small

ours : (b c : Bool) (g h : Gathered) → b ≡ true → c ≡ true → (if not (b && c) then g else h) ≡ h
ours b c g h e f = rw (e, f) refl

unbroken : (a b c : Bool) → a ≡ false → b ≡ false → c ≡ false → first_cause ((a, WrongSize) ∷ (b, IntegritySet) ∷ (c, TooLong) ∷ []) ≡ None
unbroken a b c d e f = rw (d, e, f) refl

pub positive : (n : ℕ) → 0 < n → (n == 0) ≡ false
positive n some = grind (arith, nat_tests)

-- It is gathered whole.
pub packet_gathered : (own peer : ℕ) (owner : Bool) (tag : ℕ) (given : List (List ℕ)) (m : List ℕ) → length m < 4161
    → gathered_from own peer given (fields_to own peer owner tag m) ≡ Whole (route_to own peer owner tag) (clear_body m)
unfolding gathered_from
packet_gathered own peer owner tag given m short =
    ours (own == own) (peer == peer) _ _ (eq-eqb own own refl) (eq-eqb peer peer refl)
    ∙ ap (λ (o : Option DropCause). answer_from o (fields_to own peer owner tag m) (clear_body m))
    (unbroken (length (clear_body m) == 0) (nat_le 128 5) (nat_lt body_limit (length (clear_body m))) (positive (length (clear_body m)) (omega arith)) refl (lt_false body_limit (length (clear_body m)) (omega arith)))
