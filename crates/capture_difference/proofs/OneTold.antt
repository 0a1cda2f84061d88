-- Of no capture two things are told.
use Rattle.std.proofs.Common.{◌≡◌, ◌∙◌, ◌+◌, ℕ, List, Option, Some, None, ap, subst, sym, refl, length, take, drop, inl, inr}
use Rattle.std.proofs.lemmas.Bool.{cases_order}
use Rattle.std.proofs.lemmas.List.{take-append-drop}
use Rattle.capture_difference.specs.Changes.{change_of}
use Rattle.capture_difference.specs.Difference.{IsFound, IsFoundAt, IsSought, OneDifference, packet_at, tries_at, wrong_byte}
use Rattle.capture_difference.specs.declared.difference.Difference.{Difference}
use Rattle.capture_difference.specs.declared.difference.WrongByte.{WrongByte}
use Rattle.capture_machine.proofs.Captures.{beginning}
use Rattle.capture_machine.proofs.WalksAlike.{one_reason}
use Rattle.capture_machine.specs.Capture.{Conforms}
use Rattle.capture_machine.specs.Difference.{IsDifference, Why}
use Rattle.capture_machine.specs.Difference.Why.{BadPacket, BadRecord, BadReply, BadRequest, BadVerify, UnknownEnd, WrongTurn}
use Rattle.check_laws.specs.Judged.{why_of}
use Rattle.spdm_grammar.specs.declared.told.why.Why as declared
use Rattle.spdm_grammar.specs.declared.told.why.Why.TheVariants as why
use Rattle.world_machine.specs.Setup.{Configuration}

-- ---- Reasons.

abbrev reason_told : Why → declared.Why
reason_told BadPacket = why.BadPacket
reason_told UnknownEnd = why.UnknownEnd
reason_told WrongTurn = why.WrongTurn
reason_told BadRequest = why.BadRequest
reason_told BadReply = why.BadReply
reason_told BadVerify = why.BadVerify
reason_told BadRecord = why.BadRecord

told_again : (w : declared.Why) → reason_told (why_of w) ≡ w
told_again why.BadPacket = refl
told_again why.UnknownEnd = refl
told_again why.WrongTurn = refl
told_again why.BadRequest = refl
told_again why.BadReply = refl
told_again why.BadVerify = refl
told_again why.BadRecord = refl

same_reason : (w v : declared.Why) → why_of w ≡ why_of v → w ≡ v
same_reason w v same = sym (told_again w) ∙ ap reason_told same ∙ told_again v

-- ---- Bytes.

one_found : (w : Configuration) (before : List (List ℕ)) (packet : List ℕ) (behind : List (List ℕ)) (most : ℕ) (a b : WrongByte)
    → IsFound w before packet behind most (Some a) → IsFound w before packet behind most (Some b) → a ≡ b
one_found w before packet behind most a b x y = elim (cases_order x.0 y.0) [
  | inl same ↦ x.4 ∙ ap (λ (n : ℕ). wrong_byte (length before + 1) packet (change_of packet n)) same ∙ sym y.4
  | inr apart ↦ elim apart [
    | inl below ↦ absurd (y.3 x.0 below x.2)
    | inr above ↦ absurd (x.3 y.0 above y.2)
  ]
]

not_both : (w : Configuration) (packets : List (List ℕ)) (place : ℕ) (b : WrongByte) → IsFoundAt w packets place None → IsFoundAt w packets place (Some b) → ⊥
not_both w packets place b none found = none found.0 found.1 found.2

one_sought : (w : Configuration) (packets : List (List ℕ)) (a b : Option WrongByte) → IsSought w packets a → IsSought w packets b → a ≡ b
one_sought w packets None None x y = refl
one_sought w packets None (Some b) x y = absurd (not_both w packets y.0 b (x y.0 y.1) y.2)
one_sought w packets (Some a) None x y = absurd (not_both w packets x.0 a (y x.0 x.1) x.2)
one_sought w packets (Some a) (Some b) x y = elim (cases_order x.0 y.0) [
  | inl same ↦
      ap (λ (c : WrongByte). Some c) (one_found w (take y.0 packets) (packet_at packets y.0) (drop (y.0 + 1) packets) (tries_at packets y.0) a b (subst (λ (n : ℕ). IsFoundAt w packets n (Some a)) same x.2) y.2)
  | inr apart ↦ elim apart [
    | inl below ↦ absurd (not_both w packets y.0 b (x.3 y.0 below y.1) y.2)
    | inr above ↦ absurd (not_both w packets x.0 a (y.3 x.0 above x.1) x.2)
  ]
]

-- ---- Captures.

-- What conforms has no first difference.
no_difference : (w : Configuration) (packets : List (List ℕ)) (number : ℕ) (reason : Why) → Conforms w packets → IsDifference w packets number reason → ⊥
no_difference w packets number reason conforms is =
    is.first.at (beginning w (take number packets) (drop number packets) (subst (Conforms w) (sym (take-append-drop number packets)) conforms))

abbrev of_parts : ℕ → declared.Why → Option WrongByte → Difference
of_parts packet reason byte = record { packet = packet; why = reason; byte = byte }

same_parts : (d e : Difference) → d.packet ≡ e.packet → d.why ≡ e.why → d.byte ≡ e.byte → d ≡ e
same_parts d e packets reasons bytes =
    ap (λ (n : ℕ). of_parts n d.why d.byte) packets
    ∙ ap (λ (r : declared.Why). of_parts e.packet r d.byte) reasons
    ∙ ap (λ (b : Option WrongByte). of_parts e.packet e.why b) bytes

pub one_difference_told : OneDifference
one_difference_told w packets None None x y = refl
one_difference_told w packets None (Some e) x y = absurd (no_difference w packets e.packet (why_of e.why) x y.0)
one_difference_told w packets (Some d) None x y = absurd (no_difference w packets d.packet (why_of d.why) y x.0)
one_difference_told w packets (Some d) (Some e) x y =
    let same = one_reason w packets d.packet e.packet (why_of d.why) (why_of e.why) x.0 y.0 in
    let bytes = one_sought w (take e.packet packets) d.byte e.byte (subst (λ (n : ℕ). IsSought w (take n packets) d.byte) same.0 x.1) y.1 in
    ap (λ (f : Difference). Some f) (same_parts d e same.0 (same_reason d.why e.why same.1) bytes)
