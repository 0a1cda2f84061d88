-- What is reported of a packet, by its ends.
use Rattle.std.proofs.Common.{refl, ◌≡◌, ◌≢◌, ◌==◌, ◌&&◌, not, ℕ, List, sym, ap, ◌∙◌, Bool, true, false, Some, Ok, cond, eq-eqb, ne_eqb}
use Rattle.std.proofs.lemmas.Bool.{and_right}
use Rattle.mctp_framing.specs.Packet.{PacketFields}
use Rattle.requester_machine.specs.Setup.{ReqSetup}
use Rattle.spdm_machine.specs.Packets.{gathered_from}
use Rattle.check_laws.specs.Order.{answered_why, asked_why, coming_why, going_why, is_answer, is_known, is_request, ordered_why, round_of}
use Rattle.capture_machine.specs.Difference.Why.{UnknownEnd}

-- A packet is of no other requester than that with this endpoint.
abbrev pub IsOfOne : (own : ℕ) → PacketFields → (eid : ℕ) → Type 0
IsOfOne own p eid = (n : ℕ) → n ≢ eid → (is_request own n p ≡ false) × (is_answer own n p ≡ false)

-- ---- For the responder.

pub coming_told : (own : ℕ) (qs : List ReqSetup) (older : List (List ℕ)) (p : PacketFields) → (p.to == own) ≡ true → is_known p.from qs ≡ true
    → ordered_why own qs older (Ok p) ≡ asked_why (round_of own p.from older) (gathered_from own p.from older p)
coming_told own qs older p to known =
    ap (λ (b : Bool). cond b (coming_why own older p (is_known p.from qs)) (cond (p.from == own) (going_why own older p (is_known p.to qs)) (Some UnknownEnd))) to ∙ ap (coming_why own older p) known

pub coming_unknown : (own : ℕ) (qs : List ReqSetup) (older : List (List ℕ)) (p : PacketFields) → (p.to == own) ≡ true → is_known p.from qs ≡ false → ordered_why own qs older (Ok p) ≡ Some UnknownEnd
coming_unknown own qs older p to none =
    ap (λ (b : Bool). cond b (coming_why own older p (is_known p.from qs)) (cond (p.from == own) (going_why own older p (is_known p.to qs)) (Some UnknownEnd))) to ∙ ap (coming_why own older p) none

pub request_of_one : (own : ℕ) (p : PacketFields) → (p.to == own) ≡ true → IsOfOne own p p.from
request_of_one own p to n other = (
  ap (λ (b : Bool). b && p.from == n) to ∙ ne_eqb p.from n (λ same. other (sym same)),
  ap (λ (b : Bool). not b && (p.from == own && p.to == n)) to,
)

pub is_its_request : (own : ℕ) (p : PacketFields) → (p.to == own) ≡ true → is_request own p.from p ≡ true
is_its_request own p to = ap (λ (b : Bool). b && p.from == p.from) to ∙ eq-eqb p.from p.from refl

-- ---- For a requester.

pub going_told : (own : ℕ) (qs : List ReqSetup) (older : List (List ℕ)) (p : PacketFields) → (p.to == own) ≡ false → (p.from == own) ≡ true → is_known p.to qs ≡ true
    → ordered_why own qs older (Ok p) ≡ answered_why (round_of own p.to older) (gathered_from p.to own older p)
going_told own qs older p to from known =
    ap (λ (b : Bool). cond b (coming_why own older p (is_known p.from qs)) (cond (p.from == own) (going_why own older p (is_known p.to qs)) (Some UnknownEnd))) to
    ∙ ap (λ (b : Bool). cond b (going_why own older p (is_known p.to qs)) (Some UnknownEnd)) from ∙ ap (going_why own older p) known

pub going_unknown : (own : ℕ) (qs : List ReqSetup) (older : List (List ℕ)) (p : PacketFields) → (p.to == own) ≡ false → (p.from == own) ≡ true → is_known p.to qs ≡ false → ordered_why own qs older (Ok p) ≡ Some UnknownEnd
going_unknown own qs older p to from none =
    ap (λ (b : Bool). cond b (coming_why own older p (is_known p.from qs)) (cond (p.from == own) (going_why own older p (is_known p.to qs)) (Some UnknownEnd))) to
    ∙ ap (λ (b : Bool). cond b (going_why own older p (is_known p.to qs)) (Some UnknownEnd)) from ∙ ap (going_why own older p) none

pub of_none : (own : ℕ) (qs : List ReqSetup) (older : List (List ℕ)) (p : PacketFields) → (p.to == own) ≡ false → (p.from == own) ≡ false → ordered_why own qs older (Ok p) ≡ Some UnknownEnd
of_none own qs older p to from =
    ap (λ (b : Bool). cond b (coming_why own older p (is_known p.from qs)) (cond (p.from == own) (going_why own older p (is_known p.to qs)) (Some UnknownEnd))) to
    ∙ ap (λ (b : Bool). cond b (going_why own older p (is_known p.to qs)) (Some UnknownEnd)) from

pub answer_of_one : (own : ℕ) (p : PacketFields) → (p.to == own) ≡ false → IsOfOne own p p.to
answer_of_one own p to n other = (
  ap (λ (b : Bool). b && p.from == n) to,
  ap (λ (b : Bool). not (p.to == own) && (p.from == own && b)) (ne_eqb p.to n (λ same. other (sym same))) ∙ and_right (not (p.to == own)) _ (and_right (p.from == own) false refl),
)

pub is_its_answer : (own : ℕ) (p : PacketFields) → (p.to == own) ≡ false → (p.from == own) ≡ true → is_answer own p.to p ≡ true
is_its_answer own p to from = ap (λ (b : Bool). not b && (p.from == own && p.to == p.to)) to ∙ ap (λ (b : Bool). b && p.to == p.to) from ∙ eq-eqb p.to p.to refl
