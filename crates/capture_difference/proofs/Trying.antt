-- Changes of a packet, tried one after the other.
use Rattle.std.proofs.Common.{◌≡◌, [], ◌<◌, ◌≤◌, ◌+◌, ◌-◌, ◌^◌, ℕ, List, Option, Some, None, Result, IfOk, arith, subst, sym, length, take, drop, slice_index_or, inl, inr}
use Rattle.std.proofs.lemmas.Bool.{cases_eq}
use Rattle.std.proofs.lemmas.List.{length-drop, length-take-le}
use Rattle.capture_difference.specs.Changes.{changes_of, share_of}
use Rattle.capture_difference.specs.Difference.{IsFound, IsFoundAt, IsSought, IsTried, Mends, NoneMends}
use Rattle.capture_difference.specs.declared.difference.WrongByte.{WrongByte}
use Rattle.world_machine.specs.Setup.{Configuration}

-- ---- One change.

module _ (w : Configuration) (before : List (List ℕ)) (packet : List ℕ) (behind : List (List ℕ)) where
  -- One more of which none did.
  pub none_more : (n : ℕ) → NoneMends w before packet behind n → (Mends w before packet behind n → ⊥) → NoneMends w before packet behind (n + 1)
  none_more n none not m few mends = elim (cases_eq m n) [
    | inl same ↦ not (subst (Mends w before packet behind) same mends)
    | inr apart ↦ none m (omega (arith, few, apart)) mends
  ]

  -- The first that did.
  pub first_found : (most n : ℕ) (b : WrongByte) → n < most → NoneMends w before packet behind n → IsTried w before packet behind n (Some b) → IsFound w before packet behind most (Some b)
  first_found most n b few none tried = (n, few, tried.0, none, tried.1)

-- ---- One packet among others.

-- What is told of it is told of the place where it stands.
pub found_at : {E : Type 0} (r : Result (Option WrongByte) E) (w : Configuration) (packets before behind : List (List ℕ)) (packet : List ℕ) (place share most : ℕ) → before ≡ take place packets → packet ≡ slice_index_or packets place [] → behind ≡ drop (place + 1) packets → share ≡ share_of place (length packets) → most ≡ changes_of (length packets) share (length packet) → IfOk r (IsFound w before packet behind most) → IfOk r (IsFoundAt w packets place)
found_at r w packets before behind packet place share most front at back divided count is =
    let one = subst (λ (x : List (List ℕ)). IfOk r (IsFound w x packet behind most)) front is in
    let two = subst (λ (x : List (List ℕ)). IfOk r (IsFound w (take place packets) packet x most)) back one in
    let three = subst (λ (n : ℕ). IfOk r (IsFound w (take place packets) packet (drop (place + 1) packets) n)) count two in
    let four = subst (λ (n : ℕ). IfOk r (IsFound w (take place packets) packet (drop (place + 1) packets) (changes_of (length packets) n (length packet)))) divided three in
    subst (λ (x : List ℕ). IfOk r (IsFound w (take place packets) x (drop (place + 1) packets) (changes_of (length packets) (share_of place (length packets)) (length x)))) at four

-- Those before it and those behind it are few.
pub few_around : (packets : List (List ℕ)) (place : ℕ) → place < length packets → length packets < 2 ^ 32 - 1 → length (take place packets) + length (drop (place + 1) packets) < 2 ^ 32 - 1
few_around packets place inside few =
    let front = length-take-le place packets (omega (arith, inside)) in
    let back = length-drop (place + 1) packets in
    omega (arith, front, back, inside, few)

-- ---- All packets, from the last one on.

module _ (w : Configuration) (packets : List (List ℕ)) where
  -- One more of which none was found.
  pub one_passed : (passed place : ℕ) → place + 1 + passed ≡ length packets
      → ((j : ℕ) → length packets ≤ j + passed → j < length packets → IsFoundAt w packets j None) → IsFoundAt w packets place None
      → (j : ℕ) → length packets ≤ j + (passed + 1) → j < length packets → IsFoundAt w packets j None
  one_passed passed place stands older none j least most = elim (cases_eq j place) [
    | inl same ↦ subst (λ (n : ℕ). IsFoundAt w packets n None) (sym same) none
    | inr apart ↦ older j (omega (arith, stands, least, most, apart)) most
  ]

  -- The one of which it was found.
  pub found_first : (passed place : ℕ) (b : WrongByte) → place + 1 + passed ≡ length packets
      → ((j : ℕ) → length packets ≤ j + passed → j < length packets → IsFoundAt w packets j None) → IsFoundAt w packets place (Some b)
      → IsSought w packets (Some b)
  found_first passed place b stands older found = (
    place,
    omega (arith, stands),
    found,
    λ later behind most. older later (omega (arith, stands, behind)) most,
  )
