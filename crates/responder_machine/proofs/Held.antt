-- At most four sessions of a made history are live past their handshake.
use Rattle.std.proofs.Common.{refl, ◌≡◌, ◌≤◌, ◌<◌, ℕ, List, [], ◌∷◌, true, false, Bool, subst, arith}
use Rattle.std.proofs.lemmas.Bool.{false≢true}
use Rattle.std.proofs.lemmas.Bool.Decides.{nat_tests}
use Rattle.std.proofs.lemmas.Map.Keys.{IsDistinct-cons}
use Rattle.std.proofs.lemmas.Map.Steps.{length-le_from_distinct_below}
use Rattle.std.specs.List.{AllByRecursion, list_any}
use Rattle.std.specs.Prelude.{◌||◌, nat_eq}
use Rattle.responder_machine.proofs.Live.{live_ids}
use Rattle.responder_machine.specs.Does.{IsMade}
use Rattle.responder_machine.specs.History.{History}
use Rattle.responder_machine.specs.Laws.{HeldAreFew}
use Rattle.responder_machine.specs.Place.{is_held}
use Rattle.responder_machine.specs.Session.{session_of, is_live, stage_of}
use Rattle.spdm_machine.specs.Sessions.{is_past_handshake}
use Rattle.responder_machine.specs.Setup.{RspSetup}
use Rattle.spdm_basis.proofs.Bools.{and_first}

held_range : (r : RspSetup) (h : History) (id : ℕ) → IsMade r h → is_held h id ≡ true → (1 ≤ id) × (id ≤ 4)
held_range r h id made held = live_ids r h id made (and_first (is_live (session_of id h)) (is_past_handshake (stage_of (session_of id h))) held)

abbrev InRange : ℕ → Type 0
InRange id = (1 ≤ id) × (id ≤ 4)

all_range : (r : RspSetup) (h : History) (ids : List ℕ) → IsMade r h → AllByRecursion (λ id. is_held h id ≡ true) ids → AllByRecursion InRange ids
all_range r h [] made held = tt
all_range r h (id ∷ ids) made held = (held_range r h id made held.0, all_range r h ids made held.1)

same : (q x : ℕ) → nat_eq q x ≡ true → x ≡ q
same q x h = grind (arith, nat_tests)

-- What holds of each is known of a number that is among them.
either_found : (q x : ℕ) (b : Bool) (rest : Bool) → nat_eq q x ≡ b → InRange x → (rest ≡ true → InRange q) → (b || rest) ≡ true → InRange q
either_found q x true rest is range later h = subst InRange (same q x is) range
either_found q x false rest is range later h = later h

found : (ids : List ℕ) → AllByRecursion InRange ids → (q : ℕ) → list_any (nat_eq q) ids ≡ true → InRange q
found [] all q h = absurd (false≢true h)
found (x ∷ ids) all q h = either_found q x (nat_eq q x) (list_any (nat_eq q) ids) refl all.0 (found ids all.1 q) h

not_zero : (x : ℕ) → 1 ≤ x → nat_eq 0 x ≡ false
not_zero x h = grind (arith, nat_tests)

none_zero : (ids : List ℕ) → AllByRecursion InRange ids → AllByRecursion (λ y. nat_eq 0 y ≡ false) ids
none_zero [] all = tt
none_zero (x ∷ ids) all = (not_zero x all.0.0, none_zero ids all.1)

below_five : (ids : List ℕ) → AllByRecursion InRange ids → (q : ℕ) → list_any (nat_eq q) (0 ∷ ids) ≡ true → q < 5
below_five ids all q h = by_zero (nat_eq q 0) refl h
  where
    zero_of : (q : ℕ) → nat_eq q 0 ≡ true → q < 5
    zero_of q h = grind (arith, nat_tests)

    by_zero : (b : Bool) → nat_eq q 0 ≡ b → (b || list_any (nat_eq q) ids) ≡ true → q < 5
    by_zero true is h = zero_of q is
    by_zero false is h = let range = found ids all q h in omega (arith, range.1)

pub held_few : HeldAreFew
held_few r h ids made distinct held =
    let all = all_range r h ids made held in
    let few = length-le_from_distinct_below (0 ∷ ids) 5 (IsDistinct-cons nat_eq 0 ids (none_zero ids all) distinct) (below_five ids all) in
    omega (arith, few)
