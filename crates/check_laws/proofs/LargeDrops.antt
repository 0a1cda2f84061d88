-- Which sessions count as dropped before a LargeResponse: they may have been, and leave room for one more where others do.
use Rattle.std.proofs.Common.{◌≡◌, ◌≤◌, ◌==◌, ◌&&◌, ℕ, List, [], ◌∷◌, refl, sym, ap, ◌∙◌, Bool, true, false, cond, arith, eqb-true}
use Rattle.std.proofs.lemmas.Bool.{false≢true}
use Rattle.std.proofs.lemmas.Bool.Decides.{nat_tests}
use Rattle.responder_machine.specs.History.{History}
use Rattle.responder_machine.specs.History.Entry.{Dropped}
use Rattle.responder_machine.specs.May.{MayDrop, with_dropped}
use Rattle.responder_machine.specs.Place.{held_of, is_held}
use Rattle.responder_machine.specs.Session.{Events, is_live, is_timed, session_of, stage_of}
use Rattle.spdm_machine.specs.Sessions.{is_past_handshake, one_if}
use Rattle.check_laws.proofs.DropsShown.{dropped_may, may_drop}
use Rattle.check_laws.specs.DropsShown.{may_be_dropped}
use Rattle.check_laws.specs.LargeShown.{first_dropped}

-- ---- Room behind a drop.

below_four : (n : ℕ) → n ≤ 3 → (n == 4) ≡ false
below_four n few = grind (arith, nat_tests)

one_most : (b : Bool) → one_if b ≤ 1
one_most true = omega arith
one_most false = omega arith

-- The session is no longer held.
gone : (h : History) (id : ℕ) → is_held (Dropped id ∷ h) id ≡ false
unfolding session_of
gone h id = ap (λ (b : Bool). is_live (cond b [] (session_of id h)) && is_past_handshake (stage_of (cond b [] (session_of id h)))) (self id)
  where
    self : (n : ℕ) → (n == n) ≡ true
    self n = grind (arith, nat_tests)

room_first : (h : History) → (held_of (Dropped 1 ∷ h) == 4) ≡ false
room_first h =
    let g : History = Dropped 1 ∷ h in
    let none : one_if (is_held g 1) ≡ 0 = ap one_if (gone h 1) in
    below_four (held_of g) (omega (arith, none, one_most (is_held g 2), one_most (is_held g 3), one_most (is_held g 4)))

room_second : (h : History) → (held_of (Dropped 2 ∷ h) == 4) ≡ false
room_second h =
    let g : History = Dropped 2 ∷ h in
    let none : one_if (is_held g 2) ≡ 0 = ap one_if (gone h 2) in
    below_four (held_of g) (omega (arith, none, one_most (is_held g 1), one_most (is_held g 3), one_most (is_held g 4)))

room_third : (h : History) → (held_of (Dropped 3 ∷ h) == 4) ≡ false
room_third h =
    let g : History = Dropped 3 ∷ h in
    let none : one_if (is_held g 3) ≡ 0 = ap one_if (gone h 3) in
    below_four (held_of g) (omega (arith, none, one_most (is_held g 1), one_most (is_held g 2), one_most (is_held g 4)))

room_fourth : (h : History) → (held_of (Dropped 4 ∷ h) == 4) ≡ false
room_fourth h =
    let g : History = Dropped 4 ∷ h in
    let none : one_if (is_held g 4) ≡ 0 = ap one_if (gone h 4) in
    below_four (held_of g) (omega (arith, none, one_most (is_held g 1), one_most (is_held g 2), one_most (is_held g 3)))

-- ---- No room where none of the four may be dropped.

-- Another session was dropped.
other_dropped : (h : History) (id j : ℕ) → MayDrop h (id ∷ []) → may_be_dropped h j ≡ false → (id == j) ≡ false
other_dropped h id j may not = by_id (id == j) refl
  where
    by_id : (b : Bool) → (id == j) ≡ b → b ≡ false
    by_id false is = refl
    by_id true is = absurd (false≢true (sym not ∙ ap (may_be_dropped h) (sym (eqb-true id j is)) ∙ dropped_may h id may))

session_stays : (h : History) (id j : ℕ) → MayDrop h (id ∷ []) → may_be_dropped h j ≡ false → session_of j (Dropped id ∷ h) ≡ session_of j h
unfolding session_of
session_stays h id j may not = ap (λ (b : Bool). cond b [] (session_of j h)) (other_dropped h id j may not)

all_stays : (ids : List ℕ) (h : History) (j : ℕ) → MayDrop h ids → may_be_dropped h j ≡ false → session_of j (with_dropped h ids) ≡ session_of j h
all_stays [] h j may not = refl
all_stays (id ∷ ids) h j may not =
    let one : session_of j (Dropped id ∷ h) ≡ session_of j h = session_stays h id j (may.0, may.1, tt) not in
    all_stays ids (Dropped id ∷ h) j may.2 (ap (λ (s : Events). is_live s && is_timed s) one ∙ not) ∙ one

held_stays : (ids : List ℕ) (h : History) (j : ℕ) → MayDrop h ids → may_be_dropped h j ≡ false → is_held (with_dropped h ids) j ≡ is_held h j
held_stays ids h j may not = ap (λ (s : Events). is_live s && is_past_handshake (stage_of s)) (all_stays ids h j may not)

count_stays : (ids : List ℕ) (h : History) → MayDrop h ids → may_be_dropped h 1 ≡ false → may_be_dropped h 2 ≡ false → may_be_dropped h 3 ≡ false → may_be_dropped h 4 ≡ false
    → held_of (with_dropped h ids) ≡ held_of h
count_stays ids h may a b c e =
    let one = ap one_if (held_stays ids h 1 may a) in
    let two = ap one_if (held_stays ids h 2 may b) in
    let three = ap one_if (held_stays ids h 3 may c) in
    let four = ap one_if (held_stays ids h 4 may e) in
    cc

-- ---- What is chosen.

-- These may be dropped, and leave room where the others do.
pub record IsChosen (h : History) (ids chosen : List ℕ) : Type 0 where
  pub may : MayDrop h chosen
  pub room : (held_of (with_dropped h chosen) == 4) ≡ true → (held_of (with_dropped h ids) == 4) ≡ true

one_chosen : (h : History) (ids : List ℕ) (id : ℕ) → may_be_dropped h id ≡ true → (held_of (Dropped id ∷ h) == 4) ≡ false → IsChosen h ids (id ∷ [])
one_chosen h ids id may room = record { may = may_drop h id may; room = λ full. absurd (false≢true (sym room ∙ full)) }

first_chosen : (h : History) (ids : List ℕ) → MayDrop h ids → (held_of h == 4) ≡ true → (a b c e : Bool)
    → may_be_dropped h 1 ≡ a → may_be_dropped h 2 ≡ b → may_be_dropped h 3 ≡ c → may_be_dropped h 4 ≡ e
    → IsChosen h ids (cond a (1 ∷ []) (cond b (2 ∷ []) (cond c (3 ∷ []) (cond e (4 ∷ []) []))))
first_chosen h ids may four true b c e w x y z = one_chosen h ids 1 w (room_first h)
first_chosen h ids may four false true c e w x y z = one_chosen h ids 2 x (room_second h)
first_chosen h ids may four false false true e w x y z = one_chosen h ids 3 y (room_third h)
first_chosen h ids may four false false false true w x y z = one_chosen h ids 4 z (room_fourth h)
first_chosen h ids may four false false false false w x y z =
    record { may = tt; room = λ full. ap (λ (n : ℕ). n == 4) (count_stays ids h may w x y z) ∙ four }

pub drops_chosen : (h : History) (ids : List ℕ) → MayDrop h ids → IsChosen h ids (cond (held_of h == 4) (first_dropped h (1 ∷ 2 ∷ 3 ∷ 4 ∷ [])) [])
drops_chosen h ids may = by_four (held_of h == 4) refl
  where
    by_four : (b : Bool) → (held_of h == 4) ≡ b → IsChosen h ids (cond b (first_dropped h (1 ∷ 2 ∷ 3 ∷ 4 ∷ [])) [])
    by_four true four = first_chosen h ids may four (may_be_dropped h 1) (may_be_dropped h 2) (may_be_dropped h 3) (may_be_dropped h 4) refl refl refl refl
    by_four false room = record { may = tt; room = λ full. absurd (false≢true (sym room ∙ full)) }
