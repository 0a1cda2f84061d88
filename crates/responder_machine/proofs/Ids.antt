-- The ids from 1 to 4, who holds them, and that their count is at most four (`four_held`). That any different ids that
-- are held in a made history are at most four is `held_few` in `Held.antt`.
use Rattle.std.proofs.Common.{refl, ◌≡◌, ◌≢◌, ◌≤◌, ℕ, ◌+◌, true, false, Bool, arith, true≢false}
use Rattle.std.proofs.lemmas.Bool.Decides.{nat_tests}
use Rattle.std.specs.Prelude.{if◌then◌else◌, ◌==◌, not}
use Rattle.responder_machine.specs.History.{History}
use Rattle.responder_machine.specs.Laws.{FreeIdIsFree, FourAreHeldAtMost}
use Rattle.responder_machine.specs.Place.{held_of, free_id, is_held}
use Rattle.spdm_machine.specs.Sessions.{one_if}

least : (a b c e : Bool) → (one_if a + one_if b + one_if c + one_if e == 4) ≡ false → (k : ℕ → Bool) → k 1 ≡ a → k 2 ≡ b → k 3 ≡ c → k 4 ≡ e
    → k (if not a then 1 else (if not b then 2 else (if not c then 3 else 4))) ≡ false
least false b c e h k x y z w = x
least true false c e h k x y z w = y
least true true false e h k x y z w = z
least true true true false h k x y z w = w
least true true true true h k x y z w = absurd (true≢false h)

in_range : (a b c : Bool) → (1 ≤ (if not a then 1 else (if not b then 2 else (if not c then 3 else 4)))) × ((if not a then 1 else (if not b then 2 else (if not c then 3 else 4))) ≤ 4)
in_range false b c = (omega arith, omega arith)
in_range true false c = (omega arith, omega arith)
in_range true true false = (omega arith, omega arith)
in_range true true true = (omega arith, omega arith)

pub free_id-range : (h : History) → (1 ≤ free_id h) × (free_id h ≤ 4)
free_id-range h = in_range (is_held h 1) (is_held h 2) (is_held h 3)

pub free_id-unheld : (h : History) → (held_of h == 4) ≡ false → is_held h (free_id h) ≡ false
free_id-unheld h room = least (is_held h 1) (is_held h 2) (is_held h 3) (is_held h 4) room (is_held h) refl refl refl refl

pub not_four : (n : ℕ) → n ≢ 4 → (n == 4) ≡ false
not_four n h = grind (arith, nat_tests)

pub free_id-free : FreeIdIsFree
free_id-free h room = ((free_id-range h).0, (free_id-range h).1, free_id-unheld h (not_four (held_of h) room))

at_most_four : (a b c e : Bool) → one_if a + one_if b + one_if c + one_if e ≤ 4
at_most_four a b c e = omega (arith, at_most_one a, at_most_one b, at_most_one c, at_most_one e)
  where
    at_most_one : (x : Bool) → one_if x ≤ 1
    at_most_one true = omega arith
    at_most_one false = omega arith

pub four_held : FourAreHeldAtMost
four_held h = at_most_four (is_held h 1) (is_held h 2) (is_held h 3) (is_held h 4)
