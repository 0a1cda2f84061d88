-- The RspSessionID that an answer gives.
use Rattle.std.proofs.Common.{refl, ◌≡◌, ◌≤◌, ◌==◌, ◌&&◌, not, ℕ, List, true, false, Bool, ap, arith, ◌∙◌}
use Rattle.std.proofs.lemmas.Bool.{false≢true, eqb-true, eq-eqb}
use Rattle.std.proofs.lemmas.Bool.Decides.{nat_tests}
use Rattle.responder_machine.specs.Session.{gives_id}
use Rattle.spdm_machine.specs.Sessions.{id_in_exchange}

both : (a b : Bool) → (a && b) ≡ true → (a ≡ true) × (b ≡ true)
both true b h = (refl, h)
both false b h = absurd (false≢true h)

with_false : (b : Bool) → (b && false) ≡ false
with_false true = refl
with_false false = refl

-- It is the one that stands in it.
pub given_is : (id : ℕ) (answer : List ℕ) → gives_id id answer ≡ true → id_in_exchange answer ≡ id
given_is id answer h = eqb-true (id_in_exchange answer) id (both (id_in_exchange answer == id) _ h).0

some : (id : ℕ) → 1 ≤ id → not (id == 0) ≡ true
some id h = grind (arith, nat_tests)

-- The one that stands in it is given, if it is not 0.
pub gives_some : (id : ℕ) (answer : List ℕ) → id_in_exchange answer ≡ id → 1 ≤ id → gives_id id answer ≡ true
gives_some id answer is least = ap (λ (b : Bool). b && not (id == 0)) (eq-eqb (id_in_exchange answer) id is) ∙ some id least

-- Any other is not.
pub gives_other : (id : ℕ) (answer : List ℕ) → (id_in_exchange answer == id) ≡ false → gives_id id answer ≡ false
gives_other id answer other = ap (λ (b : Bool). b && not (id == 0)) other

pub gives_none : (answer : List ℕ) → gives_id 0 answer ≡ false
gives_none answer = with_false (id_in_exchange answer == 0)
