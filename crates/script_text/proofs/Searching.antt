-- Where a byte stands first, when a front part does not have it.
use Rattle.std.proofs.Common.{◌≡◌, ℕ, suc, ◌+◌, ◌-◌, ◌≤◌, List, [], ◌∷◌, ◌++◌, length, refl, sym, ap, ◌∙◌, Bool, true, false, cond, arith, ltb-true, ltb-false}
use Rattle.std.specs.Prelude.{Option, Some, None, unwrap_or, not, ◌||◌, nat_lt}
use Rattle.std.specs.List.{list_any, position, position_or_len}

-- a byte that does not pass, before more
behind_one : (n m k : ℕ) (passes any : Bool) → (passes || any) ≡ false → (any ≡ false → n ≡ m + k) →
    cond (not passes) (1 + n) 0 ≡ suc m + k
behind_one n m k true any h e = cc h
behind_one n m k false any h e = let same : n ≡ m + k = e h in omega (arith, same)

-- the first place after a front without it
pub place-behind : (p : ℕ → Bool) (front back : List ℕ) → list_any p front ≡ false →
    position_or_len p (front ++ back) ≡ length front + position_or_len p back
place-behind p [] back none = omega arith
place-behind p (b ∷ front) back none =
    behind_one _ (length front) (position_or_len p back) (p b) (list_any p front) none (place-behind p front back)

-- and in a list whose front it is
pub place-passed : (p : ℕ → Bool) (all front back : List ℕ) → all ≡ front ++ back → list_any p front ≡ false →
    position_or_len p all ≡ length front + position_or_len p back
place-passed p all front back e none = ap (position_or_len p) e ∙ place-behind p front back none

-- the same place in the rest of a list and in the list
found_in : (n m a b k : ℕ) (in_rest in_all : Bool) → nat_lt m b ≡ in_rest → nat_lt n a ≡ in_all → n + b ≡ a + m → b ≤ a →
    cond in_rest (Some m) None ≡ Some k → Some (a - b + k) ≡ cond in_all (Some n) None
found_in n m a b k true true r l e fits h =
    let same : m ≡ k = ap (λ (o : Option ℕ). unwrap_or o 0) h in
    let at : a - b + k ≡ n = omega (arith, same, e, fits) in
    ap Some at
found_in n m a b k true false r l e fits h = absurd (omega (arith, ltb-true m b r, ltb-false n a l, e))
found_in n m a b k false in_all r l e fits h = cc h

missing_in : (n m a b : ℕ) (in_rest in_all : Bool) → nat_lt m b ≡ in_rest → nat_lt n a ≡ in_all → n + b ≡ a + m →
    cond in_rest (Some m) None ≡ None → None ≡ cond in_all (Some n) None
missing_in n m a b true in_all r l e h = cc h
missing_in n m a b false true r l e h = absurd (omega (arith, ltb-false m b r, ltb-true n a l, e))
missing_in n m a b false false r l e h = refl

pub place-Some : (p : ℕ → Bool) (all rest : List ℕ) (answer : Option ℕ) (k : ℕ) →
    position_or_len p all + length rest ≡ length all + position_or_len p rest → length rest ≤ length all →
    answer ≡ position p rest → answer ≡ Some k → Some (length all - length rest + k) ≡ position p all
place-Some p all rest answer k e fits told some =
    found_in (position_or_len p all) (position_or_len p rest) (length all) (length rest) k _ _ refl refl e fits (sym told ∙ some)

pub place-None : (p : ℕ → Bool) (all rest : List ℕ) (answer : Option ℕ) →
    position_or_len p all + length rest ≡ length all + position_or_len p rest →
    answer ≡ position p rest → answer ≡ None → None ≡ position p all
place-None p all rest answer e told none =
    missing_in (position_or_len p all) (position_or_len p rest) (length all) (length rest) _ _ refl refl e (sym told ∙ none)
