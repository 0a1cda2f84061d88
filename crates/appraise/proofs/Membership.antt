-- Elements of a list, and tests of them.
use Rattle.std.proofs.Common.{◌≡◌, ◌<◌, ◌||◌, ◌⊎◌, ℕ, zero, suc, Bool, true, false, List, [], ◌∷◌, length, get_or, refl, sym, ap, ◌∙◌, inl, inr, arith}
use Rattle.std.proofs.lemmas.Bool.{false≢true}
use Rattle.std.proofs.lemmas.List.Elements.{Contains-get_or}
use Rattle.std.proofs.lemmas.List.Folds.{list_any_at, list_any_none}
use Rattle.std.specs.List.{Contains, list_any}

pub here : {X : Type 0} (x : X) (xs : List X) → Contains (x ∷ xs) x
here x xs = (0, omega arith, refl)

pub later : {X : Type 0} (x y : X) (xs : List X) → Contains xs y → Contains (x ∷ xs) y
later x y xs c = (suc c.0, omega (arith, c.1), c.2)

at_place : {X : Type 0} (x y : X) (xs : List X) (k : ℕ) → k < length (x ∷ xs) → get_or (x ∷ xs) k y ≡ y → (x ≡ y) ⊎ Contains xs y
at_place x y xs zero h e = inl e
at_place x y xs (suc k) h e = inr (k, omega (arith, h), e)

pub here_or_later : {X : Type 0} (x y : X) (xs : List X) → Contains (x ∷ xs) y → (x ≡ y) ⊎ Contains xs y
here_or_later x y xs c = at_place x y xs c.0 c.1 c.2

first_or : {X : Type 0} (p : X → Bool) (x : X) (xs : List X) (b : Bool) → p x ≡ b → (b || list_any p xs) ≡ true
    → (list_any p xs ≡ true → (y : X) × Contains xs y × (p y ≡ true)) → (y : X) × Contains (x ∷ xs) y × (p y ≡ true)
first_or p x xs true e h rest = (x, here x xs, e)
first_or p x xs false e h rest = let f = rest h in (f.0, later x f.0 xs f.1, f.2)

-- An element passes a test that some element passes.
pub any_from : {X : Type 0} (p : X → Bool) (xs : List X) → list_any p xs ≡ true → (x : X) × Contains xs x × (p x ≡ true)
any_from p [] h = absurd (false≢true h)
any_from p (x ∷ xs) h = first_or p x xs (p x) refl h (any_from p xs)

pub any_to : {X : Type 0} (p : X → Bool) (xs : List X) (x : X) → Contains xs x → p x ≡ true → list_any p xs ≡ true
any_to p xs x c e = list_any_at p xs c.0 x c.1 (ap p c.2 ∙ e)

fails : {X : Type 0} (p : X → Bool) (xs : List X) (x : X) (b : Bool) → p x ≡ b → list_any p xs ≡ false → Contains xs x → b ≡ false
fails p xs x true e h c = absurd (false≢true (sym h ∙ any_to p xs x c e))
fails p xs x false e h c = refl

-- Each element fails a test that none passes.
pub none_from : {X : Type 0} (p : X → Bool) (xs : List X) (x : X) → list_any p xs ≡ false → Contains xs x → p x ≡ false
none_from p xs x h c = fails p xs x (p x) refl h c

pub none_to : {X : Type 0} (p : X → Bool) (xs : List X) → ((x : X) → Contains xs x → p x ≡ false) → list_any p xs ≡ false
none_to p xs f = list_any_none p xs (λ k d h. f (get_or xs k d) (Contains-get_or xs k d h))
