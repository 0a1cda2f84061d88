-- One item of a list is changed, by its place.
use Rattle.std.proofs.Common.{◌≡◌, ◌≤◌, ◌<◌, ℕ, suc, zero, List, [], ◌∷◌, length, set, get_or, refl, ap, sym, ◌∙◌, arith}
use Rattle.std.specs.Prelude.{Option, Some, None, slice_index_or}
use Rattle.check_laws.specs.Rows.{after_change, changed_at, changed_where, followed, gone_on, kept_for, with_sent}
use Rattle.check_laws.specs.declared.change.Change.{Change}
use Rattle.check_laws.specs.declared.places.Places.{Places}
use Rattle.check_laws.specs.declared.verdict.Seen.{Seen}

pub changed_in : {X : Type 0} (f : X → X) (place : ℕ) (xs : List X) (d : X) → place < length xs → changed_at place f xs ≡ set xs place (f (get_or xs place d))
changed_in f place [] d low = absurd (omega (arith, low))
changed_in f zero (x ∷ xs) d low = refl
changed_in f (suc place) (x ∷ xs) d low = ap (λ ys. x ∷ ys) (changed_in f place xs d (omega (arith, low)))

pub changed_past : {X : Type 0} (f : X → X) (place : ℕ) (xs : List X) → length xs ≤ place → changed_at place f xs ≡ xs
changed_past f place [] high = refl
changed_past f zero (x ∷ xs) high = absurd (omega (arith, high))
changed_past f (suc place) (x ∷ xs) high = ap (λ ys. x ∷ ys) (changed_past f place xs (omega (arith, high)))

-- What is read at a place and written back there, changed.
pub written : {X : Type 0} (f : X → X) (place : ℕ) (xs : List X) (seen new : X) → place < length xs → seen ≡ get_or xs place seen → new ≡ f seen → set xs place new ≡ changed_at place f xs
written f place xs seen new low read made = ap (set xs place) (made ∙ ap f read) ∙ sym (changed_in f place xs seen low)

-- ---- As many items.

length_at : {X : Type 0} (f : X → X) (place : ℕ) (xs : List X) → length (changed_at place f xs) ≡ length xs
length_at f zero [] = refl
length_at f (suc place) [] = refl
length_at f zero (x ∷ xs) = refl
length_at f (suc place) (x ∷ xs) = ap suc (length_at f place xs)

pub length_where : {X : Type 0} (f : X → X) (place : Option ℕ) (xs : List X) → length (changed_where place f xs) ≡ length xs
length_where f None xs = refl
length_where f (Some place) xs = length_at f place xs

length_followed : (n : ℕ) (places : Places) (change : Change) (table : List Seen) → length (followed n places change table) ≡ length table
unfolding followed
length_followed zero places change table = refl
length_followed (suc slot) places change table = length_where (gone_on change slot) (slice_index_or places.live slot None) (followed slot places change table) ∙ length_followed slot places change table

pub length_changed : (places : Places) (change : Change) (table : List Seen) → length (after_change places change table) ≡ length table
length_changed places change table = length_where with_sent (kept_for places.asks change.asked) (followed 4 places change table) ∙ length_followed 4 places change table
