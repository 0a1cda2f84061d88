-- The rows of a list at which a test passes, where the rows are changed, or one is added.
use Rattle.std.proofs.Common.{◌≡◌, ◌∙◌, ◌++◌, ℕ, suc, zero, List, [], ◌∷◌, Bool, true, false, Option, Some, None, ap, refl, map, length}
use Rattle.std.specs.List.{AllByRecursion}
use Rattle.check_laws.specs.Rows.{PassesOnlyAt, changed_at, changed_where}
use Rattle.capture_machine.specs.SessionTable.{Row}

-- ---- What holds of each.

pub all_map : {X Y : Type 0} (P : X → Type 0) (Q : Y → Type 0) (h : X → Y) (xs : List X) → AllByRecursion P xs → ((x : X) → P x → Q (h x)) → AllByRecursion Q (map h xs)
all_map P Q h [] all each = tt
all_map P Q h (x ∷ xs) all each = (each x all.0, all_map P Q h xs all.1 each)

pub all_push : {X : Type 0} (P : X → Type 0) (xs : List X) (x : X) → AllByRecursion P xs → P x → AllByRecursion P (xs ++ x ∷ [])
all_push P [] x all new = (new, tt)
all_push P (y ∷ ys) x all new = (all.0, all_push P ys x all.1 new)

pub all_both : {X : Type 0} (P Q : X → Type 0) (xs : List X) → AllByRecursion P xs → AllByRecursion Q xs → AllByRecursion (λ x. P x × Q x) xs
all_both P Q [] one two = tt
all_both P Q (x ∷ xs) one two = ((one.0, two.0), all_both P Q xs one.1 two.1)

-- ---- One item is changed.

map_changed : {X Y : Type 0} (g : X → Y) (f : X → X) (f' : Y → Y) → ((x : X) → g (f x) ≡ f' (g x)) → (place : ℕ) (xs : List X) → map g (changed_at place f xs) ≡ changed_at place f' (map g xs)
map_changed g f f' each zero [] = refl
map_changed g f f' each (suc place) [] = refl
map_changed g f f' each zero (x ∷ xs) = ap (λ y. y ∷ map g xs) (each x)
map_changed g f f' each (suc place) (x ∷ xs) = ap (λ ys. g x ∷ ys) (map_changed g f f' each place xs)

pub map_changed_where : {X Y : Type 0} (g : X → Y) (f : X → X) (f' : Y → Y) → ((x : X) → g (f x) ≡ f' (g x)) → (place : Option ℕ) (xs : List X) → map g (changed_where place f xs) ≡ changed_where place f' (map g xs)
map_changed_where g f f' each None xs = refl
map_changed_where g f f' each (Some place) xs = map_changed g f f' each place xs

-- What is changed where the test passes, and only there, is changed at that place.
pub changed_is : {X : Type 0} (P : Row → Type 0) (test : Row → Bool) (F G : Row → X) (f : X → X) (rows : List Row) (place : Option ℕ) → AllByRecursion P rows → PassesOnlyAt test rows place
    → ((row : Row) → P row → test row ≡ false → F row ≡ G row) → ((row : Row) → P row → test row ≡ true → f (F row) ≡ G row) → changed_where place f (map F rows) ≡ map G rows
changed_is P test F G f [] None all at apart same = refl
changed_is P test F G f [] (Some place) all at apart same = absurd at
changed_is P test F G f (row ∷ rows) None all at apart same =
    ap (λ x. x ∷ map F rows) (apart row all.0 at.0) ∙ ap (λ xs. G row ∷ xs) (changed_is P test F G f rows None all.1 at.1 apart same)
changed_is P test F G f (row ∷ rows) (Some zero) all at apart same =
    ap (λ x. x ∷ map F rows) (same row all.0 at.0) ∙ ap (λ xs. G row ∷ xs) (changed_is P test F G f rows None all.1 at.1 apart same)
changed_is P test F G f (row ∷ rows) (Some (suc place)) all at apart same =
    ap (λ x. x ∷ changed_at place f (map F rows)) (apart row all.0 at.0) ∙ ap (λ xs. G row ∷ xs) (changed_is P test F G f rows (Some place) all.1 at.1 apart same)

-- ---- Where a test passes afterwards.

pub passes_kept : (P : Row → Type 0) (test next : Row → Bool) (h : Row → Row) (rows : List Row) (place : Option ℕ) → AllByRecursion P rows → PassesOnlyAt test rows place
    → ((row : Row) → P row → next (h row) ≡ test row) → PassesOnlyAt next (map h rows) place
passes_kept P test next h [] None all at each = tt
passes_kept P test next h [] (Some place) all at each = absurd at
passes_kept P test next h (row ∷ rows) None all at each = (each row all.0 ∙ at.0, passes_kept P test next h rows None all.1 at.1 each)
passes_kept P test next h (row ∷ rows) (Some zero) all at each = (each row all.0 ∙ at.0, passes_kept P test next h rows None all.1 at.1 each)
passes_kept P test next h (row ∷ rows) (Some (suc place)) all at each = (each row all.0 ∙ at.0, passes_kept P test next h rows (Some place) all.1 at.1 each)

pub passes_nowhere : (P : Row → Type 0) (next : Row → Bool) (h : Row → Row) (rows : List Row) → AllByRecursion P rows → ((row : Row) → P row → next (h row) ≡ false) → PassesOnlyAt next (map h rows) None
passes_nowhere P next h [] all each = tt
passes_nowhere P next h (row ∷ rows) all each = (each row all.0, passes_nowhere P next h rows all.1 each)

pub none_passes : (P : Row → Type 0) (test : Row → Bool) (rows : List Row) → AllByRecursion P rows → ((row : Row) → P row → test row ≡ false) → PassesOnlyAt test rows None
none_passes P test [] all each = tt
none_passes P test (row ∷ rows) all each = (each row all.0, none_passes P test rows all.1 each)

pub passes_behind : (test : Row → Bool) (rows : List Row) (place : Option ℕ) (new : Row) → PassesOnlyAt test rows place → test new ≡ false → PassesOnlyAt test (rows ++ new ∷ []) place
passes_behind test [] None new at not = (not, tt)
passes_behind test [] (Some place) new at not = absurd at
passes_behind test (row ∷ rows) None new at not = (at.0, passes_behind test rows None new at.1 not)
passes_behind test (row ∷ rows) (Some zero) new at not = (at.0, passes_behind test rows None new at.1 not)
passes_behind test (row ∷ rows) (Some (suc place)) new at not = (at.0, passes_behind test rows (Some place) new at.1 not)

pub passes_at_end : (test : Row → Bool) (rows : List Row) (new : Row) → PassesOnlyAt test rows None → test new ≡ true → PassesOnlyAt test (rows ++ new ∷ []) (Some (length rows))
passes_at_end test [] new at is = (is, tt)
passes_at_end test (row ∷ rows) new at is = (at.0, passes_at_end test rows new at.1 is)
