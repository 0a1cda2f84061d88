-- The rows after two moments, the oldest first, and the places of another requester among them.
use Rattle.std.proofs.Common.{◌≡◌, ◌≢◌, ◌∙◌, ◌++◌, ◌==◌, ◌&&◌, ◌+◌, ℕ, List, [], ◌∷◌, Bool, true, false, cond, Option, map, reverse, refl, ap, sym, subst, ne_eqb}
use Rattle.std.proofs.lemmas.Bool.{and_left}
use Rattle.std.proofs.lemmas.List.{append-nil, map_push, reverse-append}
use Rattle.std.specs.List.{AllByRecursion}
use Rattle.check_laws.specs.Rows.{ArePlaces, IsOfDialogue, OtherPlacesStay, PassesOnlyAt, does_ask_as, is_live_as}
use Rattle.check_laws.proofs.PassingPlaces.{all_map, all_push, passes_behind, passes_kept}
use Rattle.check_laws.proofs.RowSteps.{other_asks, other_fits, other_live}
use Rattle.capture_machine.specs.Rounds.{Dialogue}
use Rattle.capture_machine.specs.SessionTable.{Row, has_begun, new_row, row_after, rows_between}

pub reverse_map : {X Y : Type 0} (f : X → Y) (xs : List X) → reverse (map f xs) ≡ map f (reverse xs)
reverse_map f [] = refl
reverse_map f (x ∷ xs) =
    reverse-append (f x ∷ []) (map f xs) ∙ ap (λ ys. ys ++ f x ∷ []) (reverse_map f xs) ∙ sym (map_push f (reverse xs) x) ∙ ap (map f) (sym (reverse-append (x ∷ []) xs))

pub all_trivial : {X : Type 0} (xs : List X) → AllByRecursion (λ x. Unit {0}) xs
all_trivial [] = tt
all_trivial (x ∷ xs) = (tt, all_trivial xs)

-- The row of a session that was begun, after all others.
abbrev pub new_rows : Dialogue → Dialogue → Bool → List Row
new_rows before after b = cond b (new_row before after ∷ []) []

pub in_order : (before after : Dialogue) (rows : List Row) (b : Bool) → has_begun before after ≡ b → reverse (rows_between before after rows) ≡ map (row_after before after) (reverse rows) ++ new_rows before after b
in_order before after rows true begun =
    let all = map (row_after before after) rows in
    ap (λ b. reverse (cond b (new_row before after ∷ all) all)) begun ∙ reverse-append (new_row before after ∷ []) all ∙ ap (λ ys. ys ++ new_row before after ∷ []) (reverse_map (row_after before after) rows)
in_order before after rows false begun =
    let all = map (row_after before after) rows in
    ap (λ b. reverse (cond b (new_row before after ∷ all) all)) begun ∙ reverse_map (row_after before after) rows ∙ sym (append-nil (map (row_after before after) (reverse rows)))

module _ (before after other : Dialogue) (apart : other.setup.eid ≢ after.setup.eid) where
  new_apart : (new_row before after).eid ≢ other.setup.eid
  new_apart same = apart (sym same)

  off_new : (rest : Bool) → ((new_row before after).eid == other.setup.eid && rest) ≡ false
  off_new rest = and_left _ rest (ne_eqb _ _ new_apart)

  passes_on : (test : Row → Bool) (rows : List Row) (place : Option ℕ) (b : Bool) → ((row : Row) → test (row_after before after row) ≡ test row) → test (new_row before after) ≡ false → PassesOnlyAt test rows place
      → PassesOnlyAt test (map (row_after before after) rows ++ new_rows before after b) place
  passes_on test rows place true each new at =
      passes_behind test (map (row_after before after) rows) place (new_row before after) (passes_kept (λ x. Unit {0}) test test (row_after before after) rows place (all_trivial rows) at (λ row u. each row)) new
  passes_on test rows place false each new at =
      subst (λ xs. PassesOnlyAt test xs place) (sym (append-nil (map (row_after before after) rows))) (passes_kept (λ x. Unit {0}) test test (row_after before after) rows place (all_trivial rows) at (λ row u. each row))

  all_fit : (rows : List Row) (b : Bool) → AllByRecursion (λ (row : Row). row.eid ≡ other.setup.eid → IsOfDialogue other row) rows
      → AllByRecursion (λ (row : Row). row.eid ≡ other.setup.eid → IsOfDialogue other row) (map (row_after before after) rows ++ new_rows before after b)
  all_fit rows true all =
      all_push (λ (row : Row). row.eid ≡ other.setup.eid → IsOfDialogue other row) (map (row_after before after) rows) (new_row before after)
      (all_map (λ (row : Row). row.eid ≡ other.setup.eid → IsOfDialogue other row) (λ (row : Row). row.eid ≡ other.setup.eid → IsOfDialogue other row) (row_after before after) rows all (λ row fits. other_fits before after other apart row fits))
      (λ same. absurd (new_apart same))
  all_fit rows false all =
      subst (AllByRecursion (λ (row : Row). row.eid ≡ other.setup.eid → IsOfDialogue other row)) (sym (append-nil (map (row_after before after) rows)))
      (all_map (λ (row : Row). row.eid ≡ other.setup.eid → IsOfDialogue other row) (λ (row : Row). row.eid ≡ other.setup.eid → IsOfDialogue other row) (row_after before after) rows all (λ row fits. other_fits before after other apart row fits))

pub other_places_stay : OtherPlacesStay
other_places_stay places before after other rows apart are =
    let b = has_begun before after in
    let eid : ℕ = other.setup.eid in
    subst (ArePlaces places other) (sym (in_order before after rows b refl))
    (record {
      live_at = λ slot few. passes_on before after other apart (is_live_as eid (slot + 1)) (reverse rows) _ b (other_live before after eid apart (slot + 1)) (off_new before after other apart _) (are.live_at slot few);
      asks_at = λ slot few. passes_on before after other apart (does_ask_as eid (slot + 1)) (reverse rows) _ b (other_asks before after eid apart (slot + 1)) (off_new before after other apart _) (are.asks_at slot few);
      rest = all_fit before after other apart (reverse rows) b are.rest;
    })
