-- A packet of one requester, among all of them.
use Rattle.std.proofs.Common.{◌≡◌, ◌≢◌, ◌∙◌, ◌==◌, ℕ, List, [], ◌∷◌, Bool, true, false, cond, Some, refl, ap, sym, subst, eqb-true}
use Rattle.std.proofs.lemmas.Bool.{eqb-false}
use Rattle.std.proofs.lemmas.Option.{none-some, same_Some}
use Rattle.std.specs.List.{AllByRecursion}
use Rattle.check_laws.proofs.IdleRows.{idle_rows_stay}
use Rattle.check_laws.proofs.OrderedRows.{other_places_stay}
use Rattle.check_laws.proofs.PairWalks.{stays_in}
use Rattle.check_laws.specs.Rows.{HaveAllPlaces, OneChangesRows, OneKeepsPlaces, RowsAreOfAll, StandFor, TableBegins, TableIsShown}
use Rattle.capture_machine.proofs.Captures.{shows_rows}
use Rattle.capture_machine.proofs.Walks.{shows_all}
use Rattle.capture_machine.proofs.WalksAlike.{BothAlike, kept}
use Rattle.capture_machine.specs.Rounds.{Dialogue, dialogue_at, replaced, with_dialogue}
use Rattle.capture_machine.specs.SessionTable.{LeadsShowing, Row, rows_after, rows_between}

-- ---- The others.

AreOthers : Dialogue → List Dialogue → Type 0
AreOthers one ds = AllByRecursion (λ (other : Dialogue). other.setup.eid ≢ one.setup.eid) ds

all_idle : (ds : List Dialogue) (rows : List Row) → HaveAllPlaces ds rows → rows_after ds ds rows ≡ rows
all_idle [] rows have = refl
all_idle (d ∷ ds) rows have = ap (rows_after ds ds) (idle_rows_stay have.0.0 d rows have.0.1) ∙ all_idle ds rows have.1

not_replaced : (after : Dialogue) (ds : List Dialogue) → AreOthers after ds → with_dialogue after ds ≡ ds
unfolding AreOthers
not_replaced after [] apart = refl
not_replaced after (d ∷ ds) apart =
    ap (λ x. x ∷ with_dialogue after ds) (stays_in after d d.setup.eid refl apart.0) ∙ ap (λ xs. d ∷ xs) (not_replaced after ds apart.1)

others_keep : (before after : Dialogue) (rows : List Row) (ds : List Dialogue) → AreOthers after ds → HaveAllPlaces ds rows → HaveAllPlaces ds (rows_between before after rows)
unfolding AreOthers
others_keep before after rows [] apart have = tt
others_keep before after rows (d ∷ ds) apart have =
    ((have.0.0, other_places_stay have.0.0 before after d rows apart.0 have.0.1), others_keep before after rows ds apart.1 have.1)

still_others : (one other : Dialogue) → one.setup.eid ≡ other.setup.eid → (ds : List Dialogue) → AllByRecursion (λ (x : Dialogue). x.setup.eid ≢ one.setup.eid) ds → AreOthers other ds
unfolding AreOthers
still_others one other same ds apart = subst (λ (n : ℕ). AllByRecursion (λ (x : Dialogue). x.setup.eid ≢ n) ds) same apart

-- ---- The one.

pub one_changes_rows : OneChangesRows
one_changes_rows [] before after rows apart at have = absurd (none-some before at)
one_changes_rows (d ∷ ds) before after rows apart at have = by_eid (d.setup.eid == after.setup.eid) refl at (λ there. one_changes_rows ds before after rows apart.1 there have.1)
  where
    by_eid : (b : Bool) → (d.setup.eid == after.setup.eid) ≡ b → cond b (Some d) (dialogue_at after.setup.eid ds) ≡ Some before → (dialogue_at after.setup.eid ds ≡ Some before → rows_after ds (with_dialogue after ds) rows ≡ rows_between before after rows)
        → rows_after ds (with_dialogue after ds) (rows_between d (replaced after d) rows) ≡ rows_between before after rows
    by_eid true own here rest =
        let others = still_others d after (eqb-true _ _ own) ds apart.0 in
        let one : replaced after d ≡ after = ap (λ (b : Bool). cond b after d) own in
        let it : d ≡ before = same_Some d before here in
        ap (λ x. rows_after ds (with_dialogue after ds) (rows_between d x rows)) one
        ∙ ap (λ x. rows_after ds (with_dialogue after ds) (rows_between x after rows)) it
        ∙ ap (λ xs. rows_after ds xs (rows_between before after rows)) (not_replaced after ds others)
        ∙ all_idle ds (rows_between before after rows) (others_keep before after rows ds others have.1)
    by_eid false other there rest =
        let same : replaced after d ≡ d = ap (λ (b : Bool). cond b after d) other in
        ap (λ x. rows_after ds (with_dialogue after ds) (rows_between d x rows)) same
        ∙ ap (rows_after ds (with_dialogue after ds)) (idle_rows_stay have.0.0 d rows have.0.1)
        ∙ rest there

pub one_keeps_places : OneKeepsPlaces
one_keeps_places [] before after rows places apart at have stand = tt
one_keeps_places (d ∷ ds) before after rows places apart at have stand = by_eid (d.setup.eid == after.setup.eid) refl at (λ there. one_keeps_places ds before after rows places apart.1 there have.1 stand)
  where
    by_eid : (b : Bool) → (d.setup.eid == after.setup.eid) ≡ b → cond b (Some d) (dialogue_at after.setup.eid ds) ≡ Some before
        → (dialogue_at after.setup.eid ds ≡ Some before → HaveAllPlaces (with_dialogue after ds) (rows_between before after rows)) → HaveAllPlaces (replaced after d ∷ with_dialogue after ds) (rows_between before after rows)
    by_eid true own here rest =
        let others = still_others d after (eqb-true _ _ own) ds apart.0 in
        let one : replaced after d ≡ after = ap (λ (b : Bool). cond b after d) own in (
          (places, subst (λ (x : Dialogue). StandFor places x (rows_between before after rows)) (sym one) stand),
          subst (λ (xs : List Dialogue). HaveAllPlaces xs (rows_between before after rows)) (sym (not_replaced after ds others)) (others_keep before after rows ds others have.1),
        )
    by_eid false other there rest =
        let same : replaced after d ≡ d = ap (λ (b : Bool). cond b after d) other in
        let apart_it : d.setup.eid ≢ after.setup.eid = eqb-false _ _ other in (
          (
            have.0.0,
            subst (λ (x : Dialogue). StandFor have.0.0 x (rows_between before after rows)) (sym same) (other_places_stay have.0.0 before after d rows apart_it have.0.1),
          ),
          rest there,
        )

-- ---- The first and the last moment.

pub table_begins : TableBegins
table_begins w = record { entries = refl; counts = tt }

pub table_is_shown : TableIsShown
table_is_shown w packets ds rows n table shows stands = (ds, rows, shows, stands.entries)

-- All walks over the same packets show the same rows.
pub rows_are_of_all : RowsAreOfAll
rows_are_of_all w older ds es rows shown leads =
    let own = shows_rows w older es leads in
    let same = (shows_all BothAlike w (kept w) older ds es rows own.0 shown own.1).1 in
    subst (LeadsShowing w older es) (sym same) own.1
