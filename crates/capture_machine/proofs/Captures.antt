-- The beginning of a conforming capture.
use Rattle.std.proofs.Common.{◌+◌, ◌-◌, ◌<◌, ◌≤◌, ℕ, List, [], ◌∷◌, ◌++◌, refl, map, reverse, take, drop, subst, inl, inr, arith}
use Rattle.std.proofs.Math.Seq.{take-add}
use Rattle.std.proofs.lemmas.Bool.{cases_order}
use Rattle.std.proofs.lemmas.List.{reverse-append}
use Rattle.capture_machine.specs.Capture.{Conforms, Leads, BeginningConforms, IsFirstDifference, OneIsFirst}
use Rattle.capture_machine.specs.Rounds.{Dialogue}
use Rattle.capture_machine.specs.SessionTable.{Row, ConformingHasTable, LeadsShowing, rows_after, seen}
use Rattle.world_machine.specs.Setup.{Configuration}

-- What packets lead to, the older ones of them led to something.
leads_before : (w : Configuration) (later earlier : List (List ℕ)) (ds : List Dialogue) → Leads w (later ++ earlier) ds → (before : List Dialogue) × Leads w earlier before
leads_before w [] earlier ds leads = (ds, leads)
leads_before w (packet ∷ later) earlier ds leads = leads_before w later earlier leads.0 leads.1

pub beginning : BeginningConforms
beginning w earlier later conforms =
    let P : List (List ℕ) → Type 0 = λ packets. Leads w packets conforms.0 in
    leads_before w (reverse later) (reverse earlier) conforms.0 (subst P (reverse-append earlier later) conforms.1)

-- What packets lead to shows some rows.
pub shows_rows : (w : Configuration) (packets : List (List ℕ)) (ds : List Dialogue) → Leads w packets ds → (rows : List Row) × LeadsShowing w packets ds rows
shows_rows w [] ds leads = ([], (leads, refl))
shows_rows w (packet ∷ older) ds leads =
    let earlier = shows_rows w older leads.0 leads.1 in
    (rows_after leads.0 ds earlier.0, (leads.0, earlier.0, earlier.1, leads.2, refl))

pub leads_too : (w : Configuration) (packets : List (List ℕ)) (ds : List Dialogue) (rows : List Row) → LeadsShowing w packets ds rows → Leads w packets ds
leads_too w [] ds rows shown = shown.0
leads_too w (packet ∷ older) ds rows shown = (shown.0, leads_too w older shown.0 shown.1 shown.2, shown.3)

pub has_table : ConformingHasTable
has_table w packets = (
  λ conforms. let shown = shows_rows w (reverse packets) conforms.0 conforms.1 in
      (map (seen w) (reverse shown.0), (conforms.0, shown.0, shown.1, refl)),
  λ table has. (has.0, leads_too w (reverse packets) has.0 has.1 has.2),
)

-- A capture that conforms up to a number conforms up to a lesser one.
conforms_up_to : (w : Configuration) (packets : List (List ℕ)) (less more : ℕ) → less ≤ more → Conforms w (take more packets) → Conforms w (take less packets)
conforms_up_to w packets less more order conforms =
    let P : ℕ → Type 0 = λ n. Conforms w (take n packets) in
    let whole : P (less + (more - less)) = subst P (omega arith) conforms in
    beginning w (take less packets) (take (more - less) (drop less packets)) (subst (Conforms w) (take-add less (more - less) packets) whole)

-- No first difference stands before another.
none_before : (w : Configuration) (packets : List (List ℕ)) (less more : ℕ) → less < more → IsFirstDifference w packets less → IsFirstDifference w packets more → ⊥
none_before w packets less more order first second =
    first.at (conforms_up_to w packets less (more - 1) (omega arith) second.before)

pub one_is_first : OneIsFirst
one_is_first w packets one other first second = elim (cases_order one other) [
  | inl same ↦ same
  | inr apart ↦ elim apart [
    | inl below ↦ absurd (none_before w packets one other below first second)
    | inr above ↦ absurd (none_before w packets other one above second first)
  ]
]
