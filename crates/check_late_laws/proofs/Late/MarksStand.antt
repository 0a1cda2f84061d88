-- The marks of touched sessions, entry by entry.
use Rattle.std.proofs.Common.{◌≡◌, ◌≢◌, ◌≤◌, ◌==◌, ◌||◌, ◌∙◌, ℕ, zero, suc, List, [], ◌∷◌, refl, sym, ap, subst, arith, Bool, true, false, cond, eqb-true}
use Rattle.std.specs.Prelude.{slice_index_or}
use Rattle.std.proofs.lemmas.Bool.{eqb-false}
use Rattle.check_late_laws.specs.Late.Marking.{RefusedLeavesMarks, StandsFor, mark_of}
use Rattle.check_late_laws.specs.Late.Passed.{touched}
use Rattle.check_late_laws.specs.declared.late_fetch.marks.Marks.{Marks}
use Rattle.responder_machine.specs.History.{History}
use Rattle.responder_machine.specs.History.Entry.{Clear, Sealed, Dropped}
use Rattle.responder_machine.specs.Session.{id_in_record}
use Rattle.responder_machine.specs.Turn.{Turn, is_taken}
use Rattle.spdm_machine.specs.Keys.{Draw}

-- ---- None is set.

pub none_marked : (seen : Marks) (id : ℕ) → seen.set ≡ false ∷ false ∷ false ∷ false ∷ [] → 1 ≤ id → id ≤ 4 → mark_of seen id ≡ false
none_marked seen zero is least most = refl
none_marked seen (suc zero) is least most = ap (λ (l : List Bool). slice_index_or l 0 false) is
none_marked seen (suc (suc zero)) is least most = ap (λ (l : List Bool). slice_index_or l 1 false) is
none_marked seen (suc (suc (suc zero))) is least most = ap (λ (l : List Bool). slice_index_or l 2 false) is
none_marked seen (suc (suc (suc (suc zero)))) is least most = ap (λ (l : List Bool). slice_index_or l 3 false) is
none_marked seen (suc (suc (suc (suc (suc n))))) is least most = absurd (omega (arith, most))

pub cleared : (seen : Marks) (h : History) (tag : ℕ) (t : Turn) (d : Draw) → seen.set ≡ false ∷ false ∷ false ∷ false ∷ [] → is_taken t ≡ true → StandsFor seen (Clear tag t d ∷ h)
cleared seen h tag t d is taken = λ id least most. none_marked seen id is least most ∙ sym (ap (λ (b : Bool). cond b false (touched id h)) taken)

-- ---- One is set.

module _ (old new : Marks) (id : ℕ) (own : 1 ≤ id → id ≤ 4 → mark_of new id ≡ true) (others : (i : ℕ) → i ≢ id → mark_of new i ≡ mark_of old i) where
  by_id : (h : History) (i : ℕ) (b : Bool) → (id == i) ≡ b → StandsFor old h → 1 ≤ i → i ≤ 4 → mark_of new i ≡ (b || touched i h)
  by_id h i true is stands least most =
      let same : id ≡ i = eqb-true id i is in
      subst (λ (n : ℕ). mark_of new n ≡ true) same (own (subst (λ (n : ℕ). 1 ≤ n) (sym same) least) (subst (λ (n : ℕ). n ≤ 4) (sym same) most))
  by_id h i false is stands least most = others i (λ same. eqb-false id i is (sym same)) ∙ stands i least most

  pub dropped_stands : (h : History) → StandsFor old h → StandsFor new (Dropped id ∷ h)
  dropped_stands h stands = λ i least most. by_id h i (id == i) refl stands least most

  pub record_stands : (h : History) (tag : ℕ) (sealed : List ℕ) (t : Turn) (reply : List ℕ) (d : Draw) → id ≡ id_in_record sealed → StandsFor old h → StandsFor new (Sealed tag sealed t reply d ∷ h)
  record_stands h tag sealed t reply d is stands = λ i least most. by_id h i (id == i) refl stands least most ∙ ap (λ (n : ℕ). n == i || touched i h) is

pub refused_leaves_marks : RefusedLeavesMarks
refused_leaves_marks seen h tag t d behind stands = λ id least most. stands id least most ∙ sym (ap (λ (b : Bool). cond b false (touched id h)) behind.0)
