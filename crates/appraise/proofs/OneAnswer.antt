-- One answer holds of any bytes under a policy, and which one it is once its blocks were read.
use Rattle.std.proofs.Common.{◌≡◌, ◌<◌, ◌-◌, ◌++◌, ℕ, Bool, true, false, List, [], ◌∷◌, length, take, drop, Option, Some, None, cond, refl, sym, ap, ◌∙◌, subst, inl, inr, arith, ◌==◌, eqb-true}
use Rattle.std.proofs.lemmas.Bool.{false≢true, cases_lt, eqb-false}
use Rattle.std.proofs.lemmas.List.{append-nil, take-append-drop, length-append, length-drop, length-take}
use Rattle.std.proofs.Math.Seq.{drop-append_seam, take-append_seam}
use Rattle.std.specs.List.{AllByRecursion}
use Rattle.std.specs.Prelude.{not}
use Rattle.script_text.specs.PolicyText.{has_index}
use Rattle.script_text.specs.declared.texts.rule.Rule.{Rule}
use Rattle.appraise.specs.declared.appraisal.Appraisal.{Appraisal}
use Rattle.appraise.specs.declared.appraisal.Appraisal.TheVariants.{Trusted, Malformed, Repeated, Unknown, Differs, Missing}
use Rattle.appraise.specs.Records.{Measured, IsBlock, IsRecordOf, BeginsWithBlock, bytes_of, has_block}
use Rattle.appraise.specs.Policies.{policy_fault, expects_other}
use Rattle.appraise.specs.Answers.{HasNoFault, IsFirstFault, is_missing, IsLeastMissing, IsAppraisal, IsTheAppraisal}
use Rattle.appraise.specs.Walk.{StandsFor, first_fault, IsRead, IsMissingOrNone}
use Rattle.appraise.proofs.AsSets.{trusted_fine, trusted_whole, fine_trusted}
use Rattle.appraise.proofs.FirstFaults.{found, found_here, found_none, none_found}
use Rattle.appraise.proofs.NoBlock.{policy_parts}
use Rattle.appraise.proofs.OneReading.{one_reading, nothing_begins}

-- The answer where nothing is left behind blocks without a fault.
abbrev pub IsLeft : List Rule → List Measured → Appraisal → Type 0
IsLeft rules blocks (Missing index) = IsLeastMissing rules blocks index
IsLeft rules blocks Trusted = (index : ℕ) → is_missing rules blocks index ≡ false
IsLeft rules blocks (Malformed at) = ⊥
IsLeft rules blocks (Repeated index) = ⊥
IsLeft rules blocks (Unknown index) = ⊥
IsLeft rules blocks (Differs index) = ⊥

-- The answer for the blocks that were read, the rest behind them, the place of the rest and the first fault.
abbrev pub IsDecided : List Rule → List Measured → List ℕ → ℕ → Option Appraisal → Appraisal → Type 0
IsDecided rules blocks (byte ∷ rest) at fault answer = answer ≡ Malformed at
IsDecided rules blocks [] at (Some fault) answer = answer ≡ fault
IsDecided rules blocks [] at None answer = IsLeft rules blocks answer

-- The answer to what is missing, if anything is.
abbrev pub answer_of : Option ℕ → Appraisal
answer_of None = Trusted
answer_of (Some index) = Missing index

-- ---- One answer is decided.

least_same : (rules : List Rule) (blocks : List Measured) (i j : ℕ) → IsLeastMissing rules blocks i → IsLeastMissing rules blocks j → i ≡ j
least_same rules blocks i j one other =
    elim (cases_lt i j) [
      | inl less ↦ absurd (false≢true (sym (other.1 i less) ∙ one.0))
      | inr not_less ↦ elim (cases_lt j i) [
        | inl less ↦ absurd (false≢true (sym (one.1 j less) ∙ other.0))
        | inr still_not ↦ omega (arith, not_less, still_not)
      ]
    ]

left_same : (rules : List Rule) (blocks : List Measured) (one other : Appraisal) → IsLeft rules blocks one → IsLeft rules blocks other → one ≡ other
left_same rules blocks (Malformed at) other h k = absurd h
left_same rules blocks (Repeated index) other h k = absurd h
left_same rules blocks (Unknown index) other h k = absurd h
left_same rules blocks (Differs index) other h k = absurd h
left_same rules blocks (Missing i) (Missing j) h k = ap (λ (n : ℕ). Missing n) (least_same rules blocks i j h k)
left_same rules blocks (Missing i) Trusted h k = absurd (false≢true (sym (k i) ∙ h.0))
left_same rules blocks (Missing i) (Malformed at) h k = absurd k
left_same rules blocks (Missing i) (Repeated index) h k = absurd k
left_same rules blocks (Missing i) (Unknown index) h k = absurd k
left_same rules blocks (Missing i) (Differs index) h k = absurd k
left_same rules blocks Trusted (Missing j) h k = absurd (false≢true (sym (h j) ∙ k.0))
left_same rules blocks Trusted Trusted h k = refl
left_same rules blocks Trusted (Malformed at) h k = absurd k
left_same rules blocks Trusted (Repeated index) h k = absurd k
left_same rules blocks Trusted (Unknown index) h k = absurd k
left_same rules blocks Trusted (Differs index) h k = absurd k

decided_same : (rules : List Rule) (blocks : List Measured) (rest : List ℕ) (at : ℕ) (fault : Option Appraisal) (one other : Appraisal)
    → IsDecided rules blocks rest at fault one → IsDecided rules blocks rest at fault other → one ≡ other
decided_same rules blocks (byte ∷ rest) at fault one other h k = h ∙ sym k
decided_same rules blocks [] at (Some fault) one other h k = h ∙ sym k
decided_same rules blocks [] at None one other h k = left_same rules blocks one other h k

-- ---- An answer that holds is decided.

whole_parts : (blocks others : List Measured) (bytes rest : List ℕ) → AllByRecursion IsBlock blocks → bytes ≡ bytes_of blocks ++ rest
    → (BeginsWithBlock rest → ⊥) → IsRecordOf others bytes → (others ≡ blocks) × ([] ≡ rest)
whole_parts blocks others bytes rest are e last whole =
    one_reading others blocks [] rest whole.0 are (append-nil (bytes_of others) ∙ sym whole.1 ∙ e) nothing_begins last

by_fault : (rules : List Rule) (blocks : List Measured) (rest : List ℕ) (at : ℕ) (fault : Option Appraisal) (answer : Appraisal)
    → [] ≡ rest → fault ≡ Some answer → IsDecided rules blocks rest at fault answer
by_fault rules blocks rest at fault answer e f =
    subst (λ (l : List ℕ). IsDecided rules blocks l at fault answer) e
    (subst (λ (o : Option Appraisal). IsDecided rules blocks [] at o answer) (sym f) refl)

by_rest : (rules : List Rule) (blocks : List Measured) (rest : List ℕ) (at : ℕ) (fault : Option Appraisal) (answer : Appraisal)
    → [] ≡ rest → fault ≡ None → IsLeft rules blocks answer → IsDecided rules blocks rest at fault answer
by_rest rules blocks rest at fault answer e f h =
    subst (λ (l : List ℕ). IsDecided rules blocks l at fault answer) e
    (subst (λ (o : Option Appraisal). IsDecided rules blocks [] at o answer) (sym f) h)

fault_decided : (rules : List Rule) (blocks : List Measured) (bytes rest : List ℕ) (answer : Appraisal) → AllByRecursion IsBlock blocks
    → bytes ≡ bytes_of blocks ++ rest → (BeginsWithBlock rest → ⊥) → IsFirstFault rules bytes answer
    → IsDecided rules blocks rest (length (bytes_of blocks)) (first_fault rules blocks) answer
fault_decided rules blocks bytes rest answer are e last h =
    let parts = whole_parts blocks (h.earlier ++ h.block ∷ h.later) bytes rest are e last h.whole in
    by_fault rules blocks rest (length (bytes_of blocks)) (first_fault rules blocks) answer parts.1
    (ap (first_fault rules) (sym parts.0) ∙ found_here rules [] h.earlier h.block h.later answer h.before h.here)

malformed_by : (rules : List Rule) (blocks : List Measured) (rest : List ℕ) (at place : ℕ) (fault : Option Appraisal) → 0 < length rest → place ≡ at
    → IsDecided rules blocks rest at fault (Malformed place)
malformed_by rules blocks [] at place fault h e = absurd (omega (arith, h))
malformed_by rules blocks (byte ∷ rest) at place fault h e = ap (λ (n : ℕ). Malformed n) e

decided : (rules : List Rule) (blocks : List Measured) (bytes rest : List ℕ) (answer : Appraisal) → AllByRecursion IsBlock blocks
    → bytes ≡ bytes_of blocks ++ rest → (BeginsWithBlock rest → ⊥) → IsAppraisal rules bytes answer
    → IsDecided rules blocks rest (length (bytes_of blocks)) (first_fault rules blocks) answer
decided rules blocks bytes rest (Repeated index) are e last h = fault_decided rules blocks bytes rest (Repeated index) are e last h
decided rules blocks bytes rest (Unknown index) are e last h = fault_decided rules blocks bytes rest (Unknown index) are e last h
decided rules blocks bytes rest (Differs index) are e last h = fault_decided rules blocks bytes rest (Differs index) are e last h
decided rules blocks bytes rest (Missing index) are e last h =
    let parts = whole_parts blocks h.blocks bytes rest are e last h.whole in
    by_rest rules blocks rest (length (bytes_of blocks)) (first_fault rules blocks) (Missing index) parts.1
    (ap (first_fault rules) (sym parts.0) ∙ found_none rules [] h.blocks h.fine)
    (subst (λ (l : List Measured). IsLeastMissing rules l index) parts.0 h.least)
decided rules blocks bytes rest Trusted are e last h =
    let parts = whole_parts blocks h.blocks bytes rest are e last h.whole in
    by_rest rules blocks rest (length (bytes_of blocks)) (first_fault rules blocks) Trusted parts.1
    (ap (first_fault rules) (sym parts.0) ∙ found_none rules [] h.blocks (trusted_fine rules bytes h))
    (λ index. ap (λ (l : List Measured). is_missing rules l index) (sym parts.0) ∙ trusted_whole rules bytes h index)
decided rules blocks bytes rest (Malformed place) are e last h =
    let others : List Measured = h.2.0 in
    let parts = one_reading others blocks (drop place bytes) rest h.2.1.0 are
    (ap (λ (l : List ℕ). l ++ drop place bytes) (sym h.2.1.1) ∙ take-append-drop place bytes ∙ e) h.1 last in
    malformed_by rules blocks rest (length (bytes_of blocks)) place (first_fault rules blocks)
    (omega (arith, h.0, length-drop place bytes, ap length parts.1))
    (omega (arith, h.0, length-take place bytes, ap length h.2.1.1, ap (λ (l : List Measured). length (bytes_of l)) parts.0))

-- ---- An answer that is decided holds.

no_trusted : (i : ℕ) (repeated ruled unmet : Bool)
    → cond repeated (Some (Repeated i)) (cond (not ruled) (Some (Unknown i)) (cond unmet (Some (Differs i)) None)) ≡ Some Trusted → ⊥
no_trusted i true ruled unmet h = absurd cc
no_trusted i false false unmet h = absurd cc
no_trusted i false true true h = absurd cc
no_trusted i false true false h = absurd cc

no_malformed : (i at : ℕ) (repeated ruled unmet : Bool)
    → cond repeated (Some (Repeated i)) (cond (not ruled) (Some (Unknown i)) (cond unmet (Some (Differs i)) None)) ≡ Some (Malformed at) → ⊥
no_malformed i at true ruled unmet h = absurd cc
no_malformed i at false false unmet h = absurd cc
no_malformed i at false true true h = absurd cc
no_malformed i at false true false h = absurd cc

no_missing : (i index : ℕ) (repeated ruled unmet : Bool)
    → cond repeated (Some (Repeated i)) (cond (not ruled) (Some (Unknown i)) (cond unmet (Some (Differs i)) None)) ≡ Some (Missing index) → ⊥
no_missing i index true ruled unmet h = absurd cc
no_missing i index false false unmet h = absurd cc
no_missing i index false true true h = absurd cc
no_missing i index false true false h = absurd cc

fault_holds : (rules : List Rule) (bytes : List ℕ) (answer : Appraisal) → IsFirstFault rules bytes answer → IsAppraisal rules bytes answer
fault_holds rules bytes (Repeated index) h = h
fault_holds rules bytes (Unknown index) h = h
fault_holds rules bytes (Differs index) h = h
fault_holds rules bytes Trusted h =
    absurd (no_trusted h.block.index (has_block h.block.index h.earlier) (has_index h.block.index rules) (expects_other h.block rules) h.here)
fault_holds rules bytes (Malformed at) h =
    absurd (no_malformed h.block.index at (has_block h.block.index h.earlier) (has_index h.block.index rules) (expects_other h.block rules) h.here)
fault_holds rules bytes (Missing index) h =
    absurd (no_missing h.block.index index (has_block h.block.index h.earlier) (has_index h.block.index rules) (expects_other h.block rules) h.here)

left_holds : (rules : List Rule) (bytes : List ℕ) (blocks : List Measured) (answer : Appraisal) → policy_fault rules ≡ None → IsRecordOf blocks bytes
    → HasNoFault rules blocks → IsLeft rules blocks answer → IsAppraisal rules bytes answer
left_holds rules bytes blocks (Malformed at) fine whole none h = absurd h
left_holds rules bytes blocks (Repeated index) fine whole none h = absurd h
left_holds rules bytes blocks (Unknown index) fine whole none h = absurd h
left_holds rules bytes blocks (Differs index) fine whole none h = absurd h
left_holds rules bytes blocks (Missing index) fine whole none h = record { blocks = blocks; whole = whole; fine = none; least = h }
left_holds rules bytes blocks Trusted fine whole none h = fine_trusted rules bytes blocks (policy_parts rules fine).1 whole none h

holds_by : (rules : List Rule) (blocks : List Measured) (bytes rest : List ℕ) (fault : Option Appraisal) (answer : Appraisal) → policy_fault rules ≡ None
    → AllByRecursion IsBlock blocks → bytes ≡ bytes_of blocks ++ rest → (BeginsWithBlock rest → ⊥) → first_fault rules blocks ≡ fault
    → IsDecided rules blocks rest (length (bytes_of blocks)) fault answer → IsAppraisal rules bytes answer
holds_by rules blocks bytes (byte ∷ rest) fault answer fine are e last is h =
    subst (IsAppraisal rules bytes) (sym h) (
      omega (arith, ap length e, length-append (bytes_of blocks) (byte ∷ rest)),
      (λ begins. last (subst BeginsWithBlock (ap (drop (length (bytes_of blocks))) e ∙ drop-append_seam (bytes_of blocks) (byte ∷ rest)) begins)),
      (blocks, (are, ap (take (length (bytes_of blocks))) e ∙ take-append_seam (bytes_of blocks) (byte ∷ rest))),
    )
holds_by rules blocks bytes [] (Some fault) answer fine are e last is h =
    let s = found rules [] blocks fault is in
    subst (IsAppraisal rules bytes) (sym h) (fault_holds rules bytes fault (record {
      earlier = s.before;
      block = s.block;
      later = s.later;
      whole = subst (λ (l : List Measured). IsRecordOf l bytes) s.are (are, e ∙ append-nil (bytes_of blocks));
      before = s.none;
      here = s.here;
    }))
holds_by rules blocks bytes [] None answer fine are e last is h =
    left_holds rules bytes blocks answer fine (are, e ∙ append-nil (bytes_of blocks)) (none_found rules [] blocks is) h

pub the_appraisal : (rules : List Rule) (blocks : List Measured) (bytes rest : List ℕ) (answer : Appraisal) → policy_fault rules ≡ None
    → AllByRecursion IsBlock blocks → bytes ≡ bytes_of blocks ++ rest → (BeginsWithBlock rest → ⊥)
    → IsDecided rules blocks rest (length (bytes_of blocks)) (first_fault rules blocks) answer → IsTheAppraisal rules bytes answer
the_appraisal rules blocks bytes rest answer fine are e last h = (
  holds_by rules blocks bytes rest (first_fault rules blocks) answer fine are e last refl h,
  λ other k. decided_same rules blocks rest (length (bytes_of blocks)) (first_fault rules blocks) other answer
      (decided rules blocks bytes rest other are e last k) h,
)

-- ---- The four ways in which a record that was read comes to its answer.

nothing_left : (rest : List ℕ) → (length rest == 0) ≡ true → [] ≡ rest
nothing_left [] h = refl
nothing_left (byte ∷ rest) h = absurd (omega (arith, eqb-true (length (byte ∷ rest)) 0 h))

decides : (rules own : List Rule) (bytes : List ℕ) (table : List Bool) (fault : Option Appraisal) (rest : List ℕ) (answer : Appraisal) → rules ≡ own
    → policy_fault rules ≡ None → (r : IsRead rules bytes table fault rest) → (BeginsWithBlock rest → ⊥)
    → IsDecided rules r.blocks rest (length (bytes_of r.blocks)) fault answer → IsTheAppraisal own bytes answer
decides rules own bytes table fault rest answer same fine r last h =
    subst (λ (l : List Rule). IsTheAppraisal l bytes answer) same
    (the_appraisal rules r.blocks bytes rest answer fine r.are_blocks r.bytes_are last
    (subst (λ (o : Option Appraisal). IsDecided rules r.blocks rest (length (bytes_of r.blocks)) o answer) r.fault_is h))

pub as_malformed : (rules own : List Rule) (bytes : List ℕ) (table : List Bool) (fault : Option Appraisal) (rest : List ℕ) → rules ≡ own
    → policy_fault rules ≡ None → IsRead rules bytes table fault rest → (BeginsWithBlock rest → ⊥)
    → (length rest == 0) ≡ false → IsTheAppraisal own bytes (Malformed (length bytes - length rest))
as_malformed rules own bytes table fault rest same fine r last h =
    decides rules own bytes table fault rest (Malformed (length bytes - length rest)) same fine r last
    (malformed_by rules r.blocks rest (length (bytes_of r.blocks)) (length bytes - length rest) fault
    (omega (arith, eqb-false (length rest) 0 h))
    (omega (arith, ap length r.bytes_are, length-append (bytes_of r.blocks) rest)))

pub as_fault : (rules own : List Rule) (bytes : List ℕ) (table : List Bool) (fault : Option Appraisal) (rest : List ℕ) (answer : Appraisal) → rules ≡ own
    → policy_fault rules ≡ None → IsRead rules bytes table fault rest → (BeginsWithBlock rest → ⊥)
    → (length rest == 0) ≡ true → fault ≡ Some answer → IsTheAppraisal own bytes answer
as_fault rules own bytes table fault rest answer same fine r last h is =
    decides rules own bytes table fault rest answer same fine r last
    (by_fault rules r.blocks rest (length (bytes_of r.blocks)) fault answer (nothing_left rest h) is)

left_by : (rules : List Rule) (blocks : List Measured) (missing : Option ℕ) → IsMissingOrNone rules blocks missing → IsLeft rules blocks (answer_of missing)
left_by rules blocks None h = h
left_by rules blocks (Some index) h = h

pub as_left : (rules own : List Rule) (bytes : List ℕ) (table : List Bool) (fault : Option Appraisal) (rest : List ℕ) (missing : Option ℕ) → rules ≡ own
    → policy_fault rules ≡ None → IsRead rules bytes table fault rest → (BeginsWithBlock rest → ⊥)
    → (length rest == 0) ≡ true → fault ≡ None → ((blocks : List Measured) → StandsFor table blocks → IsMissingOrNone rules blocks missing)
    → IsTheAppraisal own bytes (answer_of missing)
as_left rules own bytes table fault rest missing same fine r last h is left =
    decides rules own bytes table fault rest (answer_of missing) same fine r last
    (by_rest rules r.blocks rest (length (bytes_of r.blocks)) fault (answer_of missing) (nothing_left rest h) is
    (left_by rules r.blocks missing (left r.blocks r.seen)))
