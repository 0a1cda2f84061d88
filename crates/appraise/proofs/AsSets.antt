-- A record without a fault of which nothing is missing is a trusted one, and a trusted one is such a record.
use Rattle.std.proofs.Common.{◌≡◌, ◌≢◌, ◌<◌, ◌==◌, ◌&&◌, ◌++◌, ℕ, zero, suc, Bool, true, false, List, [], ◌∷◌, length, get_or, take, drop, Some, None, cond, refl, sym, ap, ◌∙◌, subst, inl, inr, arith, eqb-true, eq-eqb}
use Rattle.std.proofs.lemmas.Bool.{false≢true, eqb-false, ne_eqb, cases_lt}
use Rattle.std.proofs.lemmas.List.{get_or_append_left, get_or-take, take-append-drop, length-append, length-take}
use Rattle.std.proofs.lemmas.List.Elements.{Contains-append_right}
use Rattle.std.proofs.lemmas.Slice.Eq.{bytes_eq-Decides}
use Rattle.std.proofs.Math.Seq.{get_or-append_seam, drop-cons}
use Rattle.std.specs.List.{AllPairs, Contains}
use Rattle.std.specs.Prelude.{not, bytes_eq}
use Rattle.script_text.specs.PolicyText.{index_of, has_index}
use Rattle.script_text.specs.declared.texts.rule.Rule.{Rule}
use Rattle.script_text.specs.declared.texts.rule.Rule.TheVariants.{Expect, Skip}
use Rattle.appraise.specs.declared.appraisal.Appraisal.TheVariants.{Repeated, Unknown, Differs}
use Rattle.appraise.specs.Records.{Measured, IsRecordOf, has_block}
use Rattle.appraise.specs.Policies.{has_twice, is_expectation, expects, is_unmet, expects_other}
use Rattle.appraise.specs.Trusted.{IsSkipped, IsExpected, HasRule, IsTrusted}
use Rattle.appraise.specs.Answers.{fault_of, HasNoFault, is_missing}
use Rattle.appraise.proofs.Membership.{here, any_from, any_to, none_from, none_to}
use Rattle.appraise.proofs.NoBlock.{one_rule}
use Rattle.appraise.proofs.OneReading.{same_block}

abbrev apart : List Measured → Type 0
apart blocks = AllPairs (λ (one : Measured) (other : Measured). one.index ≢ other.index) blocks

-- ---- The parts of "no fault".

none_parts : (i : ℕ) (repeated ruled unmet : Bool)
    → cond repeated (Some (Repeated i)) (cond (not ruled) (Some (Unknown i)) (cond unmet (Some (Differs i)) None)) ≡ None
    → (repeated ≡ false) × (ruled ≡ true) × (unmet ≡ false)
none_parts i true ruled unmet h = absurd cc
none_parts i false false unmet h = absurd cc
none_parts i false true true h = absurd cc
none_parts i false true false h = (refl, refl, refl)

none_whole : (i : ℕ) (repeated ruled unmet : Bool) → repeated ≡ false → ruled ≡ true → unmet ≡ false
    → cond repeated (Some (Repeated i)) (cond (not ruled) (Some (Unknown i)) (cond unmet (Some (Differs i)) None)) ≡ None
none_whole i repeated ruled unmet e f g = cc

fine_parts : (rules : List Rule) (earlier : List Measured) (block : Measured) → fault_of rules earlier block ≡ None
    → (has_block block.index earlier ≡ false) × (has_index block.index rules ≡ true) × (expects_other block rules ≡ false)
fine_parts rules earlier block h =
    none_parts block.index (has_block block.index earlier) (has_index block.index rules) (expects_other block rules) h

-- ---- Two blocks of a list with different indices.

-- what stands at a place, whatever stands for what does not
any_default : (xs : List Measured) (n : ℕ) (d e : Measured) → n < length xs → get_or xs n d ≡ get_or xs n e
any_default [] n d e h = absurd (omega (arith, h))
any_default (x ∷ xs) zero d e h = refl
any_default (x ∷ xs) (suc n) d e h = any_default xs n d e (omega (arith, h))

apart_places : (blocks : List Measured) (one other : Measured) → apart blocks → (j k : ℕ) → j < k → k < length blocks
    → get_or blocks j one ≡ one → get_or blocks k other ≡ other → one.index ≢ other.index
apart_places blocks one other h j k less within e f same =
    h j k one less within (ap (λ (m : Measured). m.index) e ∙ same ∙ ap (λ (m : Measured). m.index) (sym f ∙ any_default blocks k other one within))

same_place : (blocks : List Measured) (one other : Measured) (j k : ℕ) → j ≡ k → k < length blocks
    → get_or blocks j one ≡ one → get_or blocks k other ≡ other → one ≡ other
same_place blocks one other j k e h a b =
    sym a ∙ ap (λ (n : ℕ). get_or blocks n one) e ∙ any_default blocks k one other h ∙ b

one_block : (blocks : List Measured) (one other : Measured) → apart blocks → Contains blocks one → Contains blocks other → one.index ≡ other.index → one ≡ other
one_block blocks one other h c d e =
    elim (cases_lt c.0 d.0) [
      | inl less ↦ absurd (apart_places blocks one other h c.0 d.0 less d.1 c.2 d.2 e)
      | inr not_less ↦ elim (cases_lt d.0 c.0) [
        | inl less ↦ absurd (apart_places blocks other one h d.0 c.0 less c.1 d.2 c.2 (sym e))
        | inr still_not ↦ same_place blocks one other c.0 d.0 (omega (arith, not_less, still_not)) d.1 c.2 d.2
      ]
    ]

-- ---- Whether an expectation is met.

met : (block : Measured) (i t : ℕ) (v : List ℕ) → is_unmet block (Expect i t v) ≡ false → i ≡ block.index → (t ≡ block.value_type) × (v ≡ block.value)
met block i t v h e =
    let tests = by_tests (i == block.index) (t == block.value_type) (bytes_eq v block.value) (eq-eqb i block.index e) h in
    (eqb-true t block.value_type tests.0, (bytes_eq-Decides v block.value).0 tests.1)
  where
    by_tests : (same kind bytes : Bool) → same ≡ true → (same && not (kind && bytes)) ≡ false → (kind ≡ true) × (bytes ≡ true)
    by_tests true true true s h = (refl, refl)
    by_tests true true false s h = absurd (false≢true (sym h))
    by_tests true false bytes s h = absurd (false≢true (sym h))
    by_tests false kind bytes s h = absurd (false≢true s)

is_met : (block : Measured) (i t : ℕ) (v : List ℕ) → (i ≡ block.index → (t ≡ block.value_type) × (v ≡ block.value)) → is_unmet block (Expect i t v) ≡ false
is_met block i t v h =
    by_tests (i == block.index) (t == block.value_type) (bytes_eq v block.value)
    (λ e. eq-eqb t block.value_type (h (eqb-true i block.index e)).0)
    (λ e. (bytes_eq-Decides v block.value).1 (h (eqb-true i block.index e)).1)
  where
    by_tests : (same kind bytes : Bool) → (same ≡ true → kind ≡ true) → (same ≡ true → bytes ≡ true) → (same && not (kind && bytes)) ≡ false
    by_tests false kind bytes f g = refl
    by_tests true kind bytes f g = let e = f refl in let e' = g refl in cc (e, e')

-- ---- From a trusted record.

-- the blocks before a block do not have its index
none_before : (earlier later : List Measured) (block x : Measured) → apart (earlier ++ block ∷ later) → Contains earlier x → (x.index == block.index) ≡ false
none_before earlier later block x h c =
    let less : c.0 < length earlier = c.1 in
    let within : length earlier < length (earlier ++ block ∷ later) = omega (arith, length-append earlier (block ∷ later)) in
    let ne = h c.0 (length earlier) x less within in
    ne_eqb x.index block.index (λ e. ne (ap (λ (m : Measured). m.index) (get_or_append_left earlier (block ∷ later) x c.0 c.1 ∙ c.2)
    ∙ e ∙ ap (λ (m : Measured). m.index) (sym (get_or-append_seam earlier block later x))))

trusted_unmet : (rules : List Rule) (bytes : List ℕ) (t : IsTrusted rules bytes) (block : Measured) → Contains t.blocks block
    → (rule : Rule) → Contains rules rule → is_unmet block rule ≡ false
trusted_unmet rules bytes t block c (Skip i) d = refl
trusted_unmet rules bytes t block c (Expect i u v) d =
    is_met block i u v (λ e.
    let m : Measured = record { index = i; value_type = u; value = v } in
    let among = (t.same m).1 d in
    let same : m ≡ block = one_block t.blocks m block t.apart among.0 c e in
    (ap (λ (b : Measured). b.value_type) same, ap (λ (b : Measured). b.value) same))

trusted_fault : (rules : List Rule) (bytes : List ℕ) (t : IsTrusted rules bytes) (earlier : List Measured) (block : Measured) (later : List Measured)
    → t.blocks ≡ earlier ++ block ∷ later → fault_of rules earlier block ≡ None
trusted_fault rules bytes t earlier block later e =
    let among : Contains t.blocks block =
    subst (λ (l : List Measured). Contains l block) (sym e) (Contains-append_right earlier (block ∷ later) block (here block later)) in
    let rule = t.ruled block among in
    none_whole block.index (has_block block.index earlier) (has_index block.index rules) (expects_other block rules)
    (none_to (λ (m : Measured). m.index == block.index) earlier
    (λ x c. none_before earlier later block x (subst apart e t.apart) c))
    (any_to (λ (r : Rule). index_of r == block.index) rules rule.0 rule.1 (eq-eqb (index_of rule.0) block.index rule.2))
    (none_to (λ (r : Rule). is_unmet block r) rules (λ r c. trusted_unmet rules bytes t block among r c))

pub trusted_fine : (rules : List Rule) (bytes : List ℕ) (t : IsTrusted rules bytes) → HasNoFault rules t.blocks
trusted_fine rules bytes t earlier block later e = trusted_fault rules bytes t earlier block later e

trusted_has : (rules : List Rule) (bytes : List ℕ) (t : IsTrusted rules bytes) (index : ℕ) (rule : Rule) → Contains rules rule
    → is_expectation index rule ≡ true → has_block index t.blocks ≡ true
trusted_has rules bytes t index (Skip i) c h = absurd (false≢true h)
trusted_has rules bytes t index (Expect i u v) c h =
    let m : Measured = record { index = i; value_type = u; value = v } in
    any_to (λ (b : Measured). b.index == index) t.blocks m ((t.same m).1 c).0 h

not_missing : (expected held : Bool) → (expected ≡ true → held ≡ true) → (expected && not held) ≡ false
not_missing false held h = refl
not_missing true held h = ap not (h refl)

pub trusted_whole : (rules : List Rule) (bytes : List ℕ) (t : IsTrusted rules bytes) (index : ℕ) → is_missing rules t.blocks index ≡ false
trusted_whole rules bytes t index =
    not_missing (expects index rules) (has_block index t.blocks) (λ h.
    let found = any_from (λ (r : Rule). is_expectation index r) rules h in
    trusted_has rules bytes t index found.0 found.1 found.2)

-- ---- To a trusted record.

-- a list at a place of it
split_at : (blocks : List Measured) (block : Measured) (k : ℕ) → k < length blocks → get_or blocks k block ≡ block
    → blocks ≡ take k blocks ++ block ∷ drop (suc k) blocks
split_at blocks block k h e =
    sym (take-append-drop k blocks) ∙ ap (λ (l : List Measured). take k blocks ++ l)
    (drop-cons blocks k block h ∙ ap (λ (b : Measured). b ∷ drop (suc k) blocks) e)

fine_at : (rules : List Rule) (blocks : List Measured) (block : Measured) → HasNoFault rules blocks → Contains blocks block
    → (has_index block.index rules ≡ true) × (expects_other block rules ≡ false)
fine_at rules blocks block fine c =
    let parts = fine_parts rules (take c.0 blocks) block (fine (take c.0 blocks) block (drop (suc c.0) blocks) (split_at blocks block c.0 c.1 c.2)) in
    (parts.1, parts.2)

fine_apart : (rules : List Rule) (blocks : List Measured) → HasNoFault rules blocks → apart blocks
fine_apart rules blocks fine i j d less within =
    let block : Measured = get_or blocks j d in
    let parts = fine_parts rules (take j blocks) block
    (fine (take j blocks) block (drop (suc j) blocks) (split_at blocks block j within (any_default blocks j block d within))) in
    let x : Measured = get_or blocks i d in
    let among : Contains (take j blocks) x = (i, omega (arith, length-take j blocks), get_or-take j blocks i x less ∙ any_default blocks i x d (omega (arith, less, within))) in
    eqb-false x.index block.index (none_from (λ (m : Measured). m.index == block.index) (take j blocks) x parts.0 among)

fine_ruled : (rules : List Rule) (blocks : List Measured) → HasNoFault rules blocks → (block : Measured) → Contains blocks block → HasRule rules block.index
fine_ruled rules blocks fine block c =
    let found = any_from (λ (r : Rule). index_of r == block.index) rules (fine_at rules blocks block fine c).0 in
    (found.0, found.1, eqb-true (index_of found.0) block.index found.2)

expected_by : (rules : List Rule) (block : Measured) (rule : Rule) → Contains rules rule → index_of rule ≡ block.index
    → is_unmet block rule ≡ false → (IsSkipped rules block.index → ⊥) → IsExpected rules block
expected_by rules block (Skip i) c e unmet not_skipped = absurd (not_skipped (subst (λ (n : ℕ). Contains rules (Skip n)) e c))
expected_by rules block (Expect i t v) c e unmet not_skipped =
    let parts = met block i t v unmet e in
    let same : Expect i t v ≡ Expect block.index block.value_type block.value = cc (e, parts.0, parts.1) in
    subst (λ (r : Rule). Contains rules r) same c

fine_expected : (rules : List Rule) (blocks : List Measured) → HasNoFault rules blocks → (block : Measured) → Contains blocks block
    → (IsSkipped rules block.index → ⊥) → IsExpected rules block
fine_expected rules blocks fine block c not_skipped =
    let rule = fine_ruled rules blocks fine block c in
    expected_by rules block rule.0 rule.1 rule.2
    (none_from (λ (r : Rule). is_unmet block r) rules rule.0 (fine_at rules blocks block fine c).1 rule.1) not_skipped

held : (expected has : Bool) → (expected && not has) ≡ false → expected ≡ true → has ≡ true
held expected true h e = refl
held true false h e = absurd (false≢true (sym h))
held false false h e = e

fine_held : (rules : List Rule) (blocks : List Measured) → HasNoFault rules blocks → ((index : ℕ) → is_missing rules blocks index ≡ false)
    → (block : Measured) → IsExpected rules block → Contains blocks block
fine_held rules blocks fine whole block expected =
    let rule : Rule = Expect block.index block.value_type block.value in
    let found = any_from (λ (m : Measured). m.index == block.index) blocks
    (held (expects block.index rules) (has_block block.index blocks) (whole block.index)
    (any_to (λ (r : Rule). is_expectation block.index r) rules rule expected (eq-eqb block.index block.index refl))) in
    let same_index : found.0.index ≡ block.index = eqb-true found.0.index block.index found.2 in
    let unmet = none_from (λ (r : Rule). is_unmet found.0 r) rules rule (fine_at rules blocks found.0 fine found.1).1 expected in
    let parts = met found.0 block.index block.value_type block.value unmet (sym same_index) in
    subst (λ (m : Measured). Contains blocks m) (same_block found.0 block same_index (sym parts.0) (sym parts.1)) found.1

not_both : (rules : List Rule) (block : Measured) → has_twice rules ≡ false → IsExpected rules block → IsSkipped rules block.index → ⊥
not_both rules block once expected skipped =
    let same : Skip block.index ≡ Expect block.index block.value_type block.value
    = one_rule rules (Skip block.index) (Expect block.index block.value_type block.value) once skipped expected refl in
    absurd cc

pub fine_trusted : (rules : List Rule) (bytes : List ℕ) (blocks : List Measured) → has_twice rules ≡ false → IsRecordOf blocks bytes → HasNoFault rules blocks
    → ((index : ℕ) → is_missing rules blocks index ≡ false) → IsTrusted rules bytes
fine_trusted rules bytes blocks once whole fine none = record {
  blocks = blocks;
  whole = whole;
  apart = fine_apart rules blocks fine;
  ruled = fine_ruled rules blocks fine;
  same = λ block. (
    (λ c. fine_expected rules blocks fine block c.0 c.1),
    (λ c. (fine_held rules blocks fine none block c, not_both rules block once c)),
  );
}
