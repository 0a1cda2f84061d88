-- What is cut is collected again.
use Rattle.std.proofs.Common.{◌≡◌, ◌∙◌, ◌+◌, ◌-◌, ◌*◌, ◌<◌, ◌≤◌, ◌&&◌, ◌||◌, ◌++◌, ℕ, zero, suc, Bool, true, false, not, nat_lt, List, [], ◌∷◌, length, min, refl, sym, ap, subst, arith, add-one, eq-eqb, nat_eq, length-take}
use Rattle.std.proofs.lemmas.Bool.{ne_eqb, eqb-true, eqb-false}
use Rattle.std.proofs.lemmas.List.{take_all}
use Rattle.std.specs.Prelude.{Option, None, Some, if◌then◌else◌}
use Rattle.spdm_grammar.specs.Message.{ChunkMessage}
use Rattle.spdm_grammar.specs.declared.ChunkFault.{ChunkFault}
use Rattle.spdm_grammar.specs.declared.ChunkFault.TheVariants.{WrongHandle, WrongNumber, WrongSize, TooLarge, EarlyLast, MissingLast}
use Rattle.spdm_grammar.specs.declared.names.TheConstants.{MAX_MESSAGE_SIZE}
use Rattle.chunking.specs.Cutting.{IsCollectable, unit_of, chunk_count, nth_chunk, chunks_before}
use Rattle.chunking.specs.Collecting.{under_way, joined, told_size, first_fault, has_wrong_size, size_rule, first_rule, later_rule, broken_rule, answer_from, accepted_unless, accepted_with, collected}
use Rattle.chunking.specs.Collecting.Collection.{Whole, More}
use Rattle.chunking.proofs.ChunkSteps as step
use Rattle.spdm_basis.proofs.Bools.{lt_false, suc_units}

no_test : (a b c : Bool) (x y z : ChunkFault) → a ≡ false → b ≡ false → c ≡ false → first_fault ((a, x) ∷ (b, y) ∷ (c, z) ∷ []) ≡ None
no_test a b c x y z ea eb ec = rw (ea, eb, ec) refl

right_size : (empty above below : Bool) → empty ≡ false → above ≡ false → below ≡ false → empty || above || below ≡ false
right_size empty above below a b c = rw (a, b, c) refl

-- a test that holds only without the last mark, and one that holds only with it
without_mark : (last b : Bool) → (last ≡ false → b ≡ false) → not last && b ≡ false
without_mark true b h = refl
without_mark false b h = h refl

with_mark : (last b : Bool) → (last ≡ true → b ≡ false) → last && b ≡ false
with_mark true b h = h refl
with_mark false b h = refl

module _ (max transfer handle : ℕ) (message : List ℕ) (sound : IsCollectable max transfer message) where
  some : 12 < transfer
  some = omega (arith, sound.low)

  abbrev unit : ℕ
  unit = unit_of transfer

  abbrev count : ℕ
  count = chunk_count transfer message

  abbrev nth : ℕ → ChunkMessage
  nth k = nth_chunk transfer handle message k

  abbrev before : ℕ → List ChunkMessage
  before k = chunks_before transfer handle message k

  abbrev size : ℕ → ℕ
  size k = length (nth k).chunk

  size_is : (k : ℕ) → size k ≡ min (k * unit + unit - 4) (length message) - (k * unit - 4)
  size_is k = step.size_is transfer handle message some k

  has_unit : 30 ≤ unit
  has_unit = omega (arith, sound.low)

  filled : 26 < length message
  filled = omega (arith, sound.low, sound.large)

  reaches : (k : ℕ) → k < count → k * unit < length message + 4
  reaches k within = step.reaches transfer handle message some k within

  is_last : (k : ℕ) → nat_eq (k + 1) count ≡ true → length message + 4 ≤ k * unit + unit
  is_last k e = step.ends transfer handle message some k (eqb-true (k + 1) count e)

  not_last : (k : ℕ) → k < count → nat_eq (k + 1) count ≡ false → k * unit + unit < length message + 4
  not_last k within e = step.goes_on transfer handle message some k (omega (arith, within, eqb-false (k + 1) count e))

  -- a chunk that there is begins before the end
  begins : (k : ℕ) → k < count → k * unit - 4 < length message
  begins k within = omega (arith, reaches k within, filled)

  size_is_right : (k : ℕ) → k < count → has_wrong_size (length message) (k * unit - 4) (nth k) ≡ false
  size_is_right k within =
      right_size _ _ _
      (ne_eqb (size k) 0 (λ e. omega (arith, size_is k, begins k within, has_unit, e)))
      (lt_false (length message) (k * unit - 4 + size k) (omega (arith, size_is k, begins k within)))
      (without_mark (nat_eq (k + 1) count) (nat_lt (size k) 26) (λ e. lt_false (size k) 26 (omega (arith, size_is k, not_last k within e, has_unit))))

  size_is_sound : (k : ℕ) → k < count → size_rule (length message) (k * unit - 4) (nth k) ≡ None
  size_is_sound k within =
      no_test _ _ _ WrongSize EarlyLast MissingLast
      (size_is_right k within)
      (with_mark (nat_eq (k + 1) count) (nat_lt (k * unit - 4 + size k) (length message)) (λ e. lt_false (k * unit - 4 + size k) (length message) (omega (arith, size_is k, begins k within, is_last k e))))
      (without_mark (nat_eq (k + 1) count) (nat_eq (k * unit - 4 + size k) (length message))
      (λ e. ne_eqb (k * unit - 4 + size k) (length message) (λ same. omega (arith, size_is k, begins k within, not_last k within e, same))))

  told : (k : ℕ) → told_size (before (suc k)) ≡ length message
  told zero = refl
  told (suc k) = told k

  held : (k : ℕ) → k < count → length (joined (before k)) ≡ k * unit - 4
  held k within =
      ap length (step.joined-before transfer handle message some k)
      ∙ length-take (k * unit - 4) message
      ∙ omega (arith, begins k within)

  under_max : (test : Bool) (rule : Option ChunkFault) → test ≡ false → rule ≡ None → (if test then Some TooLarge else rule) ≡ None
  under_max test rule t r = rw (t, r) refl

  first_is_sound : 0 < count → first_rule max (nth 0) ≡ None
  first_is_sound within =
      let Q : ℕ → Type 0 = λ n. size_rule (length message) n (nth 0) ≡ None in
      let none : 0 * unit - 4 ≡ 0 = omega arith in
      under_max _ _ (lt_false (min max MAX_MESSAGE_SIZE) (length message) (omega (arith, sound.fits, sound.short))) (subst Q none (size_is_sound 0 within))

  same_message : (handle_test number_test : Bool) (rule : Option ChunkFault) → handle_test ≡ true → number_test ≡ true → rule ≡ None →
      (if not handle_test then Some WrongHandle else (if not number_test then Some WrongNumber else rule)) ≡ None
  same_message handle_test number_test rule h n r = rw (h, n, r) refl

  later_is_sound : (j : ℕ) → suc j < count → later_rule (before (suc j)) (nth (suc j)) ≡ None
  later_is_sound j within =
      let P : ℕ → Type 0 = λ n. size_rule n (length (joined (before (suc j)))) (nth (suc j)) ≡ None in
      let Q : ℕ → Type 0 = λ n. size_rule (length message) n (nth (suc j)) ≡ None in
      same_message _ _ _ (eq-eqb handle handle refl) (eq-eqb (suc j) (j + 1) (omega arith))
      (subst P (sym (told j)) (subst Q (sym (held (suc j) within)) (size_is_sound (suc j) within)))

  more_to_come : (k : ℕ) → suc k < count → nat_eq (k + 1) count ≡ false
  more_to_come k within = ne_eqb (k + 1) count (λ e. omega (arith, within, e))

  not_first : (k : ℕ) → nat_eq (suc k) 0 ≡ false
  not_first k = ne_eqb (suc k) 0 (λ e. omega (arith, e))

  module _ (earlier : List ChunkMessage) where
    -- the chunks so far are those in progress
    under : (k : ℕ) → suc k < count → under_way (before (suc k) ++ earlier) ≡ before (suc k)
    under zero within = ap (λ (b : Bool). if b then [] else nth 0 ∷ []) (more_to_come 0 within)
    under (suc k) within =
        let all = under_way (before (suc k) ++ earlier) in
        let n = nth (suc k) in
        ap (λ (b : Bool). if b then [] else (if nat_eq (suc k) 0 then n ∷ [] else n ∷ all)) (more_to_come (suc k) within)
        ∙ ap (λ (b : Bool). if b then n ∷ [] else n ∷ all) (not_first k)
        ∙ ap (λ (xs : List ChunkMessage). n ∷ xs) (under k (omega (arith, within)))

    -- no chunk breaks a rule
    breaks_none : (k : ℕ) → k < count → broken_rule max (under_way (before k ++ earlier)) (nth k) ≡ None
    breaks_none zero within = first_is_sound within
    breaks_none (suc j) within =
        ap (λ (b : Bool). if b then first_rule max (nth (suc j)) else later_rule (under_way (before (suc j) ++ earlier)) (nth (suc j))) (not_first j)
        ∙ ap (λ (xs : List ChunkMessage). later_rule xs (nth (suc j))) (under j within)
        ∙ later_is_sound j within

    bytes_so_far : (k : ℕ) → k < count → (if nat_eq k 0 then (nth k).chunk else joined (under_way (before k ++ earlier)) ++ (nth k).chunk) ≡ joined (before (suc k))
    bytes_so_far zero within = refl
    bytes_so_far (suc j) within =
        ap (λ (b : Bool). if b then (nth (suc j)).chunk else joined (under_way (before (suc j) ++ earlier)) ++ (nth (suc j)).chunk) (not_first j)
        ∙ ap (λ (xs : List ChunkMessage). joined xs ++ (nth (suc j)).chunk) (under j within)

    answered : (k : ℕ) (last : Bool) → nat_eq (k + 1) count ≡ last → (if last then Whole (joined (before (suc k))) else More) ≡ (if last then Whole message else More)
    answered k true e =
        let enough : length message ≤ suc k * unit - 4 = omega (arith, is_last k e, suc_units k unit) in
        ap Whole (step.joined-before transfer handle message some (suc k) ∙ take_all (suc k * unit - 4) message enough)
    answered k false e = refl

    pub collected-nth : (k : ℕ) → k < count → collected max (before k ++ earlier) (nth k) ≡ (if nat_eq (k + 1) count then Whole message else More)
    collected-nth k within =
        let so_far = if nat_eq k 0 then (nth k).chunk else joined (under_way (before k ++ earlier)) ++ (nth k).chunk in
        ap (λ (rule : Option ChunkFault). answer_from rule (nth k) so_far) (breaks_none k within)
        ∙ ap (λ (xs : List ℕ). answer_from None (nth k) xs) (bytes_so_far k within)
        ∙ answered k (nat_eq (k + 1) count) refl

    pub accepted-nth : (k : ℕ) → k < count → accepted_with max (before k ++ earlier) (nth k) ≡ before (k + 1) ++ earlier
    accepted-nth k within =
        ap (λ (rule : Option ChunkFault). accepted_unless rule (before k ++ earlier) (nth k)) (breaks_none k within)
        ∙ ap (λ (n : ℕ). before n ++ earlier) (sym (add-one k))
