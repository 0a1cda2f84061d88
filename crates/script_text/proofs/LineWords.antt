-- The words of a line, one after the other.
use Rattle.std.proofs.Common.{◌≡◌, ℕ, zero, suc, ◌+◌, ◌<◌, ◌≤◌, List, [], ◌∷◌, length, take, drop, get_or, refl, sym, ap, ◌∙◌, Bool, true, false, cond, nat_eq, arith, ltb-false}
use Rattle.std.specs.Prelude.{Option, Some, None, nat_lt, not}
use Rattle.std.specs.List.{position, position_or_len, slice_split, onto_first, before_first, after_first}
use Rattle.std.proofs.lemmas.List.Quantifiers.{position-Some}
use Rattle.std.proofs.lemmas.List.Sums.{fails_before_first}
use Rattle.script_text.specs.Lines.{words_of, word, count_of_words}

abbrev pub is_space : ℕ → Bool
is_space b = nat_eq b 32

abbrev parts_of : List ℕ → List (List ℕ)
parts_of line = slice_split is_space line

onto_first-head : (x : ℕ) (parts : List (List ℕ)) → get_or (onto_first x parts) 0 [] ≡ x ∷ get_or parts 0 []
onto_first-head x [] = refl
onto_first-head x (part ∷ parts) = refl

onto_first-tail : (x : ℕ) (parts : List (List ℕ)) (j : ℕ) → get_or (onto_first x parts) (suc j) [] ≡ get_or parts (suc j) []
onto_first-tail x [] j = refl
onto_first-tail x (part ∷ parts) j = refl

empty_word : (j : ℕ) → get_or {A = List ℕ} ([] ∷ []) j [] ≡ []
empty_word zero = refl
empty_word (suc j) = refl

-- the first word stands before the first space
head_of : (b : ℕ) (line : List ℕ) (space : Bool) → get_or (parts_of line) 0 [] ≡ before_first is_space line →
    get_or (cond space ([] ∷ parts_of line) (onto_first b (parts_of line))) 0 []
    ≡ take (cond (not space) (1 + position_or_len is_space line) 0) (b ∷ line)
head_of b line true h = refl
head_of b line false h =
    let e : 1 + position_or_len is_space line ≡ suc (position_or_len is_space line) = omega arith in
    rw e (onto_first-head b (parts_of line) ∙ ap (λ w. b ∷ w) h)

first_part : (line : List ℕ) → get_or (parts_of line) 0 [] ≡ before_first is_space line
first_part [] = refl
first_part (b ∷ line) = head_of b line (is_space b) (first_part line)

-- the others are the words after it
tail_of : (b : ℕ) (line : List ℕ) (j : ℕ) (space : Bool) → get_or (parts_of line) (suc j) [] ≡ get_or (parts_of (after_first is_space line)) j [] →
    get_or (cond space ([] ∷ parts_of line) (onto_first b (parts_of line))) (suc j) []
    ≡ get_or (parts_of (drop (cond (not space) (1 + position_or_len is_space line) 0 + 1) (b ∷ line))) j []
tail_of b line j true h = refl
tail_of b line j false h =
    let e : (1 + position_or_len is_space line) + 1 ≡ suc (position_or_len is_space line + 1) = omega arith in
    rw e (onto_first-tail b (parts_of line) j ∙ h)

next_part : (line : List ℕ) (j : ℕ) → get_or (parts_of line) (suc j) [] ≡ get_or (parts_of (after_first is_space line)) j []
next_part [] j = sym (empty_word j)
next_part (b ∷ line) j = tail_of b line j (is_space b) (next_part line j)

-- the word at place 0
pub word-zero : (line : List ℕ) → word 0 line ≡ before_first is_space line
unfolding words_of
word-zero line = first_part line

-- the word at the next place
pub word-suc : (line : List ℕ) (place k : ℕ) → place ≡ suc k → word place line ≡ word k (after_first is_space line)
unfolding words_of
word-suc line place k e = rw e (next_part line k)

length-onto_first : (x n : ℕ) (parts : List (List ℕ)) → length parts ≡ suc n → length (onto_first x parts) ≡ suc n
length-onto_first x n [] e = absurd (omega (arith, e))
length-onto_first x n (part ∷ parts) e = e

-- after the first space is one word less
parts_behind : (k : ℕ) (line : List ℕ) → k < length line → is_space (get_or line k 0) ≡ true → ((j : ℕ) → j < k → is_space (get_or line j 0) ≡ false) →
    length (parts_of line) ≡ suc (length (parts_of (drop (suc k) line)))
parts_behind k [] low at before = absurd (omega arith)
parts_behind zero (b ∷ line) low at before = rw at refl
parts_behind (suc k) (b ∷ line) low at before =
    let more = parts_behind k line (omega arith) at (λ j less. before (suc j) (omega arith)) in
    rw (before 0 (omega arith)) (length-onto_first b (length (parts_of (drop (suc k) line))) (parts_of line) more)

-- a line without a space is one word
only_part : (line : List ℕ) → ((j : ℕ) → j < length line → is_space (get_or line j 0) ≡ false) → length (parts_of line) ≡ 1
only_part [] none = refl
only_part (b ∷ line) none =
    rw (none 0 (omega arith)) (length-onto_first b 0 (parts_of line) (only_part line (λ j less. none (suc j) (omega arith))))

pub count-space : (line : List ℕ) (place : Option ℕ) (k : ℕ) → place ≡ position is_space line → place ≡ Some k →
    (k < length line) × (count_of_words line ≡ suc (count_of_words (drop (k + 1) line)))
unfolding words_of
count-space line place k e some =
    let at = position-Some is_space line k 0 (sym e ∙ some) in
    let next : k + 1 ≡ suc k = omega arith in
    (at.0, rw next (parts_behind k line at.0 at.1 at.2))

none_below : (line : List ℕ) (n : ℕ) (is_below : Bool) → nat_lt n (length line) ≡ is_below → cond is_below (Some n) None ≡ None → length line ≤ n
none_below line n true e h = cc h
none_below line n false e h = ltb-false n (length line) e

pub count-no_space : (line : List ℕ) (place : Option ℕ) → place ≡ position is_space line → place ≡ None → count_of_words line ≡ 1
unfolding words_of
count-no_space line place e none =
    let n = position_or_len is_space line in
    let past = none_below line n (nat_lt n (length line)) refl (sym e ∙ none) in
    only_part line (λ j less. fails_before_first is_space line j 0 (omega (arith, past, less)))
