-- The words of a line that was made of words, and the lines of a text that was made of lines.
use Rattle.std.proofs.Common.{◌≡◌, ℕ, ◌<◌, ◌++◌, List, [], ◌∷◌, length, refl, sym, ap, ◌∙◌, Bool, true, false, cond, nat_eq, nat_lt, arith, append_assoc}
use Rattle.std.specs.Prelude.{All}
use Rattle.std.specs.List.{list_all, slice_split}
use Rattle.std.proofs.lemmas.List.Splits.{slice_split_at, slice_split_none}
use Rattle.std.proofs.lemmas.Bool.{and_parts, ne_eqb}
use Rattle.std.proofs.lemmas.Bool.Decides.{nat_tests}
use Rattle.std.proofs.lemmas.List.Folds.{list_all-append}
use Rattle.std.proofs.lemmas.List.Elements.{All-nil, All-cons}
use Rattle.script_text.specs.Lines.{lines_of, onto_first, words_of}
use Rattle.trace_text.specs.Spelling.{with_words}

abbrev is_space : ℕ → Bool
is_space b = nat_eq b 32

-- a code of a printed word: no space, no line feed and no other control character
abbrev pub is_plain : ℕ → Bool
is_plain c = nat_lt 32 c

abbrev pub is_plain_word : List ℕ → Bool
is_plain_word word = list_all is_plain word

abbrev pub are_plain : List (List ℕ) → Bool
are_plain words = list_all is_plain_word words

-- the line of words, without its line feed
abbrev pub line_of : List (List ℕ) → List ℕ
line_of [] = []
line_of (word ∷ words) = with_words word words

-- words after two texts
pub with_words-append : (a b : List ℕ) (words : List (List ℕ)) → with_words (a ++ b) words ≡ a ++ with_words b words
with_words-append a b [] = refl
with_words-append a b (word ∷ words) =
    let e : ((a ++ b) ++ 32 ∷ []) ++ word ≡ a ++ ((b ++ 32 ∷ []) ++ word) = append_assoc (a ++ b) (32 ∷ []) word ∙ append_assoc a b (32 ∷ [] ++ word) ∙ ap (λ t. a ++ t) (sym (append_assoc b (32 ∷ []) word)) in
    ap (λ t. with_words t words) e ∙ with_words-append a ((b ++ 32 ∷ []) ++ word) words

-- the first word, a space, and the line of the others
pub line_of-cons : (word other : List ℕ) (words : List (List ℕ)) → line_of (word ∷ other ∷ words) ≡ word ++ 32 ∷ line_of (other ∷ words)
line_of-cons word other words =
    with_words-append (word ++ 32 ∷ []) other words ∙ append_assoc word (32 ∷ []) (with_words other words)

no_space : (c : ℕ) → is_plain c ≡ true → is_space c ≡ false
no_space c h = grind (arith, nat_tests)

plain_has_no_space : (word : List ℕ) → is_plain_word word ≡ true → All (λ c. is_space c ≡ false) word
plain_has_no_space [] h = All-nil (λ x. is_space x ≡ false)
plain_has_no_space (c ∷ word) h =
    let parts = and_parts (is_plain c) (list_all is_plain word) h in
    All-cons (λ x. is_space x ≡ false) c word (no_space c parts.0) (plain_has_no_space word parts.1)

-- the words of a line are those that it was made of
pub words_of-line_of : (word : List ℕ) (words : List (List ℕ)) → are_plain (word ∷ words) ≡ true → words_of (line_of (word ∷ words)) ≡ word ∷ words
unfolding words_of
words_of-line_of word [] h =
    let parts = and_parts (is_plain_word word) true h in
    slice_split_none is_space word (plain_has_no_space word parts.0)
words_of-line_of word (other ∷ words) h =
    let parts = and_parts (is_plain_word word) (are_plain (other ∷ words)) h in
    ap (slice_split is_space) (line_of-cons word other words)
    ∙ slice_split_at is_space word 32 (line_of (other ∷ words)) (plain_has_no_space word parts.0) refl
    ∙ ap (λ ws. word ∷ ws) (words_of-line_of other words parts.1)

pub words_of-line_of_some : (words : List (List ℕ)) → are_plain words ≡ true → 0 < length words → words_of (line_of words) ≡ words
words_of-line_of_some [] h some = absurd (omega arith)
words_of-line_of_some (word ∷ words) h some = words_of-line_of word words h

-- ---- lines of a text

-- a code of a printed line: no control character
abbrev pub is_text : ℕ → Bool
is_text c = nat_lt 31 c

plain_is_text : (word : List ℕ) → is_plain_word word ≡ true → list_all is_text word ≡ true
plain_is_text [] h = refl
plain_is_text (c ∷ word) h =
    let parts = and_parts (is_plain c) (is_plain_word word) h in
    let first : is_text c ≡ true = grind (arith, nat_tests, parts.0) in
    rw (first, plain_is_text word parts.1) refl

pub line_is_text : (words : List (List ℕ)) → are_plain words ≡ true → list_all is_text (line_of words) ≡ true
line_is_text [] h = refl
line_is_text (word ∷ []) h = plain_is_text word (and_parts (is_plain_word word) true h).0
line_is_text (word ∷ other ∷ words) h =
    let parts = and_parts (is_plain_word word) (are_plain (other ∷ words)) h in
    rw (line_of-cons word other words, list_all-append is_text word (32 ∷ line_of (other ∷ words)), plain_is_text word parts.0) (line_is_text (other ∷ words) parts.1)

-- a line and its line feed
pub lines_of-line : (line : List ℕ) → list_all is_text line ≡ true → lines_of (line ++ 10 ∷ []) ≡ line ∷ []
lines_of-line [] h = refl
lines_of-line (c ∷ line) h =
    let parts = and_parts (is_text c) (list_all is_text line) h in
    let no_end : nat_eq c 10 ≡ false = ne_eqb c 10 (λ e. absurd (grind (arith, nat_tests, parts.0, e))) in
    rw (no_end, lines_of-line line parts.1) refl

onto_some : (b : ℕ) (line : List ℕ) (lines more : List (List ℕ)) → onto_first b ((line ∷ lines) ++ more) ≡ onto_first b (line ∷ lines) ++ more
onto_some b line lines more = refl

-- a text that is ended by a line feed has a line
some_line : (text : List ℕ) → (line : List ℕ) × (lines : List (List ℕ)) × (lines_of (text ++ 10 ∷ []) ≡ line ∷ lines)
some_line [] = ([], [], refl)
some_line (b ∷ text) = go b (nat_eq b 10) (lines_of (text ++ 10 ∷ [])) (some_line text)
  where
    go : (b : ℕ) (is_end : Bool) (rest : List (List ℕ)) → (line : List ℕ) × (lines : List (List ℕ)) × (rest ≡ line ∷ lines) →
        (line : List ℕ) × (lines : List (List ℕ)) × (cond is_end ([] ∷ rest) (onto_first b rest) ≡ line ∷ lines)
    go b true rest h = ([], rest, refl)
    go b false rest h = (b ∷ h.0, h.1, ap (onto_first b) h.2)

-- what follows a line feed begins a new line
pub lines_of-ended : (text more : List ℕ) → lines_of ((text ++ 10 ∷ []) ++ more) ≡ lines_of (text ++ 10 ∷ []) ++ lines_of more
lines_of-ended [] more = refl
lines_of-ended (b ∷ text) more =
    rw (lines_of-ended text more) (go b (nat_eq b 10) (lines_of (text ++ 10 ∷ [])) (lines_of more) (some_line text))
  where
    go : (b : ℕ) (is_end : Bool) (rest more : List (List ℕ)) → (line : List ℕ) × (lines : List (List ℕ)) × (rest ≡ line ∷ lines) →
        cond is_end ([] ∷ (rest ++ more)) (onto_first b (rest ++ more)) ≡ cond is_end ([] ∷ rest) (onto_first b rest) ++ more
    go b true rest more h = refl
    go b false rest more h = rw h.2 refl
