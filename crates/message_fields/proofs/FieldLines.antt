-- How the line of a field is made, and flags after one another.
use Rattle.std.proofs.Common.{◌≡◌, ◌∙◌, ◌+◌, ◌++◌, ◌/◌, ◌%◌, ◌^◌, ℕ, List, [], ◌∷◌, refl, sym, ap, append_assoc, add-one}
use Rattle.message_fields.specs.Flags.{flags_below, word_of_bit}
use Rattle.trace_text.specs.Spelling.{spelled, with_word, with_words}

-- words after two texts
with_words_behind : (a b : List ℕ) (words : List (List ℕ)) → with_words (a ++ b) words ≡ a ++ with_words b words
with_words_behind a b [] = refl
with_words_behind a b (word ∷ words) =
    let e : ((a ++ b) ++ 32 ∷ []) ++ word ≡ a ++ ((b ++ 32 ∷ []) ++ word) = append_assoc (a ++ b) (32 ∷ []) word ∙ append_assoc a b (32 ∷ [] ++ word) ∙ ap (λ t. a ++ t) (sym (append_assoc b (32 ∷ []) word)) in
    ap (λ t. with_words t words) e ∙ with_words_behind a ((b ++ 32 ∷ []) ++ word) words

-- the line of a field, word by word
pub line_made : (old front named worded valued whole name hex : List ℕ) (value : List (List ℕ)) →
    front ≡ old ++ 32 ∷ 32 ∷ 32 ∷ 32 ∷ [] → named ≡ front ++ name → worded ≡ with_word named hex → valued ≡ with_words worded value → whole ≡ valued ++ 10 ∷ [] →
    whole ≡ old ++ spelled ([] ∷ [] ∷ [] ∷ [] ∷ name ∷ hex ∷ value)
line_made old front named worded valued whole name hex value e1 e2 e3 e4 e5 =
    let own = 32 ∷ 32 ∷ 32 ∷ 32 ∷ name in
    let spaces : (old ++ 32 ∷ 32 ∷ 32 ∷ 32 ∷ []) ++ name ≡ old ++ own = append_assoc old (32 ∷ 32 ∷ 32 ∷ 32 ∷ []) name in
    let line = with_words own (hex ∷ value) in
    let all : valued ≡ old ++ line = e4 ∙ ap (λ t. with_words t value) (e3 ∙ ap (λ t. with_word t hex) (e2 ∙ ap (λ t. t ++ name) e1 ∙ spaces)) ∙ with_words_behind old own (hex ∷ value) in
    e5 ∙ ap (λ t. t ++ 10 ∷ []) all ∙ append_assoc old line (10 ∷ [])

-- one bit more
pub flags_more : (bit number : ℕ) → flags_below (bit + 1) number ≡ flags_below bit number ++ word_of_bit (number / 2 ^ bit % 2) bit
unfolding flags_below
flags_more bit number = rw (add-one bit) refl

pub no_flags : (number : ℕ) → flags_below 0 number ≡ []
unfolding flags_below
no_flags number = refl
