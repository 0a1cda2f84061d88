-- The lines of a text, and the words of a line. This project's own.
use Rattle.std.specs.Prelude.{ℕ, List, [], ◌∷◌, ◌==◌, ◌||◌, nat_lt, length, slice_index, slice_index_or, if◌then◌else◌, Bool}
use Rattle.std.specs.List.{slice_split}

-- A byte before the first line; where there is no line yet, it begins one.
abbrev pub onto_first : ℕ → List (List ℕ) → List (List ℕ)
onto_first b [] = (b ∷ []) ∷ []
onto_first b (line ∷ lines) = (b ∷ line) ∷ lines

-- The lines, without their line feeds: each is ended by a line feed, which the last one may lack.
abbrev pub lines_of : List ℕ → List (List ℕ)
lines_of [] = []
lines_of (b ∷ text) = if b == 10 then [] ∷ lines_of text else onto_first b (lines_of text)

-- The words of a line: what stands between single spaces. Between two spaces side by side, before the first and after
-- the last one stands the empty word.
unfoldable pub words_of : List ℕ → List (List ℕ)
words_of line = slice_split (λ b. b == 32) line

-- The word of a line at a place, counted from 0; the empty word where there are not so many.
abbrev pub word : ℕ → List ℕ → List ℕ
word place line = slice_index_or (words_of line) place []

-- How many words a line has, and whether they are as many.
abbrev pub count_of_words : List ℕ → ℕ
count_of_words line = length (words_of line)

abbrev pub has_words : ℕ → List ℕ → Bool
has_words count line = count_of_words line == count

-- The longest line: 16,384 bytes.
abbrev pub is_too_long : List ℕ → Bool
is_too_long line = nat_lt 16384 (length line)

-- An empty line, and one that begins with `#`, are passed over.
abbrev pub is_passed_over : List ℕ → Bool
is_passed_over line = length line == 0 || slice_index line 0 == 35
