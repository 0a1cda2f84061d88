-- Parts of JSON (RFC 8259) behind a text: names of members, strings, numbers, and strings of hexadecimal digits. A space
-- stands before each value, and a comma and a space before each member but the first. This project's own.
use Rattle.std.specs.Prelude.{ℕ, List, [], ◌∷◌, ◌++◌}
use Rattle.std.specs.Fmt.{decimal}
use Rattle.hex.specs.Hex.{encode_lower}
use Rattle.trace_text.specs.Spelling.{with_word}

-- A string of characters of which JSON escapes none: a space, and the characters between quotation marks.
abbrev pub with_string : List ℕ → List ℕ → List ℕ
with_string text word = ((text ++ 32 ∷ 34 ∷ []) ++ word) ++ 34 ∷ []

-- The name of a member between quotation marks, with its colon.
abbrev pub with_name : List ℕ → List ℕ → List ℕ
with_name text name = ((text ++ 34 ∷ []) ++ name) ++ 34 ∷ 58 ∷ []

-- The name of a member that follows another.
abbrev pub with_next_name : List ℕ → List ℕ → List ℕ
with_next_name text name = with_name (text ++ 44 ∷ 32 ∷ []) name

-- Members that follow another: a string, a number, and bytes as pairs of digits.
abbrev pub with_string_member : List ℕ → (name word : List ℕ) → List ℕ
with_string_member text name word = with_string (with_next_name text name) word

abbrev pub with_number_member : List ℕ → (name : List ℕ) → ℕ → List ℕ
with_number_member text name number = with_word (with_next_name text name) (decimal number)

abbrev pub with_bytes_member : List ℕ → (name bytes : List ℕ) → List ℕ
with_bytes_member text name bytes = with_string_member text name (encode_lower bytes)
