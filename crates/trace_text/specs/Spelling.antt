-- How lines are printed: as words between single spaces, with a line feed. This project's own.
use Rattle.std.specs.Prelude.{ℕ, List, [], ◌∷◌, ◌++◌, ◌==◌, codes, fold, length, if◌then◌else◌}
use Rattle.std.specs.Fmt.{decimal}
use Rattle.hex.specs.Hex.{encode_lower}
use Rattle.spdm_basis.specs.SessionIdBytes.{session_id_bytes}
use Rattle.spdm_basis.specs.declared.values.session_id.SessionId.{SessionId}

-- A word after a text, with a space between.
abbrev pub with_word : List ℕ → List ℕ → List ℕ
with_word text word = text ++ 32 ∷ [] ++ word

-- Words after a text.
abbrev pub with_words : List ℕ → List (List ℕ) → List ℕ
with_words text words = fold with_word text words

-- The line of words.
abbrev pub spelled : List (List ℕ) → List ℕ
spelled [] = 10 ∷ []
spelled (word ∷ words) = with_words word words ++ 10 ∷ []

-- Bytes as a word: pairs of digits, with small letters, and `-` for none.
unfoldable pub hex_word : List ℕ → List ℕ
hex_word bytes = if length bytes == 0 then codes "-" else encode_lower bytes

-- A byte as a word, as codes are printed: two digits.
abbrev pub code_word : ℕ → List ℕ
code_word code = encode_lower (code ∷ [])

-- The id of a session as a word: its four bytes.
abbrev pub id_word : SessionId → List ℕ
id_word id = encode_lower (session_id_bytes id.req id.rsp)

-- A requester as a word.
abbrev pub requester_word : ℕ → List ℕ
requester_word n = codes "q" ++ decimal n
