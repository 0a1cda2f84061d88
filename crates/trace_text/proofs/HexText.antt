-- Hexadecimal text of bytes one after the other.
use Rattle.std.proofs.Common.{◌≡◌, ℕ, ◌++◌, ◌∷◌, [], List, length, refl, sym, ap, ◌∙◌, append_assoc, append-nil}
use Rattle.std.proofs.lemmas.List.{nil_from_length}
use Rattle.hex.specs.Hex.{encode_with, encode_lower, lower_digits}
use Rattle.std.specs.Prelude.{slice_index, ◌/◌, ◌%◌}

pub encode_lower-append : (xs ys : List ℕ) → encode_lower (xs ++ ys) ≡ encode_lower xs ++ encode_lower ys
unfolding encode_with
encode_lower-append [] ys = refl
encode_lower-append (x ∷ xs) ys = ap (λ more. slice_index lower_digits (x / 16) ∷ slice_index lower_digits (x % 16) ∷ more) (encode_lower-append xs ys)

pub encode_lower-none : encode_lower [] ≡ []
unfolding encode_with
encode_lower-none = refl

-- the digits of a piece before those of the rest
pub encode_lower_piece : (out all piece rest : List ℕ) → all ≡ piece ++ rest → (out ++ encode_lower piece) ++ encode_lower rest ≡ out ++ encode_lower all
encode_lower_piece out all piece rest e =
    append_assoc out (encode_lower piece) (encode_lower rest) ∙ ap (λ hex. out ++ hex) (sym (encode_lower-append piece rest) ∙ ap encode_lower (sym e))

-- after the last piece nothing is left
pub encode_lower_end : (out old bytes rest : List ℕ) → length rest ≡ 0 → out ++ encode_lower rest ≡ old ++ encode_lower bytes → out ≡ old ++ encode_lower bytes
encode_lower_end out old bytes rest none e =
    let nil : rest ≡ [] = nil_from_length rest none in
    rw (nil, encode_lower-none, append-nil) at e
