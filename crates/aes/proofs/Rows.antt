-- The tables of a round are their definitions, by computation from the table of substitutions.
use Rattle.std.proofs.Common.{◌≡◌, ℕ, ◌<◌, ◌∙◌, List, [], ◌∷◌, get_or, refl, ap}
use Rattle.std.specs.Prelude.{map}
use Rattle.std.proofs.lemmas.List.{get_or-map}
use Rattle.aes.specs.ByteField.{sbox_of, product_below, reduced}
use Rattle.aes.specs.Tables.{from_first, from_second, from_third, from_fourth, first_row, second_row, third_row, fourth_row}
use Rattle.aes.specs.declared.sbox.TheConstants.{SBOX}
use Rattle.aes.specs.declared.tables.TheConstants.{ROWS}
use Rattle.aes.proofs.Table.{get_or-SBOX}

rows_are : ROWS ≡ map from_first SBOX ∷ map from_second SBOX ∷ map from_third SBOX ∷ map from_fourth SBOX ∷ []
unfolding product_below reduced
rows_are = refl

-- a table at a byte
at_byte : (r : ℕ) (f : ℕ → ℕ) → get_or ROWS r [] ≡ map f SBOX → (x : ℕ) → x < 256 → get_or (get_or ROWS r []) x 0 ≡ f (sbox_of x)
at_byte r f e x h =
    ap (λ (t : List ℕ). get_or t x 0) e ∙ get_or-map f SBOX x 0 0 h ∙ ap f (get_or-SBOX x h)

pub get_or-first_row : (x : ℕ) → x < 256 → get_or (get_or ROWS 0 []) x 0 ≡ first_row x
unfolding first_row
get_or-first_row = at_byte 0 from_first (ap (λ (t : List (List ℕ)). get_or t 0 []) rows_are)

pub get_or-second_row : (x : ℕ) → x < 256 → get_or (get_or ROWS 1 []) x 0 ≡ second_row x
unfolding second_row
get_or-second_row = at_byte 1 from_second (ap (λ (t : List (List ℕ)). get_or t 1 []) rows_are)

pub get_or-third_row : (x : ℕ) → x < 256 → get_or (get_or ROWS 2 []) x 0 ≡ third_row x
unfolding third_row
get_or-third_row = at_byte 2 from_third (ap (λ (t : List (List ℕ)). get_or t 2 []) rows_are)

pub get_or-fourth_row : (x : ℕ) → x < 256 → get_or (get_or ROWS 3 []) x 0 ≡ fourth_row x
unfolding fourth_row
get_or-fourth_row = at_byte 3 from_fourth (ap (λ (t : List (List ℕ)). get_or t 3 []) rows_are)
