-- Flags and fields as JSON, one after another.
use Rattle.std.proofs.Common.{◌≡◌, ◌∙◌, ◌+◌, ◌++◌, length, ◌/◌, ◌%◌, ◌^◌, ℕ, List, [], ◌∷◌, refl, ap, append_assoc, add-one}
use Rattle.std.proofs.lemmas.List.{append-nil}
use Rattle.std.specs.Prelude.{codes}
use Rattle.message_fields.specs.Json.{with_bytes_member, with_name, with_string}
use Rattle.message_fields.specs.JsonFields.{flag_behind, flags_json, pieces_json, with_piece, with_value}
use Rattle.message_fields.specs.Names.{form_of, name_text}
use Rattle.message_fields.specs.Pieces.{Piece, pieces}
use Rattle.message_fields.specs.declared.names.Form.{Form}
use Rattle.message_fields.specs.declared.names.Name.TheVariants.{Rest}
use Rattle.message_fields.specs.declared.names.Form.TheVariants.{Capabilities, Number, Plain}

-- one bit more
pub flags_json_more : (bit number : ℕ) → flags_json (bit + 1) number ≡ flags_json bit number ++ flag_behind (number / 2 ^ bit % 2) (number % 2 ^ bit) bit
unfolding flags_json
flags_json_more bit number = rw (add-one bit) refl

pub no_flags_json : (number : ℕ) → flags_json 0 number ≡ []
unfolding flags_json
no_flags_json number = refl

-- the value of a field behind two texts
with_value_behind : (a b : List ℕ) (form : Form) (bytes : List ℕ) → with_value (a ++ b) form bytes ≡ a ++ with_value b form bytes
with_value_behind a b Plain bytes = refl
with_value_behind a b Number bytes = simp append_assoc
with_value_behind a b Capabilities bytes = simp append_assoc

-- the object of a field behind two texts
pub with_piece_behind : (a b : List ℕ) (p : Piece) → with_piece (a ++ b) p ≡ a ++ with_piece b p
with_piece_behind a b p =
    let front = λ (t : List ℕ). with_bytes_member (with_string (with_name (t ++ 123 ∷ []) (codes "name")) (name_text p.name)) (codes "bytes") p.bytes in
    let e : front (a ++ b) ≡ a ++ front b = simp append_assoc in
    ap (λ (t : List ℕ). with_value t (form_of p.name) p.bytes ++ 125 ∷ []) e
    ∙ ap (λ (t : List ℕ). t ++ 125 ∷ []) (with_value_behind a (front b) (form_of p.name) p.bytes)
    ∙ append_assoc a (with_value (front b) (form_of p.name) p.bytes) (125 ∷ [])

-- the bytes behind all fields
pub rest_json : (before rest : List ℕ) → (length rest ≡ 0 → ⊥) → pieces_json before (pieces [] rest) ≡ with_piece before (record { name = Rest; bytes = rest })
rest_json before [] some = absurd (some refl)
rest_json before (b ∷ rest) some =
    let p : Piece = record { name = Rest; bytes = b ∷ rest } in
    append-nil (with_piece before p)
