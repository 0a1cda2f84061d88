-- Bytes that were cut into fields, and their lines.
use Rattle.std.proofs.Common.{◌≡◌, ◌∙◌, ◌++◌, ℕ, List, [], ◌∷◌, take, drop, refl, ap, take-append-drop}
use Rattle.std.proofs.lemmas.List.{append-nil}
use Rattle.message_fields.specs.Pieces.{PiecesAreWhole, joined, rest_of}

rest_whole : (bytes : List ℕ) → joined (rest_of bytes) ≡ bytes
rest_whole [] = refl
rest_whole (b ∷ bytes) = append-nil (b ∷ bytes)

pub pieces_whole : PiecesAreWhole
pieces_whole [] bytes = rest_whole bytes
pieces_whole (f ∷ fields) bytes =
    ap (λ (l : List ℕ). take f.size bytes ++ l) (pieces_whole fields (drop f.size bytes)) ∙ take-append-drop f.size bytes
