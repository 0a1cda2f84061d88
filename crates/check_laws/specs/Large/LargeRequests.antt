-- The program's representation of a large request that is in progress, and what it tells of a request meanwhile. This
-- project's own.
use Rattle.std.specs.Prelude.{◌≡◌, ◌↔◌, ◌+◌, ℕ, List, true, Option, Some, None, is_some}
use Rattle.spdm_grammar.specs.Requests.{canonical_request}
use Rattle.check_laws.specs.Keeping.{Kept}
use Rattle.capture_machine.specs.LargeRequests.{IsLargeRequest, common_of}
use Rattle.check_laws.specs.Large.Pieces.{IsPieces}
use Rattle.check_laws.specs.Large.Sending.{Beginning, MayBegin, MaySend, MayStand, Sending, asked_of, is_last, number_of, requester_of}
use Rattle.check_laws.specs.Large.SendingLaws.{LastSending, NextSending, begun_sending, first_body, whole_kept}
use Rattle.check_laws.specs.declared.sending_large.large_request.LargeRequest.{LargeRequest}
use Rattle.check_laws.specs.declared.sending_large.pieces.Piece.{Piece}
use Rattle.check_laws.specs.declared.sending_large.pieces.Piece.TheVariants as piece

-- It stands for this: its chunks, and whether the next one is owed.
pub record StandsFor (seen : LargeRequest) (s : Sending) : Type 0 where
  pub pieces : IsPieces seen.pieces s
  pub due : seen.due ≡ is_some s.due

-- Whether a body is the first chunk of a large request: then it stands for what that begins, under any tag.
abbrev pub IsBegunBy : Kept → (body : List ℕ) → Option LargeRequest → Type 0
IsBegunBy k body (Some r) =
    (whole : List ℕ) × IsLargeRequest (common_of k.requester) whole × (first_body k whole ≡ body)
    × ((tag : ℕ) → StandsFor r (begun_sending k tag body whole))
IsBegunBy k body None = (whole : List ℕ) → IsLargeRequest (common_of k.requester) whole → first_body k whole ≡ body → ⊥

-- The large request ends with these bytes, which encode the request that is asked, and that may be sent.
abbrev pub EndsWith : Sending → ℕ → (body whole : List ℕ) → Kept → Type 0
EndsWith s tag body whole next =
    (b : Beginning) × MayBegin s.before b
    × (whole ≡ canonical_request (asked_of b))
    × MaySend s.before b whole
    × (next ≡ whole_kept s (requester_of s b whole) tag body)

-- What is reported of a request: it is the chunk that is owed, and more follow; or it is the last one, with which all
-- bytes came, and the large request ends exactly when it does so with these; or it is neither.
abbrev pub IsToldNext : Sending → ℕ → (body : List ℕ) → Piece → (old new : LargeRequest) → Type 0
IsToldNext s tag body piece.Between old new =
    ((next : Sending) × NextSending s tag body next × StandsFor new next) × ((next : Kept) → LastSending s tag body next → ⊥)
IsToldNext s tag body piece.Last old new =
    ((next : Sending) → NextSending s tag body next → ⊥) × MayStand s new.pieces.bytes × (is_last s (number_of s + 1) ≡ true) × (is_some s.due ≡ true)
    × ((next : Kept) → LastSending s tag body next ↔ EndsWith s tag body new.pieces.bytes next)
IsToldNext s tag body piece.Other old new =
    ((next : Sending) → NextSending s tag body next → ⊥) × ((next : Kept) → LastSending s tag body next → ⊥) × (new ≡ old)
