-- The program's representation of a large request that is sent in chunks, and what it tells of a chunk. This project's
-- own.
use Rattle.std.specs.Prelude.{◌≡◌, ◌≤◌, ◌+◌, ◌*◌, ℕ, List, ◌∷◌, slice_index, take, true, false, Option, Some, None}
use Rattle.chunking.specs.Cutting.{chunk_end}
use Rattle.check_laws.specs.Keeping.{Kept}
use Rattle.capture_machine.specs.LargeRequests.{IsLargeRequest, common_of}
use Rattle.capture_machine.specs.Rounds.{new_round}
use Rattle.spdm_grammar.specs.declared.names.TheConstants.{MAX_MESSAGE_SIZE, MIN_DATA_TRANSFER_SIZE}
use Rattle.check_laws.specs.Large.Sending.{Ack, MayStand, Sending, chunk_body, handle_of, is_last, number_of, transfer_of}
use Rattle.check_laws.specs.Large.SendingLaws.{begun_sending, first_body}
use Rattle.check_laws.specs.declared.sending_large.pieces.Piece.{Piece}
use Rattle.check_laws.specs.declared.sending_large.pieces.Piece.TheVariants as piece
use Rattle.check_laws.specs.declared.sending_large.pieces.Pieces.{Pieces}

-- The length announced by a first chunk, by the lower two of its four bytes.
abbrev pub size_in : List ℕ → ℕ
size_in body = slice_index body 13 + slice_index body 14 * 256

-- It is kept of this. The sizes are within their limits.
pub record IsPieces (p : Pieces) (s : Sending) : Type 0 where
  pub transfer : p.transfer ≡ transfer_of s
  pub handle : p.handle ≡ handle_of s
  pub size : p.size ≡ s.size
  pub number : p.number ≡ number_of s
  pub bytes : p.bytes ≡ s.bytes
  pub wide : MIN_DATA_TRANSFER_SIZE ≤ p.transfer
  pub narrow : p.transfer ≤ MAX_MESSAGE_SIZE
  pub short : p.size ≤ MAX_MESSAGE_SIZE

-- Whether a body is the first chunk of a large request: then it is kept of what that begins, under any tag.
abbrev pub IsFirstOf : Kept → (body : List ℕ) → Option Pieces → Type 0
IsFirstOf k body (Some p) =
    (whole : List ℕ) × IsLargeRequest (common_of k.requester) whole × (first_body k whole ≡ body)
    × ((tag : ℕ) → IsPieces p (begun_sending k tag body whole))
IsFirstOf k body None = (whole : List ℕ) → IsLargeRequest (common_of k.requester) whole → first_body k whole ≡ body → ⊥

-- Whether a body is the next chunk of it: then it is kept of what that leads to, under any tag and on any
-- acknowledgement; or the bytes are all; or they stay as they are.
abbrev pub IsNextOf : Sending → (body : List ℕ) → Piece → (old new : Pieces) → Type 0
IsNextOf s body piece.Between old new =
    (whole : List ℕ) × MayStand s whole × (chunk_body s whole (number_of s + 1) ≡ body)
    × (is_last s (number_of s + 1) ≡ false)
    × ((tag : ℕ) (ack : Ack) → IsPieces new (record s {
      bytes = take (chunk_end (transfer_of s) (number_of s + 1)) whole;
      acks = ack ∷ s.acks;
      due = None;
      round = new_round tag body;
    }))
IsNextOf s body piece.Last old new =
    (whole : List ℕ) × MayStand s whole × (chunk_body s whole (number_of s + 1) ≡ body)
    × (is_last s (number_of s + 1) ≡ true)
    × (new.bytes ≡ whole)
IsNextOf s body piece.Other old new =
    ((whole : List ℕ) → MayStand s whole → chunk_body s whole (number_of s + 1) ≡ body → ⊥) × (new ≡ old)
