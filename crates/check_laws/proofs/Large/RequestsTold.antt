-- What is reported of a request while a large one is in progress.
use Rattle.std.proofs.Common.{◌≡◌, ◌+◌, ◌++◌, ℕ, List, ◌∷◌, refl, sym, ap, ◌∙◌, subst, drop, take, true, false, Option, Some, None, is_some}
use Rattle.std.proofs.lemmas.Bool.{false≢true}
use Rattle.chunking.specs.Cutting.{chunk_end}
use Rattle.requester_machine.specs.Setup.{ReqSetup}
use Rattle.check_laws.specs.Keeping.{Kept}
use Rattle.capture_machine.specs.Capture.{may_begin}
use Rattle.capture_machine.specs.Rounds.{following_tag, new_round}
use Rattle.world_machine.specs.Setup.{Configuration}
use Rattle.check_laws.specs.Large.LargeRequests.{EndsWith, IsBegunBy, IsToldNext, StandsFor}
use Rattle.check_laws.specs.Large.Pieces.{IsFirstOf, IsNextOf}
use Rattle.check_laws.specs.Large.Sending.{Ack, IsSendingOf, MayStand, Sending, chunk_body, is_last, number_of, transfer_of}
use Rattle.check_laws.specs.Large.SendingLaws.{LastSending}
use Rattle.check_laws.specs.declared.sending_large.large_request.LargeRequest.{LargeRequest}
use Rattle.check_laws.specs.declared.sending_large.pieces.Piece.TheVariants as piece
use Rattle.check_laws.specs.declared.sending_large.pieces.Pieces.{Pieces}
use Rattle.check_laws.proofs.Large.PiecesShown.{last_is_whole, piece_is_shown}

-- ---- The first chunk.

pub begun_some : (k : Kept) (body : List ℕ) (p : Pieces) → IsFirstOf k body (Some p) → IsBegunBy k body (Some (record { pieces = p; due = false }))
begun_some k body p one = (one.0, one.1, one.2, λ tag. record { pieces = one.3 tag; due = refl })

-- ---- A chunk.

some_of : (o : Option Ack) → true ≡ is_some o → (ack : Ack) × (o ≡ Some ack)
some_of None is = absurd (false≢true (sym is))
some_of (Some ack) is = (ack, refl)

module _ (w : Configuration) (q : ReqSetup) (older : List (List ℕ)) (s : Sending) (tag : ℕ) (body : List ℕ) (own : IsSendingOf w q older s) (begin : may_begin (Some s.round) body ≡ true) (at : tag ≡ following_tag (Some s.round))
    (r : LargeRequest) (stands : StandsFor r s) where
  pub other_told : (old new : Pieces) (after : LargeRequest) → IsNextOf s body piece.Other old new → (new ≡ old → after ≡ r) → IsToldNext s tag body piece.Other r after
  other_told old new after one same = (
    λ next c. one.0 c.2.1 c.2.3 c.2.4,
    λ next c. one.0 c.2.2 c.2.5 c.2.6,
    same one.1,
  )

  pub between_told : (old new : Pieces) → r.due ≡ true → IsNextOf s body piece.Between old new → IsToldNext s tag body piece.Between r (record { pieces = new; due = false })
  between_told old new due one =
      let ack = some_of s.due (sym due ∙ stands.due) in (
        (
          record s { bytes = take (chunk_end (transfer_of s) (number_of s + 1)) one.0; acks = ack.0 ∷ s.acks; due = None; round = new_round tag body },
          (begin, at, (ack.0, one.0, ack.1, one.1, one.2, one.3, refl)),
          record { pieces = one.4 tag ack.0; due = refl },
        ),
        λ next c. false≢true (sym one.3 ∙ c.2.7),
      )

  -- All bytes of a large request are determined by its last chunk.
  bytes_of : (v : List ℕ) → MayStand s v → chunk_body s v (number_of s + 1) ≡ body → is_last s (number_of s + 1) ≡ true → v ≡ s.bytes ++ drop 13 body
  bytes_of v stand cut last =
      let shown = (piece_is_shown w q older s body (take (chunk_end (transfer_of s) (number_of s + 1)) v) own).0 (v, stand, cut, refl) in
      sym (last_is_whole w q older s v own stand last) ∙ shown.3 ∙ ap (λ (l : List ℕ). s.bytes ++ l) (ap (drop 13) shown.2)

  pub last_told : (old new : Pieces) (after : LargeRequest) → r.due ≡ true → after.pieces.bytes ≡ new.bytes → IsNextOf s body piece.Last old new → IsToldNext s tag body piece.Last r after
  last_told old new after due same one = (λ next c. false≢true (sym c.2.5 ∙ one.3), subst (MayStand s) now one.1, one.3, sym stands.due ∙ due, λ next. (to next, back next))
    where
      now : one.0 ≡ after.pieces.bytes
      now = sym one.4 ∙ sym same

      to : (next : Kept) → LastSending s tag body next → EndsWith s tag body after.pieces.bytes next
      to next c =
          let is : c.2.2 ≡ after.pieces.bytes = bytes_of c.2.2 c.2.5 c.2.6 c.2.7 ∙ sym (bytes_of one.0 one.1 one.2 one.3) ∙ now in
          subst (λ (l : List ℕ). EndsWith s tag body l next) is (c.2.1, c.2.4, c.2.8, c.2.9, c.2.10)

      back : (next : Kept) → EndsWith s tag body after.pieces.bytes next → LastSending s tag body next
      back next c =
          let ack = some_of s.due (sym due ∙ stands.due) in
          let d : EndsWith s tag body one.0 next = subst (λ (l : List ℕ). EndsWith s tag body l next) (sym now) c in
          (begin, at, (ack.0, d.0, one.0, ack.1, d.1, one.1, one.2, one.3, d.2, d.3, d.4))
