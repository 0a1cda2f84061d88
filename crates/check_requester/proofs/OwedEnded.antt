-- With which bytes a large request ends that was owed.
use Rattle.std.proofs.Common.{◌≡◌, ◌∙◌, ◌≤◌, ◌<◌, ◌+◌, ℕ, List, refl, sym, ap, subst, length, Bool, true, false, Option, Some, eqb-true}
use Rattle.std.specs.Prelude.{is_some}
use Rattle.std.proofs.lemmas.Bool.{false≢true}
use Rattle.std.proofs.lemmas.Option.{none-some, same_Some}
use Rattle.requester_core.specs.Joined.{StandsFor}
use Rattle.requester_core.specs.Owed.{TookFor}
use Rattle.requester_core.specs.declared.joined.RequesterCore.{RequesterCore}
use Rattle.chunking.specs.Cutting.{chunk_count}
use Rattle.requester_machine.specs.History.{History, begins_large, connection_terms, next_handle, next_tag}
use Rattle.requester_machine.specs.Holds.{Waits}
use Rattle.requester_machine.specs.Message.{Aim, Content, Sent, asked_in, body_of}
use Rattle.requester_machine.specs.Message.Aim.{ByChunks, ForChunk, InSession, Plain}
use Rattle.requester_machine.specs.Message.Content.{Clear}
use Rattle.requester_machine.specs.Owed.{with_next}
use Rattle.requester_machine.specs.Sending.{piece_of}
use Rattle.requester_machine.specs.Setup.{ReqSetup}
use Rattle.requester_machine.specs.UnderWay.{IsOutstanding}
use Rattle.spdm_grammar.specs.Message.{RequestMessage}
use Rattle.spdm_grammar.specs.Message.RequestMessage.{ChunkSend}
use Rattle.spdm_grammar.specs.Requests.{canonical_request}
use Rattle.spdm_machine.specs.Terms.{Terms}
use Rattle.check_requester.proofs.LargeEnded.{behind_all, counted}
use Rattle.check_requester.proofs.OwedPieces.{HasHandle, owed_at}
use Rattle.check_requester.proofs.OwedSent.{chunks_short, out_owed}
use Rattle.check_requester.specs.JudgedRequester.{IsAsker}
use Rattle.check_requester.specs.LargeAsked.{IsCarried, IsEnded, IsFirstOut, cut_body}
use Rattle.check_requester.specs.declared.judged_requester.JudgedRequester.{JudgedRequester}
use Rattle.check_laws.specs.Keeping.{Keeps, Kept, owing}
use Rattle.check_laws.proofs.Large.Histories.{next_terms}
use Rattle.check_laws.proofs.Large.Meanwhile.{owed_may_begin}
use Rattle.check_laws.proofs.Large.Onward.{some_size}
use Rattle.check_laws.specs.Large.Sending.{Beginning, IsSendingOf, MayBegin, MayStand, Sending, asked_of, behind, count_of, handle_of, is_last, number_of, transfer_of}
use Rattle.check_laws.specs.Large.Sending.Beginning.{ByCommand, ByItself}
use Rattle.capture_machine.specs.LargeRequests.{common_of, first_piece}
use Rattle.world_machine.specs.Setup.{Configuration}

-- ---- The message that is owed.

-- It is sent in chunks.
pub record IsFirst (x : Sent) : Type 0 where
  pub asked : RequestMessage
  pub handle : ℕ
  pub aim : x.aim ≡ ByChunks asked handle 0

aim_first : (x : Sent) (aim : Aim) → x.aim ≡ aim → begins_large aim ≡ true → IsFirst x
aim_first x (Plain a) is large = absurd (false≢true large)
aim_first x (ByChunks a handle number) is large = record { asked = a; handle = handle; aim = is ∙ ap (ByChunks a handle) (eqb-true number 0 large) }
aim_first x (ForChunk a handle number before) is large = absurd (false≢true large)
aim_first x (InSession id ask) is large = absurd (false≢true large)

pub is_first : (x : Sent) → begins_large x.aim ≡ true → IsFirst x
is_first x large = aim_first x x.aim refl large

-- What its first chunk is.
pub record IsPieceOf (common_at : History) (content : Content) (a : RequestMessage) (handle : ℕ) : Type 0 where
  pub content_is : content ≡ Clear (canonical_request (ChunkSend (piece_of (common_of common_at) a handle 0)))
  pub short : length (canonical_request a) ≤ 4096

same_parts : (x y : Sent) → x.tag ≡ y.tag → x.content ≡ y.content → x.aim ≡ y.aim → x ≡ y
same_parts x y tag content aim = ap (λ (n : ℕ). record x { tag = n }) tag ∙ ap (λ (c : Content). record x { tag = y.tag; content = c }) content ∙ ap (λ (a : Aim). record x { tag = y.tag; content = y.content; aim = a }) aim

module _ (w : Configuration) (q : ReqSetup) (older earlier : List (List ℕ)) (s : Sending) (own : IsSendingOf w q older s) (keeps : Keeps w q earlier s.before) (whole : List ℕ) (stand : MayStand s whole) (last : is_last s (number_of s + 1) ≡ true) (due : is_some s.due ≡ true)
    (seen : JudgedRequester) (asker : IsAsker seen q s.before) (sent : Sent) (owed : s.before.owed ≡ Some sent) (took : TookFor s.before.requester sent.aim) where
  abbrev k : Kept
  k = s.before

  abbrev pub H : History
  H = with_next (Some sent) k.requester

  large_by : (b : Beginning) → MayBegin k b → begins_large sent.aim ≡ true
  large_by (ByCommand c a) may = absurd (none-some sent (sym may.0 ∙ owed))
  large_by (ByItself a) may = ap (λ (x : Sent). begins_large x.aim) (same_Some sent may.0 (sym owed ∙ may.1)) ∙ may.4

  pub large : begins_large sent.aim ≡ true
  large = large_by own.begins.0 own.begins.1

  abbrev pub first : IsFirst sent
  first = is_first sent large

  abbrev pub a : RequestMessage
  a = first.asked

  at : (sent.tag ≡ next_tag k.requester) × HasHandle (next_handle k.requester) sent.aim
  at = owed_at w q earlier k sent keeps owed large

  handle_is : first.handle ≡ next_handle k.requester
  handle_is = subst (HasHandle (next_handle k.requester)) first.aim at.1

  terms : connection_terms H ≡ connection_terms k.requester
  terms = next_terms (Some sent) k.requester

  stands : StandsFor seen.asking q H
  stands = subst (λ (o : Option Sent). StandsFor seen.asking q (owing o k.requester)) owed asker.stands

  out_by : (aim : Aim) → aim ≡ ByChunks a first.handle 0 → IsOutstanding q H sent.content aim → IsPieceOf H sent.content a first.handle
  out_by aim is out =
      let o : IsOutstanding q H sent.content (ByChunks a first.handle 0) = subst (IsOutstanding q H sent.content) is out in
      let piece = o.1 asker.kept.sizes in
      record { content_is = piece.is; short = chunks_short q H a first.handle 0 sent.content asker.kept.sizes stands.clear_state.holds o.0 piece }

  piece_is : IsPieceOf H sent.content a first.handle
  piece_is = out_by sent.aim first.aim (subst (Waits q H) (out_owed k.requester sent took) stands.clear_state.holds.waits)

  -- It is the one of the definitions, with these bytes.
  same_piece : sent ≡ first_piece k.requester a (canonical_request a)
  same_piece =
      same_parts sent (first_piece k.requester a (canonical_request a)) at.0
      (piece_is.content_is ∙ ap (λ (t : Terms). Clear (canonical_request (ChunkSend (piece_of t.common a first.handle 0)))) terms ∙ ap (λ (n : ℕ). Clear (canonical_request (ChunkSend (piece_of (common_of k.requester) a n 0)))) handle_is)
      (first.aim ∙ ap (λ (n : ℕ). ByChunks a n 0) handle_is)

  wide : 12 < (common_of H).to_responder.transfer
  wide =
      let own_wide = some_size (transfer_of s) (number_of s) own.stands.0 (subst (λ (n : ℕ). number_of s + 1 < count_of (transfer_of s) n) (sym own.stands.1.0) own.more) in
      subst (λ (t : Terms). 12 < t.common.to_responder.transfer) (sym terms) own_wide

  pub owed_out : (asking : RequesterCore) (room : List ℕ) → StandsFor asking q H → room ≡ body_of sent.content → IsFirstOut asking room q H a (next_handle k.requester)
  owed_out asking room now is = record {
    sizes = asker.kept.sizes;
    wide = wide;
    short = piece_is.short;
    sent = sent;
    out = out_owed k.requester sent took;
    aim = first.aim ∙ ap (λ (n : ℕ). ByChunks a n 0) handle_is;
    body = is ∙ ap body_of piece_is.content_is ∙ ap (λ (n : ℕ). cut_body H n (canonical_request a) 0) handle_is;
    stands = now;
  }

  pub owed_count : (count number : ℕ) → number ≡ number_of s → count ≡ number + 1 → count + 1 ≡ chunk_count (common_of H).to_responder.transfer whole
  owed_count count number is more = counted w q older s own whole stand last due seen asker count number is more ∙ ap (λ (t : Terms). chunk_count t.common.to_responder.transfer whole) (sym terms)

  may : MayBegin k (ByItself a)
  may = owed_may_begin w q earlier k sent a keeps owed large (ap asked_in first.aim)

  one_asked : (b : Beginning) → MayBegin k b → asked_of b ≡ a
  one_asked (ByCommand c x) m = absurd (none-some sent (sym m.0 ∙ owed))
  one_asked (ByItself x) m = same_Some x a (sym m.5 ∙ ap (λ (y : Sent). asked_in y.aim) (same_Some m.0 sent (sym m.1 ∙ owed)) ∙ ap asked_in first.aim)

  pub owed_ended : (b : Bool) (new : JudgedRequester) → new.setup ≡ seen.setup → new.owes ≡ false → IsCarried q H a (next_handle k.requester) whole (number_of s + 1) b new.asking → IsEnded q s whole b new
  owed_ended false new setup owes c = λ b m is sends. c (is ∙ ap canonical_request (one_asked b m))
  owed_ended true new setup owes c =
      let piece : sent ≡ first_piece k.requester a whole = same_piece ∙ ap (first_piece k.requester a) (sym c.0) in (
        ByItself a,
        may,
        c.0,
        tt,
        behind_all w q older s own whole stand last due seen asker new (ByItself a) setup owes (λ acks n. subst (λ (p : Sent). StandsFor new.asking q (behind a whole (handle_of s) acks (with_next (Some p) k.requester))) piece (c.1 acks n)),
      )
