-- The round while a large response is fetched in the clear, and is no GET_VERSION: it goes there, and is a repeat, or
-- CHUNK_GET for the next chunk of any bytes that may stand.
use Rattle.std.proofs.Common.{◌≡◌, ◌≢◌, ◌≤◌, ◌<◌, ◌==◌, ◌⊎◌, ℕ, List, refl, sym, ap, ◌∙◌, subst, drop, arith, Bool, true, false, Option, Some, None, cond, inl, inr}
use Rattle.std.specs.Prelude.{slice_index}
use Rattle.std.proofs.lemmas.Bool.{false≢true}
use Rattle.std.proofs.lemmas.Option.{none-some, same_Some}
use Rattle.check_laws.specs.RepliesShown.{responder_for}
use Rattle.check_ends.specs.declared.party.Party.{Party}
use Rattle.check_fetched_laws.proofs.ClearRound.{get_is_next, round_is_there}
use Rattle.check_fetched_laws.proofs.ReadyGets.{common_given}
use Rattle.check_fetched_laws.proofs.SettledCaps.{walks_settle}
use Rattle.check_fetched_laws.proofs.TurnsBoth.{Settles}
use Rattle.check_fetched_laws.specs.ClearChunks.{IsNextGet, clear_with, get_message, get_response}
use Rattle.check_fetched_laws.specs.ClearRounds.{IsClearRound}
use Rattle.check_fetched_ends.specs.Held.{IsHeldIn, chunk_held, repeats_held}
use Rattle.check_fetched_ends.specs.declared.clear_fetch.held.Held.{Held}
use Rattle.check_late_laws.proofs.Gave.{number_same}
use Rattle.check_late_laws.proofs.PlainLaws.{Now, now}
use Rattle.check_late_laws.proofs.PlainLaws.Now.{Version, Chunk}
use Rattle.check_late_laws.specs.Fetching.{Fetching, IsFetchingOf, MayStand, dialogue_of, number_given, number_of}
use Rattle.chunking.specs.Cutting.{nth_chunk}
use Rattle.negotiate.specs.declared.shared.Common.{Common}
use Rattle.requester_machine.specs.Setup.{ReqSetup}
use Rattle.responder_machine.specs.History.{History, Kept, kept_of}
use Rattle.responder_machine.specs.LargeMessages.{given_of, large_of}
use Rattle.responder_machine.specs.Place.{Place, clear_place, place_terms}
use Rattle.responder_machine.specs.Responder.{is_repeat}
use Rattle.responder_machine.specs.Setup.{RspSetup}
use Rattle.spdm_grammar.specs.Message.RequestMessage.{GetVersion}
use Rattle.spdm_grammar.specs.Message.ResponseMessage.{ChunkResponse}
use Rattle.spdm_grammar.specs.Requests.{canonical_request}
use Rattle.spdm_grammar.specs.Responses.{canonical_response}
use Rattle.spdm_machine.specs.Bodies.{clear_body}
use Rattle.capture_machine.proofs.ChunksGiven.{Chunked}
use Rattle.capture_machine.proofs.ChunksGiven.Chunked.{Gone, Given}
use Rattle.capture_machine.proofs.FetchStates.{Fetch}
use Rattle.capture_machine.proofs.PlacesServed.{named_clear, place_type}
use Rattle.capture_machine.specs.LargeAnswers.{place_named, with_large}
use Rattle.capture_machine.specs.Rounds.{Round}
use Rattle.capture_machine.specs.SessionTable.{Row}
use Rattle.world_machine.specs.Setup.{Configuration}

-- The next chunk of some bytes is asked for, under this handle.
pub record IsAsked (r : RspSetup) (f : Fetching) (round : Round) (v : List ℕ) : Type 0 where
  pub handle : ℕ
  pub body : round.body ≡ clear_body (get_message handle (number_of f))
  pub next : IsNextGet r f.kept.responder v round.tag handle (number_of f)

type_of : (b : Bool) (id : ℕ) → cond b None (Some id) ≡ None → b ≡ true
type_of true id is = refl
type_of false id is = absurd (none-some id (sym is))

module _ (w : Configuration) (q : ReqSetup) (older : List (List ℕ)) (rows : List Row) (f : Fetching) (own : IsFetchingOf w q older f) (party : Party) (held : Held) (kept : IsHeldIn party held w q f rows) (round : Round) (is : f.kept.round ≡ Some round) (other : round.body ≢ clear_body (canonical_request GetVersion)) where
  abbrev r : RspSetup
  r = responder_for w f.kept

  abbrev h : History
  h = f.kept.responder

  pub place : place_named round.body ≡ None
  place =
      let there = round_is_there w q older f own in
      let same : there.0 ≡ round = same_Some there.0 round (sym there.1 ∙ is) in
      elim there.2 [
        | inl version ↦ absurd (other (ap (λ (x : Round). x.body) (sym same) ∙ version))
        | inr named ↦ ap (λ (x : Round). place_named x.body) (sym same) ∙ named ∙ kept.at
      ]

  pub type : (slice_index round.body 0 == 5) ≡ true
  type = type_of (slice_index round.body 0 == 5) _ place

  pub settles : Settles h
  settles = walks_settle w q older (dialogue_of f own.stands.0) (own.all own.stands.0 own.stands.1)

  -- The transfer size is the one that is held, whatever bytes stand.
  pub transfer_is : (v : List ℕ) → (place_terms (clear_with h v)).common.to_requester.transfer ≡ held.transfer
  transfer_is v = ap (λ (c : Common). c.to_requester.transfer) (common_given v h settles) ∙ kept.transfer

  clear_round : (v : List ℕ) → MayStand f v → IsClearRound r h v round
  clear_round v stand = get_is_next w q older (dialogue_of f v) v round (own.all v stand) refl is type

  pub again_is : repeats_held held round.tag round.body ≡ is_repeat (kept_of h) round.tag (drop 1 round.body)
  again_is = ap (λ (o : Option Kept). is_repeat o round.tag (drop 1 round.body)) kept.before.newest

  pub fetch_is : (v : List ℕ) → MayStand f v → Fetch h v round.tag round.body
  fetch_is v stand = by_now (now w q older f own round is v stand)
    where
      by_now : Now f round v → Fetch h v round.tag round.body
      by_now (Version version) = absurd (other version)
      by_now (Chunk gets fetch) = fetch

  chunked : (v : List ℕ) → MayStand f v → Chunked (clear_with h v) None v h
  chunked v stand =
      subst (λ (x : Option ℕ). Chunked (clear_place (with_large x v h)) x v h) place
      (subst (λ (p : Place). Chunked p (place_named round.body) v h) (place_type (with_large (place_named round.body) v h) round.body true type) (fetch_is v stand).chunked)

  -- ---- No repeat.

  module _ (anew : repeats_held held round.tag round.body ≡ false) where
    number_is : (v : List ℕ) (n : ℕ) → MayStand f v → given_of (clear_with h v).turns ≡ n → large_of (clear_with h v).turns ≡ Some v → n ≡ number_of f
    number_is v n stand given large = by_chunked (chunked v stand)
      where
        by_chunked : Chunked (clear_with h v) None v h → n ≡ number_of f
        by_chunked (Gone none) = absurd (none-some v (sym none ∙ large))
        by_chunked (Given l g parts) = sym given ∙ g ∙ number_same None h ∙ ap (λ (o : Option ℕ). number_given o h) (sym kept.at)

    pub asked : (v : List ℕ) → MayStand f v → IsAsked r f round v
    asked v stand = by_round (clear_round v stand)
      where
        by_round : IsClearRound r h v round → IsAsked r f round v
        by_round (inl version) = absurd (other version)
        by_round (inr (inl again)) = absurd (false≢true (sym anew ∙ again_is ∙ again))
        by_round (inr (inr get)) =
            let number : get.1 ≡ number_of f = number_is v get.1 stand get.3.given get.3.large in
            record { handle = get.0; body = get.2 ∙ ap (λ (n : ℕ). clear_body (get_message get.0 n)) number; next = subst (IsNextGet r h v round.tag get.0) number get.3 }

    -- Its answer is the chunk that is held of these bytes.
    pub handle_is : (v : List ℕ) (stand : MayStand f v) → slice_index round.body 4 ≡ (asked v stand).handle
    handle_is v stand = ap (λ (l : List ℕ). slice_index l 4) (asked v stand).body

    pub response_is : (v : List ℕ) (stand : MayStand f v) → get_response h v (asked v stand).handle (number_of f) ≡ canonical_response (ChunkResponse (chunk_held held round.body v))
    response_is v stand =
        ap (λ (t : ℕ). canonical_response (ChunkResponse (nth_chunk t (asked v stand).handle v (number_of f)))) (transfer_is v)
        ∙ ap (λ (n : ℕ). canonical_response (ChunkResponse (nth_chunk held.transfer n v (number_of f)))) (sym (handle_is v stand))
        ∙ ap (λ (n : ℕ). canonical_response (ChunkResponse (nth_chunk held.transfer (slice_index round.body 4) v n))) (sym kept.answer.number)
