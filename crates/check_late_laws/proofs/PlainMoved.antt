-- An answer that goes whole, while a large response is fetched, may be given with any bytes that stand for that after
-- it.
use Rattle.std.proofs.Common.{◌≡◌, ◌==◌, ℕ, List, sym, ap, ◌∙◌, subst, drop, length, take, true, Option}
use Rattle.std.specs.Prelude.{slice_index}
use Rattle.responder_machine.specs.History.{Entry, History, clear_turns}
use Rattle.responder_machine.specs.May.{place_for}
use Rattle.responder_machine.specs.Responder.{Outcome}
use Rattle.responder_machine.specs.Responder.Outcome.{Adds}
use Rattle.responder_machine.specs.Place.{Place, clear_place}
use Rattle.responder_machine.specs.Refusal.{code_of}
use Rattle.chunking.specs.Cutting.{chunk_end}
use Rattle.spdm_grammar.specs.Message.RequestMessage.{ChunkGet}
use Rattle.spdm_grammar.specs.Requests.{canonical_request}
use Rattle.spdm_grammar.specs.declared.names.request_code.TheConstants.{CHUNK_GET}
use Rattle.spdm_machine.specs.Bodies.{clear_body}
use Rattle.capture_machine.proofs.ChunksGiven.{Chunked, gets_of}
use Rattle.capture_machine.proofs.PlacesServed.{named_clear, place_type}
use Rattle.responder_machine.specs.Setup.{RspSetup}
use Rattle.capture_machine.proofs.FetchStates.{Fetch, Getting, asks_type}
use Rattle.capture_machine.proofs.FetchStates.Getting.{Asks, Repeats, Seals}
use Rattle.capture_machine.proofs.GetTells.{transfer_of}
use Rattle.capture_machine.proofs.UnseenStands.{UnseenStand}
use Rattle.capture_machine.specs.CapturedAnswers.{AreShown, MayLeadAfter, is_plain}
use Rattle.capture_machine.specs.LargeAnswers.{place_named, takes_get, with_large}
use Rattle.check_late_laws.specs.Fetching.{number_given}
use Rattle.check_late_laws.proofs.ClearMoved.{ask_moved, repeat_moved}
use Rattle.check_late_laws.proofs.Gave.{number_same}
use Rattle.check_late_laws.proofs.NoCaps.{NoCaps}
use Rattle.check_late_laws.proofs.PlainWithin.{GoesWith, Moved, plain_within, still_plain}
use Rattle.check_late_laws.proofs.Stood.{asks_reads}
use Rattle.check_late_laws.proofs.TurnsBeside.{Turns, clear_beside}

asks_code : (handle number : ℕ) (body : List ℕ) → body ≡ clear_body (canonical_request (ChunkGet handle number)) → code_of (drop 1 body) ≡ CHUNK_GET
asks_code handle number body is = ap (λ (l : List ℕ). code_of (drop 1 l)) is

module _ (r : RspSetup) (h : History) (v w : List ℕ) (tag : ℕ) (body : List ℕ) (stand : UnseenStand h) (caps : NoCaps h) (one : Fetch h v tag body) (two : Fetch h w tag body) (ids : List ℕ) (o : Outcome) (goes : GoesWith o (transfer_of (place_for (with_large (place_named body) v h) body)) (number_given (place_named body) h) v w) (may : MayLeadAfter r (with_large (place_named body) v h) ids tag body o) (shown : AreShown r (with_large (place_named body) v h) body o ids) (plain : is_plain (with_large (place_named body) v h) o ≡ true) where
  module _ (type : (slice_index body 0 == 5) ≡ true) where
    beside : Turns (clear_turns (with_large (place_named body) v h)) (clear_turns (with_large (place_named body) w h))
    beside = subst (λ (x : Option ℕ). Turns (clear_turns (with_large x v h)) (clear_turns (with_large x w h))) (sym (named_clear body type)) (clear_beside v w h caps)

    chunked_one : Chunked (clear_place (with_large (place_named body) v h)) (place_named body) v h
    chunked_one = subst (λ (p : Place). Chunked p (place_named body) v h) (place_type (with_large (place_named body) v h) body true type) one.chunked

    chunked_two : Chunked (clear_place (with_large (place_named body) w h)) (place_named body) w h
    chunked_two = subst (λ (p : Place). Chunked p (place_named body) w h) (place_type (with_large (place_named body) w h) body true type) two.chunked

    chunk : (e : Entry) → o ≡ Adds e → takes_get e ≡ true
        → (length w ≡ length v) × (take (chunk_end (transfer_of (clear_place (with_large (place_named body) v h))) (gets_of (place_named body) h)) w ≡ take (chunk_end (transfer_of (clear_place (with_large (place_named body) v h))) (gets_of (place_named body) h)) v)
    chunk e is gets =
        let both = goes.chunk e is gets in
        let P : Place → ℕ → Type 0 = λ p n. take (chunk_end (transfer_of p) n) w ≡ take (chunk_end (transfer_of p) n) v in
        (both.0, subst (λ (p : Place). P p (gets_of (place_named body) h)) (place_type (with_large (place_named body) v h) body true type) (subst (P (place_for (with_large (place_named body) v h) body)) (sym (number_same (place_named body) h)) both.1))

    asks : (handle number : ℕ) → body ≡ clear_body (canonical_request (ChunkGet handle number)) → Moved r h w tag body ids o
    asks handle number is =
        ask_moved r h v w tag body type beside (asks_reads handle number body is) (asks_code handle number body is)
        (λ some. goes.size (λ none. some (number_same (place_named body) h ∙ none))) chunked_one chunked_two ids o chunk (λ leads moved whole. still_plain r h v w tag body o one two leads moved whole) may shown plain

  by_how : Getting h tag body → Moved r h w tag body ids o
  by_how (Asks handle number is since) = asks (asks_type handle number body is) handle number is
  by_how (Repeats type again since) = repeat_moved r h v w tag body type (beside type) ids o again may shown
  by_how (Seals type within) = plain_within r h v w tag body type within one two ids o goes may shown plain

  pub plain_moved : Moved r h w tag body ids o
  plain_moved = by_how one.how
