-- In a session only the answer to GET_MEASUREMENTS goes by LargeResponse: what holds of the request there, and of the session.
use Rattle.std.proofs.Common.{◌≡◌, ◌≤◌, ◌<◌, ◌+◌, ◌==◌, ◌&&◌, ◌||◌, ℕ, List, refl, sym, ap, ◌∙◌, subst, drop, length, arith, Bool, true, false, Option, Some, None, cond, is_some}
use Rattle.std.specs.Prelude.{nat_lt, not, slice_index}
use Rattle.std.proofs.Math.Bool.{and-false, or-true}
use Rattle.std.proofs.lemmas.Bool.{false≢true, le-ltb}
use Rattle.check_fetched_laws.proofs.GetAlike.{fits}
use Rattle.check_fetched_laws.proofs.MeasuredSessions.{short_goes}
use Rattle.responder_machine.proofs.Codes.{asked-code}
use Rattle.responder_machine.proofs.Tests.{contents_shown, form_shown}
use Rattle.responder_machine.specs.Answer.{Free, answer_bytes, answer_of, answer_to, request_at}
use Rattle.responder_machine.specs.Handling.{chunk_in, effect_of, goes_large, handle_for, turn_by, turn_of}
use Rattle.responder_machine.specs.Place.{Place, place_terms, session_place}
use Rattle.responder_machine.specs.Place.Where.{InSession}
use Rattle.responder_machine.specs.Refusal.{bytes_round, has_no_block, is_answer_too_long, is_misplaced, refusal, sizes_are_known}
use Rattle.responder_machine.specs.Responder.{data_turn, inner_refusal, session_turn, session_turn_by}
use Rattle.responder_machine.specs.Session.{Events, session_negotiation, session_terms, stage_of}
use Rattle.responder_machine.specs.Setup.{RspSetup}
use Rattle.responder_machine.specs.Turn.{handle_in}
use Rattle.spdm_grammar.specs.Codes.{code_for}
use Rattle.spdm_grammar.specs.Message.{ChunkMessage, RequestMessage}
use Rattle.spdm_grammar.specs.Message.RequestMessage.{GetVersion, GetCapabilities, NegotiateAlgorithms, GetMeasurements, PskExchange, PskFinish, Heartbeat, KeyUpdate, EndSession, ChunkSend, ChunkGet}
use Rattle.spdm_grammar.specs.Responses.{canonical_response}
use Rattle.spdm_grammar.specs.declared.messages.error_code.ErrorCode.{ErrorCode}
use Rattle.capture_machine.proofs.RepliesTell.{no_chunk}
use Rattle.capture_machine.proofs.SmallGets.{chunk_sized, get_chunks}
use Rattle.capture_machine.proofs.TurnsAlike.{chunk_is, is_request}

module _ (r : RspSetup) (s : Events) (inner : List ℕ) (f : Free) where
  abbrev p : Place
  p = session_place s

  abbrev m : List ℕ
  m = drop 1 inner

  -- What holds where the turn of an inner message goes so.
  pub record IsLargeTurn : Type 0 where
    pub op : ℕ
    pub asks : request_at (session_place s) (drop 1 inner) ≡ Some (GetMeasurements op)
    pub none : refusal r (session_place s) (drop 1 inner) f ≡ None
    pub chunk : (session_terms s).common.chunk ≡ true

  -- ---- The requests whose answer goes whole.

  -- One of this code does not come in a session.
  not_here : (q : RequestMessage) → refusal r p m f ≡ None → request_at p m ≡ Some q → is_misplaced InSession (code_for q) ≡ true → ⊥
  not_here q none is misplaced = false≢true (sym (form_shown r p m f none 5) ∙ ap (is_misplaced InSession) (sym (asked-code p m q is)) ∙ misplaced)

  -- A short answer goes whole.
  not_short : (q : RequestMessage) → refusal r p m f ≡ None → request_at p m ≡ Some q → length (canonical_response (answer_of r p m f q)) ≤ 42 → goes_large p (answer_bytes r p m f) ≡ true → ⊥
  unfolding answer_bytes
  not_short q none is few large =
      let short : length (answer_bytes r p m f) ≤ 42 = subst (λ (l : List ℕ). length l ≤ 42) (sym (ap (answer_to r p m f) is)) few in
      false≢true (sym (short_goes r p m f none refl short) ∙ large)

  -- A chunk fits.
  not_get : (handle number : ℕ) → refusal r p m f ≡ None → request_at p m ≡ Some (ChunkGet handle number) → goes_large p (answer_bytes r p m f) ≡ true → ⊥
  not_get handle number none is large =
      let few = fits r m handle number p f is (get_chunks r p m f handle number none is) in
      let n : ℕ = length (answer_bytes r p m f) in
      let whole : goes_large p (answer_bytes r p m f) ≡ false =
      ap (λ (b : Bool). sizes_are_known p.phase && b) (le-ltb (place_terms p).common.to_requester.transfer (bytes_round p.at + n) (omega (arith, few))) ∙ and-false (sizes_are_known p.phase) in
      false≢true (sym whole ∙ large)

  by_request : (q : RequestMessage) → refusal r p m f ≡ None → request_at p m ≡ Some q → goes_large p (answer_bytes r p m f) ≡ true → (op : ℕ) × (q ≡ GetMeasurements op)
  by_request (GetMeasurements op) none is large = (op, refl)
  by_request GetVersion none is large = absurd (not_here GetVersion none is refl)
  by_request (GetCapabilities caps) none is large = absurd (not_here (GetCapabilities caps) none is refl)
  by_request (NegotiateAlgorithms offer) none is large = absurd (not_here (NegotiateAlgorithms offer) none is refl)
  by_request (PskExchange x) none is large = absurd (not_here (PskExchange x) none is refl)
  by_request (PskFinish verify) none is large = absurd (not_short (PskFinish verify) none is (omega arith) large)
  by_request Heartbeat none is large = absurd (not_short Heartbeat none is (omega arith) large)
  by_request (KeyUpdate op tag) none is large = absurd (not_short (KeyUpdate op tag) none is (omega arith) large)
  by_request EndSession none is large = absurd (not_short EndSession none is (omega arith) large)
  by_request (ChunkSend c) none is large = absurd (no_chunk r s m f c is none)
  by_request (ChunkGet handle number) none is large = absurd (not_get handle number none is large)

  -- ---- What holds of the session: else the answer would be too long.

  chunked : refusal r p m f ≡ None → goes_large p (answer_bytes r p m f) ≡ true → (session_terms s).common.chunk ≡ true
  chunked none large = by_chunk (session_terms s).common.chunk refl
    where
      most : Bool
      most = nat_lt (place_terms p).common.to_requester.max (length (answer_bytes r p m f))

      passes : Bool
      passes = nat_lt (place_terms p).common.to_requester.transfer (bytes_round p.at + length (answer_bytes r p m f))

      by_chunk : (b : Bool) → (session_terms s).common.chunk ≡ b → (session_terms s).common.chunk ≡ true
      by_chunk true is = is
      by_chunk false is =
          let brief : is_answer_too_long p (answer_bytes r p m f) ≡ false = contents_shown r p m f none 10 in
          let long : is_answer_too_long p (answer_bytes r p m f) ≡ (most || true) = ap (λ (x : Bool). most || (not x && passes)) is ∙ ap (λ (x : Bool). most || x) large in
          absurd (false≢true (sym brief ∙ long ∙ or-true most))

  -- ---- The turn.

  by_handle : (b : Bool) → is_some (cond b (Some f.handle) None) ≡ true → b ≡ true
  by_handle true some = refl
  by_handle false some = absurd (false≢true some)

  by_turn : (o : Option ErrorCode) (c : Option ChunkMessage) → refusal r p m f ≡ o → chunk_in (request_at p m) ≡ c → is_some (handle_in (turn_by r p m f o c).effect) ≡ true → IsLargeTurn
  by_turn (Some e) c is asks large = absurd (false≢true large)
  by_turn None (Some c) is asks large = absurd (no_chunk r s m f c (chunk_is (request_at p m) c asks) is)
  by_turn None None is asks large =
      let asked = is_request r p m f is in
      let some : is_some (handle_for p f (answer_bytes r p m f)) ≡ true =
      sym (ap (λ (o : Option RequestMessage). is_some (handle_in (effect_of o m (answer_bytes r p m f) (handle_for p f (answer_bytes r p m f))))) asked.1) ∙ large in
      let goes = by_handle (goes_large p (answer_bytes r p m f)) some in
      let one = by_request asked.0 is asked.1 goes in
      record { op = one.0; asks = asked.1 ∙ ap Some one.1; none = is; chunk = chunked is goes }

  by_message : (b : Bool) → is_some (handle_in (cond b (turn_of r p m f) (data_turn f m)).effect) ≡ true → IsLargeTurn
  unfolding turn_of
  by_message true large = by_turn (refusal r p m f) (chunk_in (request_at p m)) refl refl large
  by_message false large = absurd (false≢true large)

  by_inner : (o : Option ErrorCode) → is_some (handle_in (session_turn_by r s inner f o).effect) ≡ true → IsLargeTurn
  by_inner (Some e) large = absurd (false≢true large)
  by_inner None large = by_message (slice_index inner 0 == 5) large

  pub is_large_turn : is_some (handle_in (session_turn r s inner f).effect) ≡ true → IsLargeTurn
  unfolding session_turn
  is_large_turn large = by_inner (inner_refusal (stage_of s) inner) large

  -- Its blocks are there.
  pub large_blocks : IsLargeTurn → has_no_block r (request_at (session_place s) (drop 1 inner)) ≡ false
  large_blocks t = contents_shown r p m f t.none 3

  -- A chunk has room for some bytes.
  pub large_room : IsLargeTurn → 12 < (session_terms s).common.to_requester.transfer
  large_room t = (let low = chunk_sized (session_negotiation s) t.chunk in omega (arith, low))
