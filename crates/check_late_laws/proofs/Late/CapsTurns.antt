-- What a message in the clear does to the capabilities that a responder told.
use Rattle.std.proofs.Common.{◌≡◌, ◌≤◌, ◌+◌, ◌==◌, ◌&&◌, ◌∙◌, ℕ, List, [], ◌∷◌, refl, sym, ap, subst, length, Bool, true, false, Option, Some, None, is_some, cond, arith}
use Rattle.std.specs.Prelude.{is_none, nat_lt, not}
use Rattle.std.proofs.lemmas.Bool.{false≢true}
use Rattle.std.proofs.lemmas.Option.{none-some}
use Rattle.chunking.specs.Collecting.{joined_with, under_way}
use Rattle.responder_machine.proofs.Codes.{asked-code}
use Rattle.responder_machine.proofs.Tests.{form_shown}
use Rattle.responder_machine.specs.Answer.{Free, answer_bytes, request_at}
use Rattle.responder_machine.specs.Handling.{carried_turn, chunk_in, effect_of, error_bytes, extended_of, goes_large, handle_for, large_response, last_chunk_turn, request_effect, request_reply, sent_for, taken_chunk, turn_by, turn_of}
use Rattle.responder_machine.specs.History.{History, clear_turns, phase_of}
use Rattle.responder_machine.specs.LargeMessages.{chunks_of}
use Rattle.responder_machine.specs.Place.{Place, clear_place, inside, place_terms}
use Rattle.responder_machine.specs.Place.Where.{InChunks}
use Rattle.responder_machine.specs.Refusal.{bytes_round, code_of, has_pending, is_misplaced, phase_allows, refusal, sizes_are_known}
use Rattle.responder_machine.specs.Setup.{RspSetup}
use Rattle.responder_machine.specs.Turn.{Effect, Turn, answer_in, code_in, handle_in, is_taken, request_in, takes}
use Rattle.responder_machine.specs.Turn.Effect.{NoEffect}
use Rattle.spdm_grammar.specs.Codes.{code_for}
use Rattle.spdm_grammar.specs.Message.{ChunkMessage, RequestMessage}
use Rattle.spdm_grammar.specs.Message.RequestMessage.{GetVersion, GetCapabilities, NegotiateAlgorithms, GetMeasurements, PskExchange, PskFinish, Heartbeat, KeyUpdate, EndSession, ChunkSend, ChunkGet}
use Rattle.spdm_grammar.specs.declared.messages.error_code.ErrorCode.{ErrorCode}
use Rattle.spdm_grammar.specs.declared.messages.error_code.ErrorCode.TheVariants.{ResponseTooLarge}
use Rattle.spdm_grammar.specs.declared.names.request_code.TheConstants.{CHUNK_SEND, GET_CAPABILITIES, GET_VERSION}
use Rattle.spdm_grammar.specs.declared.told.phase.Phase.{Phase}
use Rattle.spdm_grammar.specs.declared.told.phase.Phase.TheVariants.{Fresh, Versioned, Capable, Negotiated}

-- A refused turn has a short reply.
pub record IsRefusedShortly (t : Turn) : Type 0 where
  pub refused : is_taken t ≡ false
  pub short : length t.reply ≤ 8

-- The turn of a message takes GET_VERSION; or GET_CAPABILITIES, which comes before sizes are known, and is answered whole; or
-- neither, and where the message is GET_CAPABILITIES all the same, it is refused.
pub data Settling (phase : Phase) (m : List ℕ) (t : Turn) : Type 0 where
  Renews : code_of m ≡ GET_VERSION → is_taken t ≡ true → Settling phase m t
  Tells : phase ≡ Versioned → is_taken t ≡ true → takes GET_VERSION t ≡ false → takes GET_CAPABILITIES t ≡ true → request_in t.effect ≡ m → answer_in t.effect ≡ t.reply → is_some (handle_in t.effect) ≡ false → Settling phase m t
  Stays : takes GET_VERSION t ≡ false → takes GET_CAPABILITIES t ≡ false → ((code_of m == GET_CAPABILITIES) ≡ true → IsRefusedShortly t) → Settling phase m t

-- ---- Phases.

caps_phase : (phase : Phase) (pending : Bool) → not (phase_allows phase pending GET_CAPABILITIES) ≡ false → phase ≡ Versioned
caps_phase Fresh pending is = absurd (false≢true (sym is))
caps_phase Versioned pending is = refl
caps_phase Capable pending is = absurd (false≢true (sym is))
caps_phase Negotiated pending is = absurd (false≢true (sym is))

chunk_phase : (phase : Phase) (pending : Bool) → not (phase_allows phase pending CHUNK_SEND) ≡ false → phase ≡ Versioned → ⊥
chunk_phase Fresh pending is same = absurd (cc)
chunk_phase Versioned pending is same = absurd (false≢true (sym is))
chunk_phase Capable pending is same = absurd (cc)
chunk_phase Negotiated pending is same = absurd (cc)

-- ---- A refused message.

extended_short : (e : ErrorCode) (answer : List ℕ) → length (extended_of e answer) ≤ 4
extended_short ResponseTooLarge answer = omega arith
extended_short _ answer = omega arith

error_short : (r : RspSetup) (p : Place) (m : List ℕ) (f : Free) (e : ErrorCode) → length (error_bytes r p m f e) ≤ 8
error_short r p m f e = omega (arith, extended_short e (answer_bytes r p m f))

-- ---- A request.

-- It is neither.
abbrev Apart : Effect → Type 0
Apart x = ((code_in x == GET_VERSION) ≡ false) × ((code_in x == GET_CAPABILITIES) ≡ false)

by_code : (a : RequestMessage) (n : ℕ) → code_for a ≡ n → (code_for a == GET_CAPABILITIES) ≡ false → (n == GET_CAPABILITIES) ≡ true → ⊥
by_code a n is other same = false≢true (sym other ∙ ap (λ (k : ℕ). k == GET_CAPABILITIES) is ∙ same)

-- CHUNK_SEND.
chunk_code : (q : Option RequestMessage) (c : ChunkMessage) → chunk_in q ≡ Some c → q ≡ Some (ChunkSend c)
chunk_code None c is = absurd (none-some c is)
chunk_code (Some (ChunkSend x)) c is = ap (λ (o : Option ChunkMessage). asks_chunk o) is
  where
    asks_chunk : Option ChunkMessage → Option RequestMessage
    asks_chunk None = None
    asks_chunk (Some y) = Some (ChunkSend y)
chunk_code (Some GetVersion) c is = absurd (none-some c is)
chunk_code (Some (GetCapabilities caps)) c is = absurd (none-some c is)
chunk_code (Some (NegotiateAlgorithms offer)) c is = absurd (none-some c is)
chunk_code (Some (GetMeasurements op)) c is = absurd (none-some c is)
chunk_code (Some (PskExchange x)) c is = absurd (none-some c is)
chunk_code (Some (PskFinish verify)) c is = absurd (none-some c is)
chunk_code (Some Heartbeat) c is = absurd (none-some c is)
chunk_code (Some (KeyUpdate op tag)) c is = absurd (none-some c is)
chunk_code (Some EndSession) c is = absurd (none-some c is)
chunk_code (Some (ChunkGet handle number)) c is = absurd (none-some c is)

module _ (r : RspSetup) (h : History) (m : List ℕ) (f : Free) where
  abbrev p : Place
  p = clear_place h

  abbrev plain : Option RequestMessage → Turn
  plain q = record { message = m; refused = None; chunk = None; effect = effect_of q m (answer_bytes r p m f) (handle_for p f (answer_bytes r p m f)); reply = request_reply r p m f }

  allowed : refusal r p m f ≡ None → (c : ℕ) → code_of m ≡ c → not (phase_allows p.phase (has_pending p) c) ≡ false
  allowed none c is = subst (λ (n : ℕ). not (phase_allows p.phase (has_pending p) n) ≡ false) is (form_shown r p m f none 6)

  plain_settles : (q : Option RequestMessage) → refusal r p m f ≡ None → request_at p m ≡ q → Settling p.phase m (plain q)
  plain_settles None none is = absurd (false≢true (sym (form_shown r p m f none 8) ∙ ap is_none is))
  plain_settles (Some GetVersion) none is = Renews (sym (asked-code p m GetVersion is)) refl
  plain_settles (Some (GetCapabilities caps)) none is =
      let early : p.phase ≡ Versioned = caps_phase p.phase (has_pending p) (allowed none GET_CAPABILITIES (sym (asked-code p m (GetCapabilities caps) is))) in
      let answer : List ℕ = answer_bytes r p m f in
      let whole : goes_large p answer ≡ false = ap (λ (x : Phase). sizes_are_known x && nat_lt (place_terms p).common.to_requester.transfer (bytes_round p.at + length answer)) early in
      Tells early refl refl refl refl (sym (ap (λ (b : Bool). cond b (large_response f.handle) answer) whole)) (ap (λ (b : Bool). is_some (cond b (Some f.handle) None)) whole)
  plain_settles (Some (NegotiateAlgorithms offer)) none is = Stays refl refl (λ same. absurd (by_code (NegotiateAlgorithms offer) (code_of m) (asked-code p m (NegotiateAlgorithms offer) is) refl same))
  plain_settles (Some (GetMeasurements op)) none is = Stays refl refl (λ same. absurd (by_code (GetMeasurements op) (code_of m) (asked-code p m (GetMeasurements op) is) refl same))
  plain_settles (Some (PskExchange x)) none is = Stays refl refl (λ same. absurd (by_code (PskExchange x) (code_of m) (asked-code p m (PskExchange x) is) refl same))
  plain_settles (Some (PskFinish verify)) none is = Stays refl refl (λ same. absurd (by_code (PskFinish verify) (code_of m) (asked-code p m (PskFinish verify) is) refl same))
  plain_settles (Some Heartbeat) none is = Stays refl refl (λ same. absurd (by_code Heartbeat (code_of m) (asked-code p m Heartbeat is) refl same))
  plain_settles (Some (KeyUpdate op tag)) none is = Stays refl refl (λ same. absurd (by_code (KeyUpdate op tag) (code_of m) (asked-code p m (KeyUpdate op tag) is) refl same))
  plain_settles (Some EndSession) none is = Stays refl refl (λ same. absurd (by_code EndSession (code_of m) (asked-code p m EndSession is) refl same))
  plain_settles (Some (ChunkSend c)) none is = Stays refl refl (λ same. absurd (by_code (ChunkSend c) (code_of m) (asked-code p m (ChunkSend c) is) refl same))
  plain_settles (Some (ChunkGet handle number)) none is = Stays refl refl (λ same. absurd (by_code (ChunkGet handle number) (code_of m) (asked-code p m (ChunkGet handle number) is) refl same))

  -- ---- A large request.

  module _ (later : p.phase ≡ Versioned → ⊥) where
    carried_apart : (text answer : List ℕ) (large : Option ℕ) (q : Option RequestMessage) → refusal r (inside p) text f ≡ None → request_at (inside p) text ≡ q → Apart (effect_of q text answer large)
    carried_apart text answer large None none is = (refl, refl)
    carried_apart text answer large (Some GetVersion) none is =
        absurd (false≢true (sym (form_shown r (inside p) text f none 5) ∙ ap (is_misplaced InChunks) (sym (asked-code (inside p) text GetVersion is))))
    carried_apart text answer large (Some (GetCapabilities caps)) none is =
        let code : code_of text ≡ GET_CAPABILITIES = sym (asked-code (inside p) text (GetCapabilities caps) is) in
        absurd (later (caps_phase p.phase (has_pending (inside p)) (subst (λ (n : ℕ). not (phase_allows p.phase (has_pending (inside p)) n) ≡ false) code (form_shown r (inside p) text f none 6))))
    carried_apart text answer large (Some (NegotiateAlgorithms offer)) none is = (refl, refl)
    carried_apart text answer large (Some (GetMeasurements op)) none is = (refl, refl)
    carried_apart text answer large (Some (PskExchange x)) none is = (refl, refl)
    carried_apart text answer large (Some (PskFinish verify)) none is = (refl, refl)
    carried_apart text answer large (Some Heartbeat) none is = (refl, refl)
    carried_apart text answer large (Some (KeyUpdate op tag)) none is = (refl, refl)
    carried_apart text answer large (Some EndSession) none is = (refl, refl)
    carried_apart text answer large (Some (ChunkSend c)) none is = (refl, refl)
    carried_apart text answer large (Some (ChunkGet handle number)) none is = (refl, refl)

    module _ (other : (code_of m == GET_CAPABILITIES) ≡ true → ⊥) where
      carried_settles : (c : ChunkMessage) (text : List ℕ) (x : Option ErrorCode) → refusal r (inside p) text f ≡ x → Settling p.phase m (carried_turn r (inside p) m f c text x)
      carried_settles c text (Some e) is = Stays refl refl (λ same. absurd (other same))
      carried_settles c text None is =
          let apart = carried_apart text (answer_bytes r (inside p) text f) (handle_for (inside p) f (answer_bytes r (inside p) text f)) (request_at (inside p) text) is refl in
          Stays apart.0 apart.1 (λ same. absurd (other same))

      chunk_settles : (c : ChunkMessage) (text : List ℕ) (b : Bool) → Settling p.phase m (cond b (last_chunk_turn r (inside p) m f c text) (taken_chunk m c NoEffect []))
      chunk_settles c text true = carried_settles c text (refusal r (inside p) text f) refl
      chunk_settles c text false = Stays refl refl (λ same. absurd (other same))

  -- ---- Any message.

  turn_by_settles : (x : Option ErrorCode) (c : Option ChunkMessage) → refusal r p m f ≡ x → chunk_in (request_at p m) ≡ c → Settling p.phase m (turn_by r p m f x c)
  turn_by_settles (Some e) c is chunk = Stays refl refl (λ same. record { refused = refl; short = error_short r p m f e })
  turn_by_settles None None is chunk = plain_settles (request_at p m) is refl
  turn_by_settles None (Some c) is chunk =
      let code : CHUNK_SEND ≡ code_of m = asked-code p m (ChunkSend c) (chunk_code (request_at p m) c chunk) in
      chunk_settles (chunk_phase p.phase (has_pending p) (allowed is CHUNK_SEND (sym code))) (by_code (ChunkSend c) (code_of m) code refl) c (joined_with (under_way (chunks_of p.turns)) c) c.last

  pub turn_settles : Settling (phase_of (clear_turns h)) m (turn_of r (clear_place h) m f)
  unfolding turn_of
  turn_settles = turn_by_settles (refusal r p m f) (chunk_in (request_at p m)) refl refl
