-- A reply shows whether its answer goes by LargeResponse.
use Rattle.std.proofs.Common.{◌≡◌, ◌≢◌, ℕ, List, [], refl, sym, ap, ◌∙◌, Bool, true, false, Option, Some, None, is_some, cond}
use Rattle.chunking.specs.Collecting.{joined_with, under_way}
use Rattle.responder_machine.specs.Answer.{Free, answer_bytes, answer_of, answer_to, request_at}
use Rattle.responder_machine.specs.Handling.{carried_turn, chunk_in, effect_of, error_bytes, goes_large, large_response, last_chunk_turn, request_effect, request_reply, taken_chunk, turn_by, turn_of}
use Rattle.responder_machine.specs.LargeMessages.{chunks_of}
use Rattle.responder_machine.specs.Place.{Place, inside}
use Rattle.responder_machine.specs.Refusal.{refusal}
use Rattle.responder_machine.specs.Setup.{RspSetup}
use Rattle.responder_machine.specs.Turn.Effect.{NoEffect}
use Rattle.responder_machine.specs.Turn.{Turn, handle_in}
use Rattle.spdm_grammar.specs.Message.{ChunkMessage, RequestMessage}
use Rattle.spdm_grammar.specs.Message.RequestMessage.{GetVersion, GetCapabilities, NegotiateAlgorithms, GetMeasurements, PskExchange, PskFinish, Heartbeat, KeyUpdate, EndSession, ChunkSend, ChunkGet}
use Rattle.spdm_grammar.specs.Responses.{canonical_response}
use Rattle.spdm_grammar.specs.declared.messages.error_code.ErrorCode.{ErrorCode}
use Rattle.spdm_grammar.specs.declared.messages.error_code.ErrorCode.TheVariants.{InvalidRequest, UnexpectedRequest, Unspecified, DecryptError, UnsupportedRequest, SessionLimitExceeded, SessionRequired, ResponseTooLarge, RequestTooLarge, LargeResponse, VersionMismatch}
use Rattle.check_responder.specs.JudgedResponder.{shows_large}
use Rattle.check_laws.specs.DropsShown.{response_of}
use Rattle.capture_machine.proofs.TurnsAlike.{is_request, refusal_other}

-- An answer is no LargeResponse.
abbrev Shows : List ℕ → Bool → Type 0
Shows reply b = (shows_large reply ≡ b) × (shows_large (response_of reply) ≡ b)

answer_shows : (r : RspSetup) (p : Place) (m : List ℕ) (f : Free) (asked : RequestMessage) → Shows (canonical_response (answer_of r p m f asked)) false
answer_shows r p m f GetVersion = (refl, refl)
answer_shows r p m f (GetCapabilities caps) = (refl, refl)
answer_shows r p m f (NegotiateAlgorithms offer) = (refl, refl)
answer_shows r p m f (GetMeasurements op) = (refl, refl)
answer_shows r p m f (PskExchange x) = (refl, refl)
answer_shows r p m f (PskFinish verify) = (refl, refl)
answer_shows r p m f Heartbeat = (refl, refl)
answer_shows r p m f (KeyUpdate op tag) = (refl, refl)
answer_shows r p m f EndSession = (refl, refl)
answer_shows r p m f (ChunkSend chunk) = (refl, refl)
answer_shows r p m f (ChunkGet handle number) = (refl, refl)

-- Nor is a refusal.
error_shows : (r : RspSetup) (p : Place) (m : List ℕ) (f : Free) (e : ErrorCode) → e ≢ LargeResponse → Shows (error_bytes r p m f e) false
error_shows r p m f InvalidRequest other = (refl, refl)
error_shows r p m f UnexpectedRequest other = (refl, refl)
error_shows r p m f Unspecified other = (refl, refl)
error_shows r p m f DecryptError other = (refl, refl)
error_shows r p m f UnsupportedRequest other = (refl, refl)
error_shows r p m f SessionLimitExceeded other = (refl, refl)
error_shows r p m f SessionRequired other = (refl, refl)
error_shows r p m f ResponseTooLarge other = (refl, refl)
error_shows r p m f RequestTooLarge other = (refl, refl)
error_shows r p m f LargeResponse other = absurd (other refl)
error_shows r p m f VersionMismatch other = (refl, refl)

-- What a request is sent shows it.
module _ (r : RspSetup) (p : Place) (m : List ℕ) (f : Free) where
  request_shows : refusal r p m f ≡ None → Shows (request_reply r p m f) (is_some (handle_in (request_effect r p m f)))
  unfolding answer_bytes
  request_shows none =
      let one = is_request r p m f none in by_size one.0 one.1 (goes_large p (answer_bytes r p m f))
    where
      by_size : (asked : RequestMessage) → request_at p m ≡ Some asked → (b : Bool)
          → Shows (cond b (large_response f.handle) (answer_bytes r p m f)) (is_some (handle_in (effect_of (request_at p m) m (answer_bytes r p m f) (cond b (Some f.handle) None))))
      by_size asked is true =
          let there : true ≡ is_some (handle_in (effect_of (request_at p m) m (answer_bytes r p m f) (Some f.handle))) =
          ap (λ (o : Option RequestMessage). is_some (handle_in (effect_of o m (answer_bytes r p m f) (Some f.handle)))) (sym is) in
          (there, there)
      by_size asked is false =
          let none : false ≡ is_some (handle_in (effect_of (request_at p m) m (answer_bytes r p m f) None)) =
          ap (λ (o : Option RequestMessage). is_some (handle_in (effect_of o m (answer_bytes r p m f) None))) (sym is) in
          let bytes : answer_bytes r p m f ≡ canonical_response (answer_of r p m f asked) = ap (answer_to r p m f) is in
          let known = answer_shows r p m f asked in
          (ap shows_large bytes ∙ known.0 ∙ none, ap (λ (l : List ℕ). shows_large (response_of l)) bytes ∙ known.1 ∙ none)

-- The reply to a message shows whether its answer goes by LargeResponse.
abbrev Tells : Turn → Type 0
Tells t = shows_large (response_of t.reply) ≡ is_some (handle_in t.effect)

module _ (r : RspSetup) (p : Place) (m : List ℕ) (f : Free) where
  carried_tells : (c : ChunkMessage) (whole : List ℕ) (o : Option ErrorCode) → refusal r (inside p) whole f ≡ o → Tells (carried_turn r (inside p) m f c whole o)
  carried_tells c whole (Some e) is = (error_shows r (inside p) whole f e (refusal_other r (inside p) whole f e is)).0
  carried_tells c whole None is = (request_shows r (inside p) whole f is).0

  chunk_tells : (c : ChunkMessage) (whole : List ℕ) (b : Bool) → Tells (cond b (last_chunk_turn r (inside p) m f c whole) (taken_chunk m c NoEffect []))
  chunk_tells c whole true = carried_tells c whole (refusal r (inside p) whole f) refl
  chunk_tells c whole false = refl

  by_tells : (o : Option ErrorCode) (c : Option ChunkMessage) → refusal r p m f ≡ o → Tells (turn_by r p m f o c)
  by_tells (Some e) c is = (error_shows r p m f e (refusal_other r p m f e is)).1
  by_tells None None is = (request_shows r p m f is).1
  by_tells None (Some c) is = chunk_tells c (joined_with (under_way (chunks_of p.turns)) c) c.last

  pub turn_tells : Tells (turn_of r p m f)
  unfolding turn_of
  turn_tells = by_tells (refusal r p m f) (chunk_in (request_at p m)) refl
