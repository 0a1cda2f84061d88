-- Whether a record updates all keys depends on no byte of a large response of its session, nor on whether one is
-- pending.
use Rattle.std.proofs.Common.{◌≡◌, ◌+◌, ◌==◌, ◌&&◌, ◌||◌, ℕ, List, [], ◌∷◌, refl, sym, ap, ◌∙◌, subst, drop, Bool, true, false, Option, Some, None, cond}
use Rattle.std.specs.Option.{option_or}
use Rattle.std.specs.Prelude.{is_none, is_some, nat_lt, not, length, slice_index}
use Rattle.std.proofs.lemmas.Bool.{false≢true}
use Rattle.spdm_basis.specs.Tests.{first_of_tests}
use Rattle.responder_machine.proofs.Codes.{asked-code}
use Rattle.responder_machine.proofs.Tests.{form_shown}
use Rattle.responder_machine.specs.Answer.{Free, answer_bytes, answer_to, request_at}
use Rattle.responder_machine.specs.Handling.{chunk_in, effect_of, goes_large, plain_turn, turn_by, turn_of}
use Rattle.responder_machine.specs.Place.{Place, place_terms, session_place}
use Rattle.responder_machine.specs.Place.Where.{InSession}
use Rattle.responder_machine.specs.Refusal.{are_caps_refused, bytes_round, chunk_fault, code_of, fits_stage, has_no_block, has_pending, is_answer_too_long, is_chunk_in_session, is_exchange_refused, is_get_refused, is_known, is_misplaced, is_offer_refused, is_too_large, is_update_misplaced, is_verify_wrong, lacks_flag, limit_of, needs_session, refusal, refused_contents, refused_form, stage_allows, version_for}
use Rattle.responder_machine.specs.Responder.{data_turn, inner_refusal, session_turn, session_turn_by}
use Rattle.responder_machine.specs.Session.{Events, session_negotiation, stage_of}
use Rattle.responder_machine.specs.Setup.{RspSetup}
use Rattle.responder_machine.specs.Turn.{Turn, updates}
use Rattle.spdm_grammar.specs.Message.{ChunkMessage, RequestMessage}
use Rattle.spdm_grammar.specs.Message.RequestMessage.{GetVersion, GetCapabilities, NegotiateAlgorithms, GetMeasurements, PskExchange, PskFinish, Heartbeat, KeyUpdate, EndSession, ChunkSend, ChunkGet}
use Rattle.spdm_grammar.specs.Message.ResponseMessage.{KeyUpdateAck}
use Rattle.spdm_grammar.specs.Requests.{request_in}
use Rattle.spdm_grammar.specs.Responses.{canonical_response}
use Rattle.spdm_grammar.specs.declared.messages.error_code.ErrorCode.{ErrorCode}
use Rattle.spdm_grammar.specs.declared.messages.error_code.ErrorCode.TheVariants.{InvalidRequest, UnexpectedRequest, DecryptError, UnsupportedRequest, SessionLimitExceeded, SessionRequired, ResponseTooLarge, RequestTooLarge, VersionMismatch}
use Rattle.spdm_grammar.specs.declared.names.request_code.TheConstants.{KEY_UPDATE, PSK_EXCHANGE}
use Rattle.spdm_grammar.specs.declared.told.phase.Stage.{Stage}
use Rattle.spdm_grammar.specs.declared.told.phase.Stage.TheVariants.{Handshake, Open, Verifying}
use Rattle.spdm_machine.specs.Terms.{hash_len, terms_of}
use Rattle.transcript.specs.Transcripts.{Negotiation}
use Rattle.check_late_laws.proofs.Late.SeenAlike.{SeenAlike, negotiation_alike, stage_alike}

-- KEY_UPDATE is allowed by the stage alone.
stage_same : (x : Stage) (a b : Bool) → stage_allows x a KEY_UPDATE ≡ stage_allows x b KEY_UPDATE
stage_same Handshake a b = refl
stage_same Open a b = refl
stage_same Verifying a b = refl

-- The tests of its form, by whether the stage allows it.
abbrev form_by : RspSetup → (m : List ℕ) → (allowed : Bool) → (reads : Bool) → Option ErrorCode
form_by r m allowed reads = first_of_tests (
    (nat_lt (length m) 4, InvalidRequest)
    ∷ (nat_lt (limit_of r InSession) (length m), RequestTooLarge)
    ∷ (not (is_known (code_of m)), UnsupportedRequest)
    ∷ (needs_session InSession (code_of m), SessionRequired)
    ∷ (is_chunk_in_session InSession (code_of m), UnsupportedRequest)
    ∷ (is_misplaced InSession (code_of m), UnexpectedRequest)
    ∷ (not allowed, UnexpectedRequest)
    ∷ (not (slice_index m 0 == version_for (code_of m)), VersionMismatch)
    ∷ (reads, InvalidRequest)
    ∷ [])

abbrev form_with : RspSetup → (m : List ℕ) → (stage : Stage) → (pending : Bool) → (code : ℕ) → (reads : Bool) → Option ErrorCode
form_with r m stage pending code reads = form_by r m (stage_allows stage pending code) reads

-- The tests of its contents.
abbrev contents_with : (m : List ℕ) → Negotiation → (stage : Stage) → (op : ℕ) → (answer : List ℕ) → Option ErrorCode
contents_with m n stage op answer = first_of_tests (
    (lacks_flag (terms_of n) (code_of m), UnsupportedRequest)
    ∷ (false, InvalidRequest)
    ∷ (false, InvalidRequest)
    ∷ (false, InvalidRequest)
    ∷ (false, InvalidRequest)
    ∷ (false, DecryptError)
    ∷ (not (fits_stage stage op), UnexpectedRequest)
    ∷ (false, RequestTooLarge)
    ∷ (false, InvalidRequest)
    ∷ (false, InvalidRequest)
    ∷ (nat_lt (terms_of n).common.to_requester.max (length answer) || (not (terms_of n).common.chunk && nat_lt (terms_of n).common.to_requester.transfer (bytes_round InSession + length answer)), ResponseTooLarge)
    ∷ (code_of m == PSK_EXCHANGE && false, SessionLimitExceeded)
    ∷ [])

-- The tests of KEY_UPDATE in a session.
module _ (r : RspSetup) (s : Events) (m : List ℕ) (f : Free) (op tag : ℕ) (asks : request_at (session_place s) m ≡ Some (KeyUpdate op tag)) where
  abbrev p : Place
  p = session_place s

  form_is : refused_form r p m ≡ form_with r m (stage_of s) false KEY_UPDATE (is_none (request_at p m))
  unfolding refused_form
  form_is =
      let code : KEY_UPDATE ≡ code_of m = asked-code p m (KeyUpdate op tag) asks in
      ap (λ (c : ℕ). form_with r m (stage_of s) (has_pending p) c (is_none (request_at p m))) (sym code)
      ∙ ap (λ (b : Bool). form_by r m b (is_none (request_at p m))) (stage_same (stage_of s) (has_pending p) false)

  bytes : answer_bytes r p m f ≡ canonical_response (KeyUpdateAck op tag)
  unfolding answer_bytes
  bytes = ap (answer_to r p m f) asks

  contents_is : refused_contents r p m f ≡ contents_with m (session_negotiation s) (stage_of s) op (canonical_response (KeyUpdateAck op tag))
  unfolding refused_contents
  contents_is =
      ap (λ (q : Option RequestMessage). first_of_tests (
      (lacks_flag (place_terms p) (code_of m), UnsupportedRequest)
      ∷ (are_caps_refused r q, InvalidRequest)
      ∷ (is_offer_refused r q, InvalidRequest)
      ∷ (has_no_block r q, InvalidRequest)
      ∷ (is_exchange_refused r p q, InvalidRequest)
      ∷ (is_verify_wrong r p m q, DecryptError)
      ∷ (is_update_misplaced p q, UnexpectedRequest)
      ∷ (is_too_large (chunk_fault r p q), RequestTooLarge)
      ∷ (is_some (chunk_fault r p q), InvalidRequest)
      ∷ (is_get_refused p q, InvalidRequest)
      ∷ (is_answer_too_long p (answer_bytes r p m f), ResponseTooLarge)
      ∷ (code_of m == PSK_EXCHANGE && p.past_handshake == 4, SessionLimitExceeded)
      ∷ [])) asks
      ∙ ap (contents_with m (session_negotiation s) (stage_of s) op) bytes

-- Whether a request is KEY_UPDATE of all keys.
abbrev updates_all : Option RequestMessage → Bool
updates_all (Some (KeyUpdate op tag)) = op == 2
updates_all _ = false

abbrev UpdatesNone : Turn → Type 0
UpdatesNone t = updates 2 t ≡ false

module _ (r : RspSetup) (s : Events) (m : List ℕ) (f : Free) where
  abbrev here : Place
  here = session_place s

  -- A request that is none.
  plain_none : (q : Option RequestMessage) → request_at here m ≡ q → updates_all q ≡ false → UpdatesNone (plain_turn r here m f)
  plain_none q is none =
      ap (λ (x : Option RequestMessage). updates 2 (record (plain_turn r here m f) { effect = effect_of x m (answer_bytes r here m f) (cond (goes_large here (answer_bytes r here m f)) (Some f.handle) None) })) is ∙ by_asked q none
    where
      by_asked : (x : Option RequestMessage) → updates_all x ≡ false
          → updates 2 (record (plain_turn r here m f) { effect = effect_of x m (answer_bytes r here m f) (cond (goes_large here (answer_bytes r here m f)) (Some f.handle) None) }) ≡ false
      by_asked None none = refl
      by_asked (Some (KeyUpdate op tag)) none = none
      by_asked (Some GetVersion) none = refl
      by_asked (Some (GetCapabilities caps)) none = refl
      by_asked (Some (NegotiateAlgorithms offer)) none = refl
      by_asked (Some (GetMeasurements op)) none = refl
      by_asked (Some (PskExchange x)) none = refl
      by_asked (Some (PskFinish verify)) none = refl
      by_asked (Some Heartbeat) none = refl
      by_asked (Some EndSession) none = refl
      by_asked (Some (ChunkSend c)) none = refl
      by_asked (Some (ChunkGet handle number)) none = refl

  by_refusal : (x : Option ErrorCode) → (q : Option RequestMessage) → request_at here m ≡ q → updates_all q ≡ false → chunk_in q ≡ None → UpdatesNone (turn_by r here m f x (chunk_in q))
  by_refusal (Some c) q is none whole = refl
  by_refusal None q is none whole = subst (λ (o : Option ChunkMessage). UpdatesNone (turn_by r here m f None o)) (sym whole) (plain_none q is none)

  whole_none : (q : Option RequestMessage) → request_at here m ≡ q → updates_all q ≡ false → chunk_in q ≡ None → UpdatesNone (turn_of r here m f)
  unfolding turn_of
  whole_none q is none whole = ap (λ (x : Option RequestMessage). updates 2 (turn_by r here m f (refusal r here m f) (chunk_in x))) is ∙ by_refusal (refusal r here m f) q is none whole

  -- CHUNK_SEND does not come in a session.
  send_none : (c : ChunkMessage) → request_at here m ≡ Some (ChunkSend c) → UpdatesNone (turn_of r here m f)
  unfolding turn_of
  send_none c asks = by_refused (refusal r here m f) refl
    where
      by_refused : (x : Option ErrorCode) → refusal r here m f ≡ x → updates 2 (turn_by r here m f x (chunk_in (request_at here m))) ≡ false
      by_refused (Some e) is = refl
      by_refused None is =
          let test : is_chunk_in_session InSession (code_of m) ≡ false = form_shown r here m f is 4 in
          absurd (false≢true (sym test ∙ ap (is_chunk_in_session InSession) (sym (asked-code here m (ChunkSend c) asks))))

  none_by : (q : Option RequestMessage) → request_at here m ≡ q → updates_all q ≡ false → UpdatesNone (turn_of r here m f)
  none_by (Some (ChunkSend c)) is none = send_none c is
  none_by None is none = whole_none None is none refl
  none_by (Some (KeyUpdate op tag)) is none = whole_none (Some (KeyUpdate op tag)) is none refl
  none_by (Some GetVersion) is none = whole_none (Some GetVersion) is none refl
  none_by (Some (GetCapabilities caps)) is none = whole_none (Some (GetCapabilities caps)) is none refl
  none_by (Some (NegotiateAlgorithms offer)) is none = whole_none (Some (NegotiateAlgorithms offer)) is none refl
  none_by (Some (GetMeasurements op)) is none = whole_none (Some (GetMeasurements op)) is none refl
  none_by (Some (PskExchange x)) is none = whole_none (Some (PskExchange x)) is none refl
  none_by (Some (PskFinish verify)) is none = whole_none (Some (PskFinish verify)) is none refl
  none_by (Some Heartbeat) is none = whole_none (Some Heartbeat) is none refl
  none_by (Some EndSession) is none = whole_none (Some EndSession) is none refl
  none_by (Some (ChunkGet handle number)) is none = whole_none (Some (ChunkGet handle number)) is none refl

  -- KEY_UPDATE, where it is not refused.
  update_is : (op tag : ℕ) → request_at here m ≡ Some (KeyUpdate op tag) → updates 2 (turn_of r here m f) ≡ (is_none (refusal r here m f) && op == 2)
  unfolding turn_of
  update_is op tag asks =
      ap (λ (x : Option RequestMessage). updates 2 (turn_by r here m f (refusal r here m f) (chunk_in x))) asks ∙ by_refused (refusal r here m f)
    where
      by_refused : (x : Option ErrorCode) → updates 2 (turn_by r here m f x None) ≡ (is_none x && op == 2)
      by_refused (Some e) = refl
      by_refused None = ap (λ (x : Option RequestMessage). updates 2 (record (plain_turn r here m f) { effect = effect_of x m (answer_bytes r here m f) (cond (goes_large here (answer_bytes r here m f)) (Some f.handle) None) })) asks

module _ (r : RspSetup) (s u : Events) (e : SeenAlike s u) (f : Free) where
  refusal_same : (m : List ℕ) (op tag : ℕ) → request_at (session_place s) m ≡ Some (KeyUpdate op tag) → request_at (session_place s) m ≡ request_at (session_place u) m → refusal r (session_place s) m f ≡ refusal r (session_place u) m f
  unfolding refusal
  refusal_same m op tag asks reads =
      let there : request_at (session_place u) m ≡ Some (KeyUpdate op tag) = sym reads ∙ asks in
      let ack : List ℕ = canonical_response (KeyUpdateAck op tag) in
      ap (λ (x : Option ErrorCode). option_or x (refused_contents r (session_place s) m f))
      (form_is r s m f op tag asks ∙ ap (λ (x : Stage). form_with r m x false KEY_UPDATE (is_none (request_at (session_place s) m))) (stage_alike s u e)
      ∙ ap (λ (q : Option RequestMessage). form_with r m (stage_of u) false KEY_UPDATE (is_none q)) reads ∙ sym (form_is r u m f op tag there))
      ∙ ap (option_or (refused_form r (session_place u) m))
      (contents_is r s m f op tag asks ∙ ap (λ (n : Negotiation). contents_with m n (stage_of s) op ack) (negotiation_alike s u e)
      ∙ ap (λ (x : Stage). contents_with m (session_negotiation u) x op ack) (stage_alike s u e) ∙ sym (contents_is r u m f op tag there))

  message_updates : (m : List ℕ) → updates 2 (turn_of r (session_place s) m f) ≡ updates 2 (turn_of r (session_place u) m f)
  message_updates m = by_asked (request_at (session_place s) m) refl
    where
      reads : request_at (session_place s) m ≡ request_at (session_place u) m
      reads = ap (λ (n : Negotiation). request_in (hash_len (terms_of n)) m) (negotiation_alike s u e)

      none : (q : Option RequestMessage) → request_at (session_place s) m ≡ q → updates_all q ≡ false → updates 2 (turn_of r (session_place s) m f) ≡ updates 2 (turn_of r (session_place u) m f)
      none q is idle = none_by r s m f q is idle ∙ sym (none_by r u m f q (sym reads ∙ is) idle)

      by_asked : (q : Option RequestMessage) → request_at (session_place s) m ≡ q → updates 2 (turn_of r (session_place s) m f) ≡ updates 2 (turn_of r (session_place u) m f)
      by_asked (Some (KeyUpdate op tag)) is =
          update_is r s m f op tag is ∙ ap (λ (x : Option ErrorCode). is_none x && op == 2) (refusal_same m op tag is reads) ∙ sym (update_is r u m f op tag (sym reads ∙ is))
      by_asked None is = none None is refl
      by_asked (Some GetVersion) is = none (Some GetVersion) is refl
      by_asked (Some (GetCapabilities caps)) is = none (Some (GetCapabilities caps)) is refl
      by_asked (Some (NegotiateAlgorithms offer)) is = none (Some (NegotiateAlgorithms offer)) is refl
      by_asked (Some (GetMeasurements op)) is = none (Some (GetMeasurements op)) is refl
      by_asked (Some (PskExchange x)) is = none (Some (PskExchange x)) is refl
      by_asked (Some (PskFinish verify)) is = none (Some (PskFinish verify)) is refl
      by_asked (Some Heartbeat) is = none (Some Heartbeat) is refl
      by_asked (Some EndSession) is = none (Some EndSession) is refl
      by_asked (Some (ChunkSend c)) is = none (Some (ChunkSend c)) is refl
      by_asked (Some (ChunkGet handle number)) is = none (Some (ChunkGet handle number)) is refl

  inner_updates : (inner : List ℕ) (x : Option ErrorCode) → updates 2 (session_turn_by r s inner f x) ≡ updates 2 (session_turn_by r u inner f x)
  inner_updates inner (Some c) = refl
  inner_updates inner None = by_type (slice_index inner 0 == 5)
    where
      by_type : (b : Bool) → updates 2 (cond b (turn_of r (session_place s) (drop 1 inner) f) (data_turn f (drop 1 inner))) ≡ updates 2 (cond b (turn_of r (session_place u) (drop 1 inner) f) (data_turn f (drop 1 inner)))
      by_type true = message_updates (drop 1 inner)
      by_type false = refl

  pub updates_alike : (inner : List ℕ) → updates 2 (session_turn r s inner f) ≡ updates 2 (session_turn r u inner f)
  unfolding session_turn
  updates_alike inner = inner_updates inner (inner_refusal (stage_of s) inner) ∙ ap (λ (x : Stage). updates 2 (session_turn_by r u inner f (inner_refusal x inner))) (stage_alike s u e)
