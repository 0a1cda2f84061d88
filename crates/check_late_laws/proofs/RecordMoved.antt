-- What a record leads to in two sessions that differ only in the bytes of the large response that is pending there.
use Rattle.std.proofs.Common.{◌≡◌, ◌≢◌, ◌==◌, ◌&&◌, ◌||◌, ℕ, List, [], ◌∷◌, refl, sym, ap, ◌∙◌, drop, length, Bool, true, false, Option, Some, None, cond}
use Rattle.std.specs.Prelude.{not, nat_lt, slice_index}
use Rattle.std.proofs.lemmas.Bool.{false≢true}
use Rattle.responder_machine.proofs.Codes.{asked-code}
use Rattle.responder_machine.proofs.Tests.{form_shown}
use Rattle.responder_machine.specs.Answer.{Free, answer_bytes, answer_of, answer_to, chunk_answer, request_at}
use Rattle.responder_machine.specs.Handling.{chunk_in, turn_of}
use Rattle.responder_machine.specs.History.{Entry}
use Rattle.responder_machine.specs.LargeMessages.{given_of}
use Rattle.responder_machine.specs.History.Entry.{Sealed}
use Rattle.responder_machine.specs.Place.{Place, session_place}
use Rattle.responder_machine.specs.Records.{opened, opening_fault, reply_record}
use Rattle.responder_machine.specs.Refusal.{code_of, has_pending, refusal}
use Rattle.responder_machine.specs.Responder.{Outcome, data_turn, in_session, in_session_by, inner_refusal, inner_reply, is_open, kept_record, repeats, session_turn, session_turn_by, to_session}
use Rattle.responder_machine.specs.Responder.Outcome.{Same, Adds}
use Rattle.responder_machine.specs.Session.{Events, last_of, stage_of, turns_of}
use Rattle.responder_machine.specs.Session.Event.{Heard}
use Rattle.responder_machine.specs.Setup.{RspSetup}
use Rattle.responder_machine.specs.Turn.{Turn, takes}
use Rattle.spdm_basis.specs.declared.causes.record_fault.RecordFault.{RecordFault}
use Rattle.spdm_grammar.specs.Message.{ChunkMessage, RequestMessage}
use Rattle.spdm_grammar.specs.Message.RequestMessage.{GetVersion, GetCapabilities, NegotiateAlgorithms, GetMeasurements, PskExchange, PskFinish, Heartbeat, KeyUpdate, EndSession, ChunkSend, ChunkGet}
use Rattle.spdm_grammar.specs.Responses.{canonical_response}
use Rattle.spdm_grammar.specs.declared.messages.error_code.ErrorCode.{ErrorCode}
use Rattle.spdm_grammar.specs.declared.messages.error_code.ErrorCode.TheVariants.{InvalidRequest, RequestTooLarge, ResponseTooLarge, UnexpectedRequest}
use Rattle.spdm_grammar.specs.declared.names.request_code.TheConstants.{CHUNK_GET, CHUNK_SEND}
use Rattle.spdm_grammar.specs.declared.told.phase.Phase.{Phase}
use Rattle.spdm_grammar.specs.declared.told.phase.Stage.{Stage}
use Rattle.spdm_machine.specs.Bodies.{record_body}
use Rattle.transcript.specs.Transcripts.{Negotiation}
use Rattle.capture_machine.proofs.EventsAlike.{EventsAlike, answer_alike, answered, exchange_alike, fault_alike, finish_alike, finish_answer_alike, last_alike, negotiation_alike, opened_alike, response_epoch_alike, response_number_alike, stage_alike}
use Rattle.capture_machine.proofs.EventsAlike.EventsAlike.{NoEvent, Behind, Here}
use Rattle.capture_machine.proofs.TurnsAlike.{chunk_is}
use Rattle.capture_machine.specs.LargeAnswers.{takes_get}
use Rattle.capture_machine.specs.Rounds.{no_draw}
use Rattle.check_late_laws.proofs.SessionMoved.{got_next, near}
use Rattle.check_late_laws.proofs.TurnsMoved.{tests_short}
use Rattle.check_late_laws.proofs.TurnsSame.{error_moved, extended_none, got_moved, refused_same, turn_moved}

-- ---- The turn of the inner message.

-- The chunk that is given there next is the same in both.
abbrev pub ChunkSame : Events → Events → Type 0
ChunkSame s u = (handle : ℕ) → chunk_answer (session_place s) handle (given_of (turns_of s)) ≡ chunk_answer (session_place u) handle (given_of (turns_of s))

module _ (r : RspSetup) (s u : Events) (a : EventsAlike s u) (pending : has_pending (session_place s) ≡ has_pending (session_place u)) (m : List ℕ) (f : Free) (chunk : takes CHUNK_GET (turn_of r (session_place s) m f) ≡ true → ChunkSame s u) where
  abbrev p : Place
  p = session_place s

  abbrev o : Place
  o = session_place u

  -- Nothing is sent in chunks there.
  none_sent : (d : ChunkMessage) → refusal r (session_place s) m f ≡ None → chunk_in (request_at (session_place s) m) ≡ Some d → ⊥
  none_sent d none is =
      let code : code_of m ≡ CHUNK_SEND = sym (asked-code (session_place s) m (ChunkSend d) (chunk_is (request_at (session_place s) m) d is)) in
      false≢true (sym (form_shown r (session_place s) m f none 4) ∙ ap (λ (n : ℕ). n == CHUNK_SEND) code)

  whole_answer : (q : Option RequestMessage) → request_at (session_place s) m ≡ q → answer_to r (session_place s) m f q ≡ answer_to r (session_place u) m f q → turn_of r (session_place s) m f ≡ turn_of r (session_place u) m f
  unfolding answer_bytes
  whole_answer q is same =
      let asked = (near r s u a m pending).asked in
      turn_moved r (session_place s) (session_place u) m f f (near r s u a m pending)
      (ap (answer_to r (session_place s) m f) is ∙ same ∙ ap (answer_to r (session_place u) m f) (sym is ∙ asked)) refl none_sent

  turn_by_kind : (q : Option RequestMessage) → request_at (session_place s) m ≡ q → turn_of r (session_place s) m f ≡ turn_of r (session_place u) m f
  turn_by_kind (Some (ChunkGet handle number)) is = got_moved r (session_place s) (session_place u) m f f (near r s u a m pending) handle number is refl (got_next r (session_place s) (session_place u) m f chunk handle number is)
  turn_by_kind (Some (PskExchange x)) is =
      whole_answer (Some (PskExchange x)) is (ap (λ (n : Negotiation). canonical_response (answer_of r (record (session_place s) { negotiation = n }) m f (PskExchange x))) (negotiation_alike s u a))
  turn_by_kind None is = whole_answer None is refl
  turn_by_kind (Some GetVersion) is = whole_answer (Some GetVersion) is refl
  turn_by_kind (Some (GetCapabilities caps)) is = whole_answer (Some (GetCapabilities caps)) is refl
  turn_by_kind (Some (NegotiateAlgorithms offer)) is = whole_answer (Some (NegotiateAlgorithms offer)) is refl
  turn_by_kind (Some (GetMeasurements op)) is = whole_answer (Some (GetMeasurements op)) is refl
  turn_by_kind (Some (PskFinish verify)) is = whole_answer (Some (PskFinish verify)) is refl
  turn_by_kind (Some Heartbeat) is = whole_answer (Some Heartbeat) is refl
  turn_by_kind (Some (KeyUpdate op tag)) is = whole_answer (Some (KeyUpdate op tag)) is refl
  turn_by_kind (Some EndSession) is = whole_answer (Some EndSession) is refl
  turn_by_kind (Some (ChunkSend c)) is = whole_answer (Some (ChunkSend c)) is refl

  pub turn_in_session : turn_of r (session_place s) m f ≡ turn_of r (session_place u) m f
  turn_in_session = turn_by_kind (request_at (session_place s) m) refl

abbrev inner_tests : Stage → List ℕ → List (Bool × ErrorCode)
inner_tests stage inner =
    (length inner == 0, InvalidRequest)
    ∷ (not (slice_index inner 0 == 5 || slice_index inner 0 == 1), InvalidRequest)
    ∷ (slice_index inner 0 == 1 && not (is_open stage), UnexpectedRequest)
    ∷ (slice_index inner 0 == 1 && nat_lt 1025 (length inner), RequestTooLarge)
    ∷ []

module _ (r : RspSetup) (s u : Events) (a : EventsAlike s u) (pending : has_pending (session_place s) ≡ has_pending (session_place u)) (inner : List ℕ) (f : Free) where
  by_inner : (x : Option ErrorCode) → inner_refusal (stage_of s) inner ≡ x → (takes CHUNK_GET (session_turn_by r s inner f x) ≡ true → ChunkSame s u) → session_turn_by r s inner f x ≡ session_turn_by r u inner f x
  by_inner (Some e) is chunk =
      let other : e ≢ ResponseTooLarge = tests_short (inner_tests (stage_of s) inner) refl e is in
      refused_same r (session_place s) (session_place u) (drop 1 inner) f f e (error_moved r (session_place s) (session_place u) (drop 1 inner) f f e refl (extended_none e (answer_bytes r (session_place s) (drop 1 inner) f) (answer_bytes r (session_place u) (drop 1 inner) f) other))
  by_inner None is chunk = by_type (slice_index inner 0 == 5) chunk
    where
      by_type : (b : Bool) → (takes CHUNK_GET (cond b (turn_of r (session_place s) (drop 1 inner) f) (data_turn f (drop 1 inner))) ≡ true → ChunkSame s u)
          → cond b (turn_of r (session_place s) (drop 1 inner) f) (data_turn f (drop 1 inner)) ≡ cond b (turn_of r (session_place u) (drop 1 inner) f) (data_turn f (drop 1 inner))
      by_type true chunk = turn_in_session r s u a pending (drop 1 inner) f chunk
      by_type false chunk = refl

  pub session_turn_moved : (takes CHUNK_GET (session_turn r s inner f) ≡ true → ChunkSame s u) → session_turn r s inner f ≡ session_turn r u inner f
  unfolding session_turn
  session_turn_moved chunk = by_inner (inner_refusal (stage_of s) inner) refl chunk ∙ ap (λ (x : Stage). session_turn_by r u inner f (inner_refusal x inner)) (stage_alike s u a)

-- ---- The record.

reply_same : (psk : List ℕ) (s u : Events) (t : Turn) (text pad : List ℕ) → EventsAlike s u → reply_record psk s t text pad ≡ reply_record psk u t text pad
unfolding reply_record
reply_same psk s u t text pad a =
    let negotiation = negotiation_alike s u a in
    let exchange = exchange_alike s u a in
    let answer = answer_alike s u a in
    let stage = stage_alike s u a in
    let epoch = response_epoch_alike s u a in
    let number = response_number_alike s u a in
    let finish = finish_alike s u a in
    let finished = finish_answer_alike s u a in
    cc

module _ (r : RspSetup) (phase : Phase) (f : Free) (tag : ℕ) (sealed : List ℕ) where
  -- Where an outcome gives a chunk, it is the same in both.
  abbrev pub GivesSame : Events → Events → Outcome → Type 0
  GivesSame s u o = (e : Entry) → o ≡ Adds e → takes_get e ≡ true → ChunkSame s u

  in_by : (s u : Events) (x : Option RecordFault) → EventsAlike s u → has_pending (session_place s) ≡ has_pending (session_place u) → GivesSame s u (in_session_by r phase s f tag sealed no_draw x)
      → in_session_by r phase s f tag sealed no_draw x ≡ in_session_by r phase u f tag sealed no_draw x
  in_by s u (Some fault) a pending gives = refl
  in_by s u None a pending gives =
      let text : List ℕ = opened r.psk s sealed in
      let turn : session_turn r s text f ≡ session_turn r u text f = session_turn_moved r s u a pending text f (λ takes_it. gives (Sealed tag sealed (session_turn r s text f) (reply_record r.psk s (session_turn r s text f) (inner_reply (session_turn r s text f)) f.pad) no_draw) refl takes_it) in
      ap (λ (l : List ℕ). Adds (Sealed tag sealed (session_turn r s text f) l no_draw)) (reply_same r.psk s u (session_turn r s text f) (inner_reply (session_turn r s text f)) f.pad a)
      ∙ ap (λ (t : Turn). Adds (Sealed tag sealed t (reply_record r.psk u t (inner_reply t) f.pad) no_draw)) turn
      ∙ ap (λ (l : List ℕ). Adds (Sealed tag sealed (session_turn r u l f) (reply_record r.psk u (session_turn r u l f) (inner_reply (session_turn r u l f)) f.pad) no_draw)) (opened_alike r.psk s u sealed a)

  in_same : (s u : Events) → EventsAlike s u → has_pending (session_place s) ≡ has_pending (session_place u) → GivesSame s u (in_session r phase s f tag sealed no_draw) → in_session r phase s f tag sealed no_draw ≡ in_session r phase u f tag sealed no_draw
  unfolding in_session
  in_same s u a pending gives =
      in_by s u (opening_fault r.psk s sealed) a pending gives ∙ ap (in_session_by r phase u f tag sealed no_draw) (fault_alike r.psk s u sealed a)

  abbrev live_to : Events → Bool → Outcome
  live_to s b = cond b (Same (record_body (kept_record (last_of s)))) (in_session r phase s f tag sealed no_draw)

  live_by : (s u : Events) (b : Bool) → EventsAlike s u → has_pending (session_place s) ≡ has_pending (session_place u) → GivesSame s u (live_to s b) → live_to s b ≡ live_to u b
  live_by s u true a pending gives = ap (λ k. Same (record_body (kept_record k))) (last_alike s u a)
  live_by s u false a pending gives = in_same s u a pending gives

  live_same : (s u : Events) → EventsAlike s u → has_pending (session_place s) ≡ has_pending (session_place u) → GivesSame s u (live_to s (repeats (last_of s) sealed)) → live_to s (repeats (last_of s) sealed) ≡ live_to u (repeats (last_of u) sealed)
  live_same s u a pending gives = live_by s u (repeats (last_of s) sealed) a pending gives ∙ ap (λ k. live_to u (repeats k sealed)) (last_alike s u a)

  pub to_session_moved : (s u : Events) → EventsAlike s u → has_pending (session_place s) ≡ has_pending (session_place u) → GivesSame s u (to_session r phase s f tag sealed no_draw) → to_session r phase s f tag sealed no_draw ≡ to_session r phase u f tag sealed no_draw
  to_session_moved _ _ NoEvent pending gives = refl
  to_session_moved _ _ (Behind e s u a) pending gives = live_same (e ∷ s) (e ∷ u) (Behind e s u a) pending gives
  to_session_moved _ _ (Here n t x k large w v reply s u not a) pending gives =
      live_same (Heard n (answered t x k large w) reply ∷ s) (Heard n (answered t x k large v) reply ∷ u) (Here n t x k large w v reply s u not a) pending gives
