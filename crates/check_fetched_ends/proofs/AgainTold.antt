-- Where the last record of a session and its reply are read again, and the reply is LargeResponse, the answer to that record was
-- not seen.
use Rattle.std.proofs.Common.{◌≡◌, ◌≤◌, ◌+◌, ◌-◌, ◌==◌, ◌&&◌, ◌||◌, ◌∙◌, ℕ, List, [], ◌∷◌, refl, sym, ap, subst, drop, length, arith, Bool, true, false, Option, Some, None, is_none, is_some, cond, eqb-true, inl, inr}
use Rattle.std.specs.Prelude.{nat_lt, not, slice_index, bytes_eq}
use Rattle.std.proofs.lemmas.Bool.{and_parts, false≢true}
use Rattle.std.proofs.lemmas.Option.{none-some}
use Rattle.std.proofs.lemmas.Slice.Eq.{bytes_eq-Decides}
use Rattle.check_responder.proofs.LargeReplies.{turn_tells}
use Rattle.check_responder.specs.JudgedResponder.{shows_large}
use Rattle.check_responder.specs.RecordAnswers.{has_large}
use Rattle.check_laws.specs.DropsShown.{response_of}
use Rattle.responder_core.proofs.Whole.{no_data}
use Rattle.check_fetched_ends.proofs.AgainReads.{reply_opens}
use Rattle.check_fetched_laws.proofs.NewestStands.{NewestIs}
use Rattle.check_late_laws.proofs.Late.SeenAlike.{stage_alike}
use Rattle.check_late_laws.proofs.Late.SeenMeasures.{reply_alike}
use Rattle.check_fetched_ends.specs.AgainRead.{IsLargeAgain, holds_large}
use Rattle.key_schedule.specs.Purpose.{Purpose, iv_of, key_of}
use Rattle.key_schedule.specs.declared.direction.Direction.TheVariants.{Response}
use Rattle.responder_machine.proofs.Codes.{asked-code}
use Rattle.responder_machine.proofs.Tests.{form_shown}
use Rattle.responder_machine.specs.Answer.{Free, answer_bytes, request_at}
use Rattle.responder_machine.specs.Handling.{chunk_in, effect_of, turn_by, turn_of}
use Rattle.responder_machine.specs.History.{History}
use Rattle.responder_machine.specs.Place.{Place, session_place}
use Rattle.responder_machine.specs.Records.{opened, reply_number, reply_purpose, reply_record, response_purpose}
use Rattle.responder_machine.specs.Refusal.{has_pending, refusal, stage_allows}
use Rattle.responder_machine.specs.Responder.{data_turn, inner_refusal, inner_reply, is_open, session_turn, session_turn_by}
use Rattle.responder_machine.specs.Session.{Events, exchange_answer, exchange_of, finish_answer, finish_of, id_bytes, id_in_record, request_next, response_epoch, response_next, session_of, session_terms, session_vca, stage_of, t1_of}
use Rattle.responder_machine.specs.Session.Event.{Heard}
use Rattle.responder_machine.specs.Setup.{RspSetup}
use Rattle.responder_machine.specs.Turn.{Effect, Turn, answer_in, code_in, handle_in, request_in, takes, updates}
use Rattle.responder_machine.specs.Turn.Effect.{NoEffect, Took, TookData}
use Rattle.responder_session.specs.LastRead.{opens_last, opens_reply, reads_last, reply_opened}
use Rattle.secured_record.specs.Faults.{fault_behind, fault_of, header_fault}
use Rattle.session_keys.proofs.Purposes.{header_fits}
use Rattle.spdm_basis.specs.declared.causes.record_fault.RecordFault.{RecordFault}
use Rattle.spdm_grammar.specs.Message.{ChunkMessage, RequestMessage}
use Rattle.spdm_grammar.specs.Message.RequestMessage.{GetVersion, GetCapabilities, NegotiateAlgorithms, GetMeasurements, PskExchange, PskFinish, Heartbeat, KeyUpdate, EndSession, ChunkSend, ChunkGet}
use Rattle.spdm_grammar.specs.declared.messages.choice.Choice.{Choice}
use Rattle.spdm_grammar.specs.declared.messages.error_code.ErrorCode.{ErrorCode}
use Rattle.spdm_grammar.specs.declared.messages.error_code.ErrorCode.TheVariants.{InvalidRequest, RequestTooLarge, UnexpectedRequest}
use Rattle.spdm_grammar.specs.declared.names.error_number.TheConstants.{LARGE_RESPONSE}
use Rattle.spdm_grammar.specs.declared.names.request_code.TheConstants.{KEY_UPDATE, PSK_FINISH}
use Rattle.spdm_grammar.specs.declared.names.response_code.TheConstants.{CHUNK_SEND_ACK, ERROR}
use Rattle.spdm_grammar.specs.declared.told.phase.Stage.{Stage}
use Rattle.spdm_grammar.specs.declared.told.phase.Stage.TheVariants.{Handshake, Open, Verifying}
use Rattle.spdm_machine.specs.Keys.{inner_message, record_fault}
use Rattle.spdm_machine.specs.Sessions.{is_past_handshake, purpose_in}
use Rattle.transcript.specs.Transcripts as transcript
use Rattle.capture_machine.proofs.RepliesTell.{no_chunk}
use Rattle.capture_machine.proofs.TurnsAlike.{chunk_is}
use Rattle.capture_machine.specs.LargeAnswers.{effect_with, is_unseen_effect}

-- ---- KEY_UPDATE is taken past the handshake.

update_stage : (stage : Stage) (pending : Bool) → not (stage_allows stage pending KEY_UPDATE) ≡ false → is_past_handshake stage ≡ true
update_stage Handshake pending h = absurd (false≢true (sym h))
update_stage Open pending h = refl
update_stage Verifying pending h = refl

module _ (r : RspSetup) (s : Events) (inner : List ℕ) (f : Free) where
  abbrev p : Place
  p = session_place s

  abbrev m : List ℕ
  m = drop 1 inner

  past_request : (q : Option RequestMessage) (answer : List ℕ) (large : Option ℕ) → refusal r p m f ≡ None → request_at p m ≡ q → (code_in (effect_of q m answer large) == KEY_UPDATE) ≡ true → is_past_handshake (stage_of s) ≡ true
  past_request None answer large none is update = absurd (false≢true update)
  past_request (Some (KeyUpdate op tag)) answer large none is update =
      update_stage (stage_of s) (has_pending p) (subst (λ (c : ℕ). not (stage_allows (stage_of s) (has_pending p) c) ≡ false) (sym (asked-code p m (KeyUpdate op tag) is)) (form_shown r p m f none 6))
  past_request (Some GetVersion) answer large none is update = absurd (false≢true update)
  past_request (Some (GetCapabilities caps)) answer large none is update = absurd (false≢true update)
  past_request (Some (NegotiateAlgorithms offer)) answer large none is update = absurd (false≢true update)
  past_request (Some (GetMeasurements op)) answer large none is update = absurd (false≢true update)
  past_request (Some (PskExchange x)) answer large none is update = absurd (false≢true update)
  past_request (Some (PskFinish verify)) answer large none is update = absurd (false≢true update)
  past_request (Some Heartbeat) answer large none is update = absurd (false≢true update)
  past_request (Some EndSession) answer large none is update = absurd (false≢true update)
  past_request (Some (ChunkSend c)) answer large none is update = absurd (false≢true update)
  past_request (Some (ChunkGet handle number)) answer large none is update = absurd (false≢true update)

  past_turn : (o : Option ErrorCode) (c : Option ChunkMessage) → refusal r p m f ≡ o → chunk_in (request_at p m) ≡ c → takes KEY_UPDATE (turn_by r p m f o c) ≡ true → is_past_handshake (stage_of s) ≡ true
  past_turn (Some e) c is asks update = absurd (false≢true update)
  past_turn None None is asks update = past_request (request_at p m) (answer_bytes r p m f) _ is refl update
  past_turn None (Some c) is asks update = absurd (no_chunk r s m f c (chunk_is (request_at p m) c asks) is)

  past_message : (b : Bool) → takes KEY_UPDATE (cond b (turn_of r p m f) (data_turn f m)) ≡ true → is_past_handshake (stage_of s) ≡ true
  unfolding turn_of
  past_message true update = past_turn (refusal r p m f) (chunk_in (request_at p m)) refl refl update
  past_message false update = absurd (false≢true update)

  past_inner : (o : Option ErrorCode) → takes KEY_UPDATE (session_turn_by r s inner f o) ≡ true → is_past_handshake (stage_of s) ≡ true
  past_inner (Some e) update = absurd (false≢true update)
  past_inner None update = past_message (slice_index inner 0 == 5) update

  past_update : takes KEY_UPDATE (session_turn r s inner f) ≡ true → is_past_handshake (stage_of s) ≡ true
  unfolding session_turn
  past_update update = past_inner (inner_refusal (stage_of s) inner) update

  -- ---- The reply of a turn holds LargeResponse where its answer goes so.

  abbrev Told : Turn → Type 0
  Told t = is_some (handle_in t.effect) ≡ has_large (inner_reply t)

  spdm_told : Told (turn_of r p m f)
  spdm_told = sym (turn_tells r p m f) ∙ ap (λ (b : Bool). has_large (cond b 1 5 ∷ (turn_of r p m f).reply)) (sym (no_data r p m f))

  by_type : (b : Bool) → Told (cond b (turn_of r p m f) (data_turn f m))
  by_type true = spdm_told
  by_type false = refl

  by_tests : (a b c d : Bool) → Told (session_turn_by r s inner f (cond a (Some InvalidRequest) (cond b (Some InvalidRequest) (cond c (Some UnexpectedRequest) (cond d (Some RequestTooLarge) None)))))
  by_tests true b c d = refl
  by_tests false true c d = refl
  by_tests false false true d = refl
  by_tests false false false true = refl
  by_tests false false false false = by_type (slice_index inner 0 == 5)

  turn_told : Told (session_turn r s inner f)
  unfolding session_turn
  turn_told =
      by_tests (length inner == 0) (not (slice_index inner 0 == 5 || slice_index inner 0 == 1)) (slice_index inner 0 == 1 && not (is_open (stage_of s))) (slice_index inner 0 == 1 && nat_lt 1025 (length inner))

holds_has : (inner : List ℕ) → holds_large inner ≡ true → has_large inner ≡ true
holds_has inner holds =
    let first = and_parts (slice_index inner 0 == 5) _ holds in
    let second = and_parts (slice_index inner 2 == ERROR) (slice_index inner 3 == LARGE_RESPONSE) first.1 in
    let code : slice_index (drop 1 inner) 1 ≡ ERROR = at_one inner ∙ eqb-true (slice_index inner 2) ERROR second.0 in
    let plain : response_of (drop 1 inner) ≡ drop 1 inner = ap (λ (n : ℕ). cond (n == CHUNK_SEND_ACK) (drop 6 (drop 1 inner)) (drop 1 inner)) code in
    ap (λ (b : Bool). b && shows_large (response_of (drop 1 inner))) first.0 ∙ ap shows_large plain
    ∙ ap (λ (n : ℕ). n == ERROR && slice_index (drop 1 inner) 2 == LARGE_RESPONSE) code ∙ ap (λ (n : ℕ). n == LARGE_RESPONSE) (at_two inner) ∙ second.1
  where
    at_one : (l : List ℕ) → slice_index (drop 1 l) 1 ≡ slice_index l 2
    at_one [] = refl
    at_one (x ∷ l) = refl

    at_two : (l : List ℕ) → slice_index (drop 1 l) 2 ≡ slice_index l 3
    at_two [] = refl
    at_two (x ∷ l) = refl

-- ---- A record that opens is no longer than a record may be.

no_header : (x : Option RecordFault) (key iv : List ℕ) (number : ℕ) (sealed : List ℕ) → fault_behind x key iv number sealed ≡ None → x ≡ None
no_header None key iv number sealed none = refl
no_header (Some fault) key iv number sealed none = absurd (none-some fault (sym none))

opens_short : (choice : Choice) (p : Purpose) (number : ℕ) (id sealed : List ℕ) → record_fault choice p number id sealed ≡ None → length sealed ≤ 4160
unfolding record_fault fault_of
opens_short choice p number id sealed none =
    header_fits id number sealed (no_header (header_fault id number sealed) (key_of choice.hash choice.aead p) (iv_of choice.hash p) number sealed none)

-- ---- The keys behind it.

few_next : (a b c : Bool) (n : ℕ) → not (cond (a || b || c) 0 n == 0) ≡ true → (a ≡ false) × (b ≡ false) × (c ≡ false)
few_next true b c n is = absurd (false≢true is)
few_next false true b n is = absurd (false≢true is)
few_next false false true n is = absurd (false≢true is)
few_next false false false n is = (refl, refl, refl)

-- What updates keys is KEY_UPDATE.
no_update : (n : ℕ) (x : Effect) (t : Turn) → (code_in x == KEY_UPDATE) ≡ false → updates n (record t { effect = x }) ≡ false
no_update n NoEffect t other = refl
no_update n (TookData bytes answer) t other = refl
no_update n (Took (KeyUpdate op tag) m answer large) t other = absurd (false≢true (sym other))
no_update n (Took GetVersion m answer large) t other = refl
no_update n (Took (GetCapabilities caps) m answer large) t other = refl
no_update n (Took (NegotiateAlgorithms offer) m answer large) t other = refl
no_update n (Took (GetMeasurements op) m answer large) t other = refl
no_update n (Took (PskExchange x) m answer large) t other = refl
no_update n (Took (PskFinish verify) m answer large) t other = refl
no_update n (Took Heartbeat m answer large) t other = refl
no_update n (Took EndSession m answer large) t other = refl
no_update n (Took (ChunkSend c) m answer large) t other = refl
no_update n (Took (ChunkGet handle number) m answer large) t other = refl

module _ (psk : List ℕ) (o : Events) (m : List ℕ) (t : Turn) (reply : List ℕ) (finish : takes PSK_FINISH t ≡ false) (all : updates 2 t ≡ false) (past : takes KEY_UPDATE t ≡ true → is_past_handshake (stage_of o) ≡ true) where
  abbrev behind : Events
  behind = Heard m t reply ∷ o

  abbrev purpose : (fin two : Bool) → Stage → Purpose
  purpose fin two stage =
      purpose_in stage psk (t1_of o) (transcript.t2_of (session_vca o) (exchange_of o) (exchange_answer o) (cond fin (request_in t.effect) (finish_of o)) (cond fin (answer_in t.effect) (finish_answer o))) Response
      (cond two (response_epoch o + 1) (response_epoch o))

  stage_either : (x : Stage) (three update : Bool) → (update ≡ false → three ≡ false) → (update ≡ true → is_past_handshake x ≡ true) → purpose false false (cond three Open (cond update Verifying x)) ≡ purpose false false x
  stage_either x three false none after = ap (λ (b : Bool). purpose false false (cond b Open x)) (none refl)
  stage_either x true true none after = later x (after refl)
    where
      later : (x : Stage) → is_past_handshake x ≡ true → purpose false false Open ≡ purpose false false x
      later Handshake is = absurd (false≢true is)
      later Open is = refl
      later Verifying is = refl
  stage_either x false true none after = later x (after refl)
    where
      later : (x : Stage) → is_past_handshake x ≡ true → purpose false false Verifying ≡ purpose false false x
      later Handshake is = absurd (false≢true is)
      later Open is = refl
      later Verifying is = refl

  pub purpose_same : response_purpose psk behind ≡ response_purpose psk o
  purpose_same =
      ap (λ (b : Bool). purpose b (updates 2 t) (stage_of behind)) finish ∙ ap (λ (b : Bool). purpose false b (stage_of behind)) all
      ∙ ap (λ (b : Bool). purpose false false (cond b Open (cond (updates 3 t) Open (cond (takes KEY_UPDATE t) Verifying (stage_of o))))) finish
      ∙ stage_either (stage_of o) (updates 3 t) (takes KEY_UPDATE t) (λ other. no_update 3 t.effect t other) past

  pub next_same : response_next behind ≡ response_next o + 1
  next_same = ap (λ (b : Bool). cond b 0 (cond (updates 2 t) 1 (response_next o + 1))) finish ∙ ap (λ (b : Bool). cond b 1 (response_next o + 1)) all

-- ---- An answer that was not seen.

unseen_large : (x : Effect) → is_some (handle_in x) ≡ true → is_unseen_effect (effect_with [] None x) ≡ true
unseen_large NoEffect large = absurd (false≢true large)
unseen_large (Took asked m answer large) is = refl
unseen_large (TookData bytes answer) large = absurd (false≢true large)

minus : (n : ℕ) → n + 1 - 1 ≡ n
minus n = omega arith

module _ (r : RspSetup) (id : ℕ) (h : History) (is : NewestIs r id h) (request answer : List ℕ) (handle : ℕ) (named : id_in_record request ≡ id) (again : IsLargeAgain r h request answer handle) where
  abbrev o : Events
  o = session_of (id_in_record is.m) is.before

  abbrev S : Events
  S = Heard is.m is.t is.reply ∷ session_of (id_in_record is.m) is.before

  at : session_of (id_in_record request) h ≡ S
  at = ap (λ (n : ℕ). session_of n h) named ∙ is.session

  reads : reads_last r.psk S request answer ≡ true
  reads = subst (λ (x : Events). reads_last r.psk x request answer ≡ true) at again.reads

  holds : holds_large (reply_opened r.psk S answer) ≡ true
  holds = subst (λ (x : Events). holds_large (reply_opened r.psk x answer) ≡ true) at again.large

  pub request_is : is.m ≡ request
  request_is = (bytes_eq-Decides is.m request).0 (and_parts (bytes_eq is.m request) _ (and_parts (bytes_eq is.m request && bytes_eq is.reply answer) _ reads).0).0

  pub answer_is : is.reply ≡ answer
  answer_is = (bytes_eq-Decides is.reply answer).0 (and_parts (bytes_eq is.m request) _ (and_parts (bytes_eq is.m request && bytes_eq is.reply answer) _ reads).0).1

  both : (opens_last r.psk S request ≡ true) × (opens_reply r.psk S answer ≡ true)
  both = and_parts (opens_last r.psk S request) (opens_reply r.psk S answer) (and_parts (bytes_eq is.m request && bytes_eq is.reply answer) _ reads).1

  few : (takes PSK_FINISH is.t ≡ false) × (updates 1 is.t ≡ false) × (updates 2 is.t ≡ false)
  few = few_next (takes PSK_FINISH is.t) (updates 1 is.t) (updates 2 is.t) (request_next o + 1) (and_parts (not (request_next S == 0)) _ both.0).0

  abbrev u : Turn
  u = session_turn r is.led.s (opened r.psk is.led.s is.m) is.led.free

  no_fault : (x : Option RecordFault) → is_none x ≡ true → x ≡ None
  no_fault None some = refl
  no_fault (Some fault) some = absurd (false≢true some)

  opened_reply : record_fault (session_terms S).choice (response_purpose r.psk S) (response_next S - 1) (id_bytes S) answer ≡ None
  opened_reply = no_fault _ (and_parts (not (response_next S == 0)) _ both.1).1

  short : length is.reply ≤ 4160
  short = subst (λ (l : List ℕ). length l ≤ 4160) (sym answer_is) (opens_short (session_terms S).choice (response_purpose r.psk S) (response_next S - 1) (id_bytes S) answer opened_reply)

  -- One whose answer went whole holds no LargeResponse.
  whole_not : is.t ≡ u → is_some (handle_in u.effect) ≡ false → ⊥
  whole_not same small =
      let past : takes KEY_UPDATE is.t ≡ true → is_past_handshake (stage_of o) ≡ true = λ update.
      ap is_past_handshake (sym (stage_alike is.led.s o is.led.alike)) ∙ past_update r is.led.s (opened r.psk is.led.s is.m) is.led.free (ap (λ (t : Turn). takes KEY_UPDATE t) (sym same) ∙ update) in
      let made : is.reply ≡ reply_record r.psk o u (inner_reply u) is.led.free.pad = is.led.reply_is ∙ reply_alike r.psk is.led.s o u (inner_reply u) is.led.free.pad is.led.alike in
      let opens = reply_opens r.psk o u (inner_reply u) is.led.free.pad (subst (λ (l : List ℕ). length l ≤ 4160) made short) in
      let all : updates 2 u ≡ false = ap (updates 2) (sym same) ∙ few.2 in
      let inner : inner_message (session_terms o).choice (response_purpose r.psk o) (response_next o) is.reply ≡ inner_reply u =
      ap (λ (b : Bool). inner_message (session_terms o).choice (cond b (record (response_purpose r.psk o) { epoch = response_epoch o + 1 }) (response_purpose r.psk o)) (cond b 0 (response_next o)) is.reply) (sym all)
      ∙ ap (inner_message (session_terms o).choice (reply_purpose r.psk o u) (reply_number o u)) made ∙ opens.1 in
      let shown : reply_opened r.psk S answer ≡ inner_reply u =
      ap (λ (p : Purpose). inner_message (session_terms o).choice p (response_next S - 1) answer) (purpose_same r.psk o is.m is.t is.reply few.0 few.2 past)
      ∙ ap (λ (n : ℕ). inner_message (session_terms o).choice (response_purpose r.psk o) (n - 1) answer) (next_same r.psk o is.m is.t is.reply few.0 few.2 past)
      ∙ ap (λ (n : ℕ). inner_message (session_terms o).choice (response_purpose r.psk o) n answer) (minus (response_next o))
      ∙ ap (inner_message (session_terms o).choice (response_purpose r.psk o) (response_next o)) (sym answer_is) ∙ inner in
      false≢true (sym small ∙ turn_told r is.led.s (opened r.psk is.led.s is.m) is.led.free ∙ holds_has (inner_reply u) (ap holds_large (sym shown) ∙ holds))

  pub was_unseen : is_unseen_effect is.t.effect ≡ true
  was_unseen = elim is.led.turn [
    | inl whole ↦ absurd (whole_not whole.0 whole.1)
    | inr large ↦ ap (λ (t : Turn). is_unseen_effect t.effect) large.0 ∙ unseen_large u.effect large.1
  ]
