-- The record that a responder answers tells the turn of the record that it took.
use Rattle.std.proofs.Common.{◌≡◌, ◌≤◌, ◌<◌, ◌+◌, ◌==◌, ℕ, List, [], ◌∷◌, refl, sym, ap, ◌∙◌, length, drop, Bool, true, false, Option, Some, None, cond, arith}
use Rattle.std.specs.Prelude.{slice_index}
use Rattle.key_schedule.specs.Purpose.{Purpose, key_of, iv_of}
use Rattle.secured_record.proofs.Told.{record_tells}
use Rattle.spdm_basis.specs.declared.causes.record_fault.RecordFault.{RecordFault}
use Rattle.spdm_grammar.specs.Message.{ChunkMessage}
use Rattle.spdm_grammar.specs.declared.messages.error_code.ErrorCode.{ErrorCode}
use Rattle.spdm_grammar.specs.declared.messages.error_code.ErrorCode.TheVariants.{InvalidRequest, UnexpectedRequest, Unspecified, DecryptError, UnsupportedRequest, SessionLimitExceeded, SessionRequired, ResponseTooLarge, RequestTooLarge, LargeResponse, VersionMismatch}
use Rattle.spdm_grammar.specs.declared.told.phase.Phase.{Phase}
use Rattle.spdm_grammar.specs.declared.names.TheConstants.{MAX_MESSAGE_SIZE}
use Rattle.spdm_machine.specs.Keys.{Draw, sealed_of}
use Rattle.spdm_machine.specs.Sessions.{id_in_exchange}
use Rattle.responder_machine.specs.Answer.{Free, answer_bytes, request_at}
use Rattle.responder_machine.specs.Handling.{turn_of, turn_by, chunk_in, error_bytes, goes_large, large_response}
use Rattle.responder_machine.specs.History.{History, ended_of, clear_turns, phase_of}
use Rattle.responder_machine.specs.Place.{Place, session_place}
use Rattle.responder_machine.specs.Records.{reply_record, opening_fault, opened, response_purpose}
use Rattle.responder_machine.specs.Refusal.{refusal}
use Rattle.responder_machine.specs.Responder.{on_record, to_session, session_turn, session_turn_by, inner_refusal, data_turn, inner_reply, sealed_entry, in_session, in_session_by, body_of, repeats}
use Rattle.responder_machine.specs.Responder.Outcome.{Same, Adds}
use Rattle.responder_machine.specs.Session.{Events, session_of, stage_of, session_terms, exchange_of, exchange_answer, response_next, response_epoch, id_bytes, id_in_record, last_of}
use Rattle.responder_machine.specs.Setup.{RspSetup}
use Rattle.responder_machine.specs.Turn.{Turn, updates}
use Rattle.capture_machine.proofs.TurnsAlike.{TurnsAlike, ReadAlike, turn_told, chunk_is}
use Rattle.capture_machine.proofs.RepliesTell.{OutcomesAlike, updates_same, no_chunk}

-- ---- One place.

pub one_place : (p : Place) (m : List ℕ) → ReadAlike p p m
one_place p m = record { asked = refl; chunks = λ c is. refl; whole = λ c text is. refl }

session_updates_by : (r : RspSetup) (s : Events) (inner : List ℕ) (f k : Free) (x : Option ErrorCode) → updates 2 (session_turn_by r s inner f x) ≡ updates 2 (session_turn_by r s inner k x)
session_updates_by r s inner f k (Some e) = refl
session_updates_by r s inner f k None = by_type (slice_index inner 0 == 5)
  where
    by_type : (b : Bool) → updates 2 (cond b (turn_of r (session_place s) (drop 1 inner) f) (data_turn f (drop 1 inner))) ≡ updates 2 (cond b (turn_of r (session_place s) (drop 1 inner) k) (data_turn k (drop 1 inner)))
    by_type true = updates_same r s (drop 1 inner) f k
    by_type false = refl

session_updates : (r : RspSetup) (s : Events) (inner : List ℕ) (f k : Free) → updates 2 (session_turn r s inner f) ≡ updates 2 (session_turn r s inner k)
unfolding session_turn
session_updates r s inner f k = session_updates_by r s inner f k (inner_refusal (stage_of s) inner)

session_told_by : (r : RspSetup) (s : Events) (inner : List ℕ) (f k : Free) (x : Option ErrorCode) → (session_turn_by r s inner f x).reply ≡ (session_turn_by r s inner k x).reply
    → TurnsAlike (session_turn_by r s inner f x) (session_turn_by r s inner k x)
session_told_by r s inner f k (Some e) same = record { message = refl; refused = refl; chunk = refl; effect = tt; reply = same }
session_told_by r s inner f k None same = by_type (slice_index inner 0 == 5) same
  where
    by_type : (b : Bool) → (cond b (turn_of r (session_place s) (drop 1 inner) f) (data_turn f (drop 1 inner))).reply ≡ (cond b (turn_of r (session_place s) (drop 1 inner) k) (data_turn k (drop 1 inner))).reply
        → TurnsAlike (cond b (turn_of r (session_place s) (drop 1 inner) f) (data_turn f (drop 1 inner))) (cond b (turn_of r (session_place s) (drop 1 inner) k) (data_turn k (drop 1 inner)))
    by_type true same = turn_told r (session_place s) (session_place s) (drop 1 inner) f k (one_place (session_place s) (drop 1 inner)) same
    by_type false same = record { message = refl; refused = refl; chunk = refl; effect = (refl, same); reply = same }

session_told : (r : RspSetup) (s : Events) (inner : List ℕ) (f k : Free) → (session_turn r s inner f).reply ≡ (session_turn r s inner k).reply → TurnsAlike (session_turn r s inner f) (session_turn r s inner k)
unfolding session_turn
session_told r s inner f k same = session_told_by r s inner f k (inner_refusal (stage_of s) inner) same

-- ---- Replies are short.

error_short : (r : RspSetup) (p : Place) (m : List ℕ) (f : Free) (e : ErrorCode) → length (error_bytes r p m f e) < 65535
error_short r p m f InvalidRequest = omega arith
error_short r p m f UnexpectedRequest = omega arith
error_short r p m f Unspecified = omega arith
error_short r p m f DecryptError = omega arith
error_short r p m f UnsupportedRequest = omega arith
error_short r p m f SessionLimitExceeded = omega arith
error_short r p m f SessionRequired = omega arith
error_short r p m f ResponseTooLarge = omega arith
error_short r p m f RequestTooLarge = omega arith
error_short r p m f LargeResponse = omega arith
error_short r p m f VersionMismatch = omega arith

sent_short : (b : Bool) (handle : ℕ) (answer : List ℕ) → length answer ≤ MAX_MESSAGE_SIZE → length (cond b (large_response handle) answer) < 65535
sent_short true handle answer short = omega arith
sent_short false handle answer short = omega (arith, short)

turn_short_by : (r : RspSetup) (s : Events) (m : List ℕ) (f : Free) (x : Option ErrorCode) (c : Option ChunkMessage) → refusal r (session_place s) m f ≡ x → chunk_in (request_at (session_place s) m) ≡ c
    → length (answer_bytes r (session_place s) m f) ≤ MAX_MESSAGE_SIZE → length (turn_by r (session_place s) m f x c).reply < 65535
turn_short_by r s m f (Some e) c is asks short = error_short r (session_place s) m f e
turn_short_by r s m f None None is asks short = sent_short (goes_large (session_place s) (answer_bytes r (session_place s) m f)) f.handle (answer_bytes r (session_place s) m f) short
turn_short_by r s m f None (Some c) is asks short = absurd (no_chunk r s m f c (chunk_is (request_at (session_place s) m) c asks) is)

turn_short : (r : RspSetup) (s : Events) (m : List ℕ) (f : Free) → length (answer_bytes r (session_place s) m f) ≤ MAX_MESSAGE_SIZE → length (turn_of r (session_place s) m f).reply < 65535
unfolding turn_of
turn_short r s m f short = turn_short_by r s m f (refusal r (session_place s) m f) (chunk_in (request_at (session_place s) m)) refl refl short

session_short_by : (r : RspSetup) (s : Events) (inner : List ℕ) (f : Free) (x : Option ErrorCode) → length (answer_bytes r (session_place s) (drop 1 inner) f) ≤ MAX_MESSAGE_SIZE → length f.reply ≤ 1024
    → length (session_turn_by r s inner f x).reply < 65535
session_short_by r s inner f (Some e) short few = error_short r (session_place s) (drop 1 inner) f e
session_short_by r s inner f None short few = by_type (slice_index inner 0 == 5)
  where
    by_type : (b : Bool) → length (cond b (turn_of r (session_place s) (drop 1 inner) f) (data_turn f (drop 1 inner))).reply < 65535
    by_type true = turn_short r s (drop 1 inner) f short
    by_type false = omega (arith, few)

pub session_short : (r : RspSetup) (s : Events) (inner : List ℕ) (f : Free) → length (answer_bytes r (session_place s) (drop 1 inner) f) ≤ MAX_MESSAGE_SIZE → length f.reply ≤ 1024 → length (session_turn r s inner f).reply < 65535
unfolding session_turn
session_short r s inner f short few = session_short_by r s inner f (inner_refusal (stage_of s) inner) short few

-- ---- The record.

-- The record that answers, by whether all keys are updated.
abbrev purpose_at : List ℕ → Events → Bool → Purpose
purpose_at psk s b = cond b (record (response_purpose psk s) { epoch = response_epoch s + 1 }) (response_purpose psk s)

pub record_at : (psk : List ℕ) (s : Events) (t u : Turn) (b : Bool) (inner other pad padding : List ℕ) → updates 2 t ≡ b → updates 2 u ≡ b → length inner < 65536 → length other < 65536
    → reply_record psk s t inner pad ≡ reply_record psk s u other padding → inner ≡ other
unfolding reply_record sealed_of
record_at psk s t u b inner other pad padding is are less few same =
    let choice = (session_terms s).choice in
    let to = λ (x : Bool) (text fill : List ℕ). sealed_of choice (purpose_at psk s x) (cond x 0 (response_next s)) (id_bytes s) text fill in
    let there : to b inner pad ≡ to b other padding = sym (ap (λ (x : Bool). sealed_of choice (purpose_at psk s x) (cond x 0 (response_next s)) (id_bytes s) inner pad) is) ∙ same
    ∙ ap (λ (x : Bool). sealed_of choice (purpose_at psk s x) (cond x 0 (response_next s)) (id_bytes s) other padding) are in
    (record_tells (key_of choice.hash choice.aead (purpose_at psk s b)) (iv_of choice.hash (purpose_at psk s b)) (id_in_exchange (exchange_of s)) (id_in_exchange (exchange_answer s)) (cond b 0 (response_next s))
    inner other pad padding less few there).0

module _ (r : RspSetup) (tag : ℕ) (f k : Free) (d : Draw) (few : length f.reply ≤ 1024) (less : length k.reply ≤ 1024) where
  opened_told : (s : Events) (sealed : List ℕ) → length (answer_bytes r (session_place s) (drop 1 (opened r.psk s sealed)) f) ≤ MAX_MESSAGE_SIZE → length (answer_bytes r (session_place s) (drop 1 (opened r.psk s sealed)) k) ≤ MAX_MESSAGE_SIZE
      → body_of (Adds (sealed_entry r s f tag sealed d (session_turn r s (opened r.psk s sealed) f))) ≡ body_of (Adds (sealed_entry r s k tag sealed d (session_turn r s (opened r.psk s sealed) k)))
      → OutcomesAlike (Adds (sealed_entry r s f tag sealed d (session_turn r s (opened r.psk s sealed) f))) (Adds (sealed_entry r s k tag sealed d (session_turn r s (opened r.psk s sealed) k)))
  opened_told s sealed short brief same =
      let inner = opened r.psk s sealed in
      let t = session_turn r s inner f in
      let u = session_turn r s inner k in
      let replies = ap (λ (l : List ℕ). drop 1 l) same in
      let texts : inner_reply t ≡ inner_reply u = record_at r.psk s t u (updates 2 u) (inner_reply t) (inner_reply u) f.pad k.pad (session_updates r s inner f k) refl
      (let e = session_short r s inner f short few in omega arith) (let e = session_short r s inner k brief less in omega arith) replies in
      (refl, refl, session_told r s inner f k (ap (λ (l : List ℕ). drop 1 l) texts), replies, refl)

  in_session_told : (phase : Phase) (s : Events) (sealed : List ℕ) (x : Option RecordFault) → length (answer_bytes r (session_place s) (drop 1 (opened r.psk s sealed)) f) ≤ MAX_MESSAGE_SIZE → length (answer_bytes r (session_place s) (drop 1 (opened r.psk s sealed)) k) ≤ MAX_MESSAGE_SIZE
      → body_of (in_session_by r phase s f tag sealed d x) ≡ body_of (in_session_by r phase s k tag sealed d x) → OutcomesAlike (in_session_by r phase s f tag sealed d x) (in_session_by r phase s k tag sealed d x)
  in_session_told phase s sealed (Some fault) short brief same = refl
  in_session_told phase s sealed None short brief same = opened_told s sealed short brief same

  repeat_told : (phase : Phase) (s : Events) (sealed kept : List ℕ) (b : Bool) → length (answer_bytes r (session_place s) (drop 1 (opened r.psk s sealed)) f) ≤ MAX_MESSAGE_SIZE → length (answer_bytes r (session_place s) (drop 1 (opened r.psk s sealed)) k) ≤ MAX_MESSAGE_SIZE
      → body_of (cond b (Same kept) (in_session r phase s f tag sealed d)) ≡ body_of (cond b (Same kept) (in_session r phase s k tag sealed d)) → OutcomesAlike (cond b (Same kept) (in_session r phase s f tag sealed d)) (cond b (Same kept) (in_session r phase s k tag sealed d))
  unfolding in_session
  repeat_told phase s sealed kept true short brief same = refl
  repeat_told phase s sealed kept false short brief same = in_session_told phase s sealed (opening_fault r.psk s sealed) short brief same

  to_told : (phase : Phase) (s : Events) (sealed : List ℕ) → length (answer_bytes r (session_place s) (drop 1 (opened r.psk s sealed)) f) ≤ MAX_MESSAGE_SIZE → length (answer_bytes r (session_place s) (drop 1 (opened r.psk s sealed)) k) ≤ MAX_MESSAGE_SIZE
      → body_of (to_session r phase s f tag sealed d) ≡ body_of (to_session r phase s k tag sealed d) → OutcomesAlike (to_session r phase s f tag sealed d) (to_session r phase s k tag sealed d)
  to_told phase [] sealed short brief same = refl
  to_told phase (e ∷ s) sealed short brief same = repeat_told phase (e ∷ s) sealed _ (repeats (last_of (e ∷ s)) sealed) short brief same

  ended_told : (b : Bool) (kept : List ℕ) (phase : Phase) (s : Events) (sealed : List ℕ) → length (answer_bytes r (session_place s) (drop 1 (opened r.psk s sealed)) f) ≤ MAX_MESSAGE_SIZE → length (answer_bytes r (session_place s) (drop 1 (opened r.psk s sealed)) k) ≤ MAX_MESSAGE_SIZE
      → body_of (cond b (Same kept) (to_session r phase s f tag sealed d)) ≡ body_of (cond b (Same kept) (to_session r phase s k tag sealed d)) → OutcomesAlike (cond b (Same kept) (to_session r phase s f tag sealed d)) (cond b (Same kept) (to_session r phase s k tag sealed d))
  ended_told true kept phase s sealed short brief same = refl
  ended_told false kept phase s sealed short brief same = to_told phase s sealed short brief same

  -- A record comes to one history.
  pub record_told : (h : History) (sealed : List ℕ) → length (answer_bytes r (session_place (session_of (id_in_record sealed) h)) (drop 1 (opened r.psk (session_of (id_in_record sealed) h) sealed)) f) ≤ MAX_MESSAGE_SIZE
      → length (answer_bytes r (session_place (session_of (id_in_record sealed) h)) (drop 1 (opened r.psk (session_of (id_in_record sealed) h) sealed)) k) ≤ MAX_MESSAGE_SIZE
      → body_of (on_record r h tag sealed f d) ≡ body_of (on_record r h tag sealed k d) → OutcomesAlike (on_record r h tag sealed f d) (on_record r h tag sealed k d)
  unfolding on_record
  record_told h sealed short brief same = ended_told (repeats (ended_of h) sealed) _ (phase_of (clear_turns h)) (session_of (id_in_record sealed) h) sealed short brief same
