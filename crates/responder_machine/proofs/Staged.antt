-- In a made history PSK_FINISH is taken in a handshake alone, and KEY_UPDATE after one alone.
use Rattle.std.proofs.Common.{refl, ◌∙◌, ◌≡◌, ℕ, List, [], ◌∷◌, true, false, Bool, Option, Some, None, ap, sym, subst}
use Rattle.std.proofs.lemmas.Bool.{false≢true, eqb-true}
use Rattle.std.proofs.lemmas.Option.{none-some, same_Some}
use Rattle.std.specs.Prelude.{if◌then◌else◌, ◌==◌, ◌*◌, ◌+◌, not, nat_le, slice_index, drop}
use Rattle.spdm_basis.specs.declared.causes.record_fault.RecordFault.{RecordFault}
use Rattle.spdm_grammar.specs.Message.{RequestMessage, ChunkMessage}
use Rattle.spdm_grammar.specs.Message.RequestMessage.{PskFinish, KeyUpdate, ChunkSend}
use Rattle.spdm_grammar.specs.declared.messages.error_code.ErrorCode.{ErrorCode}
use Rattle.spdm_grammar.specs.declared.told.phase.Phase.{Phase}
use Rattle.spdm_grammar.specs.declared.told.phase.Stage.{Stage}
use Rattle.spdm_grammar.specs.declared.told.phase.Stage.TheVariants.{Handshake, Open, Verifying}
use Rattle.responder_machine.proofs.Codes.{asked-code}
use Rattle.responder_machine.proofs.Refused.{turn_in}
use Rattle.responder_machine.proofs.Tests.{form_shown}
use Rattle.responder_machine.specs.Answer.{Free, answer_bytes, request_at}
use Rattle.responder_machine.specs.Counts.{IsStaged}
use Rattle.responder_machine.specs.Does.{IsMade, record_chosen}
use Rattle.responder_machine.specs.Handling.{turn_of, turn_by, effect_of, chunk_in}
use Rattle.responder_machine.specs.History.{History, ended_of, phase_of, clear_turns, negotiation_of}
use Rattle.responder_machine.specs.History.Entry.{Clear, Sealed, Queued, Ticked, Dropped}
use Rattle.spdm_machine.specs.Keys.{Draw}
use Rattle.responder_machine.specs.Place.{Place, session_place}
use Rattle.responder_machine.specs.Records.{opening_fault, opened}
use Rattle.responder_machine.specs.Refusal.{refusal, stage_allows, has_pending, code_of}
use Rattle.responder_machine.specs.Responder.{Outcome, on_record, to_session, in_session, in_session_by, session_turn, session_turn_by, inner_refusal, data_turn, repeats, kept_record, decrypt_error}
use Rattle.spdm_machine.specs.Bodies.{record_body}
use Rattle.responder_machine.specs.Responder.Outcome.{Same, Unopened}
use Rattle.responder_machine.specs.Session.{Events, session_of, stage_of, last_of, id_in_record, is_timed, period_of, idle_of, after_record, after_tick, after_clear, gives_id}
use Rattle.spdm_machine.specs.Sessions.{is_past_handshake}
use Rattle.responder_machine.specs.Session.Event.{Began, Heard, Waited}
use Rattle.responder_machine.specs.Setup.{RspSetup}
use Rattle.responder_machine.specs.Turn.{Turn, Effect, code_in, takes, request_in, answer_in}
use Rattle.responder_machine.specs.Turn.Effect.{NoEffect, Took, TookData}
use Rattle.transcript.specs.Transcripts.{Negotiation}
use Rattle.spdm_grammar.specs.declared.names.request_code.TheConstants.{GET_VERSION, CHUNK_SEND, PSK_EXCHANGE, PSK_FINISH, KEY_UPDATE, END_SESSION}

abbrev IsPlacedRequest : Stage → RequestMessage → Type 0
IsPlacedRequest stage (PskFinish verify) = stage ≡ Handshake
IsPlacedRequest stage (KeyUpdate op tag) = is_past_handshake stage ≡ true
IsPlacedRequest stage _ = Unit {0}

-- An effect comes at a stage that allows it.
abbrev IsPlaced : Stage → Effect → Type 0
IsPlaced stage NoEffect = Unit {0}
IsPlaced stage (Took asked request answer large) = IsPlacedRequest stage asked
IsPlaced stage (TookData bytes answer) = Unit {0}

finish_stage : (stage : Stage) (pending : Bool) → not (stage_allows stage pending PSK_FINISH) ≡ false → stage ≡ Handshake
finish_stage Handshake pending h = refl
finish_stage Open pending h = absurd (false≢true (sym h))
finish_stage Verifying pending h = absurd (false≢true (sym h))

update_stage : (stage : Stage) (pending : Bool) → not (stage_allows stage pending KEY_UPDATE) ≡ false → is_past_handshake stage ≡ true
update_stage Handshake pending h = absurd (false≢true (sym h))
update_stage Open pending h = refl
update_stage Verifying pending h = refl

-- What the stage allows of a message that is not refused, by the code of its request.
allowed_code : (r : RspSetup) (s : Events) (m : List ℕ) (f : Free) (code : ℕ) → refusal r (session_place s) m f ≡ None → code ≡ code_of m → not (stage_allows (stage_of s) (has_pending (session_place s)) code) ≡ false
allowed_code r s m f code taken is = subst (λ c. not (stage_allows (stage_of s) (has_pending (session_place s)) c) ≡ false) (sym is) (form_shown r (session_place s) m f taken 6)

placed_request : (r : RspSetup) (s : Events) (m : List ℕ) (f : Free) (answer : List ℕ) (large : Option ℕ) (q : Option RequestMessage) → refusal r (session_place s) m f ≡ None → request_at (session_place s) m ≡ q
    → IsPlaced (stage_of s) (effect_of q m answer large)
placed_request r s m f answer large None taken is = tt
placed_request r s m f answer large (Some (PskFinish verify)) taken is =
    finish_stage (stage_of s) (has_pending (session_place s)) (allowed_code r s m f PSK_FINISH taken (asked-code (session_place s) m (PskFinish verify) is))
placed_request r s m f answer large (Some (KeyUpdate op tag)) taken is =
    update_stage (stage_of s) (has_pending (session_place s)) (allowed_code r s m f KEY_UPDATE taken (asked-code (session_place s) m (KeyUpdate op tag) is))
placed_request r s m f answer large (Some _) taken is = tt

-- A chunk has the code of CHUNK_SEND.
chunk_code : (p : Place) (m : List ℕ) (c : ChunkMessage) (q : Option RequestMessage) → request_at p m ≡ q → chunk_in q ≡ Some c → CHUNK_SEND ≡ code_of m
chunk_code p m c None is chunk = absurd (none-some c chunk)
chunk_code p m c (Some (ChunkSend other)) is chunk = asked-code p m (ChunkSend other) is
chunk_code p m c (Some _) is chunk = absurd (none-some c chunk)

-- No chunk is taken in a session.
pub no_chunk : (r : RspSetup) (s : Events) (m : List ℕ) (f : Free) (c : ChunkMessage) → refusal r (session_place s) m f ≡ None → chunk_in (request_at (session_place s) m) ≡ Some c → ⊥
no_chunk r s m f c taken chunk =
    false≢true (sym (form_shown r (session_place s) m f taken 4) ∙ sym (ap (λ (code : ℕ). code == CHUNK_SEND) (chunk_code (session_place s) m c (request_at (session_place s) m) refl chunk)))

turn_by-placed : (r : RspSetup) (s : Events) (m : List ℕ) (f : Free) (x : Option ErrorCode) (c : Option ChunkMessage) → refusal r (session_place s) m f ≡ x → chunk_in (request_at (session_place s) m) ≡ c
    → IsPlaced (stage_of s) (turn_by r (session_place s) m f x c).effect
turn_by-placed r s m f (Some e) c refused chunk = tt
turn_by-placed r s m f None None taken chunk = placed_request r s m f (answer_bytes r (session_place s) m f) _ (request_at (session_place s) m) taken refl
turn_by-placed r s m f None (Some c) taken chunk = absurd (no_chunk r s m f c taken chunk)

turn_of-placed : (r : RspSetup) (s : Events) (m : List ℕ) (f : Free) → IsPlaced (stage_of s) (turn_of r (session_place s) m f).effect
unfolding turn_of
turn_of-placed r s m f = turn_by-placed r s m f (refusal r (session_place s) m f) (chunk_in (request_at (session_place s) m)) refl refl

either-placed : (stage : Stage) (b : Bool) (t u : Turn) → IsPlaced stage t.effect → IsPlaced stage u.effect → IsPlaced stage (if b then t else u).effect
either-placed stage true t u x y = x
either-placed stage false t u x y = y

session_turn_by-placed : (r : RspSetup) (s : Events) (inner : List ℕ) (f : Free) (x : Option ErrorCode) → IsPlaced (stage_of s) (session_turn_by r s inner f x).effect
session_turn_by-placed r s inner f (Some e) = tt
session_turn_by-placed r s inner f None = either-placed (stage_of s) (slice_index inner 0 == 5) (turn_of r (session_place s) (drop 1 inner) f) (data_turn f (drop 1 inner)) (turn_of-placed r s (drop 1 inner) f) tt

session_turn-placed : (r : RspSetup) (s : Events) (inner : List ℕ) (f : Free) → IsPlaced (stage_of s) (session_turn r s inner f).effect
unfolding session_turn
session_turn-placed r s inner f = session_turn_by-placed r s inner f (inner_refusal (stage_of s) inner)

-- An outcome has no turn in a record, or one whose effect the stage allows.
abbrev IsPlacedOutcome : Stage → Outcome → Type 0
IsPlacedOutcome stage o = (t : Turn) → turn_in o ≡ Some t → IsPlaced stage t.effect

either-outcome : (stage : Stage) (b : Bool) (o u : Outcome) → IsPlacedOutcome stage o → IsPlacedOutcome stage u → IsPlacedOutcome stage (if b then o else u)
either-outcome stage true o u x y = x
either-outcome stage false o u x y = y

no_turn : (stage : Stage) (o : Outcome) → turn_in o ≡ None → IsPlacedOutcome stage o
no_turn stage o none t is = absurd (none-some t (sym none ∙ is))

in_session_by-placed : (r : RspSetup) (phase : Phase) (s : Events) (f : Free) (tag : ℕ) (m : List ℕ) (d : Draw) (x : Option RecordFault) → IsPlacedOutcome (stage_of s) (in_session_by r phase s f tag m d x)
in_session_by-placed r phase s f tag m d (Some fault) = no_turn (stage_of s) (Unopened (decrypt_error phase)) refl
in_session_by-placed r phase s f tag m d None = λ t is. subst (λ (u : Turn). IsPlaced (stage_of s) u.effect) (same_Some _ _ is) (session_turn-placed r s (opened r.psk s m) f)

in_session-placed : (r : RspSetup) (phase : Phase) (s : Events) (f : Free) (tag : ℕ) (m : List ℕ) (d : Draw) → IsPlacedOutcome (stage_of s) (in_session r phase s f tag m d)
unfolding in_session
in_session-placed r phase s f tag m d = in_session_by-placed r phase s f tag m d (opening_fault r.psk s m)

to_session-placed : (r : RspSetup) (phase : Phase) (s : Events) (f : Free) (tag : ℕ) (m : List ℕ) (d : Draw) → IsPlacedOutcome (stage_of s) (to_session r phase s f tag m d)
to_session-placed r phase [] f tag m d = no_turn Handshake (Unopened (decrypt_error phase)) refl
to_session-placed r phase (v ∷ s) f tag m d =
    either-outcome (stage_of (v ∷ s)) (repeats (last_of (v ∷ s)) m) (Same (record_body (kept_record (last_of (v ∷ s))))) (in_session r phase (v ∷ s) f tag m d) (no_turn (stage_of (v ∷ s)) (Same (record_body (kept_record (last_of (v ∷ s))))) refl) (in_session-placed r phase (v ∷ s) f tag m d)

on_record-placed : (r : RspSetup) (h : History) (tag : ℕ) (m : List ℕ) (f : Free) (d : Draw) → IsPlacedOutcome (stage_of (session_of (id_in_record m) h)) (on_record r h tag m f d)
unfolding on_record
on_record-placed r h tag m f d =
    either-outcome (stage_of (session_of (id_in_record m) h)) (repeats (ended_of h) m) (Same (record_body (kept_record (ended_of h)))) (to_session r (phase_of (clear_turns h)) (session_of (id_in_record m) h) f tag m d)
    (no_turn (stage_of (session_of (id_in_record m) h)) (Same (record_body (kept_record (ended_of h)))) refl) (to_session-placed r (phase_of (clear_turns h)) (session_of (id_in_record m) h) f tag m d)

made_placed : (r : RspSetup) (h : History) (tag : ℕ) (m : List ℕ) (t : Turn) (reply : List ℕ) (d : Draw) → IsMade r (Sealed tag m t reply d ∷ h) → IsPlaced (stage_of (session_of (id_in_record m) h)) t.effect
made_placed r h tag m t reply d made = on_record-placed r h tag m (record_chosen r h m d) d t (ap turn_in made.0)

-- ---- What of it is read in a session's own history.

finish_placed : (stage : Stage) (e : Effect) → IsPlaced stage e → (code_in e == PSK_FINISH) ≡ true → stage ≡ Handshake
finish_placed stage NoEffect h is = absurd (false≢true is)
finish_placed stage (TookData bytes answer) h is = absurd (false≢true is)
finish_placed stage (Took (PskFinish verify) request answer large) h is = h
finish_placed stage (Took _ request answer large) h is = absurd (false≢true is)

update_placed : (stage : Stage) (e : Effect) → IsPlaced stage e → (code_in e == KEY_UPDATE) ≡ true → is_past_handshake stage ≡ true
update_placed stage NoEffect h is = absurd (false≢true is)
update_placed stage (TookData bytes answer) h is = absurd (false≢true is)
update_placed stage (Took (KeyUpdate op tag) request answer large) h is = h
update_placed stage (Took _ request answer large) h is = absurd (false≢true is)

either-staged : (b : Bool) (s n : Events) → IsStaged s → IsStaged n → IsStaged (if b then s else n)
either-staged true s n x y = x
either-staged false s n x y = y

-- The same, where the first is asked for only if it is taken.
when-staged : (b : Bool) (s n : Events) → (b ≡ true → IsStaged s) → IsStaged n → IsStaged (if b then s else n)
when-staged true s n x y = x refl
when-staged false s n x y = y

record_staged : (s : Events) (m : List ℕ) (t : Turn) (reply : List ℕ) → IsPlaced (stage_of s) t.effect → IsStaged s → IsStaged (after_record s m t reply)
record_staged [] m t reply placed staged = either-staged (takes END_SESSION t) [] [] tt tt
record_staged (v ∷ s) m t reply placed staged =
    either-staged (takes END_SESSION t) [] (Heard m t reply ∷ v ∷ s) tt (finish_placed (stage_of (v ∷ s)) t.effect placed, update_placed (stage_of (v ∷ s)) t.effect placed, staged)

clear_staged : (id : ℕ) (s : Events) (t : Turn) (n : Negotiation) → IsStaged s → IsStaged (after_clear id s t n)
clear_staged id s t n staged =
    either-staged (takes GET_VERSION t) [] _ tt
    (either-staged (takes PSK_EXCHANGE t) _ s
    (either-staged (gives_id id (answer_in t.effect)) (Began n (request_in t.effect) (answer_in t.effect) ∷ []) _ refl (either-staged (is_past_handshake (stage_of s)) s [] staged tt))
    staged)

tick_staged : (s : Events) (seconds : ℕ) → IsStaged s → IsStaged (after_tick s seconds)
tick_staged s seconds staged =
    either-staged (not (is_timed s)) s _ staged (either-staged (nat_le (2 * period_of s) (idle_of s + seconds)) [] (Waited seconds ∷ s) tt staged)

pub made_staged : (r : RspSetup) (h : History) (id : ℕ) → IsMade r h → IsStaged (session_of id h)
unfolding session_of
made_staged r [] id made = tt
made_staged r (Clear tag t d ∷ older) id made = clear_staged id (session_of id older) t (negotiation_of (clear_turns older)) (made_staged r older id made.1)
made_staged r (Sealed tag m t reply d ∷ older) id made =
    when-staged (id_in_record m == id) (after_record (session_of id older) m t reply) (session_of id older)
    (λ same. record_staged (session_of id older) m t reply (subst (λ n. IsPlaced (stage_of (session_of n older)) t.effect) (eqb-true (id_in_record m) id same) (made_placed r older tag m t reply d made)) (made_staged r older id made.1))
    (made_staged r older id made.1)
made_staged r (Queued bytes ∷ older) id made = made_staged r older id made.2
made_staged r (Ticked seconds ∷ older) id made = tick_staged (session_of id older) seconds (made_staged r older id made)
made_staged r (Dropped which ∷ older) id made = absurd made
