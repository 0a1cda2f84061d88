-- What holds of every responder and every history: the laws of the definitions. Each is the contract of a function of
-- this crate, which has its proof. This project's own.
use Rattle.std.specs.Prelude.{◌≡◌, ◌≢◌, ◌≤◌, ◌⊎◌, ℕ, List, [], ◌∷◌, length, true, false, Option, Some, None, nat_eq}
use Rattle.std.specs.List.{AllByRecursion, IsDistinct}
use Rattle.chunking.specs.Collecting.{under_way, joined_with}
use Rattle.key_schedule.specs.declared.direction.Direction.TheVariants as direction
use Rattle.spdm_basis.specs.declared.causes.record_fault.RecordFault.{RecordFault}
use Rattle.spdm_grammar.specs.Message.{ChunkMessage, ExchangeMessage, RequestMessage}
use Rattle.spdm_grammar.specs.Message.RequestMessage.{PskExchange, PskFinish, ChunkSend}
use Rattle.spdm_grammar.specs.declared.messages.error_code.ErrorCode.{ErrorCode}
use Rattle.spdm_grammar.specs.declared.told.phase.Phase.TheVariants.{Negotiated}
use Rattle.responder_machine.specs.Answer.{Free, answer_bytes, request_at}
use Rattle.responder_machine.specs.Does.{IsMade, chosen, responder_does}
use Rattle.responder_machine.specs.Handling.{turn_of}
use Rattle.responder_machine.specs.History.{History, kept_of, ended_of, clear_turns, negotiation_of, phase_of}
use Rattle.responder_machine.specs.History.Entry.{Clear, Sealed}
use Rattle.spdm_machine.specs.Keys.{Draw, verify_data}
use Rattle.responder_machine.specs.LargeMessages.{chunks_of}
use Rattle.responder_machine.specs.May.{IsAllowed, ResponderMay}
use Rattle.responder_machine.specs.Place.{Place, clear_place, inside, held_of, free_id, is_held}
use Rattle.responder_machine.specs.Records.{opening_fault, opened, reply_record}
use Rattle.responder_machine.specs.Refusal.{refusal, code_of}
use Rattle.responder_machine.specs.Responder.{after, on_clear, on_record, is_repeat, repeats, sent_by, session_turn, inner_reply}
use Rattle.responder_machine.specs.Responder.Outcome.{Same, Adds}
use Rattle.responder_machine.specs.SameSession.{IsSameSession, IsSameConnection}
use Rattle.responder_machine.specs.Session.{Events, session_of, session_negotiation, session_terms, t1_of, tv_of, is_live, stage_of, id_in_record, last_of}
use Rattle.spdm_machine.specs.Sessions.{is_past_handshake, id_in_exchange}
use Rattle.responder_machine.specs.Session.Event.{Began}
use Rattle.responder_machine.specs.Setup.{RspSetup}
use Rattle.responder_machine.specs.Turn.{Turn, takes, request_in, answer_in}
use Rattle.spdm_grammar.specs.Codes.{code_for}
use Rattle.responder_machine.specs.Turn.Effect.{Took}
use Rattle.spdm_grammar.specs.declared.names.request_code.TheConstants.{PSK_EXCHANGE}
use Rattle.spdm_grammar.specs.declared.names.TheConstants.{MAX_OPAQUE_LEN, MAX_SESSIONS}

-- ---- What it does, it may.

-- The values that the responder chooses are ones that any responder may choose.
abbrev pub ChosenIsAllowed : Type 0
ChosenIsAllowed = (r : RspSetup) (h : History) (p : Place) (d : Draw) → IsMade r h → length d.bytes ≡ 32 → length r.opaque ≤ MAX_OPAQUE_LEN
    → IsAllowed h p (chosen r h p d)

-- What the responder does with a body is what any responder may do with it, without a session dropped without a trace.
abbrev pub DoesWhatItMay : Type 0
DoesWhatItMay = (r : RspSetup) (h : History) (tag : ℕ) (body : List ℕ) (d : Draw) → IsMade r h → length d.bytes ≡ 32 → length r.opaque ≤ MAX_OPAQUE_LEN
    → ResponderMay r h [] tag body d (responder_does r h tag body d)

-- ---- A refused request changes no session.

-- A clear request that is refused leaves each session exactly as it was.
abbrev pub RefusedClearKeepsSessions : Type 0
RefusedClearKeepsSessions = (r : RspSetup) (h : History) (tag : ℕ) (m : List ℕ) (f : Free) (d : Draw) (e : ErrorCode)
    → refusal r (clear_place h) m f ≡ Some e
    → (id : ℕ) → session_of id (after h (on_clear r h tag m f d)) ≡ session_of id h

-- A clear request that is refused leaves what is counted for the connection as it was.
abbrev pub RefusedClearKeepsConnection : Type 0
RefusedClearKeepsConnection = (r : RspSetup) (h : History) (tag : ℕ) (m : List ℕ) (f : Free) (d : Draw) (e : ErrorCode)
    → refusal r (clear_place h) m f ≡ Some e → IsSameConnection h (after h (on_clear r h tag m f d))

-- The large request that this chunk completes at a place.
abbrev pub completed_at : Place → ChunkMessage → List ℕ
completed_at p c = joined_with (under_way (chunks_of p.turns)) c

-- A chunk is no request by itself, and the one that it completes is refused.
abbrev pub RefusedInChunksKeepsSessions : Type 0
RefusedInChunksKeepsSessions = (r : RspSetup) (h : History) (tag : ℕ) (m : List ℕ) (f : Free) (d : Draw) (c : ChunkMessage) (e : ErrorCode)
    → request_at (clear_place h) m ≡ Some (ChunkSend c)
    → refusal r (inside (clear_place h)) (completed_at (clear_place h) c) f ≡ Some e
    → (id : ℕ) → session_of id (after h (on_clear r h tag m f d)) ≡ session_of id h

-- A record whose inner message is refused leaves each session the same; the record itself is counted.
abbrev pub RefusedRecordKeepsSessions : Type 0
RefusedRecordKeepsSessions = (r : RspSetup) (h : History) (tag : ℕ) (m : List ℕ) (f : Free) (d : Draw) (t : Turn) (reply : List ℕ) (e : ErrorCode)
    → on_record r h tag m f d ≡ Adds (Sealed tag m t reply d) → t.refused ≡ Some e
    → (id : ℕ) → IsSameSession (session_of id h) (session_of id (Sealed tag m t reply d ∷ h))

-- A record, refused or not, touches the session that it names alone.
abbrev pub RecordKeepsOthers : Type 0
RecordKeepsOthers = (h : History) (tag : ℕ) (m : List ℕ) (t : Turn) (reply : List ℕ) (d : Draw) (id : ℕ)
    → id_in_record m ≢ id → session_of id (Sealed tag m t reply d ∷ h) ≡ session_of id h

-- ---- Repeats, and records that do not open.

-- A clear message that repeats the last one that was not refused adds nothing to the history.
abbrev pub RepeatAddsNothing : Type 0
RepeatAddsNothing = (r : RspSetup) (h : History) (tag : ℕ) (m : List ℕ) (f : Free) (d : Draw)
    → is_repeat (kept_of h) tag m ≡ true → after h (on_clear r h tag m f d) ≡ h

-- The record is the kept one of the ended session, or of the session that it names.
abbrev pub RepeatedRecordAddsNothing : Type 0
RepeatedRecordAddsNothing = (r : RspSetup) (h : History) (tag : ℕ) (m : List ℕ) (f : Free) (d : Draw)
    → (repeats (ended_of h) m ≡ true) ⊎ (repeats (last_of (session_of (id_in_record m) h)) m ≡ true)
    → after h (on_record r h tag m f d) ≡ h

-- No session has its id, or the one that has it does not open it.
abbrev pub UnopenedAddsNothing : Type 0
UnopenedAddsNothing = (r : RspSetup) (h : History) (tag : ℕ) (m : List ℕ) (f : Free) (d : Draw)
    → (is_live (session_of (id_in_record m) h) ≡ false) ⊎ ((fault : RecordFault) × (opening_fault r.psk (session_of (id_in_record m) h) m ≡ Some fault))
    → after h (on_record r h tag m f d) ≡ h

-- A clear message that was taken and comes again, under whatever values and draw, gets the same body.
abbrev pub TakenIsRepeated : Type 0
TakenIsRepeated = (r : RspSetup) (h : History) (tag : ℕ) (f again : Free) (d next : Draw) (t : Turn)
    → on_clear r h tag t.message f d ≡ Adds (Clear tag t d) → t.refused ≡ None
    → on_clear r (Clear tag t d ∷ h) tag t.message again next ≡ Same (sent_by (Clear tag t d))

-- A record that was taken and comes again, under whatever tag, gets the same body.
abbrev pub TakenRecordIsRepeated : Type 0
TakenRecordIsRepeated = (r : RspSetup) (h : History) (tag other : ℕ) (m : List ℕ) (f again : Free) (d next : Draw) (t : Turn) (reply : List ℕ)
    → on_record r h tag m f d ≡ Adds (Sealed tag m t reply d)
    → on_record r (Sealed tag m t reply d ∷ h) other m again next ≡ Same (sent_by (Sealed tag m t reply d))

-- What a record shows that was taken: it is no repeat, its session is live and opens it, its turn is that of its inner
-- message, and it is answered by the record of the answer.
abbrev pub TakenRecordIsOpened : Type 0
TakenRecordIsOpened = (r : RspSetup) (h : History) (tag : ℕ) (m : List ℕ) (f : Free) (d : Draw) (t : Turn) (reply : List ℕ)
    → on_record r h tag m f d ≡ Adds (Sealed tag m t reply d)
    → (repeats (ended_of h) m ≡ false)
    × (is_live (session_of (id_in_record m) h) ≡ true)
    × (repeats (last_of (session_of (id_in_record m) h)) m ≡ false)
    × (opening_fault r.psk (session_of (id_in_record m) h) m ≡ None)
    × (session_turn r (session_of (id_in_record m) h) (opened r.psk (session_of (id_in_record m) h) m) f ≡ t)
    × (reply_record r.psk (session_of (id_in_record m) h) t (inner_reply t) f.pad ≡ reply)

-- The requester's verify data over Tv of a session with this PSK_FINISH.
abbrev pub finish_verify : (psk : List ℕ) → Events → (finish : List ℕ) → List ℕ
finish_verify psk s finish = verify_data (session_terms s).choice psk (t1_of s) direction.Request (tv_of s finish)

-- A PSK_FINISH that takes effect has the requester's verify data, over Tv of the session that its record names.
abbrev pub FinishIsVerified : Type 0
FinishIsVerified = (r : RspSetup) (h : History) (tag : ℕ) (m : List ℕ) (f : Free) (d : Draw) (t : Turn) (reply verify request answer : List ℕ) (large : Option ℕ)
    → on_record r h tag m f d ≡ Adds (Sealed tag m t reply d)
    → t.effect ≡ Took (PskFinish verify) request answer large
    → verify ≡ finish_verify r.psk (session_of (id_in_record m) h) request

-- ---- Requests.

-- The request that a message is at a place has the code that stands in the message.
abbrev pub RequestHasItsCode : Type 0
RequestHasItsCode = (p : Place) (m : List ℕ) (asked : RequestMessage) → request_at p m ≡ Some asked → code_for asked ≡ code_of m

-- ---- Sessions and their ids.

-- Where fewer than four sessions are established, the id that is given is from 1 to 4 and is none of theirs.
abbrev pub FreeIdIsFree : Type 0
FreeIdIsFree = (h : History) → held_of h ≢ 4 → (1 ≤ free_id h) × (free_id h ≤ 4) × (is_held h (free_id h) ≡ false)

-- In a made history, the id of each live session is from 1 to 4.
abbrev pub LiveIdIsFromOneToFour : Type 0
LiveIdIsFromOneToFour = (r : RspSetup) (h : History) (id : ℕ) → IsMade r h → is_live (session_of id h) ≡ true → (1 ≤ id) × (id ≤ MAX_SESSIONS)

-- The count of the established sessions is at most four.
abbrev pub FourAreHeldAtMost : Type 0
FourAreHeldAtMost = (h : History) → held_of h ≤ 4

-- However many different ids are those of established sessions, they are four at most.
abbrev pub HeldAreFew : Type 0
HeldAreFew = (r : RspSetup) (h : History) (ids : List ℕ) → IsMade r h → IsDistinct nat_eq ids → AllByRecursion (λ id. is_held h id ≡ true) ids
    → length ids ≤ 4

-- A session is live in phase Negotiated alone, and its negotiation is the one of the connection.
abbrev pub LiveIsUnderNegotiation : Type 0
LiveIsUnderNegotiation = (r : RspSetup) (h : History) (id : ℕ) → IsMade r h → is_live (session_of id h) ≡ true
    → (phase_of (clear_turns h) ≡ Negotiated) × (session_negotiation (session_of id h) ≡ negotiation_of (clear_turns h))

-- Of two sessions one at most is in its handshake.
abbrev pub OneIsInHandshake : Type 0
OneIsInHandshake = (h : History) (i j : ℕ) → i ≢ j → is_live (session_of i h) ≡ true → is_live (session_of j h) ≡ true
    → is_past_handshake (stage_of (session_of i h)) ≡ false → is_past_handshake (stage_of (session_of j h)) ≡ true

-- A PSK_EXCHANGE that is not refused begins a session under the id of its answer, which no established session had,
-- with the negotiation as it stands.
abbrev pub NewSessionIsFresh : Type 0
NewSessionIsFresh = (r : RspSetup) (h : History) (tag : ℕ) (m : List ℕ) (f : Free) (d : Draw) (exchange : ExchangeMessage)
    → IsAllowed h (clear_place h) f → request_at (clear_place h) m ≡ Some (PskExchange exchange) → refusal r (clear_place h) m f ≡ None
    → (1 ≤ f.id) × (f.id ≤ MAX_SESSIONS) × (is_held h f.id ≡ false)
    × (session_of f.id (Clear tag (turn_of r (clear_place h) m f) d ∷ h)
    ≡ Began (negotiation_of (clear_turns h)) m (answer_bytes r (clear_place h) m f) ∷ [])

-- The same for each clear message that takes a PSK_EXCHANGE, as the last chunk of a large one does.
abbrev pub TakenExchangeIsFresh : Type 0
TakenExchangeIsFresh = (r : RspSetup) (h : History) (tag : ℕ) (m : List ℕ) (f : Free) (d : Draw) (t : Turn)
    → IsAllowed h (clear_place h) f → turn_of r (clear_place h) m f ≡ t → takes PSK_EXCHANGE t ≡ true
    → (is_held h f.id ≡ false) × (id_in_exchange (answer_in t.effect) ≡ f.id)
    × (session_of f.id (Clear tag t d ∷ h) ≡ Began (negotiation_of (clear_turns h)) (request_in t.effect) (answer_in t.effect) ∷ [])
