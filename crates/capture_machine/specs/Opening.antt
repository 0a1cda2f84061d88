-- Whether a record of a capture that does not conform opens at least, as what it might have been. This project's own.
use Rattle.std.specs.Prelude.{◌&&◌, ◌||◌, not, nat_lt, ℕ, List, [], ◌∷◌, take, if◌then◌else◌, Bool, false, is_none, bytes_eq}
use Rattle.requester_machine.specs.Records as requester_records
use Rattle.requester_machine.specs.Session as requester_session
use Rattle.responder_machine.specs.Answer.{Free}
use Rattle.responder_machine.specs.History.{History, ended_of}
use Rattle.responder_machine.specs.History.Entry.{Sealed}
use Rattle.spdm_machine.specs.Keys.{record_fault, inner_message}
use Rattle.responder_machine.specs.Records.{response_purpose, reply_purpose, reply_number, opening_fault, opened}
use Rattle.responder_machine.specs.Responder.{repeats, session_turn}
use Rattle.responder_machine.specs.Session.{Events, session_of, session_terms, is_live, id_bytes, id_in_record, last_of, response_next}
use Rattle.responder_machine.specs.Session.Event.{Heard}
use Rattle.responder_machine.specs.Setup.{RspSetup}
use Rattle.requester_machine.specs.Setup.{ReqSetup}
use Rattle.responder_machine.specs.Turn.{Turn, takes}
use Rattle.spdm_grammar.specs.declared.names.request_code.TheConstants.{END_SESSION}
use Rattle.spdm_grammar.specs.declared.names.TheConstants.{MAX_RECORDS}

-- ---- As a request.

-- A record opens under the next request key and number; a key that sealed 65,536 records has none.
unfoldable pub opens_asking : ReqSetup → requester_session.Steps → List ℕ → Bool
opens_asking q s sealed =
    requester_session.is_accepted s && nat_lt (requester_session.request_next s) MAX_RECORDS
    && is_none (record_fault (requester_session.session_terms s).choice (requester_records.request_purpose q.psk s) (requester_session.request_next s) (requester_session.id_bytes s) sealed)

-- The inner message that it has then.
unfoldable pub inner_asking : ReqSetup → requester_session.Steps → List ℕ → List ℕ
inner_asking q s sealed =
    inner_message (requester_session.session_terms s).choice (requester_records.request_purpose q.psk s) (requester_session.request_next s) sealed

-- ---- As an answer.

-- As the next answer of a live session, whose key has a number left.
unfoldable pub opens_next : RspSetup → Events → List ℕ → Bool
opens_next r s sealed =
    is_live s && nat_lt (response_next s) MAX_RECORDS
    && is_none (record_fault (session_terms s).choice (response_purpose r.psk s) (response_next s) (id_bytes s) sealed)

-- As the answer to a turn of a session.
unfoldable pub opens_to : RspSetup → Events → Turn → List ℕ → Bool
opens_to r s t sealed = is_none (record_fault (session_terms s).choice (reply_purpose r.psk s t) (reply_number s t) (id_bytes s) sealed)

-- As the answer to the last record that a session took.
abbrev pub opens_again : RspSetup → Events → List ℕ → Bool
opens_again r [] sealed = false
opens_again r (Heard m t reply ∷ older) sealed = opens_to r older t sealed
opens_again r (_ ∷ older) sealed = opens_again r older sealed

-- As the answer to the last END_SESSION.
abbrev pub opens_ended : RspSetup → History → List ℕ → Bool
opens_ended r [] sealed = false
opens_ended r (Sealed tag m t reply d ∷ older) sealed =
    if takes END_SESSION t then opens_to r (session_of (id_in_record m) older) t sealed else opens_ended r older sealed
opens_ended r (_ ∷ older) sealed = opens_ended r older sealed

-- Under which key a turn is answered depends on no free value.
abbrev pub any_free : Free
any_free = record { id = 1; context = []; exchange_opaque = []; nonce = []; measured_opaque = []; handle = 0; reply = []; pad = [] }

-- The turn of a record that is a request in a session.
abbrev pub turn_in : RspSetup → Events → List ℕ → Turn
turn_in r s request = session_turn r s (opened r.psk s request) any_free

-- An answer with the id of the session that the request names: as the stored reply of a repeat, or for a live session
-- as its next answer; as the answer to a request that opens; and as the next one where the request does not.
abbrev pub opens_in_session : RspSetup → History → Events → (request sealed : List ℕ) → Bool
opens_in_session r h s request sealed =
    if repeats (ended_of h) request then opens_ended r h sealed
    else (if repeats (last_of s) request then opens_again r s sealed || opens_next r s sealed
    else (if is_live s && is_none (opening_fault r.psk s request) then opens_to r s (turn_in r s request) sealed
    else opens_next r s sealed))

-- An answer to a clear request, or with another id: as the next answer of its own session.
abbrev pub opens_answering : RspSetup → History → (is_clear : Bool) → (request sealed : List ℕ) → Bool
opens_answering r h is_clear request sealed =
    if is_clear || not (bytes_eq (take 4 request) (take 4 sealed)) then opens_next r (session_of (id_in_record sealed) h) sealed
    else opens_in_session r h (session_of (id_in_record request) h) request sealed
