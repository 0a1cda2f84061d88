-- The tags that a responder computes and compares, message by message. This project's own.
use Rattle.std.specs.Prelude.{ℕ, ◌==◌, ◌&&◌, List, [], ◌∷◌, ◌++◌, drop, slice_index, if◌then◌else◌, Option, Some, is_none}
use Rattle.key_schedule.specs.Purpose.{verify}
use Rattle.key_schedule.specs.declared.direction.Direction.TheVariants as direction
use Rattle.spdm_grammar.specs.Message.{RequestMessage}
use Rattle.spdm_grammar.specs.Message.RequestMessage.{PskFinish}
use Rattle.responder_machine.specs.Answer.{request_at}
use Rattle.responder_machine.specs.History.{History, clear_turns, negotiation_of}
use Rattle.responder_machine.specs.History.Entry.{Clear, Sealed}
use Rattle.spdm_machine.specs.Keys.{verify_data}
use Rattle.responder_machine.specs.Place.{session_place}
use Rattle.responder_machine.specs.Records.{opened, request_purpose, reply_purpose, reply_number}
use Rattle.responder_machine.specs.Refusal.{refused_form}
use Rattle.responder_machine.specs.Responder.{Outcome, inner_refusal}
use Rattle.responder_machine.specs.Responder.Outcome.{Same, Unopened, Adds}
use Rattle.responder_machine.specs.Session.{Events, session_of, session_terms, id_in_record, id_bytes, is_spent, request_next, stage_of, t1_of, tv_of}
use Rattle.responder_machine.specs.Session.Event.{Began}
use Rattle.responder_machine.specs.Setup.{RspSetup}
use Rattle.spdm_machine.specs.TagLog.{Act, made_record, checked_record}
use Rattle.spdm_machine.specs.TagLog.Act.{Made, Checked}
use Rattle.responder_machine.specs.Turn.{Turn, takes, request_in, answer_in}
use Rattle.spdm_grammar.specs.declared.names.request_code.TheConstants.{PSK_EXCHANGE}
use Rattle.spdm_grammar.specs.declared.names.message_type.TheConstants.{SPDM}

-- ---- In the clear: verify data are made with each PSK_EXCHANGE_RSP that takes effect.

-- The session that a turn begins which takes PSK_EXCHANGE, under the negotiation as it stands.
abbrev pub began_by : History → Turn → Events
began_by h t = Began (negotiation_of (clear_turns h)) (request_in t.effect) (answer_in t.effect) ∷ []

-- The responder's verify data of a session are made, over T1.
abbrev pub response_made : RspSetup → Events → Act
response_made r s =
    Made (verify r.psk (t1_of s) direction.Response) (t1_of s) (verify_data (session_terms s).choice r.psk (t1_of s) direction.Response (t1_of s))

-- A clear message makes verify data where PSK_EXCHANGE took effect; else it makes and compares nothing.
abbrev pub clear_acts : RspSetup → History → Turn → List Act
clear_acts r h t = if takes PSK_EXCHANGE t then response_made r (began_by h t) ∷ [] else []

-- ---- In a session. Each list has the newest act first.

-- The verify data of a PSK_FINISH that has no fault of form are compared.
abbrev pub finish_check : RspSetup → Events → List ℕ → Option RequestMessage → List Act
finish_check r s m (Some (PskFinish received)) =
    Checked (verify r.psk (t1_of s) direction.Request) (tv_of s m) (verify_data (session_terms s).choice r.psk (t1_of s) direction.Request (tv_of s m)) received ∷ []
finish_check r s m _ = []

-- An SPDM message in a session brings a comparison only where its form has no fault.
abbrev pub finish_acts : RspSetup → Events → List ℕ → List Act
finish_acts r s m = if is_none (refused_form r (session_place s) m) then finish_check r s m (request_at (session_place s) m) else []

-- An inner message brings a comparison only where it is an SPDM message that is read as a request.
abbrev pub inner_acts : RspSetup → Events → List ℕ → List Act
inner_acts r s inner =
    if is_none (inner_refusal (stage_of s) inner) && slice_index inner 0 == SPDM then finish_acts r s (drop 1 inner)
    else []

-- The record that answers a turn is sealed.
abbrev pub reply_made : RspSetup → Events → Turn → List ℕ → Act
reply_made r s t reply = made_record (session_terms s).choice (reply_purpose r.psk s t) (reply_number s t) reply

-- The tag of a record is compared where the session is live, the record is no repeat and no key is spent.
abbrev pub record_check : RspSetup → Events → List ℕ → List Act
record_check r s sealed =
    if is_spent s then []
    else checked_record (session_terms s).choice (request_purpose r.psk s) (request_next s) (id_bytes s) sealed

-- A record that did not open: its tag was compared at most where its session is live.
abbrev pub unopened_acts : RspSetup → Events → List ℕ → List Act
unopened_acts r [] sealed = []
unopened_acts r (e ∷ s) sealed = record_check r (e ∷ s) sealed

-- A record that opened: its tag was compared, then the verify data in it, and then its answer was sealed.
abbrev pub opened_acts : RspSetup → Events → List ℕ → Turn → List ℕ → List Act
opened_acts r s sealed t reply = reply_made r s t reply ∷ inner_acts r s (opened r.psk s sealed) ++ record_check r s sealed

-- ---- By outcome: a repeat computes none, and of a record that does not open at most the tag was compared.
abbrev pub acts_of : RspSetup → History → List ℕ → Outcome → List Act
acts_of r h body (Same reply) = []
acts_of r h body (Unopened reply) = unopened_acts r (session_of (id_in_record (drop 1 body)) h) (drop 1 body)
acts_of r h body (Adds (Clear tag t d)) = clear_acts r h t
acts_of r h body (Adds (Sealed tag sealed t reply d)) = opened_acts r (session_of (id_in_record sealed) h) sealed t reply
acts_of r h body (Adds _) = []
