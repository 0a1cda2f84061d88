-- The record that a session took last, and its reply, as they are read again where LargeResponse comes again in the session.
-- This project's own.
use Rattle.std.specs.Prelude.{◌≡◌, ◌<◌, ◌==◌, ◌&&◌, ℕ, List, drop, slice_index, Bool, true, false, Option, Some, None}
use Rattle.check_fetched_ends.specs.InSession.{AreLengths}
use Rattle.check_fetched_ends.specs.declared.session_fetch.in_session.InSession.{InSession}
use Rattle.check_fetched_ends.specs.declared.session_fetch.session_again.LateResponse.{LateResponse}
use Rattle.check_late_laws.specs.Fetching.{Fetching, number_of}
use Rattle.check_late_laws.specs.LargeAnswers.{StandsFor}
use Rattle.measurements.specs.Records.{is_missing}
use Rattle.responder_machine.specs.Answer.{request_at}
use Rattle.responder_machine.specs.History.{History, ended_of}
use Rattle.responder_machine.specs.Place.{session_place}
use Rattle.responder_machine.specs.Responder.{repeats}
use Rattle.responder_machine.specs.Session.{Events, id_in_record, is_live, session_of, session_terms}
use Rattle.responder_machine.specs.Setup.{RspSetup, inventory_of}
use Rattle.responder_session.specs.LastRead.{last_opened, reads_last, reply_opened}
use Rattle.spdm_grammar.specs.Message.RequestMessage.{GetMeasurements}
use Rattle.spdm_grammar.specs.declared.names.error_number.TheConstants.{LARGE_RESPONSE}
use Rattle.spdm_grammar.specs.declared.names.response_code.TheConstants.{ERROR}
use Rattle.capture_machine.specs.LargeAnswers.{IsLargeAnswer}
use Rattle.spdm_grammar.specs.declared.names.message_type.TheConstants.{SPDM}

-- An inner message holds LargeResponse.
abbrev pub holds_large : (inner : List ℕ) → Bool
holds_large inner = slice_index inner 0 == SPDM && (slice_index inner 2 == ERROR && slice_index inner 3 == LARGE_RESPONSE)

-- A message asks in a live session for this operation of GET_MEASUREMENTS, whose blocks are there, and some answer is
-- sent in chunks.
pub record IsAskedIn (r : RspSetup) (s : Events) (message : List ℕ) (op : ℕ) : Type 0 where
  pub live : is_live s ≡ true
  pub asks : request_at (session_place s) message ≡ Some (GetMeasurements op)
  pub found : is_missing op (inventory_of r) ≡ false
  pub chunk : (session_terms s).common.chunk ≡ true
  pub wide : 12 < (session_terms s).common.to_requester.transfer
  pub some : (whole : List ℕ) × IsLargeAnswer (session_place s) whole

-- What is kept where the large response to such a message is fetched from now on; or it is no such message.
pub record IsKeptIn (r : RspSetup) (s : Events) (id : ℕ) (message : List ℕ) (fetched : InSession) : Type 0 where
  pub asked : IsAskedIn r s message fetched.op
  pub id_is : fetched.id ≡ id
  pub lengths : AreLengths (session_place s) fetched.least fetched.most
  pub left : fetched.left ≡ true
  pub none : (f : Fetching) → number_of f ≡ 0 → StandsFor fetched.answer f

abbrev pub IsKeptFor : RspSetup → Events → (id : ℕ) → (message : List ℕ) → Option InSession → Type 0
IsKeptFor r s id message None = (op : ℕ) → IsAskedIn r s message op → ⊥
IsKeptFor r s id message (Some fetched) = IsKeptIn r s id message fetched

-- A record and an answer are the last record that its session took and its reply; that is LargeResponse with this handle.
pub record IsLargeAgain (r : RspSetup) (h : History) (request answer : List ℕ) (handle : ℕ) : Type 0 where
  pub anew : repeats (ended_of h) request ≡ false
  pub reads : reads_last r.psk (session_of (id_in_record request) h) request answer ≡ true
  pub large : holds_large (reply_opened r.psk (session_of (id_in_record request) h) answer) ≡ true
  pub handle_is : handle ≡ slice_index (reply_opened r.psk (session_of (id_in_record request) h) answer) 5

-- The message in that record.
abbrev pub last_message : RspSetup → History → (request : List ℕ) → List ℕ
last_message r h request = drop 1 (last_opened r.psk (session_of (id_in_record request) h) request)

-- It is so, and this is kept where its large response is fetched from now on; or it is not, or the record asks for
-- none.
abbrev pub IsPreparedAgain : RspSetup → History → (request answer : List ℕ) → Option LateResponse → Type 0
IsPreparedAgain r h request answer None =
    (op handle : ℕ) → IsLargeAgain r h request answer handle
    → IsAskedIn r (session_of (id_in_record request) h) (last_message r h request) op → ⊥
IsPreparedAgain r h request answer (Some again) =
    IsLargeAgain r h request answer again.handle
    × IsKeptIn r (session_of (id_in_record request) h) (id_in_record request) (last_message r h request) again.fetched
