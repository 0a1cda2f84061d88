-- What is kept of a large response whose fetch is about to begin in a session. This project's own.
use Rattle.std.specs.Prelude.{◌≡◌, ◌<◌, ℕ, List, drop, true, false, Option, Some, None, is_some}
use Rattle.responder_core.specs.OwnAnswers.{opens_in}
use Rattle.check_late_laws.specs.Fetching.{Fetching, number_of}
use Rattle.check_late_laws.specs.LargeAnswers.{StandsFor}
use Rattle.measurements.specs.Records.{is_missing}
use Rattle.responder_machine.specs.Answer.{Free, request_at}
use Rattle.responder_machine.specs.History.{History}
use Rattle.responder_machine.specs.Place.{session_place}
use Rattle.responder_machine.specs.Records.{opened}
use Rattle.responder_machine.specs.Session.{id_in_record, session_of, session_terms}
use Rattle.responder_machine.specs.Setup.{RspSetup, inventory_of}
use Rattle.responder_machine.specs.Turn.{handle_in}
use Rattle.responder_session.specs.Took.{turn_in}
use Rattle.spdm_grammar.specs.Message.{RequestMessage}
use Rattle.spdm_grammar.specs.Message.RequestMessage.{GetMeasurements}
use Rattle.check_fetched_ends.specs.InSession.{AreLengths}
use Rattle.check_fetched_ends.specs.declared.session_fetch.in_session.InSession.{InSession}

-- The operation of GET_MEASUREMENTS; none of any other request.
abbrev pub operation_of : RequestMessage → Option ℕ
operation_of (GetMeasurements op) = Some op
operation_of _ = None

abbrev pub operation_in : Option RequestMessage → Option ℕ
operation_in None = None
operation_in (Some asked) = operation_of asked

-- The record asks for this operation of GET_MEASUREMENTS, in its session.
abbrev pub AsksOperation : RspSetup → History → (request : List ℕ) → (op : ℕ) → Type 0
AsksOperation r h request op =
    let s = session_of (id_in_record request) h in request_at (session_place s) (drop 1 (opened r.psk s request)) ≡ Some (GetMeasurements op)

-- What is kept where its large response is fetched from now on, in its session: a chunk has room for some bytes.
pub record IsPrepared (r : RspSetup) (h : History) (request : List ℕ) (fetched : InSession) : Type 0 where
  pub id : fetched.id ≡ id_in_record request
  pub asks : AsksOperation r h request fetched.op
  pub found : is_missing fetched.op (inventory_of r) ≡ false
  pub lengths : AreLengths (session_place (session_of (id_in_record request) h)) fetched.least fetched.most
  pub wide : 12 < (session_terms (session_of (id_in_record request) h)).common.to_requester.transfer
  pub left : fetched.left ≡ true
  pub none : (f : Fetching) → number_of f ≡ 0 → StandsFor fetched.answer f

-- Where its session opens it, no answer to it goes by LargeResponse, whatever is free.
abbrev pub NeverLarge : RspSetup → History → (request : List ℕ) → Type 0
NeverLarge r h request =
    let s = session_of (id_in_record request) h in
    opens_in r s request ≡ true → (f : Free) → is_some (handle_in (turn_in r s f request).effect) ≡ true → ⊥

-- This is kept where its large response is fetched from now on; or it never gets one.
abbrev pub IsPreparedFor : RspSetup → History → (request : List ℕ) → Option InSession → Type 0
IsPreparedFor r h request None = NeverLarge r h request
IsPreparedFor r h request (Some fetched) = IsPrepared r h request fetched
