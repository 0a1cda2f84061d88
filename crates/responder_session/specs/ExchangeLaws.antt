-- The answer to PSK_EXCHANGE is that of the definitions of a responder, and time leaves a state as it is.
use Rattle.std.specs.Prelude.{◌≡◌, ℕ, List, ◌∷◌, if◌then◌else◌}
use Rattle.responder_machine.specs.Answer.{Free, exchange_answer, summary_answer}
use Rattle.responder_machine.specs.Place.{Place, place_terms}
use Rattle.responder_machine.specs.Session.{Events}
use Rattle.responder_machine.specs.Session.Event.{Waited}
use Rattle.responder_machine.specs.Setup.{RspSetup}
use Rattle.spdm_grammar.specs.Message.{ExchangeMessage}
use Rattle.spdm_grammar.specs.Responses.{canonical_response}
use Rattle.responder_session.specs.Exchange.{answer_for}
use Rattle.responder_session.specs.Session.{StandsFor}
use Rattle.responder_session.specs.Took.{IsStateOf}
use Rattle.responder_session.specs.declared.session.RspSession.{RspSession}
use Rattle.responder_session.specs.declared.parts.ExchangeParts.{ExchangeParts}
use Rattle.responder_session.specs.declared.took.RspState.{RspState}

-- The parts are those that a responder at a place puts into its answer to this PSK_EXCHANGE, under these free values.
pub record ArePartsOf (r : RspSetup) (p : Place) (f : Free) (e : ExchangeMessage) (parts : ExchangeParts) : Type 0 where
  pub heartbeat : parts.heartbeat ≡ (if (place_terms p).common.heartbeat then r.beat else 0)
  pub id : parts.rsp_id ≡ f.id
  pub summary : parts.summary.now ≡ summary_answer r p e.summary
  pub context : parts.context.now ≡ f.context
  pub opaque : parts.opaque.now ≡ f.exchange_opaque

-- With them the answer that is written is the whole answer of the responder.
abbrev pub StartIsAnswer : Type 0
StartIsAnswer =
    (r : RspSetup) (p : Place) (m : List ℕ) (f : Free) (e : ExchangeMessage) (parts : ExchangeParts)
    → ArePartsOf r p f e parts
    → answer_for r.psk p.negotiation m parts ≡ canonical_response (exchange_answer r p m f e)

-- A session that is stepped in place stands for its events also when seconds have passed.
abbrev pub SessionWaits : Type 0
SessionWaits =
    (session : RspSession) (psk : List ℕ) (s : Events) (seconds : ℕ) → StandsFor session psk s
    → StandsFor session psk (Waited seconds ∷ s)

-- A state that stands for a session stands for it when seconds have passed.
abbrev pub WaitingStands : Type 0
WaitingStands =
    (state : RspState) (r : RspSetup) (s : Events) (seconds : ℕ) → IsStateOf state r s
    → IsStateOf state r (Waited seconds ∷ s)
