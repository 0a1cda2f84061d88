-- The answer to PSK_EXCHANGE, and time.
use Rattle.std.proofs.Common.{◌≡◌, ◌∙◌, ◌++◌, ap, refl, ℕ, List, [], ◌∷◌}
use Rattle.key_schedule.specs.declared.direction.Direction.TheVariants.{Response}
use Rattle.responder_machine.specs.Answer.{Free, exchange_rsp}
use Rattle.responder_machine.specs.Place.{Place, place_terms}
use Rattle.responder_machine.specs.Session.{Events}
use Rattle.responder_machine.specs.Session.Event.{Waited}
use Rattle.responder_machine.specs.Setup.{RspSetup}
use Rattle.spdm_grammar.specs.Message.{ExchangeMessage}
use Rattle.spdm_grammar.specs.Message.ResponseMessage.{PskExchangeRsp}
use Rattle.spdm_grammar.specs.Responses.{canonical_response}
use Rattle.spdm_machine.specs.Keys.{verify_data}
use Rattle.transcript.specs.Transcripts.{vca_of}
use Rattle.responder_session.specs.Exchange.{answer_with}
use Rattle.responder_session.specs.ExchangeLaws.{ArePartsOf, SessionWaits, StartIsAnswer, WaitingStands}
use Rattle.responder_session.specs.Kept.{Keeps}
use Rattle.responder_session.specs.declared.kept.Kept.{Kept}
use Rattle.responder_session.specs.declared.parts.ExchangeParts.{ExchangeParts}
use Rattle.responder_session.specs.declared.took.RspState.TheVariants as state

written : (r : RspSetup) (p : Place) (f : Free) (e : ExchangeMessage) (parts : ExchangeParts) (verify : List ℕ) → ArePartsOf r p f e parts → answer_with parts verify ≡ canonical_response (exchange_rsp r p f e verify)
written r p f e parts verify a = λ i. canonical_response (PskExchangeRsp (record {
  heartbeat = a.heartbeat i;
  rsp_id = a.id i;
  summary = a.summary i;
  context = a.context i;
  opaque = a.opaque i;
  verify = verify;
}))

pub start_is_answer : StartIsAnswer
start_is_answer r p m f e parts a =
    let verify : List ℕ → List ℕ = λ t1. verify_data (place_terms p).choice r.psk t1 Response t1 in
    ap (λ (x : List ℕ). answer_with parts (verify (vca_of p.negotiation ++ m ++ x))) (written r p f e parts [] a)
    ∙ written r p f e parts (verify (vca_of p.negotiation ++ m ++ canonical_response (exchange_rsp r p f e []))) a

kept_waits : (kept : Kept) (psk : List ℕ) (s : Events) (seconds : ℕ) → Keeps kept psk s → Keeps kept psk (Waited seconds ∷ s)
kept_waits kept psk s seconds k = record {
  live = refl;
  terms = k.terms;
  id = k.id;
  request = k.request;
  response = k.response;
  request_epoch = k.request_epoch;
  response_epoch = k.response_epoch;
  request_next = k.request_next;
  response_next = k.response_next;
  taken = k.taken;
  hash = k.hash;
  last = k.last;
}

pub session_waits : SessionWaits
session_waits session psk s seconds x = record {
  stage = x.stage;
  keeps = kept_waits session.kept psk s seconds x.keeps;
  handshake = x.handshake;
  pushed = x.pushed;
  large = x.large;
  bytes = x.bytes;
  fresh = λ at. let f = x.fresh at in record { request_epoch = f.request_epoch; response_epoch = f.response_epoch; taken = f.taken };
}

pub waiting_stands : WaitingStands
waiting_stands (state.Handshake h) r s seconds x = record { session = session_waits h.session r.psk s seconds x.session; stage = x.stage; sizes = x.sizes }
waiting_stands (state.Open o) r s seconds x = record { session = session_waits o.session r.psk s seconds x.session; stage = x.stage; sizes = x.sizes }
waiting_stands (state.Verifying v) r s seconds x = record { session = session_waits v.session r.psk s seconds x.session; stage = x.stage; sizes = x.sizes }
waiting_stands (state.Ended e) r s seconds x = absurd x
