-- A session that a PSK_EXCHANGE begins (DSP0274, "PSK_EXCHANGE").
use Rattle.std.specs.Prelude.{◌≡◌, ℕ, List, [], true, if◌then◌else◌}
use Rattle.responder_machine.specs.History.{History, clear_turns, negotiation_of}
use Rattle.responder_machine.specs.Session.{Events, stage_of}
use Rattle.responder_machine.specs.Setup.{RspSetup}
use Rattle.responder_machine.specs.SizeLaws.{HasSizes}
use Rattle.responder_machine.specs.Turn.{Turn, answer_in, request_in, takes}
use Rattle.responder_session.specs.Exchange.{begun}
use Rattle.responder_session.specs.Session as sessions
use Rattle.responder_session.specs.declared.session.RspSession.{RspSession}
use Rattle.spdm_grammar.specs.declared.names.request_code.TheConstants.{PSK_EXCHANGE}
use Rattle.spdm_machine.specs.Sessions.{id_in_exchange, is_past_handshake}
use Rattle.spdm_machine.specs.Terms.{terms_of}

-- An established session; one that is in it is gone.
abbrev pub held_part : Events → Events
held_part s = if is_past_handshake (stage_of s) then s else []

-- The turn took a PSK_EXCHANGE, whose answer gives this RspSessionID; this is the session that it begins under the
-- negotiation as it stands.
pub record IsBeginningAt (r : RspSetup) (h : History) (t : Turn) (id : ℕ) (session : RspSession) (answer : List ℕ) : Type 0 where
  pub is_exchange : takes PSK_EXCHANGE t ≡ true
  pub id_is : id_in_exchange answer ≡ id
  pub answer_is : answer ≡ answer_in t.effect
  pub session_is : sessions.StandsFor session r.psk (begun (negotiation_of (clear_turns h)) (request_in t.effect) answer)
  pub sizes : HasSizes r (terms_of (negotiation_of (clear_turns h))).common
