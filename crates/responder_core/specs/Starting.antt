-- The session that a PSK_EXCHANGE starts, with its answer (DSP0274, "PSK_EXCHANGE_RSP").
use Rattle.std.specs.Prelude.{◌≡◌, ℕ, List}
use Rattle.responder_core.specs.Coming.{Seen, exchange_bytes, exchange_place}
use Rattle.responder_core.specs.declared.clear.request_outcome.ExchangeOrigin.{ExchangeOrigin}
use Rattle.responder_machine.specs.Answer.{Free, answer_bytes}
use Rattle.responder_machine.specs.History.{History, clear_turns, negotiation_of}
use Rattle.responder_machine.specs.Place.{clear_place}
use Rattle.responder_machine.specs.Setup.{RspSetup}
use Rattle.responder_session.specs.Exchange.{begun}
use Rattle.responder_session.specs.Session as sessions
use Rattle.responder_session.specs.declared.session.RspSession.{RspSession}
use Rattle.transcript.specs.Transcripts.{Negotiation}

-- The whole answer to a PSK_EXCHANGE was written, and this is the session that they begin under a negotiation.
pub record IsStarted (r : RspSetup) (n : Negotiation) (exchange expected : List ℕ) (session : RspSession) (answer : List ℕ) : Type 0 where
  pub answer_is : answer ≡ expected
  pub session_is : sessions.StandsFor session r.psk (begun n exchange answer)

-- So it was for the PSK_EXCHANGE that begins a session in the clear part of this history.
abbrev pub IsStartedAt : RspSetup → History → (m : List ℕ) → Free → ExchangeOrigin → Seen → RspSession → (answer : List ℕ) → Type 0
IsStartedAt r h m f begins seen session answer =
    IsStarted r (negotiation_of (clear_turns h)) (exchange_bytes begins m seen) (answer_bytes r (exchange_place begins (clear_place h)) (exchange_bytes begins m seen) f) session answer
