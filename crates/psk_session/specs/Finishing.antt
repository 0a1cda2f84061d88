-- A session at the requester while PSK_FINISH_RSP is awaited (DSP0274, "PSK_FINISH",
-- "PSK_FINISH_RSP").
use Rattle.std.specs.Prelude.{◌≡◌, ℕ, List, Some, ◌++◌}
use Rattle.key_schedule.specs.Keys.{DirectionSecret}
use Rattle.key_schedule.specs.Purpose.{handshake_record}
use Rattle.key_schedule.specs.declared.direction.Direction.TheVariants.{Response}
use Rattle.requester_machine.specs.Sending.{finish_verify}
use Rattle.requester_machine.specs.Session.{t1_of, session_id}
use Rattle.spdm_basis.specs.declared.values.session_id.SessionId.{SessionId}
use Rattle.spdm_grammar.specs.Message.RequestMessage.{PskFinish}
use Rattle.spdm_grammar.specs.Requests.{canonical_request}
use Rattle.spdm_machine.specs.Terms.{terms_of}
use Rattle.transcript.specs.Lane as lane
use Rattle.transcript.specs.Transcripts.{Negotiation, vca_of}
use Rattle.transcript.specs.declared.lane.Lane.{Lane}
use Rattle.session_keys.specs.Handshake.{IsHandshakeOf}
use Rattle.session_keys.specs.Keys.{IsKeyOf}
use Rattle.session_keys.specs.Terms.{AreTermsOf}
use Rattle.session_keys.specs.declared.handshake.Handshake.{Handshake}
use Rattle.session_keys.specs.declared.terms.SessionTerms.{SessionTerms}
use Rattle.psk_session.specs.Opening.{accepted, finish_record}
use Rattle.psk_session.specs.Told.{told_of}
use Rattle.psk_session.specs.declared.session_told.SessionTold.{SessionTold}

-- The state as contracts see it: the running hash of the transcript so far, what the handshake fixed, the key of the
-- responder's records, the id, the record of PSK_FINISH, the terms, and what PSK_EXCHANGE_RSP told.
pub record Seen : Type 0 where
  pub lane : Lane
  pub handshake : Handshake
  pub response : DirectionSecret
  pub id : SessionId
  pub sent : List ℕ
  pub terms : SessionTerms
  pub told : SessionTold

-- PSK_FINISH.
abbrev pub finish_message : (psk : List ℕ) → Negotiation → (exchange answer : List ℕ) → List ℕ
finish_message psk n exchange answer =
    canonical_request (PskFinish (finish_verify psk (accepted n exchange answer)))

-- The state stands for the session that this PSK_EXCHANGE began under this negotiation, that this answer accepted, and
-- whose PSK_FINISH was sent with this padding.
pub record StandsFor (seen : Seen) (psk : List ℕ) (n : Negotiation)
    (exchange answer pad : List ℕ) : Type 0 where
  pub terms : AreTermsOf seen.terms n exchange
  pub handshake : IsHandshakeOf seen.handshake (terms_of n).choice psk
      (t1_of (accepted n exchange answer))
  pub pushed : lane.StandsFor seen.lane
      (vca_of n ++ exchange ++ answer ++ finish_message psk n exchange answer)
  pub response : IsKeyOf seen.response (terms_of n).choice
      (handshake_record psk (t1_of (accepted n exchange answer)) Response)
  pub id : seen.id ≡ session_id (accepted n exchange answer)
  pub sent : seen.sent ≡ finish_record psk (accepted n exchange answer) pad
  pub told : told_of (accepted n exchange answer) ≡ Some seen.told
