-- A session at the responder in every stage.
use Rattle.std.specs.Prelude.{◌≡◌, ◌++◌, ℕ, List, Some, None}
use Rattle.responder_rules.specs.LargeAnswer as large_answers
use Rattle.responder_machine.specs.Session.{Events, stage_of, session_terms, session_vca, exchange_of, exchange_answer, t1_of, turns_of, request_epoch, response_epoch, taken_of}
use Rattle.session_keys.specs.Handshake.{IsHandshakeOf}
use Rattle.spdm_basis.specs.SessionIdBytes.{session_id_bytes}
use Rattle.spdm_grammar.specs.declared.told.phase.Stage.TheVariants.{Handshake}
use Rattle.transcript.specs.Lane as lanes
use Rattle.responder_session.specs.Data.{data_of}
use Rattle.responder_session.specs.Kept.{Keeps, kept_record}
use Rattle.responder_session.specs.declared.session.RspSession.{RspSession}

-- While PSK_FINISH is awaited no key was updated and no application data taken.
pub record IsFresh (s : Events) : Type 0 where
  pub request_epoch : request_epoch s ≡ 0
  pub response_epoch : response_epoch s ≡ 0
  pub taken : taken_of s ≡ 0

-- The session stands for these events, with this pre-shared key.
pub record StandsFor (seen : RspSession) (psk : List ℕ) (s : Events) : Type 0 where
  pub stage : seen.stage ≡ Some (stage_of s)
  pub keeps : Keeps seen.kept psk s
  pub handshake : IsHandshakeOf seen.exchange.handshake (session_terms s).choice psk (t1_of s)
  pub pushed : lanes.StandsFor seen.exchange.lane (session_vca s ++ exchange_of s ++ exchange_answer s)
  pub large : large_answers.StandsFor seen.large (session_terms s).common.to_requester.transfer (turns_of s)
  pub bytes : seen.bytes ≡ data_of s
  pub fresh : stage_of s ≡ Handshake → IsFresh s

-- It stands for the ended session of this id, whose last record and reply these were.
pub record IsEnded (seen : RspSession) (id_bytes old answer : List ℕ) : Type 0 where
  pub stage : seen.stage ≡ None
  pub id : session_id_bytes seen.kept.id.req seen.kept.id.rsp ≡ id_bytes
  pub last : kept_record seen.kept.last ≡ Some (record { sealed = old; reply = answer })
