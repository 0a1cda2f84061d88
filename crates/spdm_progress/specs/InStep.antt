-- A session that both ends hold alike, so that what one seals next the other opens; and two ends at rest. This
-- project's own.
use Rattle.std.specs.Prelude.{◌≡◌, ◌≢◌, ◌<◌, ◌≤◌, ◌+◌, ◌^◌, ℕ, List, length, true, Some, None, Contains}
use Rattle.key_schedule.specs.Purpose.{Purpose}
use Rattle.requester_machine.specs.Does as asking_does
use Rattle.requester_machine.specs.History as asked
use Rattle.requester_machine.specs.Records.{request_purpose}
use Rattle.requester_machine.specs.Session as asking
use Rattle.requester_machine.specs.Session.{Steps}
use Rattle.requester_machine.specs.Setup.{ReqSetup}
use Rattle.responder_machine.specs.Does as serving_does
use Rattle.responder_machine.specs.History as served
use Rattle.responder_machine.specs.Session as serving
use Rattle.responder_machine.specs.Session.{Events}
use Rattle.responder_machine.specs.Setup.{RspSetup}
use Rattle.secured_record.specs.Faults.{tag_part}
use Rattle.spdm_grammar.specs.Message.{ExchangeMessage}
use Rattle.spdm_grammar.specs.Message.RequestMessage.{PskExchange}
use Rattle.spdm_grammar.specs.Requests.{canonical_request, FitsRequest, IsSoundRequest}
use Rattle.spdm_grammar.specs.declared.told.phase.Stage.TheVariants.{Open}
use Rattle.spdm_machine.specs.Keys.{Draw, context_of}
use Rattle.spdm_machine.specs.Sessions.{id_in_exchange}
use Rattle.spdm_machine.specs.TagLog.{Log, record_input}
use Rattle.spdm_machine.specs.Terms.{hash_len}
use Rattle.spdm_machine.specs.TagLog.Act.{Made}

-- The own history of a session at the requester and that at the responder: each has begun; they have the same
-- negotiation, PSK_EXCHANGE with its answer and PSK_FINISH with its answer, so the same hash, session id, T1 and T2;
-- and the same stage, epochs and next numbers.
pub record AreInStep (s : Steps) (e : Events) : Type 0 where
  pub accepted : asking.is_accepted s ≡ true
  pub live : serving.is_live e ≡ true
  pub negotiation : asking.session_negotiation s ≡ serving.session_negotiation e
  pub exchange : asking.exchange_of s ≡ serving.exchange_of e
  pub answer : asking.exchange_answer s ≡ serving.exchange_answer e
  pub finish : asking.finish_of s ≡ serving.finish_of e
  pub finish_answer : asking.finish_answer s ≡ serving.finish_answer e
  pub stage : asking.stage_of s ≡ serving.stage_of e
  pub request_epoch : asking.request_epoch s ≡ serving.request_epoch e
  pub response_epoch : asking.response_epoch s ≡ serving.response_epoch e
  pub request_next : asking.request_next s ≡ serving.request_next e
  pub response_next : asking.response_next s ≡ serving.response_next e

-- The RspSessionID of a session at the requester.
abbrev pub rsp_id : Steps → ℕ
rsp_id s = id_in_exchange (asking.exchange_answer s)

-- These bytes are a record that was sealed under another purpose or number than the next record of the session: the log
-- has its tag.
pub record WasSealed (psk : List ℕ) (log : Log) (s : Steps) (sealed : List ℕ) : Type 0 where
  pub purpose : Purpose
  pub number : ℕ
  pub made : Contains log (Made purpose (record_input number sealed) (tag_part sealed))
  pub other : purpose ≡ request_purpose psk s → number ≡ asking.request_next s → ⊥

-- A session is open at both ends, in step, and at rest: its RspSessionID has two bytes, and the record that the
-- responder took last, which it answers again where it comes again, is not the next one.
pub record AreResting (psk : List ℕ) (log : Log) (s : Steps) (e : Events) : Type 0 where
  pub in_step : AreInStep s e
  pub stage : asking.stage_of s ≡ Open
  pub two_bytes : rsp_id s < 65536
  pub last : (k : served.KeptRecord) → serving.last_of e ≡ Some k → WasSealed psk log s k.sealed

-- The session with this ReqSessionID rests at both ends: at the responder it is the one of its RspSessionID.
abbrev pub IsResting : List ℕ → Log → asked.History → served.History → ℕ → Type 0
IsResting psk log h g id = AreResting psk log (asking.session_of id h)
    (serving.session_of (rsp_id (asking.session_of id h)) g)

-- The last clear request that the responder took, which it answers from memory where it comes again, is no PSK_EXCHANGE
-- whose context holds the number of a draw that the requester is yet to take. Its draws are numbered from this first
-- one.
pub record TookEarlier (q : ReqSetup) (first : ℕ) (h : asked.History)
    (g : served.History) : Type 0 where
  pub kept : (k : served.Kept) → served.kept_of g ≡ Some k → (x : ExchangeMessage) (d : Draw)
      → FitsRequest (PskExchange x)
      → IsSoundRequest (hash_len (asked.connection_terms h)) (PskExchange x)
      → x.context ≡ context_of (asked.connection_terms h).choice.hash d → length d.bytes ≡ 32
      → first + asked.draws_of q h ≤ d.number → d.number < 2 ^ 64
      → k.message ≢ canonical_request (PskExchange x)

-- A requester and the responder's connection with it are quiet: nothing is outstanding; they are in the same phase,
-- with the same negotiation; each session of the requester rests at both ends, each with a RspSessionID of its own; and
-- the next PSK_EXCHANGE is none that the responder answers from memory. Each of the two histories is one that its end
-- made.
pub record AreQuiet (q : ReqSetup) (r : RspSetup) (first : ℕ) (log : Log) (h : asked.History)
    (g : served.History) : Type 0 where
  pub made : asking_does.IsMade q h
  pub made_there : serving_does.IsMade r g
  pub none : asked.outstanding h ≡ None
  pub phase : asked.phase_of h ≡ served.phase_of (served.clear_turns g)
  pub negotiation : asked.negotiation_of h ≡ served.negotiation_of (served.clear_turns g)
  pub earlier : TookEarlier q first h g
  pub sessions : (id : ℕ) → asking.is_live (asking.session_of id h) ≡ true
      → IsResting q.psk log h g id
  pub apart : (i j : ℕ) → i ≢ j → asking.is_live (asking.session_of i h) ≡ true
      → asking.is_live (asking.session_of j h) ≡ true
      → rsp_id (asking.session_of i h) ≢ rsp_id (asking.session_of j h)
