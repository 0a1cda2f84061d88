-- Which checks a message passed that added an entry to the history of a requester. This project's own.
use Rattle.std.specs.Prelude.{◌≡◌, ℕ, List, ◌∷◌, drop, Bool, false, Some, None, Ok}
use Rattle.key_schedule.specs.declared.direction.Direction.TheVariants as direction
use Rattle.spdm_grammar.specs.Message.{ExchangeMessage, ExchangeRspMessage}
use Rattle.spdm_grammar.specs.Message.RequestMessage.{PskExchange}
use Rattle.spdm_grammar.specs.Message.ResponseMessage.{PskExchangeRsp}
use Rattle.spdm_grammar.specs.Requests.{canonical_request}
use Rattle.spdm_grammar.specs.Responses.{response_reading}
use Rattle.spdm_machine.specs.Keys.{Draw, verify_data}
use Rattle.spdm_machine.specs.Terms.{hash_len}
use Rattle.requester_machine.specs.Setup.{ReqSetup}
use Rattle.requester_machine.specs.Answers.{answer_verify, with_answer}
use Rattle.requester_machine.specs.Asking.Outcome.{Adds}
use Rattle.requester_machine.specs.Bodies.{is_clear}
use Rattle.requester_machine.specs.ClearAnswers.{carried_by, has_summary, reading_of}
use Rattle.requester_machine.specs.ClearAnswers.Carried.{Whole}
use Rattle.requester_machine.specs.Commands.{Free}
use Rattle.requester_machine.specs.Does.{IsMade}
use Rattle.requester_machine.specs.Hearing.{hears, came_to}
use Rattle.requester_machine.specs.History.{History, Entry, Led, outstanding, negotiation_of}
use Rattle.requester_machine.specs.History.Effect.{Answers}
use Rattle.requester_machine.specs.History.Entry.{TookClear, TookRecord}
use Rattle.requester_machine.specs.InnerMessages.{inner_led, or_lost}
use Rattle.requester_machine.specs.Message.{Ask, Sent, asked_in}
use Rattle.requester_machine.specs.Message.Aim.{InSession}
use Rattle.requester_machine.specs.Records.{answer_fault, answer_inner}
use Rattle.requester_machine.specs.Session.{Steps, session_of, session_negotiation, session_terms, exchange_of, exchange_answer, t1_of}
use Rattle.requester_machine.specs.Shown.{effect_in}

-- ---- The answer to PSK_EXCHANGE.

-- The outstanding message asked for the answer to this PSK_EXCHANGE. The body carries this answer whole: as it stands,
-- inside an acknowledgement, or as the last chunk of a large response. It encodes PSK_EXCHANGE_RSP, and its verify data
-- are those of the responder over T1 with this answer.
pub record IsVerified (q : ReqSetup) (h : History) (body : List ℕ) (exchange : ExchangeMessage) (answer : List ℕ) : Type 0 where
  pub sent : Sent
  pub waits : outstanding h ≡ Some sent
  pub asks : asked_in sent.aim ≡ Some (PskExchange exchange)
  pub place : ℕ
  pub whole : carried_by q h (drop 1 body) sent.aim ≡ Whole answer place
  pub rsp : ExchangeRspMessage
  pub reads : reading_of h (PskExchange exchange) answer ≡ Ok (PskExchangeRsp rsp)
  pub right : rsp.verify ≡ answer_verify q.psk (with_answer h exchange answer)

-- A body that adds an answer to PSK_EXCHANGE to the history passed this check, whatever is free.
abbrev pub AcceptedIsVerified : Type 0
AcceptedIsVerified = (q : ReqSetup) (h : History) (owner : Bool) (tag : ℕ) (body : List ℕ) (f : Free) (d : Draw) (entry : Entry) (exchange : ExchangeMessage) (answer : List ℕ)
    → hears q h owner tag body f d ≡ Adds entry
    → effect_in entry ≡ Answers (PskExchange exchange) answer
    → IsVerified q h body exchange answer

-- The session then stands under this negotiation, with this PSK_EXCHANGE and this answer. Its verify data are those of
-- the responder over T1, under the session's choice and the pre-shared key.
pub record IsAccepted (q : ReqSetup) (h : History) (exchange : ExchangeMessage) (answer : List ℕ) (s : Steps) : Type 0 where
  pub negotiation : session_negotiation s ≡ negotiation_of h
  pub exchange_is : exchange_of s ≡ canonical_request (PskExchange exchange)
  pub answer_is : exchange_answer s ≡ answer
  pub rsp : ExchangeRspMessage
  pub reads : response_reading (hash_len (session_terms s)) (has_summary (PskExchange exchange)) answer ≡ Ok (PskExchangeRsp rsp)
  pub right : rsp.verify ≡ verify_data (session_terms s).choice q.psk (t1_of s) direction.Response (t1_of s)

-- In a made history it is so with the entry that answers PSK_EXCHANGE, of the session that this began.
abbrev pub AcceptedSessionIsVerified : Type 0
AcceptedSessionIsVerified = (q : ReqSetup) (h : History) (tag : ℕ) (m : List ℕ) (led : Led) (d : Draw) (exchange : ExchangeMessage) (answer : List ℕ)
    → IsMade q (TookClear tag m led d ∷ h)
    → led.effect ≡ Answers (PskExchange exchange) answer
    → IsAccepted q h exchange answer (session_of exchange.req_id (TookClear tag m led d ∷ h))

-- ---- Records.

-- The outstanding message asked something of this session. The record opened without a fault under the purpose and
-- number of the answer to that, and the entry holds it with the inner message that opening gives, and with what that
-- leads to.
pub record IsOpened (q : ReqSetup) (h : History) (tag : ℕ) (sealed : List ℕ) (f : Free) (d : Draw) (entry : Entry) : Type 0 where
  pub sent : Sent
  pub waits : outstanding h ≡ Some sent
  pub tag_is : sent.tag ≡ tag
  pub id : ℕ
  pub ask : Ask
  pub aims : sent.aim ≡ InSession id ask
  pub opened : answer_fault q.psk (session_of id h) ask sealed ≡ None
  pub is : entry ≡ TookRecord tag id sealed (answer_inner q.psk (session_of id h) ask sealed) (or_lost (came_to q h id ask sealed) (inner_led q h f (came_to q h id ask sealed) ask)) d

-- A record that adds an entry to the history is such a one, whatever is free.
abbrev pub TakenRecordIsOpened : Type 0
TakenRecordIsOpened = (q : ReqSetup) (h : History) (owner : Bool) (tag : ℕ) (body : List ℕ) (f : Free) (d : Draw) (entry : Entry)
    → hears q h owner tag body f d ≡ Adds entry
    → is_clear body ≡ false
    → IsOpened q h tag (drop 1 body) f d entry
