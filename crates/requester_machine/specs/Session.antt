-- One session at the requester: its own history, picked out of that of the requester, and what is counted in it.
use Rattle.std.specs.Prelude.{◌+◌, ◌==◌, ◌||◌, ℕ, List, [], ◌∷◌, drop, if◌then◌else◌, Bool, true, false, Option, Some, None}
use Rattle.running_hash.specs.Hash.{Hash, hash_of}
use Rattle.spdm_basis.specs.SessionIdBytes.{session_id_bytes}
use Rattle.spdm_basis.specs.declared.values.session_id.SessionId.{SessionId}
use Rattle.spdm_grammar.specs.Message.{RequestMessage}
use Rattle.spdm_grammar.specs.Message.RequestMessage.{PskExchange}
use Rattle.spdm_grammar.specs.Requests.{canonical_request}
use Rattle.spdm_grammar.specs.declared.told.phase.Stage.{Stage}
use Rattle.spdm_grammar.specs.declared.told.phase.Stage.TheVariants as stage
use Rattle.spdm_machine.specs.Sessions.{id_in_exchange}
use Rattle.spdm_machine.specs.Terms.{Terms, no_negotiation, terms_of}
use Rattle.transcript.specs.Transcripts as transcript
use Rattle.transcript.specs.Transcripts.{Negotiation, vca_of}
use Rattle.requester_machine.specs.History.{History, Effect, negotiation_of}
use Rattle.requester_machine.specs.History.Effect.{Answers, Refuses, Grants, Loses}
use Rattle.requester_machine.specs.History.Entry.{Told, TookClear, TookRecord}
use Rattle.requester_machine.specs.Message.{Command, Ask, Aim, Content, Sent, asked_in}
use Rattle.requester_machine.specs.Message.Aim.{InSession}
use Rattle.requester_machine.specs.Message.Ask.{AskFinish, AskData, AskUpdate, AskVerify, AskEnd}
use Rattle.requester_machine.specs.Message.Command.{Connect, Open}
use Rattle.requester_machine.specs.Message.Content.{Clear, Sealed}

-- What a session sees: PSK_EXCHANGE, which began it, with the negotiation that it was made under; PSK_EXCHANGE_RSP,
-- whose verify data were right; a record sealed, with what it asks for and its inner message; a record taken, with its
-- inner message and what it brought about.
pub data Step : Type 0 where
  Started : (negotiation : Negotiation) → (exchange : List ℕ) → Step
  Accepted : (answer : List ℕ) → Step
  Asked : (ask : Ask) → (inner : List ℕ) → (sealed : List ℕ) → Step
  Took : (sealed : List ℕ) → (inner : List ℕ) → (effect : Effect) → Step

-- A session's own history, the newest step first. Where there is no step there is no session.
abbrev pub Steps : Type 0
Steps = List Step

-- The session is live: it has a step.
abbrev pub is_live : Steps → Bool
is_live [] = false
is_live (_ ∷ _) = true

-- ---- What began it.

-- The negotiation that its PSK_EXCHANGE was made under, and an empty one where there is none.
abbrev pub session_negotiation : Steps → Negotiation
session_negotiation [] = no_negotiation
session_negotiation (Started negotiation exchange ∷ older) = negotiation
session_negotiation (_ ∷ older) = session_negotiation older

-- Its PSK_EXCHANGE.
abbrev pub exchange_of : Steps → List ℕ
exchange_of [] = []
exchange_of (Started negotiation exchange ∷ older) = exchange
exchange_of (_ ∷ older) = exchange_of older

-- PSK_EXCHANGE_RSP; none while it is awaited.
abbrev pub exchange_answer : Steps → List ℕ
exchange_answer [] = []
exchange_answer (Accepted answer ∷ older) = answer
exchange_answer (_ ∷ older) = exchange_answer older

-- PSK_EXCHANGE_RSP was taken.
abbrev pub is_accepted : Steps → Bool
is_accepted [] = false
is_accepted (Accepted answer ∷ older) = true
is_accepted (_ ∷ older) = is_accepted older

-- The choice and the common capabilities of a session are those of its negotiation.
abbrev pub session_terms : Steps → Terms
session_terms s = terms_of (session_negotiation s)

-- The hash of a session is the chosen one.
abbrev pub session_hash : Steps → Hash
session_hash s = hash_of (session_terms s).choice.hash

-- The session id: ReqSessionID and then RspSessionID (DSP0277).
abbrev pub session_id : Steps → SessionId
session_id s = record { req = id_in_exchange (exchange_of s); rsp = id_in_exchange (exchange_answer s) }

-- The session id as its four bytes.
abbrev pub id_bytes : Steps → List ℕ
id_bytes s = session_id_bytes (id_in_exchange (exchange_of s)) (id_in_exchange (exchange_answer s))

-- ---- What a record taken brought about.

-- PSK_FINISH_RSP came.
abbrev pub finishes : Effect → Bool
finishes (Grants AskFinish answer) = true
finishes _ = false

-- KEY_UPDATE_ACK came for UpdateKey or for UpdateAllKeys.
abbrev pub updates : Effect → Bool
updates (Grants (AskUpdate all) answer) = true
updates _ = false

-- It came for UpdateAllKeys.
abbrev pub updates_all : Effect → Bool
updates_all (Grants (AskUpdate all) answer) = all
updates_all _ = false

-- KEY_UPDATE_ACK came for VerifyNewKey.
abbrev pub verifies : Effect → Bool
verifies (Grants AskVerify answer) = true
verifies _ = false

-- Application data came.
abbrev pub is_data : Effect → Bool
is_data (Grants AskData answer) = true
is_data _ = false

-- END_SESSION_ACK came, or the session is lost.
abbrev pub ends : Effect → Bool
ends (Grants AskEnd answer) = true
ends Loses = true
ends _ = false

-- The whole answer.
abbrev pub answer_in : Effect → List ℕ
answer_in (Answers asked answer) = answer
answer_in (Grants ask answer) = answer
answer_in _ = []

-- ---- How far it has come.

-- The last answer to PSK_FINISH and KEY_UPDATE that was taken.
abbrev pub stage_of : Steps → Stage
stage_of [] = stage.Handshake
stage_of (Took sealed inner effect ∷ older) =
    if finishes effect || verifies effect then stage.Open
    else (if updates effect then stage.Verifying
    else stage_of older)
stage_of (_ ∷ older) = stage_of older

-- How many application messages were taken.
abbrev pub taken_of : Steps → ℕ
taken_of [] = 0
taken_of (Took sealed inner effect ∷ older) = if is_data effect then taken_of older + 1 else taken_of older
taken_of (_ ∷ older) = taken_of older

-- ---- Epochs and numbers (DSP0274, "KEY_UPDATE"; DSP0277, "Sequence number").

-- The updates of the request key whose acknowledgement was taken: UpdateKey and UpdateAllKeys.
abbrev pub request_epoch : Steps → ℕ
request_epoch [] = 0
request_epoch (Took sealed inner effect ∷ older) = if updates effect then request_epoch older + 1 else request_epoch older
request_epoch (_ ∷ older) = request_epoch older

-- The updates of the response key whose acknowledgement was taken: UpdateAllKeys.
abbrev pub response_epoch : Steps → ℕ
response_epoch [] = 0
response_epoch (Took sealed inner effect ∷ older) = if updates_all effect then response_epoch older + 1 else response_epoch older
response_epoch (_ ∷ older) = response_epoch older

-- The records sealed under the present request key. PSK_FINISH and an update are the last ones under the key before.
abbrev pub request_next : Steps → ℕ
request_next [] = 0
request_next (Asked ask inner sealed ∷ older) = request_next older + 1
request_next (Took sealed inner effect ∷ older) = if finishes effect || updates effect then 0 else request_next older
request_next (_ ∷ older) = request_next older

-- The records taken under the present response key. PSK_FINISH_RSP is the last one under the key before, and the answer
-- to UpdateAllKeys the first one under the new key.
abbrev pub response_next : Steps → ℕ
response_next [] = 0
response_next (Took sealed inner effect ∷ older) =
    if finishes effect then 0
    else (if updates_all effect then 1
    else response_next older + 1)
response_next (_ ∷ older) = response_next older

-- ---- Transcripts (DSP0274, "Transcript hash").

-- VCA: the six messages of its negotiation.
abbrev pub session_vca : Steps → List ℕ
session_vca s = vca_of (session_negotiation s)

-- T1: VCA, PSK_EXCHANGE, and PSK_EXCHANGE_RSP without its verify data.
abbrev pub t1_of : Steps → List ℕ
t1_of s = transcript.t1_of (session_hash s) (session_vca s) (exchange_of s) (exchange_answer s)

-- PSK_FINISH, once it was sent. An inner message has a type byte in front.
abbrev pub finish_of : Steps → List ℕ
finish_of [] = []
finish_of (Asked AskFinish inner sealed ∷ older) = drop 1 inner
finish_of (_ ∷ older) = finish_of older

-- PSK_FINISH_RSP, once it was taken.
abbrev pub finish_answer : Steps → List ℕ
finish_answer [] = []
finish_answer (Took sealed inner effect ∷ older) = if finishes effect then answer_in effect else finish_answer older
finish_answer (_ ∷ older) = finish_answer older

-- T2: VCA, PSK_EXCHANGE, PSK_EXCHANGE_RSP, PSK_FINISH and PSK_FINISH_RSP, all whole.
abbrev pub t2_of : Steps → List ℕ
t2_of s = transcript.t2_of (session_vca s) (exchange_of s) (exchange_answer s) (finish_of s) (finish_answer s)

-- ---- The session of an id.

-- A live session with one more step; where there is no session, a step begins none.
abbrev pub when_live : Steps → Step → Steps
when_live [] step = []
when_live (s ∷ ss) step = step ∷ s ∷ ss

-- A record that asks something of the session is a step of it.
abbrev pub with_content : Ask → Content → Steps → Steps
with_content ask (Clear message) s = s
with_content ask (Sealed sealed inner pad) s = when_live s (Asked ask inner sealed)

-- A message counts for the session with this ReqSessionID where it asks something of it.
abbrev pub with_aim : ℕ → Aim → Content → Steps → Steps
with_aim id (InSession of ask) content s = if of == id then with_content ask content s else s
with_aim id _ content s = s

-- The session after a message was sent, if one was.
abbrev pub with_sent : ℕ → Option Sent → Steps → Steps
with_sent id None s = s
with_sent id (Some sent) s = with_aim id sent.aim sent.content s

-- PSK_EXCHANGE begins the session to which it gives its ReqSessionID.
abbrev pub begun : ℕ → Negotiation → Option RequestMessage → Steps → Steps
begun id n (Some (PskExchange exchange)) s = if exchange.req_id == id then Started n (canonical_request (PskExchange exchange)) ∷ [] else s
begun id n _ s = s

-- Connect ends all sessions, and Open begins one. Any other command that asks something of the session is a step of it.
abbrev pub after_command : ℕ → Negotiation → Command → Sent → Steps → Steps
after_command id n Connect sent s = []
after_command id n (Open summary) sent s = begun id n (asked_in sent.aim) s
after_command id n _ sent s = with_sent id (Some sent) s

-- The answer to the session's PSK_EXCHANGE is a step of it, and a refused one ends it. No other clear message touches a
-- session.
abbrev pub after_clear : ℕ → Effect → Steps → Steps
after_clear id (Answers (PskExchange exchange) answer) s = if exchange.req_id == id then when_live s (Accepted answer) else s
after_clear id (Refuses (PskExchange exchange)) s = if exchange.req_id == id then [] else s
after_clear id _ s = s

-- END_SESSION_ACK ends the session, and so does a record for which it is lost. Any other one is a step of it.
abbrev pub after_record : List ℕ → List ℕ → Effect → Steps → Steps
after_record sealed inner effect s = if ends effect then [] else when_live s (Took sealed inner effect)

-- The own history of the live session that has this ReqSessionID, from its PSK_EXCHANGE on.
unfoldable pub session_of : ℕ → History → Steps
session_of id [] = []
session_of id (Told command sent d ∷ older) = after_command id (negotiation_of older) command sent (session_of id older)
session_of id (TookClear tag m led d ∷ older) = with_sent id led.next (after_clear id led.effect (session_of id older))
session_of id (TookRecord tag of sealed inner led d ∷ older) =
    if of == id then with_sent id led.next (after_record sealed inner led.effect (session_of id older))
    else session_of id older
