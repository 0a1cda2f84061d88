-- What comes of a whole body.
use Rattle.std.specs.Prelude.{◌≡◌, ◌∷◌, [], ◌==◌, drop, if◌then◌else◌, unwrap_or, ℕ, List, Bool, false, Some, None, Ok}
use Rattle.requester_core.specs.Gathering.{Gathers}
use Rattle.requester_core.specs.ClearState.{Seen, StandsFor}
use Rattle.requester_core.specs.declared.clear.body_outcome.BodyOutcome as seen_heard
use Rattle.requester_core.specs.declared.clear.body_outcome.BodyOutcome.TheVariants as heard
use Rattle.requester_core.specs.declared.clear.reply_outcome.ReplyOutcome as seen_led
use Rattle.requester_core.specs.declared.clear.reply_outcome.ReplyOutcome.TheVariants as seen
use Rattle.requester_core.specs.declared.clear.outstanding.PendingRequest.{PendingRequest}
use Rattle.requester_core.specs.declared.clear.outstanding.PendingRequest.TheVariants as asks
use Rattle.chunking.specs.Keeping as keeping
use Rattle.requester_machine.specs.Answers.{exchange_led}
use Rattle.requester_machine.specs.Asking.{Outcome}
use Rattle.requester_machine.specs.Asking.Outcome.{Adds, Ignores, Warns}
use Rattle.requester_machine.specs.Bodies.{error_in, is_clear}
use Rattle.requester_machine.specs.ClearAnswers.{carried_by, reading_of}
use Rattle.requester_machine.specs.ClearAnswers.Carried.{Whole}
use Rattle.requester_machine.specs.Commands.{Free}
use Rattle.requester_machine.specs.Hearing.{clear_outcome, hears, on_record}
use Rattle.requester_machine.specs.History.{Entry, History, Led, negotiation_of, outstanding}
use Rattle.requester_machine.specs.History.Entry.{TookClear}
use Rattle.requester_machine.specs.Message.{Ask, Sent, asked_in}
use Rattle.requester_machine.specs.Message.Aim.{InSession}
use Rattle.requester_machine.specs.Message.Content.{Clear}
use Rattle.requester_machine.specs.Session.{session_of}
use Rattle.requester_machine.specs.Session.Step.{Started}
use Rattle.requester_machine.specs.Setup.{ReqSetup}
use Rattle.spdm_grammar.specs.Message.{ExchangeMessage, ExchangeRspMessage}
use Rattle.spdm_grammar.specs.Message.RequestMessage.{PskExchange}
use Rattle.spdm_grammar.specs.Message.ResponseMessage.{PskExchangeRsp}
use Rattle.spdm_grammar.specs.Requests.{canonical_request}
use Rattle.spdm_grammar.specs.declared.told.event.Event.{Event}
use Rattle.spdm_grammar.specs.declared.told.event.Event.TheVariants as event
use Rattle.spdm_machine.specs.Keys.{Draw}

-- The ReqSessionID of the PSK_EXCHANGE that is outstanding, and 0 where another request is.
abbrev pub exchange_id : PendingRequest → ℕ
exchange_id (asks.Exchange id summary) = id
exchange_id _ = 0

-- What is reported where nothing is sent on a message to a request that asks this: one that rests on PSK_EXCHANGE
-- refuses it.
abbrev pub rested : PendingRequest → Event → seen_heard.BodyOutcome
rested (asks.Exchange id summary) told = heard.Closes id told
rested _ told = heard.Rests told

-- What is reported of a body that is a message in the clear to a request that asks this.
abbrev pub heard_of : PendingRequest → seen_led.ReplyOutcome → seen_heard.BodyOutcome
heard_of asked (seen.Ignored cause) = heard.Ignored cause
heard_of asked (seen.Rests told) = rested asked told
heard_of asked (seen.Sends tag) = heard.Sends tag
heard_of asked (seen.Large tag) = heard.Sends tag
heard_of asked (seen.More tag) = heard.Sends tag
heard_of asked seen.Exchange = heard.Exchange (exchange_id asked)

-- What is reported of a body that no test refuses, while a record of the session with this ReqSessionID is outstanding:
-- a clear one encodes an ERROR.
abbrev pub heard_in : (id : ℕ) → List ℕ → seen_heard.BodyOutcome
heard_in id body = if is_clear body then heard.Warned (unwrap_or (error_in (drop 1 body)) 0)
    else heard.Record id

-- A body came with its tag owner bit and tag, and leads to this whatever is free.
abbrev pub LeadsTo : ReqSetup → History → (owner : Bool) → ℕ → List ℕ → Outcome → Type 0
LeadsTo q h owner tag body outcome = (f : Free) (d : Draw) → hears q h owner tag body f d ≡ outcome

-- An entry changes no session.
abbrev pub KeepsSessions : History → Entry → Type 0
KeepsSessions h entry = (id : ℕ) → session_of id (entry ∷ h) ≡ session_of id h

-- It ends the session with this ReqSessionID, and changes no other.
abbrev pub ClosesSession : (of : ℕ) → History → Entry → Type 0
ClosesSession of h entry = (id : ℕ)
    → session_of id (entry ∷ h) ≡ (if of == id then [] else session_of id h)

-- The message in it was taken, and led to this. What is kept is that of the history with it.
pub record IsEntered (q : ReqSetup) (h : History) (owner : Bool) (tag : ℕ) (body : List ℕ)
    (f : Free) (d : Draw) (led : Led) (new : Seen) : Type 0 where
  pub outcome : hears q h owner tag body f d ≡ Adds (TookClear tag (drop 1 body) led d)
  pub stands : StandsFor new q (TookClear tag (drop 1 body) led d ∷ h)

-- This is told, nothing is sent, and this holds of the sessions.
pub record IsAtRest (q : ReqSetup) (h : History) (owner : Bool) (tag : ℕ) (body : List ℕ)
    (f : Free) (d : Draw) (told : Event) (Sessions : History → Entry → Type 0) (new : Seen) : Type 0
  where
    pub led : Led
    pub event : led.event ≡ told
    pub next : led.next ≡ None
    pub sessions : Sessions h (TookClear tag (drop 1 body) led d)
    pub entered : IsEntered q h owner tag body f d led new

-- A further message in the clear is sent, with this tag, and is written. No session changes.
pub record GoesOn (q : ReqSetup) (h : History) (owner : Bool) (tag : ℕ) (body : List ℕ)
    (f : Free) (d : Draw) (its_tag : ℕ) (new : Seen) (out : List ℕ) : Type 0 where
  pub led : Led
  pub event : led.event ≡ event.Progress
  pub sent : Sent
  pub next : led.next ≡ Some sent
  pub tag_is : sent.tag ≡ its_tag
  pub content : sent.content ≡ Clear out
  pub sessions : KeepsSessions h (TookClear tag (drop 1 body) led d)
  pub entered : IsEntered q h owner tag body f d led new

-- The body carries, from this place on, the PSK_EXCHANGE_RSP to the outstanding PSK_EXCHANGE, which began the session
-- with this ReqSessionID. That is written, and its verify data decide what the body leads to.
pub record IsExchangeFor (q : ReqSetup) (h : History) (owner : Bool) (tag : ℕ) (body : List ℕ)
    (id : ℕ) (old new : Seen) (out : List ℕ) : Type 0 where
  pub sent : Sent
  pub waits : outstanding h ≡ Some sent
  pub exchange : ExchangeMessage
  pub asks : asked_in sent.aim ≡ Some (PskExchange exchange)
  pub id_is : exchange.req_id ≡ id
  pub session : session_of id h
      ≡ Started (negotiation_of h) (canonical_request (PskExchange exchange)) ∷ []
  pub place : ℕ
  pub whole : carried_by q h (drop 1 body) sent.aim ≡ Whole out place
  pub rsp : ExchangeRspMessage
  pub reads : reading_of h (PskExchange exchange) out ≡ Ok (PskExchangeRsp rsp)
  pub outcome : (f : Free) (d : Draw) → hears q h owner tag body f d
      ≡ clear_outcome tag (drop 1 body) d (exchange_led q h f exchange out rsp)
  pub same : new ≡ old

-- The body is a record, and what is asked of the session with this ReqSessionID is outstanding: it leads to what the
-- record leads to there.
pub record IsRecordFor (q : ReqSetup) (h : History) (owner : Bool) (tag : ℕ) (body : List ℕ)
    (id : ℕ) (old new : Seen) : Type 0 where
  pub sent : Sent
  pub waits : outstanding h ≡ Some sent
  pub ask : Ask
  pub aims : sent.aim ≡ InSession id ask
  pub sealed : is_clear body ≡ false
  pub outcome : (f : Free) (d : Draw)
      → hears q h owner tag body f d ≡ on_record q h f tag id ask (drop 1 body) d
  pub same : new ≡ old

-- What is reported of a body is what it leads to in the definitions.
abbrev pub IsHeard : ReqSetup → History → (owner : Bool) → ℕ → List ℕ → seen_heard.BodyOutcome
    → (old new : Seen) → (out : List ℕ) → Type 0
IsHeard q h owner tag body (heard.Ignored cause) old new out =
    LeadsTo q h owner tag body (Ignores cause) × (new ≡ old)
IsHeard q h owner tag body (heard.Warned code) old new out =
    LeadsTo q h owner tag body (Warns code) × (new ≡ old)
IsHeard q h owner tag body (heard.Rests told) old new out =
    (f : Free) (d : Draw) → IsAtRest q h owner tag body f d told KeepsSessions new
IsHeard q h owner tag body (heard.Closes id told) old new out =
    (f : Free) (d : Draw) → IsAtRest q h owner tag body f d told (ClosesSession id) new
IsHeard q h owner tag body (heard.Sends its_tag) old new out =
    (f : Free) (d : Draw) → GoesOn q h owner tag body f d its_tag new out
IsHeard q h owner tag body (heard.Exchange id) old new out =
    IsExchangeFor q h owner tag body id old new out
IsHeard q h owner tag body (heard.Record id) old new out =
    IsRecordFor q h owner tag body id old new

-- What a body that was taken leaves of what was gathered: what is gathered while the next message is outstanding.
abbrev pub Regathers : ReqSetup → History → (owner : Bool) → ℕ → List ℕ → keeping.Kept → Type 0
Regathers q h owner tag body new = (f : Free) (d : Draw) (led : Led)
    → hears q h owner tag body f d ≡ Adds (TookClear tag (drop 1 body) led d)
    → Gathers q led.next new

-- What is left of what was gathered: all of it where nothing changed.
abbrev pub IsRegathered : ReqSetup → History → (owner : Bool) → ℕ → List ℕ → seen_heard.BodyOutcome
    → (old new : keeping.Kept) → Type 0
IsRegathered q h owner tag body (heard.Rests told) old new = Regathers q h owner tag body new
IsRegathered q h owner tag body (heard.Closes id told) old new = Regathers q h owner tag body new
IsRegathered q h owner tag body (heard.Sends its_tag) old new = Regathers q h owner tag body new
IsRegathered q h owner tag body other old new = new ≡ old
