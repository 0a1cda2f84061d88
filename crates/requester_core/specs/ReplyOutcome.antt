-- What comes of a message in the clear.
use Rattle.std.specs.Prelude.{◌≡◌, ◌∷◌, ℕ, List, [], Bool, true, false, Some, None, Result, Ok, Err}
use Rattle.requester_core.specs.ClearState.{Seen, Shows, StandsFor}
use Rattle.requester_core.specs.declared.clear.reply_outcome.ReplyOutcome as seen_led
use Rattle.requester_core.specs.declared.clear.reply_outcome.ReplyOutcome.TheVariants as seen
use Rattle.requester_machine.specs.Answers.{goes_on}
use Rattle.requester_machine.specs.ClearAnswers.{Carried, carried_by, carried_led, clear_led, read_led, reading_of}
use Rattle.requester_machine.specs.ClearAnswers.Carried.{Further, Whole}
use Rattle.requester_machine.specs.Commands.{Free}
use Rattle.requester_machine.specs.History.{History, Led}
use Rattle.requester_machine.specs.History.Effect.{Nothing}
use Rattle.requester_machine.specs.History.Entry.{TookClear}
use Rattle.requester_machine.specs.Message.{Aim, Sent}
use Rattle.requester_machine.specs.Message.Aim.{ByChunks, ForChunk, InSession, Plain}
use Rattle.requester_machine.specs.Message.Content.{Clear}
use Rattle.requester_machine.specs.Setup.{ReqSetup}
use Rattle.spdm_grammar.specs.Message.{ExchangeMessage, ExchangeRspMessage, RequestMessage}
use Rattle.spdm_grammar.specs.Message.RequestMessage.{PskExchange}
use Rattle.spdm_grammar.specs.Message.ResponseMessage.{PskExchangeRsp}
use Rattle.spdm_grammar.specs.declared.told.event.Event.{Event}
use Rattle.spdm_grammar.specs.declared.told.event.Event.TheVariants as event
use Rattle.spdm_grammar.specs.declared.told.event.ReqIgnored.{ReqIgnored}
use Rattle.spdm_machine.specs.Keys.{Draw}

-- Nothing changed.
abbrev pub changes_nothing : seen_led.ReplyOutcome → Bool
changes_nothing (seen.Ignored cause) = true
changes_nothing seen.Exchange = true
changes_nothing _ = false

-- It calls for the first chunk of a large response.
abbrev pub is_large : seen_led.ReplyOutcome → Bool
is_large (seen.Large tag) = true
is_large _ = false

-- What is kept is that of the history with a message in the clear that led to this.
abbrev pub Follows : History → Led → Seen → Type 0
Follows h led new = (tag : ℕ) (m : List ℕ) (d : Draw) → Shows new (TookClear tag m led d ∷ h)

-- This is reported, and nothing is sent.
pub record Rests (h : History) (led : Led) (told : Event) (new : Seen) : Type 0 where
  pub event : led.event ≡ told
  pub next : led.next ≡ None
  pub follows : Follows h led new

-- The message asks for no chunk of a large response.
abbrev pub is_no_get : Aim → Bool
is_no_get (Plain asked) = true
is_no_get (ByChunks asked handle number) = true
is_no_get (ForChunk asked handle number before) = false
is_no_get (InSession id ask) = true

-- This message in the clear is sent next, with this tag, and is written.
pub record SendsNext (h : History) (led : Led) (sent : Sent) (tag : ℕ) (new : Seen) (out : List ℕ)
    : Type 0 where
  pub event : led.event ≡ event.Progress
  pub next : led.next ≡ Some sent
  pub tag_is : sent.tag ≡ tag
  pub content : sent.content ≡ Clear out
  pub follows : Follows h led new

-- It asks for the first chunk of a large response.
abbrev pub IsFirstGet : Aim → Type 0
IsFirstGet aim = (request : RequestMessage) × (handle : ℕ) × (aim ≡ ForChunk request handle 0 [])

-- By what is told: the message is ignored, and nothing changes; or it leads to this.
abbrev pub IsLed : History → Result Led ReqIgnored → seen_led.ReplyOutcome → (old new : Seen)
    → (out : List ℕ) → Type 0
IsLed h leads (seen.Ignored cause) old new out = (leads ≡ Err cause) × (new ≡ old)
IsLed h leads (seen.Rests told) old new out = (led : Led) × (leads ≡ Ok led) × Rests h led told new
IsLed h leads (seen.Sends tag) old new out = (led : Led) × (leads ≡ Ok led) × (sent : Sent)
    × (is_no_get sent.aim ≡ true) × SendsNext h led sent tag new out
IsLed h leads (seen.Large tag) old new out = (led : Led) × (leads ≡ Ok led) × (sent : Sent)
    × IsFirstGet sent.aim × SendsNext h led sent tag new out
IsLed h leads (seen.More tag) old new out = ⊥
IsLed h leads seen.Exchange old new out = ⊥

-- The whole answer is the PSK_EXCHANGE_RSP that is awaited; it is written, and nothing changes.
pub record IsExchange (h : History) (request : RequestMessage) (answer : List ℕ) (old new : Seen)
    (out : List ℕ) : Type 0 where
  pub exchange : ExchangeMessage
  pub rsp : ExchangeRspMessage
  pub asks : request ≡ PskExchange exchange
  pub reads : reading_of h request answer ≡ Ok (PskExchangeRsp rsp)
  pub same : new ≡ old
  pub written : out ≡ answer

-- A whole answer to a request came, at this place of its message.
abbrev pub IsAnswered : ReqSetup → History → (place : ℕ) → RequestMessage → (answer : List ℕ)
    → seen_led.ReplyOutcome → (old new : Seen) → (out : List ℕ) → Type 0
IsAnswered q h place request answer seen.Exchange old new out =
    IsExchange h request answer old new out
IsAnswered q h place request answer led old new out = (f : Free)
    → IsLed h (read_led q h f place request answer (reading_of h request answer)) led old new out

-- A message came that is this to a request.
abbrev pub IsCarried : ReqSetup → History → RequestMessage → Carried → seen_led.ReplyOutcome
    → (old new : Seen) → (out : List ℕ) → Type 0
IsCarried q h request carried seen.Exchange old new out = (answer : List ℕ) × (place : ℕ)
    × (carried ≡ Whole answer place) × IsExchange h request answer old new out
IsCarried q h request carried (seen.More tag) old new out = (next : Sent)
    × (carried ≡ Further next) × SendsNext h (goes_on Nothing next) next tag new out
IsCarried q h request carried led old new out = (f : Free)
    → IsLed h (carried_led q h f request carried) led old new out

-- A message that led to something is an entry of the history that is kept.
abbrev pub Stands : ReqSetup → History → List ℕ → Result Led ReqIgnored → Seen → Type 0
Stands q h m leads new = (led : Led) (tag : ℕ) (d : Draw) → leads ≡ Ok led
    → StandsFor new q (TookClear tag m led d ∷ h)

-- A message in the clear came to the outstanding one, which asks this: it leads to what it leads to in the definitions
-- under any free values; or it brings the PSK_EXCHANGE_RSP that is awaited, which is written, and nothing changes.
abbrev pub IsTaken : ReqSetup → History → Sent → RequestMessage → List ℕ → seen_led.ReplyOutcome
    → (old new : Seen) → (out : List ℕ) → Type 0
IsTaken q h sent request m seen.Exchange old new out = (answer : List ℕ) × (place : ℕ)
    × (carried_by q h m sent.aim ≡ Whole answer place) × IsExchange h request answer old new out
IsTaken q h sent request m (seen.More tag) old new out = (next : Sent)
    × ((f : Free) → clear_led q h f sent.aim request m ≡ Ok (goes_on Nothing next))
    × SendsNext h (goes_on Nothing next) next tag new out
    × ((f : Free) → Stands q h m (clear_led q h f sent.aim request m) new)
IsTaken q h sent request m led old new out =
    (f : Free) → IsLed h (clear_led q h f sent.aim request m) led old new out
    × Stands q h m (clear_led q h f sent.aim request m) new
