-- The clear part of a connection, as the program represents it.
use Rattle.std.specs.Prelude.{◌≡◌, ℕ, List, Bool, false, Option}
use Rattle.responder_core.specs.Coming as coming
use Rattle.responder_core.specs.Coming.{IsBegun}
use Rattle.responder_core.specs.declared.clear.request_outcome.ExchangeOrigin.{ExchangeOrigin}
use Rattle.responder_core.specs.declared.clear.clear_outcome.ClearOutcome.{ClearOutcome}
use Rattle.responder_core.specs.declared.clear.clear_outcome.ClearOutcome.TheVariants as told
use Rattle.responder_machine.specs.Answer.{Free}
use Rattle.responder_machine.specs.Heard.{heard_of}
use Rattle.responder_machine.specs.History.{History, Kept, clear_turns, kept_of}
use Rattle.responder_machine.specs.History.Entry.{Clear, Sealed}
use Rattle.responder_machine.specs.Place.{clear_place}
use Rattle.responder_machine.specs.Responder.{Outcome, after, body_of, is_repeat, on_clear}
use Rattle.responder_machine.specs.Responder.Outcome.{Adds}
use Rattle.responder_machine.specs.Setup.{RspSetup}
use Rattle.responder_machine.specs.Turn.{takes, takes_draw}
use Rattle.spdm_grammar.specs.ErrorNumber.{error_number}
use Rattle.spdm_grammar.specs.declared.told.heard.Heard.{Heard}
use Rattle.spdm_grammar.specs.declared.told.heard.Heard.TheVariants as heard
use Rattle.spdm_grammar.specs.declared.names.request_code.TheConstants.{PSK_EXCHANGE}
use Rattle.spdm_machine.specs.Bodies.{clear_body}
use Rattle.spdm_machine.specs.Keys.{Draw}

-- The state in contracts: what is kept of the requests, and the stored reply.
pub record Seen : Type 0 where
  pub requests : coming.Seen
  pub kept : Option Kept

-- It is kept of the clear part of this history.
pub record StandsFor (seen : Seen) (r : RspSetup) (h : History) : Type 0 where
  pub requests : coming.StandsFor seen.requests r (clear_turns h)
  pub kept : seen.kept ≡ kept_of h

-- The message was answered as the responder answers it under these values: it is told of it, the message of the body
-- that is sent is written, and what is kept is that of the history after it.
pub record IsAnswered (r : RspSetup) (h : History) (tag : ℕ) (m : List ℕ) (f : Free) (d : Draw) (heard : Heard) (new : Seen) (out : List ℕ) : Type 0 where
  pub told : heard ≡ heard_of (on_clear r h tag m f d)
  pub body : clear_body out ≡ body_of (on_clear r h tag m f d)
  pub stands : StandsFor new r (after h (on_clear r h tag m f d))

-- The message is no repeat, and begins a session.
pub record IsBeginning (r : RspSetup) (h : History) (tag : ℕ) (m : List ℕ) (f : Free) (begun : ExchangeOrigin) (new : Seen) : Type 0 where
  pub anew : is_repeat (kept_of h) tag m ≡ false
  pub begins : IsBegun r (clear_place h) m f begun new.requests
  pub kept : new.kept ≡ kept_of h

-- The entry that it adds takes a draw.
abbrev pub is_drawn : Outcome → Bool
is_drawn (Adds (Clear tag t d)) = takes_draw t
is_drawn (Adds (Sealed tag m t reply d)) = takes_draw t
is_drawn _ = false

-- It takes no PSK_EXCHANGE.
abbrev pub BeginsNone : Outcome → Type 0
BeginsNone (Adds (Clear tag t d)) = takes PSK_EXCHANGE t ≡ false
BeginsNone _ = Unit {0}

-- The one or the other: what is answered begins no session.
abbrev pub IsTold : RspSetup → History → (tag : ℕ) → List ℕ → Free → Draw → ClearOutcome → (new : Seen) → (out : List ℕ) → Type 0
IsTold r h tag m f d told.Same new out = IsAnswered r h tag m f d heard.Same new out × BeginsNone (on_clear r h tag m f d) × (false ≡ is_drawn (on_clear r h tag m f d))
IsTold r h tag m f d (told.Refused code) new out = IsAnswered r h tag m f d (heard.Refused (error_number code)) new out × BeginsNone (on_clear r h tag m f d) × (false ≡ is_drawn (on_clear r h tag m f d))
IsTold r h tag m f d (told.Answered code drawn) new out = IsAnswered r h tag m f d (heard.Answered code) new out × BeginsNone (on_clear r h tag m f d) × (drawn ≡ is_drawn (on_clear r h tag m f d))
IsTold r h tag m f d (told.Begins begun) new out = IsBeginning r h tag m f begun new

-- Where a session begins the negotiation and the large response stay.
abbrev pub StaysToBegin : ClearOutcome → (old new : Seen) → Type 0
StaysToBegin (told.Begins begun) old new = new.requests.standing ≡ old.requests.standing
StaysToBegin _ old new = Unit {0}
