-- No transcript comes twice: the sessions of one end in two of its lives have different T1. This project's own.
use Rattle.std.specs.Prelude.{◌≡◌, ◌⊎◌, List, [], ◌∷◌, ℕ, true, Contains}
use Rattle.requester_machine.specs.Answers.{with_answer}
use Rattle.requester_machine.specs.History as asked
use Rattle.requester_machine.specs.History.{Effect}
use Rattle.requester_machine.specs.History.Effect.{Answers}
use Rattle.requester_machine.specs.History.Entry.{TookClear}
use Rattle.requester_machine.specs.Requesting.{Requesting}
use Rattle.requester_machine.specs.Session as requester
use Rattle.responder_machine.specs.History as served
use Rattle.responder_machine.specs.History.Entry.{Clear}
use Rattle.responder_machine.specs.Responding.{Connection}
use Rattle.responder_machine.specs.ResponderLog.{began_by}
use Rattle.responder_machine.specs.Session as responder
use Rattle.responder_machine.specs.Turn.{takes}
use Rattle.spdm_grammar.specs.Message.RequestMessage.{PskExchange}
use Rattle.spdm_grammar.specs.declared.names.request_code.TheConstants.{PSK_EXCHANGE}
use Rattle.spdm_lives.specs.Lives.{Life, world_of}

-- The responder began a session with this T1: it took its PSK_EXCHANGE.
abbrev pub HasBegun : (t1 : List ℕ) → served.History → Type 0
HasBegun t1 [] = ⊥
HasBegun t1 (Clear tag t d ∷ older) = ((takes PSK_EXCHANGE t ≡ true) × (responder.t1_of (began_by older t) ≡ t1)) ⊎ HasBegun t1 older
HasBegun t1 (_ ∷ older) = HasBegun t1 older

-- The message brought the PSK_EXCHANGE_RSP of a session with this T1.
abbrev pub Accepts : (t1 : List ℕ) → asked.History → Effect → Type 0
Accepts t1 older (Answers (PskExchange exchange) answer) = requester.t1_of (with_answer older exchange answer) ≡ t1
Accepts t1 older _ = ⊥

-- The requester accepted a session with this T1: it took its PSK_EXCHANGE_RSP.
abbrev pub HasAccepted : (t1 : List ℕ) → asked.History → Type 0
HasAccepted t1 [] = ⊥
HasAccepted t1 (TookClear tag m led d ∷ older) = Accepts t1 older led.effect ⊎ HasAccepted t1 older
HasAccepted t1 (_ ∷ older) = HasAccepted t1 older

-- No session that the responder ever began in one life has the T1 of one that it ever began in another, with whatever
-- requesters.
abbrev pub BegunApart : (life other : Life) → Type 0
BegunApart life other =
    (c d : Connection) → Contains (world_of life).responder.connections c → Contains (world_of other).responder.connections d
    → (t1 : List ℕ) → HasBegun t1 c.history → HasBegun t1 d.history → ⊥

-- No session that a requester ever accepted in one life has the T1 of one that it ever accepted in another. A requester
-- is the same in two lives where it has one endpoint in both.
abbrev pub AcceptedApart : (life other : Life) → Type 0
AcceptedApart life other =
    (a b : Requesting) → Contains (world_of life).requesters a → Contains (world_of other).requesters b → a.setup.eid ≡ b.setup.eid
    → (t1 : List ℕ) → HasAccepted t1 a.history → HasAccepted t1 b.history → ⊥

-- So it is of the sessions of both ends in two lives.
pub record AreApart (life other : Life) : Type 0 where
  pub begun : BegunApart life other
  pub accepted : AcceptedApart life other

-- So it is of a life and each one before it.
abbrev pub IsApart : Life → (earlier : List Life) → Type 0
IsApart life [] = Unit {0}
IsApart life (before ∷ older) = AreApart life before × IsApart life older
