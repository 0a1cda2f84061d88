-- What the program keeps of the order of a capture, one requester at a time, and how it tells a reason. This project's own.
use Rattle.std.specs.Prelude.{◌≡◌, ◌≢◌, ◌∷◌, ℕ, List, [], Option, Some, None}
use Rattle.std.specs.List.{AllByRecursion}
use Rattle.mctp_framing.specs.Assembling as assembling
use Rattle.mctp_framing.specs.Assembling.{Assembly}
use Rattle.mctp_framing.specs.Gathering.{Receiver}
use Rattle.requester_machine.specs.Setup.{ReqSetup}
use Rattle.spdm_grammar.specs.declared.told.why.Why as declared
use Rattle.spdm_grammar.specs.declared.told.why.Why.TheVariants as why
use Rattle.spdm_machine.specs.Packets.{body_limit, fields_in}
use Rattle.spdm_basis.specs.declared.values.eid.Eid.{Eid}
use Rattle.check_laws.specs.Order.{round_of}
use Rattle.capture_machine.specs.Difference.{Why}
use Rattle.capture_machine.specs.Difference.Why.{BadPacket, UnknownEnd, WrongTurn, BadRequest, BadReply, BadVerify, BadRecord}
use Rattle.capture_machine.specs.Rounds.{Round}

-- How many requests of a round have no answer.
abbrev pub waiting_in : Option Round → ℕ
waiting_in None = 0
waiting_in (Some round) = round.waiting

-- A reason as the program tells it.
abbrev pub why_of : declared.Why → Why
why_of why.BadPacket = BadPacket
why_of why.UnknownEnd = UnknownEnd
why_of why.WrongTurn = WrongTurn
why_of why.BadRequest = BadRequest
why_of why.BadReply = BadReply
why_of why.BadVerify = BadVerify
why_of why.BadRecord = BadRecord

-- ---- What is kept.

-- Who gathers the packets to one endpoint from another.
abbrev pub receiver_of : (own peer : ℕ) → Receiver
receiver_of own peer = record { own = own; peer = peer; limit = body_limit }

-- What is kept of a requester: its endpoint, the bodies that are gathered in both directions, and the round in progress.
pub record Pair : Type 0 where
  pub eid : Eid
  pub requests : Assembly
  pub answers : Assembly
  pub round : Option Round

-- It is kept of a requester with this endpoint after these packets, the newest first: the bodies that are gathered in
-- both directions, and the round in progress.
pub record IsPair (seen : Pair) (own eid : ℕ) (older : List (List ℕ)) : Type 0 where
  pub at : seen.eid.number ≡ eid
  pub asks_of : seen.requests.receiver ≡ receiver_of own eid
  pub asks : assembling.StandsFor seen.requests (fields_in older)
  pub answers_of : seen.answers.receiver ≡ receiver_of eid own
  pub answers : assembling.StandsFor seen.answers (fields_in older)
  pub round : seen.round ≡ round_of own eid older

-- The endpoints of the responder and of the requesters differ.
abbrev pub AreApart : (own : ℕ) → List ReqSetup → Type 0
AreApart own [] = Unit {0}
AreApart own (q ∷ others) =
    (q.eid ≢ own) × AllByRecursion (λ (other : ReqSetup). other.eid ≢ q.eid) others × AreApart own others
