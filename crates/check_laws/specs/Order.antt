-- The order of a capture's packets: which of them are no packets, go between unknown ends, or come out of turn. All of
-- it is read off the packets alone, whatever the two ends hold. This project's own.
use Rattle.std.specs.Prelude.{◌+◌, ◌-◌, ◌==◌, ◌&&◌, ◌||◌, not, ℕ, List, [], ◌∷◌, if◌then◌else◌, Bool, true, false, Option, Some, None, Result, Ok, Err}
use Rattle.mctp_framing.specs.Gathering.{Gathered}
use Rattle.mctp_framing.specs.Gathering.Gathered.{Whole, More, Dropped}
use Rattle.mctp_framing.specs.Packet.{PacketFields, parsed}
use Rattle.requester_machine.specs.Setup.{ReqSetup}
use Rattle.spdm_basis.specs.declared.PacketFault.{PacketFault}
use Rattle.spdm_machine.specs.Packets.{gathered_from}
use Rattle.capture_machine.specs.Difference.{Why, is_copy, may_come, is_waiting, is_other_type}
use Rattle.capture_machine.specs.Difference.Why.{BadPacket, UnknownEnd, WrongTurn, BadRequest, BadReply, BadVerify, BadRecord}
use Rattle.capture_machine.specs.Rounds.{Round, new_round, following_tag}
use Rattle.world_machine.specs.Setup.{Configuration}

-- ---- The round under way.

-- The body of the request that began a round; empty where there is none.
abbrev pub body_in : Option Round → List ℕ
body_in None = []
body_in (Some round) = round.body

-- The tag of that request; 0 where there is none.
abbrev pub tag_in : Option Round → ℕ
tag_in None = 0
tag_in (Some round) = round.tag

-- A request is a copy of the last round's, or begins a round.
abbrev pub round_asked : Option Round → (tag : ℕ) → (body : List ℕ) → Option Round
round_asked None tag body = Some (new_round tag body)
round_asked (Some round) tag body =
    if is_copy (Some round) tag body then Some (record round { waiting = round.waiting + 1 })
    else Some (new_round tag body)

-- An answer is to one of the requests of the last round that have none.
abbrev pub round_answered : Option Round → Option Round
round_answered None = None
round_answered (Some round) = Some (record round { waiting = round.waiting - 1; answered = true })

-- A packet that completes a request.
abbrev pub round_by_request : Option Round → Gathered → Option Round
round_by_request round (Whole route body) = round_asked round route.tag body
round_by_request round _ = round

-- A packet that completes an answer.
abbrev pub round_by_answer : Option Round → Gathered → Option Round
round_by_answer round (Whole route body) = round_answered round
round_by_answer round _ = round

-- The packet goes to the responder, whose endpoint is `own`, from a requester.
abbrev pub is_request : (own eid : ℕ) → PacketFields → Bool
is_request own eid packet = packet.to == own && packet.from == eid

-- The packet goes from the responder to a requester.
abbrev pub is_answer : (own eid : ℕ) → PacketFields → Bool
is_answer own eid packet = not (packet.to == own) && (packet.from == own && packet.to == eid)

-- The round after a packet after those before it, the newest first.
abbrev pub round_after : (own eid : ℕ) → List (List ℕ) → Option Round → Result PacketFields PacketFault → Option Round
round_after own eid older round (Err fault) = round
round_after own eid older round (Ok packet) =
    if is_request own eid packet then round_by_request round (gathered_from own eid older packet)
    else (if is_answer own eid packet then round_by_answer round (gathered_from eid own older packet)
    else round)

-- The round in progress between the responder and a requester after these packets, the newest first.
abbrev pub round_of : (own eid : ℕ) → List (List ℕ) → Option Round
round_of own eid [] = None
round_of own eid (packet ∷ older) = round_after own eid older (round_of own eid older) (parsed packet)

-- ---- Out of turn.

-- A request is out of turn without the tag owner bit, and where it is no copy, with another tag than the next, or
-- before the last round has an answer.
abbrev pub asks_wrong : Option Round → (owner : Bool) → (tag : ℕ) → (body : List ℕ) → Bool
asks_wrong round owner tag body =
    not owner || (not (is_copy round tag body) && (not (tag == following_tag round) || not (may_come round body)))

-- An answer is out of turn with the tag owner bit, and where no request of its tag waits.
abbrev pub replies_wrong : Option Round → (owner : Bool) → (tag : ℕ) → Bool
replies_wrong round owner tag = owner || not (is_waiting round tag)

-- ---- Reasons that are told by the order.

-- A packet for the responder.
abbrev pub asked_why : Option Round → Gathered → Option Why
asked_why round (Whole route body) =
    if is_other_type body then Some BadPacket
    else (if asks_wrong round route.owner route.tag body then Some WrongTurn
    else None)
asked_why round More = None
asked_why round (Dropped cause) = Some BadPacket

-- A packet for a requester.
abbrev pub answered_why : Option Round → Gathered → Option Why
answered_why round (Whole route body) =
    if is_other_type body then Some BadPacket
    else (if replies_wrong round route.owner route.tag then Some WrongTurn
    else None)
answered_why round More = None
answered_why round (Dropped cause) = Some BadPacket

-- A requester with this endpoint is set up.
abbrev pub is_known : ℕ → List ReqSetup → Bool
is_known eid [] = false
is_known eid (q ∷ others) = q.eid == eid || is_known eid others

-- It comes from a requester that is set up, or from none.
abbrev pub coming_why : (own : ℕ) → List (List ℕ) → PacketFields → Bool → Option Why
coming_why own older packet false = Some UnknownEnd
coming_why own older packet true =
    asked_why (round_of own packet.from older) (gathered_from own packet.from older packet)

-- It goes to a requester that is set up, or to none.
abbrev pub going_why : (own : ℕ) → List (List ℕ) → PacketFields → Bool → Option Why
going_why own older packet false = Some UnknownEnd
going_why own older packet true =
    answered_why (round_of own packet.to older) (gathered_from packet.to own older packet)

-- Bytes that parse, or do not.
abbrev pub ordered_why : (own : ℕ) → List ReqSetup → List (List ℕ) → Result PacketFields PacketFault → Option Why
ordered_why own requesters older (Err fault) = Some BadPacket
ordered_why own requesters older (Ok packet) =
    if packet.to == own then coming_why own older packet (is_known packet.from requesters)
    else (if packet.from == own then going_why own older packet (is_known packet.to requesters)
    else Some UnknownEnd)

-- The reason that the order gives why a packet does not conform after those before it, the newest first; none where its
-- order is right.
unfoldable pub order_why : Configuration → List (List ℕ) → (packet : List ℕ) → Option Why
order_why w older packet = ordered_why w.responder.eid w.requesters older (parsed packet)

-- The three reasons that the order gives.
abbrev pub is_of_order : Why → Bool
is_of_order BadPacket = true
is_of_order UnknownEnd = true
is_of_order WrongTurn = true
is_of_order BadRequest = false
is_of_order BadReply = false
is_of_order BadVerify = false
is_of_order BadRecord = false
