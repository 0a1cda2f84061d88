-- What a packet of a capture completes, told from all packets before it: the body that is gathered between the responder
-- and one of its requesters (DSP0236, "Message assembly"). Packets are bytes, the newest first. This project's own.
use Rattle.std.specs.Prelude.{◌==◌, ◌&&◌, not, nat_lt, ℕ, List, length, if◌then◌else◌, Bool, Result, Ok, Err}
use Rattle.std.specs.List.{list_any}
use Rattle.mctp_framing.specs.Gathering as gathering
use Rattle.mctp_framing.specs.Gathering.{Gathered}
use Rattle.mctp_framing.specs.Packet.{PacketFields}
use Rattle.spdm_basis.specs.declared.causes.faults.PacketFault.{PacketFault}
use Rattle.spdm_basis.specs.declared.causes.drop_cause.DropCause.{DropCause}
use Rattle.spdm_basis.specs.declared.causes.drop_cause.DropCause.TheVariants.{TooLong}
use Rattle.spdm_machine.specs.Packets.{body_limit, gathered_from}

-- A body is whole, more packets are awaited, or the packet is dropped.
pub data Completed : Type 0 where
  Body : (owner : Bool) → (body : List ℕ) → Completed
  More : Completed
  Dropped : (cause : DropCause) → Completed

abbrev pub completed_by : Gathered → Completed
completed_by (gathering.Gathered.Whole route body) = Body route.owner body
completed_by gathering.Gathered.More = More
completed_by (gathering.Gathered.Dropped cause) = Dropped cause

-- A packet that stands by itself: it has a whole body, where that is none too long, or a part of one.
abbrev pub alone : PacketFields → Completed
alone p =
    if not (p.start && p.end) then More
    else (if nat_lt body_limit (length p.payload) then Dropped TooLong
    else Body p.owner p.payload)

-- The endpoint is one of these.
abbrev pub is_one_of : List ℕ → ℕ → Bool
is_one_of eids eid = list_any (λ e. e == eid) eids

-- The packet goes to the responder from a requester, or from the responder to one. None goes from an end to itself.
abbrev pub goes_between : (own : ℕ) → (eids : List ℕ) → PacketFields → Bool
goes_between own eids p =
    not (p.to == p.from) && (if p.to == own then is_one_of eids p.from else p.from == own && is_one_of eids p.to)

-- What a packet completes behind those before it: of the responder with this endpoint and requesters with these, what is
-- gathered between its two ends; between other ends each packet stands by itself.
abbrev pub completed : (own : ℕ) → (eids : List ℕ) → List (List ℕ) → PacketFields → Completed
completed own eids older p = if goes_between own eids p then completed_by (gathered_from p.to p.from older p) else alone p

-- What bytes complete; those that are no packet complete nothing.
abbrev pub completed_in : (own : ℕ) → (eids : List ℕ) → List (List ℕ) → Result PacketFields PacketFault → Completed
completed_in own eids older (Ok p) = completed own eids older p
completed_in own eids older (Err fault) = More
