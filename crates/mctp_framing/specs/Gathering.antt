-- Packets gathered into message bodies (DSP0236, "Message assembly" and "Dropped packets"). That there is a limit, that
-- a body with the integrity check bit is refused, and that every payload but the last has the size of the first, are
-- this project's own.
--
-- Each list of packets below has the newest first.
use Rattle.std.specs.Prelude.{◌==◌, ◌+◌, ◌%◌, ◌&&◌, ◌||◌, ℕ, Bool, false, not, nat_lt, nat_le, List, [], ◌∷◌, ◌++◌, length, slice_index, filter, find, if◌then◌else◌, Option, Some, None, is_none}
use Rattle.std.specs.Bool.{beq}
use Rattle.spdm_basis.specs.declared.DropCause.{DropCause}
use Rattle.spdm_basis.specs.declared.DropCause.TheVariants.{NotOurs, NoStart, WrongSequence, WrongSize, TooLong, IntegritySet}
use Rattle.mctp_framing.specs.Packet.{PacketFields}
use Rattle.mctp_framing.specs.Cutting.{RouteFields}

-- Who gathers: the own endpoint, the one that it hears, and how long a body may be.
pub record Receiver : Type 0 where
  pub own : ℕ
  pub peer : ℕ
  pub limit : ℕ

-- What a packet leads to: it completes a body, more packets are awaited, or it is dropped.
pub data Gathered : Type 0 where
  Whole : (route : RouteFields) → (body : List ℕ) → Gathered
  More : Gathered
  Dropped : (cause : DropCause) → Gathered

-- The packet is for the own endpoint and from the peer.
abbrev pub is_ours : Receiver → PacketFields → Bool
is_ours r p = p.to == r.own && p.from == r.peer

-- Two packets have the same message tag and the same tag owner bit.
abbrev pub has_same_tag : PacketFields → PacketFields → Bool
has_same_tag p q = p.tag == q.tag && beq p.owner q.owner

-- The last packet with SOM.
abbrev pub last_start : List PacketFields → Option PacketFields
last_start packets = find (λ p. p.start) packets

-- The packets after the last one with SOM.
abbrev pub after_start : List PacketFields → List PacketFields
after_start [] = []
after_start (p ∷ earlier) = if p.start then [] else p ∷ after_start earlier

-- A first packet and those of the later packets that have its tag and tag owner bit.
abbrev pub group_from : Option PacketFields → (later : List PacketFields) → List PacketFields
group_from None later = []
group_from (Some first) later = filter (λ p. has_same_tag p first) later ++ first ∷ []

-- The group: the last packet with SOM, and the later packets that have its tag and tag owner bit.
abbrev pub group_of : List PacketFields → List PacketFields
group_of packets = group_from (last_start packets) (after_start packets)

-- The payloads of a group, joined in the order in which they came.
abbrev pub joined : List PacketFields → List ℕ
joined [] = []
joined (p ∷ earlier) = joined earlier ++ p.payload

-- The payload size of a group: that of its first packet.
abbrev pub unit_of : List PacketFields → ℕ
unit_of [] = 0
unit_of (p ∷ []) = length p.payload
unit_of (p ∷ q ∷ earlier) = unit_of (q ∷ earlier)

-- The cause of the first test that holds.
abbrev pub first_cause : List (Bool × DropCause) → Option DropCause
first_cause [] = None
first_cause (test ∷ tests) = if test.0 then Some test.1 else first_cause tests

-- The payload of a later packet is empty, or longer than the first, or shorter than the first and without EOM.
abbrev pub has_wrong_size : PacketFields → (unit : ℕ) → Bool
has_wrong_size p unit =
    (length p.payload == 0) || nat_lt unit (length p.payload) || (nat_lt (length p.payload) unit && not p.end)

-- The rule that the newest packet of a group breaks. A first packet: its payload is empty; bit 7 of its first byte is
-- set; it is longer than the limit. A later packet: its sequence number is not one above that of the packet before it,
-- modulo 4; its payload has the wrong size; the payloads up to it are longer than the limit.
abbrev pub broken_rule : (limit : ℕ) → List PacketFields → Option DropCause
broken_rule limit [] = None
broken_rule limit (p ∷ []) = first_cause (
    (length p.payload == 0, WrongSize)
    ∷ (nat_le 128 (slice_index p.payload 0), IntegritySet)
    ∷ (nat_lt limit (length p.payload), TooLong)
    ∷ [])
broken_rule limit (p ∷ q ∷ earlier) = first_cause (
    (not (p.sequence == (q.sequence + 1) % 4), WrongSequence)
    ∷ (has_wrong_size p (unit_of (q ∷ earlier)), WrongSize)
    ∷ (nat_lt limit (length (joined (q ∷ earlier)) + length p.payload), TooLong)
    ∷ [])

-- A group that more packets are awaited for: it has a first packet, no member has EOM, and none breaks a rule.
abbrev pub is_unfinished : (limit : ℕ) → List PacketFields → Bool
is_unfinished limit [] = false
is_unfinished limit (p ∷ []) = not p.end && is_none (broken_rule limit (p ∷ []))
is_unfinished limit (p ∷ q ∷ earlier) =
    not p.end && is_none (broken_rule limit (p ∷ q ∷ earlier)) && is_unfinished limit (q ∷ earlier)

-- The route of a packet.
abbrev pub route_of_packet : PacketFields → RouteFields
route_of_packet p = record { to = p.to; from = p.from; owner = p.owner; tag = p.tag }

-- What a packet leads to, by the rule that it breaks and the payloads up to it: it is dropped for the rule; else with
-- EOM the payloads are a body, and without it more is awaited.
abbrev pub answer_from : Option DropCause → PacketFields → (body : List ℕ) → Gathered
answer_from (Some cause) p body = Dropped cause
answer_from None p body = if p.end then Whole (route_of_packet p) body else More

-- What the newest packet of a group leads to, where no earlier member has EOM or breaks a rule.
abbrev pub answer_of : (limit : ℕ) → PacketFields → (earlier : List PacketFields) → Gathered
answer_of limit p earlier = answer_from (broken_rule limit (p ∷ earlier)) p (joined (p ∷ earlier))

-- The packet belongs to an unfinished group.
abbrev pub belongs_to : (limit : ℕ) → PacketFields → (group : List PacketFields) → Bool
belongs_to limit p [] = false
belongs_to limit p (q ∷ earlier) = has_same_tag p q && is_unfinished limit (q ∷ earlier)

-- What a packet leads to, by all the packets that were given before it. One that is not for the own endpoint, or not
-- from the peer, is dropped, and counts in no group. One with SOM is a group by itself. Another one is the next of the
-- group of those before it, and has no start where there is no such group, where it has another tag, or where the group
-- was ended or broken by an earlier member.
abbrev pub gathered : Receiver → (earlier : List PacketFields) → PacketFields → Gathered
gathered r earlier p =
    let group = group_of (filter (is_ours r) earlier) in
    if not (is_ours r p) then Dropped NotOurs
    else (if p.start then answer_of r.limit p []
    else (if belongs_to r.limit p group then answer_of r.limit p group
    else Dropped NoStart))

-- What each packet of a list leads to, the newest first.
abbrev pub all_gathered : Receiver → List PacketFields → List Gathered
all_gathered r [] = []
all_gathered r (p ∷ earlier) = gathered r earlier p ∷ all_gathered r earlier
