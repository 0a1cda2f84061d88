-- What an assembler keeps, what one packet does to it, and the packets that it stands for. This project's own. The
-- rules themselves are those of gathering.
use Rattle.std.specs.Prelude.{◌≡◌, ◌==◌, ◌+◌, ◌%◌, ◌&&◌, ℕ, Bool, true, false, not, nat_lt, List, [], ◌∷◌, ◌++◌, length, filter, if◌then◌else◌, Option, Some, None}
use Rattle.std.specs.Bool.{beq}
use Rattle.spdm_basis.specs.declared.DropCause.{DropCause}
use Rattle.spdm_basis.specs.declared.DropCause.TheVariants.{NotOurs, NoStart, WrongSequence, TooLong, WrongSize}
use Rattle.mctp_framing.specs.Packet.{PacketFields}
use Rattle.mctp_framing.specs.Gathering.{Receiver, Gathered, is_ours, has_wrong_size, unit_of, joined, first_cause, broken_rule, is_unfinished, group_of, answer_from}
use Rattle.mctp_framing.specs.Gathering.Gathered.{Dropped}
use Rattle.mctp_framing.specs.declared.unfinished.Unfinished.{Unfinished}

-- Who gathers, what the next packet of the unfinished body must have, and the bytes so far.
pub record Assembly : Type 0 where
  pub receiver : Receiver
  pub unfinished : Option Unfinished
  pub body : List ℕ

-- The packet has the tag and the tag owner bit of the unfinished body.
abbrev pub goes_on : PacketFields → Unfinished → Bool
goes_on p u = p.tag == u.tag && beq p.owner u.owner

-- The rule that a later packet breaks, by what its body must have and the number of its bytes so far.
abbrev pub next_rule : (limit : ℕ) → Unfinished → (held : ℕ) → PacketFields → Option DropCause
next_rule limit u held p = first_cause (
    (not (p.sequence == u.sequence), WrongSequence)
    ∷ (has_wrong_size p u.unit, WrongSize)
    ∷ (nat_lt limit (held + length p.payload), TooLong)
    ∷ [])

-- What the packet after p must have, in a body of this payload size.
abbrev pub unfinished_after : PacketFields → (unit : ℕ) → Unfinished
unfinished_after p unit = record { owner = p.owner; tag = p.tag; sequence = (p.sequence + 1) % 4; unit = unit }

-- The payload is added, and with EOM nothing is unfinished.
abbrev pub grown : Assembly → PacketFields → (unit : ℕ) → Assembly
grown a p unit = record {
  receiver = a.receiver;
  unfinished = if p.end then None else Some (unfinished_after p unit);
  body = a.body ++ p.payload;
}

-- The packet is added where it breaks no rule.
abbrev pub grown_unless : Option DropCause → Assembly → PacketFields → (unit : ℕ) → Assembly
grown_unless (Some cause) a p unit = a
grown_unless None a p unit = grown a p unit

-- What a first packet leaves: what was unfinished is gone.
abbrev pub after_first : Assembly → PacketFields → Assembly
after_first a p =
    grown_unless (broken_rule a.receiver.limit (p ∷ [])) (record { receiver = a.receiver; unfinished = None; body = [] }) p (length p.payload)

-- What a later packet leaves where it goes on with what is unfinished.
abbrev pub after_next : Assembly → Unfinished → PacketFields → Assembly
after_next a u p =
    grown_unless (next_rule a.receiver.limit u (length a.body) p) (record { receiver = a.receiver; unfinished = None; body = a.body }) p u.unit

abbrev pub after_later : Option Unfinished → Assembly → PacketFields → Assembly
after_later None a p = a
after_later (Some u) a p = if goes_on p u then after_next a u p else a

-- What a packet leaves.
abbrev pub after_packet : Assembly → PacketFields → Assembly
after_packet a p =
    if not (is_ours a.receiver p) then a
    else (if p.start then after_first a p
    else after_later a.unfinished a p)

abbrev pub answer_later : Option Unfinished → Assembly → PacketFields → Gathered
answer_later None a p = Dropped NoStart
answer_later (Some u) a p =
    if goes_on p u then answer_from (next_rule a.receiver.limit u (length a.body) p) p (a.body ++ p.payload)
    else Dropped NoStart

-- What a packet is answered.
abbrev pub answer_to : Assembly → PacketFields → Gathered
answer_to a p =
    if not (is_ours a.receiver p) then Dropped NotOurs
    else (if p.start then answer_from (broken_rule a.receiver.limit (p ∷ [])) p ([] ++ p.payload)
    else answer_later a.unfinished a p)

-- What is unfinished is what the newest packet of an unfinished group leads to, with the payloads of the group; or no
-- group is unfinished.
abbrev pub StandsForGroup : (limit : ℕ) → Option Unfinished → (body : List ℕ) → (group : List PacketFields) → Type 0
StandsForGroup limit None body group = is_unfinished limit group ≡ false
StandsForGroup limit (Some u) body [] = ⊥
StandsForGroup limit (Some u) body (p ∷ earlier) =
    (is_unfinished limit (p ∷ earlier) ≡ true) × (u ≡ unfinished_after p (unit_of (p ∷ earlier))) × (body ≡ joined (p ∷ earlier))

-- The assembler stands for the packets that it was given, the newest first.
abbrev pub StandsFor : Assembly → (given : List PacketFields) → Type 0
StandsFor a given = StandsForGroup a.receiver.limit a.unfinished a.body (group_of (filter (is_ours a.receiver) given))
