-- Packets given to an end, and the bodies that they complete. An end hears a body as a whole, by all packets that it
-- was ever given.
use Rattle.std.specs.Prelude.{◌^◌, ℕ, List, [], ◌∷◌, slice_index, Bool, Result, Ok, Err}
use Rattle.mctp_framing.specs.Cutting.{packets_of}
use Rattle.mctp_framing.specs.Gathering.{Gathered, gathered}
use Rattle.mctp_framing.specs.Packet.{PacketFields, parsed}
use Rattle.spdm_grammar.specs.declared.names.TheConstants.{MAX_BODY_SIZE}

-- The fields of a packet before the others; bytes that are no packet add none.
abbrev pub fields_with : {E : Type 0} → Result PacketFields E → List PacketFields → List PacketFields
fields_with (Ok packet) others = packet ∷ others
fields_with (Err fault) others = others

-- The fields of the packets among these bytes, in the same order.
abbrev pub fields_in : List (List ℕ) → List PacketFields
fields_in [] = []
fields_in (bytes ∷ others) = fields_with (parsed bytes) (fields_in others)

-- The greatest length of a body at either end: its type and a record of 4,160 bytes. This project's own limit.
abbrev pub body_limit : ℕ
body_limit = MAX_BODY_SIZE

-- What a packet leads to at an end that hears one peer, after the packets that it was given, the newest first.
unfoldable pub gathered_from : (own peer : ℕ) → List (List ℕ) → PacketFields → Gathered
gathered_from own peer given packet = gathered (record { own = own; peer = peer; limit = body_limit }) (fields_in given) packet

-- How many packets, or packets and commands, an end takes. This project's own limit.
abbrev pub wear_limit : ℕ
wear_limit = 2 ^ 40

-- The packets of a body from one end to another.
abbrev pub packets_to : (to from : ℕ) → Bool → ℕ → ℕ → List ℕ → List (List ℕ)
packets_to to from owner tag unit body = packets_of (record { to = to; from = from; owner = owner; tag = tag }) unit body

-- The type of a body: 5 SPDM (DSP0275), 6 secured messages (DSP0276).
abbrev pub body_type : List ℕ → ℕ
body_type body = slice_index body 0
