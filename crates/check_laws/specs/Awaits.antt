-- A packet with which more is awaited. This project's own.
use Rattle.std.specs.Prelude.{◌≡◌, ◌==◌, ℕ, List, ◌∷◌, None, Result, Ok, Err, if◌then◌else◌}
use Rattle.mctp_framing.specs.Gathering.Gathered.{More}
use Rattle.mctp_framing.specs.Packet.{PacketFields, parsed}
use Rattle.spdm_basis.specs.declared.PacketFault.{PacketFault}
use Rattle.spdm_machine.specs.Packets.{gathered_from}
use Rattle.check_laws.specs.Order.{order_why}
use Rattle.capture_machine.specs.Capture.{Leads}
use Rattle.capture_machine.specs.Rounds.{Dialogue}
use Rattle.world_machine.specs.Setup.{Configuration}

-- A packet of the responder with this endpoint, or for it, is a part of a body of which more is awaited.
abbrev pub IsPart : (own : ℕ) → List (List ℕ) → Result PacketFields PacketFault → Type 0
IsPart own older (Err fault) = ⊥
IsPart own older (Ok p) = (if p.to == own then gathered_from own p.from older p else gathered_from p.to own older p) ≡ More

-- After packets that conform, a packet in order that is a part of a body conforms, whatever the ends hold.
abbrev pub MoreConforms : Type 0
MoreConforms = (w : Configuration) (older : List (List ℕ)) (packet : List ℕ) (ds : List Dialogue) → Leads w older ds
    → order_why w older packet ≡ None → IsPart w.responder.eid older (parsed packet)
    → (after : List Dialogue) × Leads w (packet ∷ older) after
