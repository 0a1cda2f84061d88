-- The program's representation of a requester.
use Rattle.std.specs.Prelude.{◌≡◌, ◌∷◌, ℕ, List, Some, None}
use Rattle.responder_core.specs.Connected as connected
use Rattle.mctp_framing.specs.Assembling as assembling
use Rattle.mctp_framing.specs.Gathering.{Gathered, gathered}
use Rattle.mctp_framing.specs.Packet.{PacketFields}
use Rattle.responder.specs.Came.{IsMet, came_of, history_after}
use Rattle.responder.specs.SetUp.{known_of}
use Rattle.responder.specs.declared.peer.Peer.{Peer}
use Rattle.responder.specs.declared.shared.Shared.{Shared}
use Rattle.responder_machine.specs.EndLaws.{receiver_of}
use Rattle.responder_machine.specs.History.Entry.{Queued}
use Rattle.responder_machine.specs.Responding.{Connection, changed, reply_fault_of}
use Rattle.responder_machine.specs.Setup.{RspPart, towards}
use Rattle.spdm_grammar.specs.declared.told.heard.Heard.{Heard}
use Rattle.spdm_grammar.specs.declared.told.heard.ReplyFault.{ReplyFault}
use Rattle.spdm_machine.specs.Keys.{draw_of}

-- The program's state stands for this connection, at a responder with this configuration that received these packets,
-- the newest first.
pub record StandsFor (seen : Peer) (p : RspPart) (given : List PacketFields) (c : Connection) : Type 0 where
  pub setup : c.setup ≡ towards p (known_of seen.known)
  pub receiver : seen.assembler.receiver ≡ receiver_of p.eid seen.known.eid.number
  pub assembler : assembling.StandsFor seen.assembler given
  pub connection : connected.StandsFor seen.connection c.setup c.history

-- What a packet leads to where bodies of this connection are gathered.
abbrev pub gathered_at : RspPart → List PacketFields → Connection → PacketFields → Gathered
gathered_at p given c packet = gathered (receiver_of p.eid c.setup.peer) given packet

-- A packet came while the draw of this number of this seed was next: all that comes of it is met, and what is kept is
-- that of the connection after it.
pub record IsTaken (p : RspPart) (given : List PacketFields) (c : Connection) (packet : PacketFields) (tells : Heard) (sends : List (List ℕ)) (new : Peer) (before after : Shared) : Type 0 where
  pub met : IsMet c (came_of c (draw_of before.draws.seed before.draws.number) (gathered_at p given c packet)) tells sends new.connection before after
  pub stands : StandsFor new p (packet ∷ given) (changed (λ h. history_after h (came_of c (draw_of before.draws.seed before.draws.number) (gathered_at p given c packet))) c)

-- Application data were queued, and have no fault.
pub record IsQueued (p : RspPart) (given : List PacketFields) (c : Connection) (bytes : List ℕ) (new : Peer) : Type 0 where
  pub sound : reply_fault_of (Some c) bytes ≡ None
  pub stands : StandsFor new p given (changed (λ h. Queued bytes ∷ h) c)

-- They have this fault, and nothing changes.
pub record IsNotQueued (p : RspPart) (given : List PacketFields) (c : Connection) (bytes : List ℕ) (fault : ReplyFault) (new : Peer) : Type 0 where
  pub cause : reply_fault_of (Some c) bytes ≡ Some fault
  pub stands : StandsFor new p given c
