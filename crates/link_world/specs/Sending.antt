-- Packets that are sent one after the other, and a link that has no room for all. This project's own.
use Rattle.std.specs.Prelude.{◌≡◌, ◌≤◌, ◌++◌, ℕ, List, length, true, false, Result, Ok, Err}
use Rattle.link_world.specs.Written.{before_full, has_full, text_of}
use Rattle.link_world.specs.declared.sent.SendFault.{SendFault}
use Rattle.link_world.specs.declared.sent.SendFault.TheVariants.{LinkFull, OutOfMemory}
use Rattle.world_machine.specs.Trace.{packets_max}
use Rattle.world_machine.specs.World.{SentPacket, packet_lines, with_sent}

-- All were sent, and their lines were added to the text.
pub record AreAllSent (sent : List SentPacket) (packets : List (List ℕ)) (old : List ℕ) (after : List SentPacket) (new : List ℕ) : Type 0 where
  pub fits : has_full (packet_lines (length sent) packets) ≡ false
  pub text : new ≡ old ++ text_of (packet_lines (length sent) packets)
  pub all : after ≡ with_sent sent packets
  pub within : length after ≤ packets_max

-- There was no room for all; the lines of the others were added to the text.
pub record AreTooMany (sent : List SentPacket) (packets : List (List ℕ)) (old new : List ℕ) : Type 0 where
  pub full : has_full (packet_lines (length sent) packets) ≡ true
  pub text : new ≡ old ++ text_of (before_full (packet_lines (length sent) packets))

abbrev pub IsSent : List SentPacket → (packets : List (List ℕ)) → (old : List ℕ) → (after : List SentPacket) → (new : List ℕ) → Result Unit SendFault → Type 0
IsSent sent packets old after new (Ok done) = AreAllSent sent packets old after new
IsSent sent packets old after new (Err LinkFull) = AreTooMany sent packets old new
IsSent sent packets old after new (Err OutOfMemory) = Unit {0}
