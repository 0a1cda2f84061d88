-- What an assembler is after it lent a body. This project's own.
use Rattle.std.specs.Prelude.{◌≡◌, List, ◌∷◌}
use Rattle.std.specs.Borrow.{Fml, MutBor}
use Rattle.std.specs.Io.BufRead.{Rests}
use Rattle.mctp_framing.specs.Packet.{PacketFields}
use Rattle.mctp_framing.specs.Assembling.{Assembly, StandsFor}
use Rattle.mctp_framing.specs.contracts.assembler.Assembler.{the_row}

-- An assembler that was given this packet: it gathers for the same receiver, and stands for the packets that were given
-- before and this one.
pub record TakesPacket (p : PacketFields) (old new : Assembly) : Type 0 where
  pub receiver : new.receiver ≡ old.receiver
  pub stands : (given : List PacketFields) → StandsFor old given → StandsFor new (p ∷ given)

-- The assembler ends as one that was given this packet, once the body is given back.
abbrev pub RestsWith : MutBor Assembly → PacketFields → Fml
RestsWith s p = Rests the_row s (λ new. TakesPacket p s.now new)
