-- The responder of the definitions that a configuration sets up, and what the program keeps of it.
use Rattle.std.specs.Prelude.{◌≡◌, ◌≤◌, ℕ, List, map}
use Rattle.measurements.specs.Blocks.{by_index}
use Rattle.responder_machine.specs.Setup as machine
use Rattle.responder_machine.specs.Setup.{RspEnd, RspPart}
use Rattle.responder.specs.declared.config.Known.{Known}
use Rattle.responder.specs.declared.config.RspConfig.{RspConfig}
use Rattle.responder.specs.declared.part.Part.{Part}
use Rattle.spdm_grammar.specs.declared.names.TheConstants.{MAX_MESSAGE_SIZE}

-- What is set up for all requesters.
abbrev pub part_of : RspConfig → RspPart
part_of c = record {
  eid = c.eid.number;
  transfer = c.transfer;
  max = c.max;
  unit = c.unit;
  beat = c.beat;
  flags = c.flags;
  opaque = c.opaque.now;
  blocks = c.blocks.now;
  suites = c.suites;
}

-- A requester that is known.
abbrev pub known_of : Known → machine.Known
known_of k = record { eid = k.eid.number; hint = k.hint; psk = k.psk }

-- The whole end, with this seed and the number of its first draw.
abbrev pub end_of : RspConfig → (seed : List ℕ) → (first : ℕ) → RspEnd
end_of c seed first = record { part = part_of c; known = map known_of c.known.now; seed = seed; first = first }

-- The program keeps this of what is set up for all requesters, and the sizes are within their limits.
pub record IsPart (seen : Part) (p : RspPart) : Type 0 where
  pub eid : p.eid ≡ seen.eid.number
  pub transfer : p.transfer ≡ seen.transfer
  pub max : p.max ≡ seen.max
  pub unit : p.unit ≡ seen.unit
  pub beat : p.beat ≡ seen.beat
  pub flags : p.flags ≡ seen.flags
  pub opaque : p.opaque ≡ seen.opaque
  pub inventory : by_index p.blocks ≡ seen.inventory
  pub suites : p.suites ≡ seen.suites
  pub ordered : p.transfer ≤ p.max
  pub most : p.max ≤ MAX_MESSAGE_SIZE
