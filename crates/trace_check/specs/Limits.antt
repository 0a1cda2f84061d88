-- Which configurations a capture is judged under, and what the program keeps of the responder. This project's own.
use Rattle.std.specs.Prelude.{◌≡◌, ◌≤◌, ◌<◌, length}
use Rattle.std.specs.List.{AllByRecursion}
use Rattle.measurements.specs.Blocks.{by_index}
use Rattle.requester_machine.specs.May.{IsSetUp}
use Rattle.requester_machine.specs.Setup.{ReqSetup}
use Rattle.requester_machine.specs.UnderWay.{HasSizes}
use Rattle.responder_machine.specs.Setup.{RspPart}
use Rattle.spdm_grammar.specs.declared.names.TheConstants.{MAX_MESSAGE_SIZE, MAX_OPAQUE_LEN}
use Rattle.check_laws.specs.Judged.{AreApart}
use Rattle.trace_check.specs.declared.answering.Answering.{Answering}
use Rattle.world_machine.specs.Setup.{Configuration}

-- ---- The limits of the two ends.

-- The responder's transfer size is at most its max size, that is at most 4,096 bytes, its opaque data have at most 1,024,
-- and its heartbeat period is a byte.
pub record HasLimits (p : RspPart) : Type 0 where
  pub ordered : p.transfer ≤ p.max
  pub most : p.max ≤ MAX_MESSAGE_SIZE
  pub opaque : length p.opaque ≤ MAX_OPAQUE_LEN
  pub beat : p.beat < 256

-- A requester is within its limits.
pub record IsSound (q : ReqSetup) : Type 0 where
  pub sizes : HasSizes q
  pub limits : IsSetUp q

-- All ends are, their endpoints differ, and a byte counts the requesters.
pub record AreSound (w : Configuration) : Type 0 where
  pub responder : HasLimits w.responder
  pub requesters : AllByRecursion IsSound w.requesters
  pub apart : AreApart w.responder.eid w.requesters
  pub few : length w.requesters < 256

-- ---- The responder.

-- The program keeps this of how the responder is set up.
pub record IsAnswering (seen : Answering) (p : RspPart) : Type 0 where
  pub transfer : p.transfer ≡ seen.transfer
  pub max : p.max ≡ seen.max
  pub beat : p.beat ≡ seen.beat
  pub flags : p.flags ≡ seen.flags
  pub opaque : p.opaque ≡ seen.opaque
  pub inventory : by_index p.blocks ≡ seen.inventory
  pub suites : p.suites ≡ seen.suites
