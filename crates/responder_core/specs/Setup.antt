-- How a responder is set up towards one requester, as the program sees it.
use Rattle.std.specs.Prelude.{◌≡◌, ◌≤◌, length}
use Rattle.responder_core.specs.declared.setup.Setup.{Setup}
use Rattle.responder_machine.specs.Setup.{RspSetup, inventory_of}
use Rattle.spdm_grammar.specs.declared.names.TheConstants.{MAX_MESSAGE_SIZE, MAX_OPAQUE_LEN}

-- The program sees this set-up of the definitions, which is within its limits: its transfer size is at most its max
-- size, that is at most 4,096 bytes, and its opaque data have at most 1,024.
pub record IsSetUp (seen : Setup) (r : RspSetup) : Type 0 where
  pub transfer : r.transfer ≡ seen.transfer
  pub max : r.max ≡ seen.max
  pub beat : r.beat ≡ seen.beat
  pub flags : r.flags ≡ seen.flags
  pub opaque : r.opaque ≡ seen.opaque.now
  pub inventory : inventory_of r ≡ seen.inventory.now
  pub suites : r.suites ≡ seen.suites
  pub hint : r.hint ≡ seen.hint.now
  pub psk : r.psk ≡ seen.psk.now
  pub ordered : r.transfer ≤ r.max
  pub most : r.max ≤ MAX_MESSAGE_SIZE
  pub opaque_most : length r.opaque ≤ MAX_OPAQUE_LEN
