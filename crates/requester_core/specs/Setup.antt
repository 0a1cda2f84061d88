-- How a requester is set up, as the program sees it.
use Rattle.std.specs.Prelude.{◌≡◌}
use Rattle.requester_core.specs.declared.setup.Setup.{Setup}
use Rattle.requester_machine.specs.Setup.{ReqSetup}
use Rattle.requester_machine.specs.UnderWay.{HasSizes}

-- The program sees this set-up of the definitions, whose sizes are within their limits.
pub record IsSetUp (seen : Setup) (q : ReqSetup) : Type 0 where
  pub transfer : q.transfer ≡ seen.transfer
  pub max : q.max ≡ seen.max
  pub flags : q.flags ≡ seen.flags
  pub suites : q.suites ≡ seen.suites
  pub hint : q.hint ≡ seen.hint.now
  pub sizes : HasSizes q
