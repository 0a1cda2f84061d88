-- What has to hold of a body for its packets to be gathered again. This project's own.
use Rattle.std.specs.Prelude.{◌≡◌, ◌<◌, ◌≤◌, ℕ, List, length, slice_index}
use Rattle.mctp_framing.specs.Cutting.{RouteFields}
use Rattle.mctp_framing.specs.Gathering.{Receiver}

-- The route leads from the peer to the own endpoint, the body is not empty, has no integrity check bit and is not
-- longer than the limit, and the unit is not 0.
pub record IsGatherable (r : Receiver) (route : RouteFields) (unit : ℕ) (body : List ℕ) : Type 0 where
  pub to_is : route.to ≡ r.own
  pub from_is : route.from ≡ r.peer
  pub filled : 0 < length body
  pub plain : slice_index body 0 < 128
  pub fits : length body ≤ r.limit
  pub some : 0 < unit
