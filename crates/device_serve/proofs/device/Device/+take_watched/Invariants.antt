use Rattle.std.proofs.Common.{length}
use Rattle.device_serve.proofs.device.Device.+take_watched.Given as goal

abbrev pub decreases-take_watched : goal.decreases-take_watched
decreases-take_watched g l = length l.watched.now
