use Rattle.stream_laws.proofs.DeviceCarrying.{every_device_carriage}
use Rattle.stream_laws.proofs.laws.every_device_carriage_is_a_world.Goals as goal

pub returns : goal.returns
returns c = every_device_carriage
