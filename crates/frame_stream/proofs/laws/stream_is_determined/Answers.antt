use Rattle.frame_stream.proofs.Unique.{stream_is_one}
use Rattle.frame_stream.proofs.laws.stream_is_determined.Goals as goal

pub returns : goal.returns
returns c = stream_is_one
