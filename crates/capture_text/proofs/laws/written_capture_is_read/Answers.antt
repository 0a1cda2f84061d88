use Rattle.capture_text.proofs.CaptureBack.{capture_back}
use Rattle.capture_text.proofs.laws.written_capture_is_read.Goals as goal

pub returns : goal.returns
returns c = capture_back
