use Rattle.mctp_framing.proofs.CutAndGathered.{gathered-nth}
use Rattle.mctp_framing.proofs.laws.cut_is_gathered.Goals as goal

pub returns : goal.returns
returns c = λ r route unit body earlier k sound within. gathered-nth r route unit body sound earlier k within
