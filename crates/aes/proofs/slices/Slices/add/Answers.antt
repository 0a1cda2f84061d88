use Rattle.std.proofs.Common.{refl}
use Rattle.aes.proofs.Mixes.{sum_at}
use Rattle.aes.proofs.slices.Slices.add.Goals as goal

pub returns : goal.returns
returns c = sum_at _ c.args.self.now c.args.other.now refl refl refl refl refl refl refl refl
