use Rattle.std.proofs.Common.{◌≡◌}
use Rattle.aes.specs.Cipher.{rounds}
use Rattle.aes.proofs.plain.encrypt_step_by_step.Given as goal

abbrev pub invariant-loop-n : goal.invariant-loop-n
invariant-loop-n l = l.state ≡ rounds l.keys l.block l.n
