use Rattle.std.proofs.Common.{◌≡◌, ◌++◌, take, drop}
use Rattle.std.specs.Prelude.{map}
use Rattle.aes.specs.ByteField.{sbox_of}
use Rattle.aes.proofs.state.substitute_all.Given as goal

abbrev pub invariant-loop-x : goal.invariant-loop-x
invariant-loop-x l = l.x-items ≡ map sbox_of (take l.x-index l.state) ++ drop l.x-index l.state
