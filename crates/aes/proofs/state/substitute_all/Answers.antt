use Rattle.std.proofs.Common.{arith}
use Rattle.std.proofs.lemmas.Grind.{common_steps}
use Rattle.aes.specs.ByteField.{sbox_of}
use Rattle.aes.proofs.Bytes.{map_more}
use Rattle.aes.proofs.state.substitute_all.Goals as goal

pub loop-x-preserved : goal.loop-x-preserved
loop-x-preserved c =
    rw c.substitute.ensures (map_more sbox_of c.args.state.now c.loop-x.x-items c.loop-x.x-index (grind (arith, common_steps)) (grind (arith, common_steps)) c.loop-x.invariant)
