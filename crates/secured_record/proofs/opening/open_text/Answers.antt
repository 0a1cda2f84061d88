use Rattle.std.proofs.Common.{arith}
use Rattle.secured_record.proofs.Pieces.{length-first}
use Rattle.secured_record.proofs.opening.open_text.Goals as goal

pub inner_length-size-requires : goal.inner_length-size-requires
inner_length-size-requires c =
    omega (arith, c.requires.least, length-first c.args.cipher.now c.args.iv.now c.args.text.now c.args.first.now c.requires.first)

pub write_inner-requires-clause-long : goal.write_inner-requires-clause-long
write_inner-requires-clause-long c = length-first c.args.cipher.now c.args.iv.now c.args.text.now c.args.first.now c.requires.first
