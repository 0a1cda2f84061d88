use Rattle.std.proofs.Common.{◌≡◌, drop, fold}
use Rattle.script_text.specs.Printing.{with_block}
use Rattle.script_text.proofs.printing.config_printing.add_blocks.Given as goal

-- the whole text is that so far with the lines that are left
abbrev pub invariant-loop-block : goal.invariant-loop-block
invariant-loop-block l = fold with_block l.fn.text l.blocks ≡ fold with_block l.text (drop l.block-index l.blocks)
