use Rattle.std.proofs.Common.{◌≤◌, List, length, subst, sym}
use Rattle.measurements.specs.Blocks.{record_of}
use Rattle.measurements.specs.Records.{asked}
use Rattle.spdm_grammar.specs.declared.told.block_spec.BlockSpec.{BlockSpec}
use Rattle.check_fetched_laws.proofs.FewBlocks.{few}
use Rattle.check_fetched_laws.proofs.few_blocks.blocks_are_few.Goals as goal

pub returns : goal.returns
returns c = λ r set op.
    let told = c.record-all.ensures in
    subst (λ (blocks : List BlockSpec). length (record_of (asked op blocks)) ≤ 4054) (sym set.inventory) (few op c.args.setup.now.inventory.now c.record-all.new.out c.record-all.result told.missing told.bytes told.fits)
