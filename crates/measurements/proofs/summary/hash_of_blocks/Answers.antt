use Rattle.std.proofs.Common.{◌∙◌, ℕ, List, sym, ap, subst, arith}
use Rattle.running_hash.specs.Hash.{hash_of}
use Rattle.running_hash.specs.Holds.{Holds}
use Rattle.spdm_grammar.specs.declared.told.block_spec.BlockSpec.{BlockSpec}
use Rattle.measurements.specs.Summaries.{hash_of_blocks}
use Rattle.measurements.proofs.Chosen.{one_more, summary_is, none_chosen}
use Rattle.measurements.proofs.Lengths.{len_drop_next}
use Rattle.measurements.proofs.summary.hash_of_blocks.Goals as goal

pub loop-block-preserved : goal.loop-block-preserved
loop-block-preserved c =
    let p = c.push_chosen.ensures in
    let i = c.loop-block.invariant in
    record {
      function = p.function ∙ i.function;
      given = subst (λ (g : List ℕ). Holds c.push_chosen.new.running g)
          (sym (one_more c.args.kind c.loop-block.block-index c.args.blocks.now c.block-item.result c.loop-block-test.true c.block-item.is))
          (p.given _ i.given);
      room = omega (arith, i.room, len_drop_next c.loop-block.block-index c.args.blocks.now);
    }

pub returns-then-has_chosen-clause-value : goal.returns-then-has_chosen-clause-value
returns-then-has_chosen-clause-value c =
    let i = c.loop-block.invariant in
    summary_is c.args.hash _ c.args.kind c.loop-block.block-index c.args.blocks.now c.has_chosen.result c.finish.result
    (c.finish.ensures.value _ i.given) i.function c.loop-block.auto.block-index-end c.loop-block-test.false
    c.has_chosen.ensures c.if-has_chosen.true

pub returns-else-has_chosen-clause-value : goal.returns-else-has_chosen-clause-value
returns-else-has_chosen-clause-value c =
    c.zeros.ensures.value
    ∙ ap (λ (bs : List BlockSpec). hash_of_blocks (hash_of c.args.hash) bs)
    (sym (none_chosen c.args.kind c.args.blocks.now (sym c.has_chosen.ensures ∙ c.if-has_chosen.false)))
