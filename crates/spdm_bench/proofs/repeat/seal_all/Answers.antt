use Rattle.std.proofs.Common.{◌≡◌, ◌+◌, ◌∙◌}
use Rattle.spdm_bench.specs.Repeat.{sealed}
use Rattle.spdm_bench.proofs.Messages.{sealed-more, last_tag-more}
use Rattle.spdm_bench.proofs.repeat.seal_all.Goals as goal

pub loop-number-preserved : goal.loop-number-preserved
loop-number-preserved c =
    let text = c.args.text.now in
    let n = c.loop-number.number in
    let iv = c.iv_of.result in
    let text_is : c.seal-tag.new.text ≡ sealed text (n + 1) = c.seal-tag.ensures.text
    ∙ sealed-more text c.new-cipher.result iv c.loop-number.text n c.new-cipher.ensures c.iv_of.ensures c.loop-number.invariant.text in
    record {
      text = text_is;
      tag = c.seal-tag.ensures.tag ∙ last_tag-more text c.new-cipher.result iv c.seal-tag.new.text n c.new-cipher.ensures c.iv_of.ensures text_is;
    }
