use Rattle.std.proofs.Common.{◌&&◌, Bool, ap, inl, inr, arith}
use Rattle.std.proofs.lemmas.Bool.{cases_lt}
use Rattle.std.specs.Prelude.{not}
use Rattle.appraise.specs.Records.{has_block}
use Rattle.appraise.proofs.NoBlock.{expects_none}
use Rattle.appraise.proofs.appraising.first_missing.Goals as goal

pub loop-index-init : goal.loop-index-init
loop-index-init c blocks seen lower less =
    ap (λ (b : Bool). b && not (has_block lower blocks)) (expects_none c.args.rules.now lower c.requires (inl (omega (arith, less))))

pub returns : goal.returns
returns c blocks seen index =
    elim (cases_lt index 255) [
      | inl less ↦ c.loop-index.invariant blocks seen index (omega (arith, less, c.loop-index-test.false))
      | inr more ↦ ap (λ (b : Bool). b && not (has_block index blocks)) (expects_none c.args.rules.now index c.requires (inr more))
    ]
