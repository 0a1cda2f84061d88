use Rattle.std.proofs.Common.{◌≡◌, ◌∙◌, Option, Some, None, true, false, refl, sym, ap}
use Rattle.std.proofs.lemmas.Bool.{false≢true}
use Rattle.std.specs.Option.{option_or, is_some}
use Rattle.std.specs.Prelude.{not}
use Rattle.appraise.specs.declared.appraisal.Appraisal.{Appraisal}
use Rattle.appraise.specs.Records.{Measured}
use Rattle.appraise.proofs.ReadOn.{read_on}
use Rattle.appraise.proofs.appraising.read.Goals as goal
use Rattle.appraise.proofs.appraising.read.Goals.{then-is_none, else-is_none}

none_or : (a b : Option Appraisal) → is_some a ≡ false → b ≡ option_or a b
none_or None b h = refl
none_or (Some f) b h = absurd (false≢true (sym h))

some_or : (a b : Option Appraisal) → is_some a ≡ true → a ≡ option_or a b
some_or None b h = absurd (false≢true h)
some_or (Some f) b h = refl

pub loop-block-preserved : goal.loop-block-preserved
loop-block-preserved c =
    read_on c.args.rules.now c.args.bytes.now c.loop-block.seen.table c.add.new.self.table c.loop-block.fault c.if-is_none.fault
    c.loop-block.rest.now c.in-Some.behind.now c.in-Some.block c.loop-block.invariant c.in-Some.ensures
    (λ blocks stands. c.add.ensures blocks c.in-Some.block (ap (λ (m : Measured). m.index) (sym c.block-in-Some.view_is)) stands)
    (λ earlier stands. elim c.if-is_none.branch [
      | then-is_none w ↦ w.fault-is ∙ w.fault_of-fault.ensures earlier stands ∙ none_or c.loop-block.fault _ (c.is_none.ensures ∙ ap not w.if-is_none.true)
      | else-is_none w ↦ w.fault-is ∙ some_or c.loop-block.fault _ (c.is_none.ensures ∙ ap not w.if-is_none.false)
    ])
