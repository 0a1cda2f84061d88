use Rattle.std.proofs.Common.{suc, refl, arith, sym, ap, ◌∙◌}
use Rattle.script_text.specs.Lines.{word}
use Rattle.script_text.proofs.LineWords.{word-zero, word-suc}
use Rattle.script_text.proofs.reading.words.word.Goals as goal

pub loop-preserved : goal.loop-preserved
loop-preserved c = λ k e.
    c.loop.invariant (suc k) (omega arith) ∙ word-suc c.loop.rest.now (suc k) k refl ∙ ap (word k) (sym c.behind_space-rest.ensures)

pub returns : goal.returns
returns c = sym (c.loop.invariant 0 (omega arith) ∙ word-zero c.loop.rest.now ∙ sym c.before_space.ensures)
