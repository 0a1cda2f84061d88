use Rattle.std.proofs.Common.{arith, ◌++◌, ◌∙◌, sym, take, drop, take-add, take-append-drop}
use Rattle.std.proofs.lemmas.Grind.{common_steps}
use Rattle.spdm_basis.proofs.streams.transfer.write_all.Goals as goal

pub loop-done-preserved : goal.loop-done-preserved
loop-done-preserved g c = record {
  taken = λ held e. grind (arith, common_steps, take-add, c.in-Ok.ensures.takes (held ++ take c.loop-done.done c.args.text.now) (c.loop-done.invariant.taken held e));
  later = grind arith;
  within = grind (arith, common_steps);
}

pub returns-in_default-clause-prefix : goal.returns-in_default-clause-prefix
returns-in_default-clause-prefix g c =
    let text = c.args.text.now in
    let done = c.loop-done.done in
    (take done text, drop done text, sym (take-append-drop done text), λ held e. c.in_default.ensures.same ∙ c.loop-done.invariant.taken held e)
