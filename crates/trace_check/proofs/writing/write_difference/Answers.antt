use Rattle.std.proofs.Common.{◌∙◌, subst, List, ℕ}
use Rattle.spdm_basis.specs.Stream.{TakesPrefix}
use Rattle.trace_check.proofs.writing.write_difference.Goals as goal
use Rattle.spdm_show.proofs.LinesBefore.{prefix_of_whole}

pub returns-in_err-write_all-clause-prefix : goal.returns-in_err-write_all-clause-prefix
returns-in_err-write_all-clause-prefix g c =
    subst (λ (t : List ℕ). TakesPrefix (g.K.Sink.contents c.args.sink.now) t (g.K.Sink.contents c.write_all.new.sink))
    (c.as_slice.ensures.value ∙ c.line_differs.ensures) c.in_err-write_all.ensures.prefix

pub returns-clause-prefix : goal.returns-clause-prefix
returns-clause-prefix g c =
    let old = g.K.Sink.contents c.args.sink.now in
    let new = g.K.Sink.contents c.write_all.new.sink in
    let text : List ℕ = c.as_slice.result.now in
    subst (λ (t : List ℕ). TakesPrefix old t new) (c.as_slice.ensures.value ∙ c.line_differs.ensures)
    (prefix_of_whole old new text c.in_ok-write_all.ensures.whole)
