use Rattle.std.proofs.Common.{◌∙◌, ℕ, List, Option, subst}
use Rattle.trace_check.proofs.OneAnswer.{exact_verdict, exactly, not_faulty, read_is}
use Rattle.trace_check.specs.Answers.{IsAnswered}
use Rattle.trace_check.proofs.input.check_input.Goals as goal

pub returns-clause-exact : goal.returns-clause-exact
returns-clause-exact g c = λ text found left has read written.
    let old : Option (List ℕ) = g.K.Sink.contents c.args.sink.now in
    let now : Option (List ℕ) = g.K.Sink.contents c.answer_text.new.sink in
    let same = c.as_slice.ensures ∙ read_is (g.S.Source.remaining c.args.source.now) c.in-Ok.text text c.in-Ok.ensures.whole left in
    exactly text old now found c.answer_text.result has
    (subst (λ (t : List ℕ). IsAnswered t old now c.answer_text.result) same c.answer_text.ensures.answered)
    c.answer_text.ensures.no_read_fault
    (λ is. not_faulty (g.K.Sink.faults c.args.sink.now) (g.K.Sink.faults c.answer_text.new.sink) written (c.answer_text.ensures.write_fault is))

pub returns-clause-exact_verdict : goal.returns-clause-exact_verdict
returns-clause-exact_verdict g c = λ text capture left is read written.
    let old : Option (List ℕ) = g.K.Sink.contents c.args.sink.now in
    let now : Option (List ℕ) = g.K.Sink.contents c.answer_text.new.sink in
    let same = c.as_slice.ensures ∙ read_is (g.S.Source.remaining c.args.source.now) c.in-Ok.text text c.in-Ok.ensures.whole left in
    exact_verdict text old now capture c.answer_text.result is
    (subst (λ (t : List ℕ). IsAnswered t old now c.answer_text.result) same c.answer_text.ensures.answered)
    c.answer_text.ensures.no_read_fault
    (λ is. not_faulty (g.K.Sink.faults c.args.sink.now) (g.K.Sink.faults c.answer_text.new.sink) written (c.answer_text.ensures.write_fault is))
