use Rattle.std.proofs.Common.{◌≡◌, ℕ, List, Option, Ok, subst, sym}
use Rattle.trace_check.proofs.HasTold.{judged_text, written_text}
use Rattle.trace_check.proofs.input.answer_text.Goals as goal
use Rattle.trace_check.specs.Answers.{IsAnswered}
use Rattle.trace_check.specs.declared.answer.CheckAnswer.{CheckAnswer}

pub returns-in-Ok-write_verdict-clause-answered : goal.returns-in-Ok-write_verdict-clause-answered
returns-in-Ok-write_verdict-clause-answered g c =
    let text : List ℕ = c.args.text.now in
    let old : Option (List ℕ) = g.K.Sink.contents c.args.sink.now in
    let now : Option (List ℕ) = g.K.Sink.contents c.write_verdict.new.sink in
    let told = c.in-Ok.verdict in
    let has = judged_text text c.check_text.result told c.requires c.check_text.ensures c.in-Ok.is in
    subst (λ (a : CheckAnswer). IsAnswered text old now (Ok a)) (sym c.answer_of.ensures) (written_text text old now told has c.in-Ok-write_verdict.ensures.whole)

pub returns-in-Ok-clause-answered : goal.returns-in-Ok-clause-answered
returns-in-Ok-clause-answered g c =
    let told = c.in-Ok.verdict in (
      told,
      judged_text c.args.text.now c.check_text.result told c.requires c.check_text.ensures c.in-Ok.is,
      c.in-Err-WriteFault.ensures.prefix,
    )
