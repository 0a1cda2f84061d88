use Rattle.std.proofs.Common.{◌≤◌, ◌∙◌, Bool, List, ℕ, ap, arith, length, subst, sym}
use Rattle.spdm_machine.specs.Bodies.{record_body}
use Rattle.check_requester.proofs.SentBy.{first_in, short_rest}
use Rattle.check_requester.proofs.judged_requester.JudgedRequester.judge.Goals as goal
use Rattle.check_requester.specs.Asked.{IsAskedBy, IsJudged}

pub returns-then-comes_plain : goal.returns-then-comes_plain
returns-then-comes_plain c = λ w q older k keeps few fits asker.
    let plain = c.comes_plain.ensures.plain w q older k keeps few asker c.if-comes_plain.true in
    let is = first_in c.args.body.now 6 plain.secured (omega arith) in
    let least = subst (λ (l : List ℕ). length l ≤ 4160) (sym c.rest_of.ensures) (short_rest c.args.body.now 6 is fits) in
    subst (λ (l : List ℕ). IsJudged q k l c.judge_record.result c.judge_record.new.self) (ap record_body c.rest_of.ensures ∙ sym is)
    (c.judge_record.ensures w q older k keeps few least (c.comes_plain.ensures.kept w q older k keeps few asker) plain.owed plain.none)

pub returns-then-asks : goal.returns-then-asks
returns-then-asks c = λ w q older k keeps few fits asker.
    let still = c.comes_plain.ensures.kept w q older k keeps few asker in
    subst (λ (b : Bool). IsAskedBy q k c.args.body.now b c.asks.new.self) c.if-asks.true (c.asks.ensures w q older k keeps few fits (c.why-why.ensures.kept w q older k keeps few still))

pub returns-else-asks : goal.returns-else-asks
returns-else-asks c = λ w q older k keeps few fits asker.
    let still = c.comes_plain.ensures.kept w q older k keeps few asker in (
      subst (λ (b : Bool). IsAskedBy q k c.args.body.now b c.asks.new.self) c.if-asks.false (c.asks.ensures w q older k keeps few fits (c.why-why.ensures.kept w q older k keeps few still)),
      c.why-why.ensures.why w q older k keeps few still,
    )
