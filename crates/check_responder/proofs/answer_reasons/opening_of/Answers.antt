use Rattle.std.proofs.Common.{◌==◌, ◌||◌, ◌∙◌, sym, ap, subst, drop, List, ℕ, Bool}
use Rattle.std.specs.Prelude.{slice_index}
use Rattle.capture_machine.specs.Opening.{opens_answering}
use Rattle.check_responder.proofs.answer_reasons.opening_of.Goals as goal
use Rattle.check_responder.specs.Opening.{IsOpening}

pub returns-then-is_clear : goal.returns-then-is_clear
returns-then-is_clear c = λ r d round stands few keys same coming.
    let answer : List ℕ = c.args.answer.now in
    sym (ap (λ (x : Bool). x || opens_answering r d.responder (slice_index round.body 0 == 5) (drop 1 round.body) (drop 1 answer)) (sym c.is_clear.ensures ∙ c.if-is_clear.true))

pub returns : goal.returns
returns c = λ r d round stands few keys same coming.
    let answer : List ℕ = c.args.answer.now in
    let seen = c.args.coming.now in
    let told = subst (λ (m : List ℕ). IsOpening seen c.behind_type.result.now c.opens.result (opens_answering r d.responder (slice_index m 0 == 5) (drop 1 m) c.behind_type.result.now)) (sym same)
    (c.opens.ensures r d.responder stands few keys coming) in
    let there = subst (λ (m : List ℕ). IsOpening seen m c.opens.result (opens_answering r d.responder (slice_index round.body 0 == 5) (drop 1 round.body) m)) c.behind_type.ensures told in
    subst (λ (x : Bool). IsOpening seen (drop 1 answer) c.opens.result (x || opens_answering r d.responder (slice_index round.body 0 == 5) (drop 1 round.body) (drop 1 answer)))
    (sym (sym c.is_clear.ensures ∙ c.if-is_clear.false)) there
