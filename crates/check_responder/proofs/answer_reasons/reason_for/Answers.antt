use Rattle.std.proofs.Common.{◌∙◌, sym, ap, subst, List, ℕ, Bool}
use Rattle.std.specs.Prelude.{if◌then◌else◌}
use Rattle.capture_machine.specs.Difference.Why.{BadRecord, BadReply}
use Rattle.check_responder.proofs.answer_reasons.reason_for.Goals as goal
use Rattle.check_responder.specs.Opening.{IsOpening, is_readable}

pub returns : goal.returns
returns c = λ r d round told.
    let answer : List ℕ = c.args.answer.now in
    let is = is_readable r d round answer in
    let here = subst (λ (m : List ℕ). IsOpening c.args.coming.now m c.args.told is) (sym c.behind_type.ensures) told in
    c.why_by.ensures ∙ ap (λ (x : Bool). if x then BadReply else BadRecord) (c.opens_so.ensures is here)
