use Rattle.std.proofs.Common.{◌≡◌, ◌∙◌, ◌+◌, ◌%◌, ℕ, sym, ap, arith}
use Rattle.responder_rules.proofs.Replaced.{forgotten}
use Rattle.responder_rules.specs.LargeAnswer.{Seen, left_by, turns_unseen}
use Rattle.responder_machine.specs.LargeMessages.{larges_of}
use Rattle.responder_rules.proofs.large_answer.LargeAnswer.forget.Goals as goal

pub returns : goal.returns
returns c = λ transfer turns stands some.
    let is = forgotten turns some in
    let kept : c.self.inside.next ≡ larges_of turns % 256 = ap (λ (s : Seen). s.next) c.self.view_is ∙ stands.next in
    let more = is.larges in
    record {
      left = sym (ap (left_by transfer (turns_unseen turns)) is.large);
      next = omega (arith, kept, more);
    }
