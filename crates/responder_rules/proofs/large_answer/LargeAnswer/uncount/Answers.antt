use Rattle.std.proofs.Common.{◌≡◌, ◌∙◌, ◌+◌, ◌%◌, ℕ, ap, arith}
use Rattle.responder_rules.specs.LargeAnswer.{Seen}
use Rattle.responder_machine.specs.LargeMessages.{larges_of}
use Rattle.responder_rules.proofs.large_answer.LargeAnswer.uncount.Goals as goal

pub returns : goal.returns
returns c = λ transfer turns others is stands.
    let kept : c.self.inside.next ≡ larges_of turns % 256 = ap (λ (s : Seen). s.next) c.self.view_is ∙ stands.next in
    let more = is.count in
    record {
      left = ap (λ (s : Seen). s.left) c.self.view_is ∙ stands.left ∙ is.left;
      next = omega (arith, kept, more);
    }
