use Rattle.std.proofs.Common.{◌∙◌, [], drop, unwrap_or, ap}
use Rattle.responder_rules.proofs.Left.{advanced}
use Rattle.responder_rules.specs.LargeAnswer.{Seen}
use Rattle.responder_rules.proofs.large_answer.LargeAnswer.advance.Goals as goal

pub returns : goal.returns
returns c = λ transfer turns t stands.
    let new : Seen = record { left = unwrap_or c.advance.new.splitter []; next = c.self.inside.next } in
    advanced c.args.self.now new transfer turns t stands (c.advance.ensures ∙ ap (λ (s : Seen). drop 1 s.left) c.self.view_is) (ap (λ (s : Seen). s.next) c.self.view_is)
