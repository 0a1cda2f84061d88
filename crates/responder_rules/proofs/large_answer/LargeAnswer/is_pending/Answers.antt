use Rattle.std.proofs.Common.{◌∙◌, List, ap}
use Rattle.std.specs.List.{slice_get}
use Rattle.spdm_grammar.specs.Message.{ChunkMessage}
use Rattle.responder_rules.proofs.Left.{is_left}
use Rattle.responder_rules.proofs.large_answer.LargeAnswer.is_pending.Goals as goal

pub returns : goal.returns
returns c = λ transfer turns stands.
    c.is_some.ensures ∙ is_left transfer turns c.current.result (c.current.ensures ∙ ap (λ (left : List ChunkMessage). slice_get left 0) stands.left)
