use Rattle.std.proofs.Common.{◌∙◌, List, ap}
use Rattle.std.specs.List.{slice_get}
use Rattle.spdm_grammar.specs.Message.{ChunkMessage}
use Rattle.responder_rules.proofs.Replaced.{next_numbers, next_there}
use Rattle.responder_rules.proofs.large_answer.LargeAnswer.next_chunk.Goals as goal

pub returns-in-Some : goal.returns-in-Some
returns-in-Some c = λ transfer turns stands pending.
    next_numbers transfer turns c.in-Some.chunk (c.in-Some.ensures ∙ ap (λ (left : List ChunkMessage). slice_get left 0) stands.left)

pub returns-in-None : goal.returns-in-None
returns-in-None c = λ transfer turns stands pending.
    next_there transfer turns (c.in-None.ensures ∙ ap (λ (left : List ChunkMessage). slice_get left 0) stands.left) pending
