use Rattle.std.proofs.Common.{◌∙◌, List, drop, ap}
use Rattle.std.proofs.lemmas.List.{drop-drop}
use Rattle.chunking.specs.Cutting.{chunks_of}
use Rattle.spdm_grammar.specs.Message.{ChunkMessage}
use Rattle.responder_rules.proofs.large_answer.splitter_at.Goals as goal

pub loop-preserved : goal.loop-preserved
loop-preserved c = λ least large.
    c.advance.ensures ∙ ap (λ (left : List ChunkMessage). drop 1 left) (c.loop.invariant least large)
    ∙ drop-drop 1 c.loop.counter (chunks_of c.args.transfer c.args.handle c.args.answer.now)
