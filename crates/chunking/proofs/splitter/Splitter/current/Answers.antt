use Rattle.std.proofs.Common.{◌∙◌, ◌<◌, ◌≤◌, ℕ, List, arith, ap}
use Rattle.std.specs.Prelude.{Some}
use Rattle.spdm_grammar.specs.Message.{ChunkMessage}
use Rattle.chunking.specs.Cutting.{chunk_count, nth_chunk}
use Rattle.chunking.proofs.ChunkList.{first_left, none_left}
use Rattle.chunking.proofs.splitter.Splitter.current.Goals as goal

pub returns-then-self : goal.returns-then-self
returns-then-self c =
    let i = c.self.inside in
    let end : chunk_count i.transfer i.message ≤ i.taken = rw (← c.self.invariant.3) (omega arith) in
    none_left i.transfer i.handle i.message i.taken c.args.self.now c.self.view_is end

pub returns : goal.returns
returns c =
    let i = c.self.inside in
    let within : i.taken < chunk_count i.transfer i.message = rw (← c.self.invariant.3) (omega arith) in
    ap (λ (chunk : ChunkMessage). Some chunk) c.chunk_at.ensures
    ∙ ap (λ (message : List ℕ). Some (nth_chunk i.transfer i.handle message i.taken)) c.as_slice-message.ensures.value
    ∙ first_left i.transfer i.handle i.message i.taken c.args.self.now c.self.view_is within
