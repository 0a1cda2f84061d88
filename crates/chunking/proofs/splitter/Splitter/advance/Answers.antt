use Rattle.std.proofs.Common.{◌<◌, ◌≤◌, arith}
use Rattle.chunking.specs.Cutting.{chunk_count}
use Rattle.chunking.proofs.ChunkList.{rest_left, still_none}
use Rattle.chunking.proofs.splitter.Splitter.advance.Goals as goal

pub returns-then-self : goal.returns-then-self
returns-then-self c =
    let i = c.self.inside in
    let within : i.taken < chunk_count i.transfer i.message = rw (← c.self.invariant.3) (omega arith) in
    rest_left i.transfer i.handle i.message i.taken c.args.self.now c.self.view_is within

pub returns-else-self : goal.returns-else-self
returns-else-self c =
    let i = c.self.inside in
    let end : chunk_count i.transfer i.message ≤ i.taken = rw (← c.self.invariant.3) (omega arith) in
    still_none i.transfer i.handle i.message i.taken c.args.self.now c.self.view_is end
