use Rattle.std.proofs.Common.{◌≡◌, ◌++◌, ℕ, List, take, true}
use Rattle.frame_stream.specs.Lines.{goes_on, to_come}
use Rattle.frame_stream.proofs.line.own_part.Given as goal

abbrev pub invariant-loop-index : goal.invariant-loop-index
invariant-loop-index l = record {
  more : goes_on l.last l.place ≡ true;
  own : (bytes : List ℕ) → to_come l.last l.fn.place (take l.index l.piece ++ bytes) ≡ take l.index l.piece ++ to_come l.last l.place bytes;
}
