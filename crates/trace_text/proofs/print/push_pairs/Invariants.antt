use Rattle.std.proofs.Common.{◌≡◌, ◌++◌, ◌+◌, ◌*◌, length}
use Rattle.std.specs.Slice.Iter.{chunks_rest, chunks_size}
use Rattle.hex.specs.Hex.{encode_lower}
use Rattle.trace_text.proofs.print.push_pairs.Given as goal

abbrev pub invariant-loop-piece : goal.invariant-loop-piece
invariant-loop-piece l = record {
  next : goal.iterator-loop-piece.can_next l.piece-iterator;
  finite : goal.iterator-loop-piece.is_finite l.piece-iterator;
  size : chunks_size l.piece-iterator ≡ 64;
  text : l.out ++ encode_lower (chunks_rest l.piece-iterator) ≡ l.fn.out ++ encode_lower l.bytes;
  length : length l.out + 2 * length (chunks_rest l.piece-iterator) ≡ length l.fn.out + 2 * length l.bytes;
}
