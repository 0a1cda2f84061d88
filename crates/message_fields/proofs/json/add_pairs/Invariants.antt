use Rattle.std.proofs.Common.{◌≡◌, ◌++◌}
use Rattle.std.specs.Slice.Iter.{chunks_rest, chunks_size}
use Rattle.hex.specs.Hex.{encode_lower}
use Rattle.message_fields.proofs.json.add_pairs.Given as goal

-- The digits so far, with those of the bytes that are left, are those of all bytes.
abbrev pub invariant-loop-piece : goal.invariant-loop-piece
invariant-loop-piece l = record {
  next : goal.iterator-loop-piece.can_next l.piece-iterator;
  finite : goal.iterator-loop-piece.is_finite l.piece-iterator;
  size : chunks_size l.piece-iterator ≡ 64;
  text : l.text ++ encode_lower (chunks_rest l.piece-iterator) ≡ l.fn.text ++ encode_lower l.bytes;
}
