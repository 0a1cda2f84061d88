-- The body is compared with the first chunk that tells its length.
use Rattle.std.proofs.Common.{refl, sym, ◌∙◌, arith}
use Rattle.check_laws.proofs.Large.PiecesTold.{first_refused, first_taken, ok_if}
use Rattle.check_laws.proofs.sending_large.pieces.Pieces.first.Goals as goal

pub returns-then-not-is_chunk : goal.returns-then-not-is_chunk
returns-then-not-is_chunk c =
    λ k chunks t m h. first_refused k c.args.transfer c.args.max c.args.handle c.args.body.now chunks t m h c.told_size-size.result c.bytes_from-chunk.result.now c.is_chunk.result c.told_size-size.ensures c.bytes_from-chunk.ensures
    (omega arith) c.is_chunk.ensures c.if-not-is_chunk.true

pub returns : goal.returns
returns c =
    λ k chunks t m h. first_taken k c.args.transfer c.args.max c.args.handle c.args.body.now chunks t m h c.told_size-size.result c.bytes_from-chunk.result.now c.is_chunk.result c.told_size-size.ensures c.bytes_from-chunk.ensures
    (omega arith) c.is_chunk.ensures _ c.if-not-is_chunk.false (omega arith) (omega arith) (omega arith) refl refl refl refl
    (ok_if c.extend.result _ c.in_ok-ok.field-0 (rw c.new-bytes.ensures at c.extend.ensures.ok) (sym c.ok.ensures.value ∙ c.in_ok-ok.was))
