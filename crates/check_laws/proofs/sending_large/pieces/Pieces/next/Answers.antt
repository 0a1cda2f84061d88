-- The body is compared with the next chunk of what is kept.
use Rattle.std.proofs.Common.{◌<◌, ◌+◌, ◌-◌, ℕ, List, refl, sym, ap, ◌∙◌, arith, length}
use Rattle.check_laws.proofs.Large.PiecesTold.{err_if, last_taken, next_refused, next_taken, ok_unless}
use Rattle.check_laws.proofs.sending_large.pieces.Pieces.next.Goals as goal
use Rattle.check_laws.proofs.sending_large.pieces.Pieces.next.Goals.{then-not-is_chunk-via-then-not-is_chunk, then-not-is_chunk-via-else-not-is_chunk+then-is_err}

pub returns-then-not-is_chunk : goal.returns-then-not-is_chunk
returns-then-not-is_chunk c =
    elim c.then-not-is_chunk.branch [
      | then-not-is_chunk-via-then-not-is_chunk w ↦ λ x q older s own is. next_refused x q older s own c.args.self.now is c.args.body.now c.saturating_sub-left.result c.saturating_sub-unit.result c.saturating_add.result c.bytes_from-chunk.result.now c.is_chunk.result
          (c.saturating_sub-left.ensures ∙ ap (λ (l : List ℕ). c.args.self.now.size - length l) c.as_slice.ensures.value) c.saturating_sub-unit.ensures c.saturating_add.ensures c.bytes_from-chunk.ensures (c.if-chunk-min.false ∙ c.min.ensures) c.is_chunk.ensures c.then-not-is_chunk.self w.if-not-is_chunk.true w.self-is
      | then-not-is_chunk-via-else-not-is_chunk+then-is_err w ↦ λ x q older s own is.
          absurd (
          let full : 4096 < length c.args.self.now.bytes + length c.bytes_from-chunk.result.now = err_if w.extend.result _ w.extend.ensures.full (sym w.is_err.ensures.value ∙ w.if-is_err.true) in
          let few = c.as_slice.ensures.fits in
          let bytes = ap length c.as_slice.ensures.value in
          let left = c.saturating_sub-left.ensures in
          let least = c.min.ensures in
          let long = c.if-chunk-min.false in
          let short = is.short in
          omega (arith, full, few, bytes, left, least, long, short)
          )
    ]

pub returns-then-last : goal.returns-then-last
returns-then-last c =
    λ x q older s own is. last_taken x q older s own c.args.self.now is c.args.body.now c.saturating_sub-left.result c.saturating_sub-unit.result c.saturating_add.result c.bytes_from-chunk.result.now c.is_chunk.result
    (c.saturating_sub-left.ensures ∙ ap (λ (l : List ℕ). c.args.self.now.size - length l) c.as_slice.ensures.value) c.saturating_sub-unit.ensures c.saturating_add.ensures c.bytes_from-chunk.ensures (c.if-chunk-min.false ∙ c.min.ensures) c.is_chunk.ensures
    (record c.args.self.now { number = c.saturating_add-self.result; bytes = c.extend.new.self }) c.if-not-is_chunk.false c.if-last.true (ok_unless c.extend.result _ c.extend.ensures.ok (sym c.is_err.ensures.value ∙ c.if-is_err.false))

pub returns : goal.returns
returns c =
    λ x q older s own is. next_taken x q older s own c.args.self.now is c.args.body.now c.saturating_sub-left.result c.saturating_sub-unit.result c.saturating_add.result c.bytes_from-chunk.result.now c.is_chunk.result
    (c.saturating_sub-left.ensures ∙ ap (λ (l : List ℕ). c.args.self.now.size - length l) c.as_slice.ensures.value) c.saturating_sub-unit.ensures c.saturating_add.ensures c.bytes_from-chunk.ensures (c.if-chunk-min.false ∙ c.min.ensures) c.is_chunk.ensures
    (record c.args.self.now { number = c.saturating_add-self.result; bytes = c.extend.new.self }) c.if-not-is_chunk.false c.if-last.false refl refl refl c.saturating_add-self.ensures
    (ok_unless c.extend.result _ c.extend.ensures.ok (sym c.is_err.ensures.value ∙ c.if-is_err.false))
