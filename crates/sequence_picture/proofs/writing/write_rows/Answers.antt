use Rattle.std.proofs.Common.{◌≡◌, ◌∙◌, ◌++◌, ◌+◌, arith, ℕ, List, ap, sym, subst, take, drop, get_or}
use Rattle.sequence_picture.proofs.Numbered.{rows_more, rows_through}
use Rattle.sequence_picture.proofs.Taken.{prefix_of_first, takes_both, takes_then_prefix}
use Rattle.sequence_picture.specs.Picture.{row_text, rows_from}
use Rattle.spdm_basis.specs.Stream.{Takes, TakesPrefix}
use Rattle.sequence_picture.proofs.writing.write_rows.Goals as goal

pub returns-in-Err-clause-prefix : goal.returns-in-Err-clause-prefix
returns-in-Err-clause-prefix g c =
    let m = c.args.form in
    let q = c.args.requesters in
    let i = c.loop-index.index in
    let rows = c.args.rows.now in
    let row = c.index-rows-index.result in
    let old = g.K.Sink.contents c.args.sink.now in
    let mid = g.K.Sink.contents c.loop-index.sink in
    let new = g.K.Sink.contents c.write_row.new.sink in
    let front = rows_from m q 0 (take i rows) in
    let own = row_text m q (0 + i) (get_or rows i row) in
    let back = rows_from m q (0 + (i + 1)) (drop (i + 1) rows) in
    let next : i ≡ 0 + i = omega arith in
    let bytes_are : row_text m q i row ≡ own = ap (λ (n : ℕ). row_text m q n row) next ∙ ap (row_text m q (0 + i)) c.index-rows-index.is in
    let part = subst (λ (t : List ℕ). TakesPrefix mid t new) bytes_are c.in-Err.ensures.prefix in
    subst (λ (t : List ℕ). TakesPrefix old t new) (sym (rows_through m q 0 rows i row c.loop-index-test.true))
    (takes_then_prefix old mid new front (own ++ back) c.loop-index.invariant.written (prefix_of_first mid new own back part))

pub loop-index-preserved : goal.loop-index-preserved
loop-index-preserved g c =
    let m = c.args.form in
    let q = c.args.requesters in
    let i = c.loop-index.index in
    let rows = c.args.rows.now in
    let row = c.index-rows-index.result in
    let old = g.K.Sink.contents c.args.sink.now in
    let mid = g.K.Sink.contents c.loop-index.sink in
    let new = g.K.Sink.contents c.write_row.new.sink in
    let front = rows_from m q 0 (take i rows) in
    let own = row_text m q (0 + i) (get_or rows i row) in
    let next : i ≡ 0 + i = omega arith in
    let bytes_are : row_text m q i row ≡ own = ap (λ (n : ℕ). row_text m q n row) next ∙ ap (row_text m q (0 + i)) c.index-rows-index.is in
    record {
      written = subst (λ (l : List ℕ). Takes old l new) (sym (rows_more m q 0 rows i row c.loop-index-test.true))
          (takes_both old mid new front own c.loop-index.invariant.written (subst (λ (t : List ℕ). Takes mid t new) bytes_are c.in-Ok.ensures.whole));
      later = omega (arith, c.loop-index.invariant.later, c.write_row.ensures.later);
    }
