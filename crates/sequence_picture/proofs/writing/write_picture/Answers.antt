use Rattle.std.proofs.Common.{◌++◌, ℕ, List, subst}
use Rattle.sequence_picture.proofs.Taken.{prefix_of_first, takes_both, takes_then_prefix}
use Rattle.sequence_picture.specs.Picture.{head_text, rows_from, tail_text}
use Rattle.sequence_picture.specs.declared.rows.Row.{Row}
use Rattle.spdm_basis.specs.Stream.{Takes, TakesPrefix}
use Rattle.sequence_picture.proofs.writing.write_picture.Goals as goal

pub returns-in-Err-clause-prefix : goal.returns-in-Err-clause-prefix
returns-in-Err-clause-prefix g c =
    let m = c.args.form in
    let q = c.args.requesters in
    let rows = c.args.rows.now in
    let old = g.K.Sink.contents c.args.sink.now in
    let mid = g.K.Sink.contents c.write_head.new.sink in
    subst (λ (n : ℕ). TakesPrefix old (head_text m q n ++ (rows_from m q 0 rows ++ tail_text m)) mid) c.len.ensures
    (prefix_of_first old mid (head_text m q c.len.result) (rows_from m q 0 rows ++ tail_text m) c.in-Err.ensures.prefix)

pub returns-in-Ok-write_body-clause-whole : goal.returns-in-Ok-write_body-clause-whole
returns-in-Ok-write_body-clause-whole g c =
    let m = c.args.form in
    let q = c.args.requesters in
    let old = g.K.Sink.contents c.args.sink.now in
    let mid = g.K.Sink.contents c.write_head.new.sink in
    let new = g.K.Sink.contents c.write_body.new.sink in
    subst (λ (n : ℕ). Takes old (head_text m q n ++ (rows_from m q 0 c.args.rows.now ++ tail_text m)) new) c.len.ensures
    (subst (λ (l : List Row). Takes old (head_text m q c.len.result ++ (rows_from m q 0 l ++ tail_text m)) new) c.as_slice.ensures
    (takes_both old mid new (head_text m q c.len.result) (rows_from m q 0 c.as_slice.result.now ++ tail_text m) c.in-Ok.ensures.whole c.in-Ok-write_body.ensures.whole))

pub returns-clause-prefix : goal.returns-clause-prefix
returns-clause-prefix g c =
    let m = c.args.form in
    let q = c.args.requesters in
    let old = g.K.Sink.contents c.args.sink.now in
    let mid = g.K.Sink.contents c.write_head.new.sink in
    let new = g.K.Sink.contents c.write_body.new.sink in
    subst (λ (n : ℕ). TakesPrefix old (head_text m q n ++ (rows_from m q 0 c.args.rows.now ++ tail_text m)) new) c.len.ensures
    (subst (λ (l : List Row). TakesPrefix old (head_text m q c.len.result ++ (rows_from m q 0 l ++ tail_text m)) new) c.as_slice.ensures
    (takes_then_prefix old mid new (head_text m q c.len.result) (rows_from m q 0 c.as_slice.result.now ++ tail_text m) c.in-Ok.ensures.whole c.in-Err-write_body.ensures.prefix))
