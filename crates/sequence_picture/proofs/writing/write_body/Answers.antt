use Rattle.std.proofs.Common.{ℕ, List, subst}
use Rattle.sequence_picture.proofs.Taken.{prefix_of_first, takes_then_prefix}
use Rattle.sequence_picture.specs.Picture.{rows_from, tail_text}
use Rattle.spdm_basis.specs.Stream.{TakesPrefix}
use Rattle.sequence_picture.proofs.writing.write_body.Goals as goal

pub returns-in-Err-clause-prefix : goal.returns-in-Err-clause-prefix
returns-in-Err-clause-prefix g c =
    prefix_of_first (g.K.Sink.contents c.args.sink.now) (g.K.Sink.contents c.write_rows.new.sink) (rows_from c.args.form c.args.requesters 0 c.args.rows.now) (tail_text c.args.form) c.in-Err.ensures.prefix

pub returns-in-Err-write_text-clause-prefix : goal.returns-in-Err-write_text-clause-prefix
returns-in-Err-write_text-clause-prefix g c =
    let old = g.K.Sink.contents c.args.sink.now in
    let mid = g.K.Sink.contents c.write_rows.new.sink in
    let new = g.K.Sink.contents c.write_text.new.sink in
    let front = rows_from c.args.form c.args.requesters 0 c.args.rows.now in
    takes_then_prefix old mid new front (tail_text c.args.form) c.in-Ok.ensures.whole
    (subst (λ (t : List ℕ). TakesPrefix mid t new) c.tail_of.ensures c.in-Err-write_text.ensures.prefix)
