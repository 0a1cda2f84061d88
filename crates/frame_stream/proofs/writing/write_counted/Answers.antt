use Rattle.std.proofs.Common.{◌∷◌, [], ◌%◌, ◌/◌, length}
use Rattle.spdm_basis.specs.Stream.{Takes, TakesPrefix}
use Rattle.frame_stream.proofs.Written.{takes_both, takes_then_prefix, prefix_of_first, on_ok, on_err}
use Rattle.frame_stream.specs.Frames.{counted}
use Rattle.frame_stream.proofs.writing.write_counted.Goals as goal

pub returns-in-Err : goal.returns-in-Err
returns-in-Err g c =
    let bytes = c.args.bytes.now in
    let told = c.in-Err.ensures in
    record {
      whole = tt;
      prefix = prefix_of_first (g.K.Sink.contents c.args.sink.now) (g.K.Sink.contents c.write_all.new.sink) (c.args.kind ∷ length bytes % 256 ∷ length bytes / 256 ∷ []) bytes told.prefix;
      fault = told.fault;
      later = c.write_all.ensures.later;
    }

pub returns-in-Ok-clause-whole : goal.returns-in-Ok-clause-whole
returns-in-Ok-clause-whole g c =
    let bytes = c.args.bytes.now in
    let old = g.K.Sink.contents c.args.sink.now in
    let mid = g.K.Sink.contents c.write_all.new.sink in
    let new = g.K.Sink.contents c.write_all-in-Ok.new.sink in
    on_ok (Takes mid bytes new) (Takes old (c.args.kind ∷ counted bytes) new) c.write_all-in-Ok.result
    (takes_both old mid new (c.args.kind ∷ length bytes % 256 ∷ length bytes / 256 ∷ []) bytes c.in-Ok.ensures.whole) c.write_all-in-Ok.ensures.whole

pub returns-in-Ok-clause-prefix : goal.returns-in-Ok-clause-prefix
returns-in-Ok-clause-prefix g c =
    let bytes = c.args.bytes.now in
    let old = g.K.Sink.contents c.args.sink.now in
    let mid = g.K.Sink.contents c.write_all.new.sink in
    let new = g.K.Sink.contents c.write_all-in-Ok.new.sink in
    on_err (TakesPrefix mid bytes new) (TakesPrefix old (c.args.kind ∷ counted bytes) new) c.write_all-in-Ok.result
    (takes_then_prefix old mid new (c.args.kind ∷ length bytes % 256 ∷ length bytes / 256 ∷ []) bytes c.in-Ok.ensures.whole) c.write_all-in-Ok.ensures.prefix
