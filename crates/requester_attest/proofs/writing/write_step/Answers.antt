use Rattle.std.proofs.Common.{◌++◌}
use Rattle.frame_stream.proofs.Written.{on_err, on_ok, prefix_of_first, takes_both, takes_then_prefix}
use Rattle.frame_stream.specs.Packets.{packet_frames}
use Rattle.requester_attest.specs.Words.{progress_frame}
use Rattle.spdm_basis.specs.Stream.{Takes, TakesPrefix}
use Rattle.requester_attest.proofs.writing.write_step.Goals as goal

pub returns-in-Ok-clause-whole : goal.returns-in-Ok-clause-whole
returns-in-Ok-clause-whole g c =
    let old = g.K.Sink.contents c.args.sink.now in
    let mid = g.K.Sink.contents c.write_progress.new.sink in
    let new = g.K.Sink.contents c.write_packet_frames.new.sink in
    let front = progress_frame c.args.progress in
    let back = packet_frames c.args.sent.now in
    on_ok (Takes mid back new) (Takes old (front ++ back) new) c.write_packet_frames.result (takes_both old mid new front back c.in-Ok.ensures.whole) c.write_packet_frames.ensures.whole

pub returns-in-Ok-clause-prefix : goal.returns-in-Ok-clause-prefix
returns-in-Ok-clause-prefix g c =
    let old = g.K.Sink.contents c.args.sink.now in
    let mid = g.K.Sink.contents c.write_progress.new.sink in
    let new = g.K.Sink.contents c.write_packet_frames.new.sink in
    let front = progress_frame c.args.progress in
    let back = packet_frames c.args.sent.now in
    on_err (TakesPrefix mid back new) (TakesPrefix old (front ++ back) new) c.write_packet_frames.result (takes_then_prefix old mid new front back c.in-Ok.ensures.whole) c.write_packet_frames.ensures.prefix

pub returns-in-Err-clause-prefix : goal.returns-in-Err-clause-prefix
returns-in-Err-clause-prefix g c =
    let old = g.K.Sink.contents c.args.sink.now in
    let mid = g.K.Sink.contents c.write_progress.new.sink in
    let front = progress_frame c.args.progress in
    let back = packet_frames c.args.sent.now in
    prefix_of_first old mid front back c.in-Err.ensures.prefix
