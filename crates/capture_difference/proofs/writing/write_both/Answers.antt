use Rattle.capture_difference.specs.Texts.{difference_text}
use Rattle.capture_text.proofs.Taken.{prefix_of_first, takes_both, takes_then_prefix}
use Rattle.packet_text.specs.Told.{packets_text}
use Rattle.capture_difference.proofs.writing.write_both.Goals as goal

pub returns-in-Err-clause-prefix : goal.returns-in-Err-clause-prefix
returns-in-Err-clause-prefix g c =
    prefix_of_first (g.K.Sink.contents c.args.sink.now) (g.K.Sink.contents c.write_packets.new.sink) (packets_text c.args.style c.args.text.now) (difference_text c.args.style c.args.told) c.in-Err.ensures.prefix

pub returns-in-Ok-write_difference-clause-whole : goal.returns-in-Ok-write_difference-clause-whole
returns-in-Ok-write_difference-clause-whole g c =
    takes_both (g.K.Sink.contents c.args.sink.now) (g.K.Sink.contents c.write_packets.new.sink) (g.K.Sink.contents c.write_difference.new.sink)
    (packets_text c.args.style c.args.text.now) (difference_text c.args.style c.args.told) c.in-Ok.ensures.whole c.in-Ok-write_difference.ensures.whole

pub returns-in-Err-write_difference-clause-prefix : goal.returns-in-Err-write_difference-clause-prefix
returns-in-Err-write_difference-clause-prefix g c =
    takes_then_prefix (g.K.Sink.contents c.args.sink.now) (g.K.Sink.contents c.write_packets.new.sink) (g.K.Sink.contents c.write_difference.new.sink)
    (packets_text c.args.style c.args.text.now) (difference_text c.args.style c.args.told) c.in-Ok.ensures.whole c.in-Err-write_difference.ensures.prefix
