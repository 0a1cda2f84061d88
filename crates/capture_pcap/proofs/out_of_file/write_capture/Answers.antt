use Rattle.std.proofs.Common.{◌++◌, ℕ, List, subst}
use Rattle.capture_pcap.proofs.Taken.{prefix_of_first, takes_then_prefix}
use Rattle.capture_text.specs.Written.{packet_lines}
use Rattle.spdm_basis.specs.Stream.{TakesPrefix}
use Rattle.capture_pcap.proofs.out_of_file.write_capture.Goals as goal

pub returns-in-Err-clause-prefix : goal.returns-in-Err-clause-prefix
returns-in-Err-clause-prefix g c =
    prefix_of_first (g.K.Sink.contents c.args.sink.now) (g.K.Sink.contents c.write_all.new.sink) c.args.text.now (packet_lines 1 c.args.packets.now) c.in-Err.ensures.prefix

pub returns-in-Err-WriteFault-clause-prefix : goal.returns-in-Err-WriteFault-clause-prefix
returns-in-Err-WriteFault-clause-prefix g c =
    let old = g.K.Sink.contents c.args.sink.now in
    let new = g.K.Sink.contents c.write_packet_lines.new.sink in
    subst (λ (l : List (List ℕ)). TakesPrefix old (c.args.text.now ++ packet_lines 1 l) new) c.as_slice.ensures
    (takes_then_prefix old (g.K.Sink.contents c.write_all.new.sink) new c.args.text.now (packet_lines 1 c.as_slice.result.now) c.in-Ok.ensures.whole c.in-Err-WriteFault.ensures.prefix)

pub returns-in-Err-OutOfMemory-clause-prefix : goal.returns-in-Err-OutOfMemory-clause-prefix
returns-in-Err-OutOfMemory-clause-prefix g c =
    let old = g.K.Sink.contents c.args.sink.now in
    let new = g.K.Sink.contents c.write_packet_lines.new.sink in
    subst (λ (l : List (List ℕ)). TakesPrefix old (c.args.text.now ++ packet_lines 1 l) new) c.as_slice.ensures
    (takes_then_prefix old (g.K.Sink.contents c.write_all.new.sink) new c.args.text.now (packet_lines 1 c.as_slice.result.now) c.in-Ok.ensures.whole c.in-Err-OutOfMemory.ensures.prefix)
