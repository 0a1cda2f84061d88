use Rattle.std.proofs.Common.{◌++◌, [], ◌∷◌, ℕ, List, subst}
use Rattle.frame_stream.proofs.Written.{on_err, on_ok, prefix_of_first, takes_both, takes_then_prefix}
use Rattle.requester_drive.proofs.Written.{framed_alone}
use Rattle.frame_stream.specs.Packets.{packet_frames}
use Rattle.requester_drive.specs.Driven.{line_frames}
use Rattle.trace_text.specs.Whose.{fault_of}
use Rattle.spdm_basis.specs.Stream.{Takes, TakesPrefix}
use Rattle.spdm_grammar.specs.Lines.Line.{Command}
use Rattle.requester_drive.proofs.lines.write_told.Goals as goal

pub returns-in-Ok-clause-whole : goal.returns-in-Ok-clause-whole
returns-in-Ok-clause-whole g c =
    let old = g.K.Sink.contents c.args.sink.now in
    let mid = g.K.Sink.contents c.write_line.new.sink in
    let new = g.K.Sink.contents c.write_packet_frames.new.sink in
    let front = line_frames (Command 1 (fault_of c.args.answer.now) ∷ []) in
    let back = packet_frames c.args.sent.now in
    on_ok (Takes mid back new) (Takes old (front ++ back) new) c.write_packet_frames.result (takes_both old mid new front back (subst (λ (l : List ℕ). Takes old l mid) (framed_alone (Command 1 (fault_of c.args.answer.now)) c.line_command.new.out c.line_command.ensures) c.in-Ok.ensures.whole)) c.write_packet_frames.ensures.whole

pub returns-in-Ok-clause-prefix : goal.returns-in-Ok-clause-prefix
returns-in-Ok-clause-prefix g c =
    let old = g.K.Sink.contents c.args.sink.now in
    let mid = g.K.Sink.contents c.write_line.new.sink in
    let new = g.K.Sink.contents c.write_packet_frames.new.sink in
    let front = line_frames (Command 1 (fault_of c.args.answer.now) ∷ []) in
    let back = packet_frames c.args.sent.now in
    on_err (TakesPrefix mid back new) (TakesPrefix old (front ++ back) new) c.write_packet_frames.result (takes_then_prefix old mid new front back (subst (λ (l : List ℕ). Takes old l mid) (framed_alone (Command 1 (fault_of c.args.answer.now)) c.line_command.new.out c.line_command.ensures) c.in-Ok.ensures.whole)) c.write_packet_frames.ensures.prefix

pub returns-in-Err-clause-prefix : goal.returns-in-Err-clause-prefix
returns-in-Err-clause-prefix g c =
    let old = g.K.Sink.contents c.args.sink.now in
    let mid = g.K.Sink.contents c.write_line.new.sink in
    let front = line_frames (Command 1 (fault_of c.args.answer.now) ∷ []) in
    let back = packet_frames c.args.sent.now in
    prefix_of_first old mid front back (subst (λ (l : List ℕ). TakesPrefix old l mid) (framed_alone (Command 1 (fault_of c.args.answer.now)) c.line_command.new.out c.line_command.ensures) c.in-Err.ensures.prefix)
