use Rattle.std.proofs.Common.{◌++◌, ◌∷◌, ℕ, List, map, subst}
use Rattle.device_serve.proofs.Written.{framed, sent_frames}
use Rattle.device_serve.specs.Devised.{frames_of}
use Rattle.device_serve.specs.Devised.Writing.{Sends, Tells}
use Rattle.frame_stream.proofs.Written.{on_err, on_ok, prefix_of_first, takes_both, takes_then_prefix}
use Rattle.frame_stream.specs.Packets.{packet_frames}
use Rattle.requester_drive.specs.Driven.{line_frame}
use Rattle.spdm_basis.specs.Stream.{Takes, TakesPrefix}
use Rattle.spdm_grammar.specs.Lines.Line.{ToResponder}
use Rattle.device_serve.proofs.lines.write_heard.Goals as goal

pub returns-in-Ok-clause-whole : goal.returns-in-Ok-clause-whole
returns-in-Ok-clause-whole g c =
    let old = g.K.Sink.contents c.args.sink.now in
    let mid = g.K.Sink.contents c.write_line.new.sink in
    let new = g.K.Sink.contents c.write_packet_frames.new.sink in
    let line = ToResponder c.args.heard.now in
    let front = line_frame line in
    let back = packet_frames c.args.sent.now in
    let first = subst (λ (l : List ℕ). Takes old l mid) (framed line c.line_heard.new.out c.line_heard.ensures) c.in-Ok.ensures.whole in
    on_ok (Takes mid back new) (Takes old (frames_of (Tells line ∷ map Sends c.args.sent.now)) new) c.write_packet_frames.result
    (λ rest. subst (λ (l : List ℕ). Takes old (front ++ l) new) (sent_frames c.args.sent.now) (takes_both old mid new front back first rest)) c.write_packet_frames.ensures.whole

pub returns-in-Ok-clause-prefix : goal.returns-in-Ok-clause-prefix
returns-in-Ok-clause-prefix g c =
    let old = g.K.Sink.contents c.args.sink.now in
    let mid = g.K.Sink.contents c.write_line.new.sink in
    let new = g.K.Sink.contents c.write_packet_frames.new.sink in
    let line = ToResponder c.args.heard.now in
    let front = line_frame line in
    let back = packet_frames c.args.sent.now in
    let first = subst (λ (l : List ℕ). Takes old l mid) (framed line c.line_heard.new.out c.line_heard.ensures) c.in-Ok.ensures.whole in
    on_err (TakesPrefix mid back new) (TakesPrefix old (frames_of (Tells line ∷ map Sends c.args.sent.now)) new) c.write_packet_frames.result
    (λ rest. subst (λ (l : List ℕ). TakesPrefix old (front ++ l) new) (sent_frames c.args.sent.now) (takes_then_prefix old mid new front back first rest)) c.write_packet_frames.ensures.prefix

pub returns-in-Err-clause-prefix : goal.returns-in-Err-clause-prefix
returns-in-Err-clause-prefix g c =
    let old = g.K.Sink.contents c.args.sink.now in
    let mid = g.K.Sink.contents c.write_line.new.sink in
    let line = ToResponder c.args.heard.now in
    let front = line_frame line in
    let back = frames_of (map Sends c.args.sent.now) in
    prefix_of_first old mid front back (subst (λ (l : List ℕ). TakesPrefix old l mid) (framed line c.line_heard.new.out c.line_heard.ensures) c.in-Err.ensures.prefix)
