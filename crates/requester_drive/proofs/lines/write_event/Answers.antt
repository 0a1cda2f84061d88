use Rattle.std.proofs.Common.{◌++◌, ℕ, List, subst}
use Rattle.frame_stream.proofs.Written.{on_err, on_ok, prefix_of_first, takes_both, takes_then_prefix}
use Rattle.requester_drive.proofs.Written.{framed}
use Rattle.requester_drive.specs.Driven.{line_frame, line_frames}
use Rattle.script_ends.specs.Told.{event_data}
use Rattle.spdm_basis.specs.Stream.{Takes, TakesPrefix}
use Rattle.spdm_grammar.specs.Lines.Line.{ToRequester}
use Rattle.requester_drive.proofs.lines.write_event.Goals as goal

pub returns-in-Ok-clause-whole : goal.returns-in-Ok-clause-whole
returns-in-Ok-clause-whole g c =
    let old = g.K.Sink.contents c.args.sink.now in
    let mid = g.K.Sink.contents c.write_line.new.sink in
    let new = g.K.Sink.contents c.write_came.new.sink in
    let front = line_frame (ToRequester 1 c.args.event) in
    let back = line_frames (event_data 1 c.args.event c.args.last.now) in
    on_ok (Takes mid back new) (Takes old (front ++ back) new) c.write_came.result (takes_both old mid new front back (subst (λ (l : List ℕ). Takes old l mid) (framed (ToRequester 1 c.args.event) c.line_event.new.out c.line_event.ensures) c.in-Ok.ensures.whole)) c.write_came.ensures.whole

pub returns-in-Ok-clause-prefix : goal.returns-in-Ok-clause-prefix
returns-in-Ok-clause-prefix g c =
    let old = g.K.Sink.contents c.args.sink.now in
    let mid = g.K.Sink.contents c.write_line.new.sink in
    let new = g.K.Sink.contents c.write_came.new.sink in
    let front = line_frame (ToRequester 1 c.args.event) in
    let back = line_frames (event_data 1 c.args.event c.args.last.now) in
    on_err (TakesPrefix mid back new) (TakesPrefix old (front ++ back) new) c.write_came.result (takes_then_prefix old mid new front back (subst (λ (l : List ℕ). Takes old l mid) (framed (ToRequester 1 c.args.event) c.line_event.new.out c.line_event.ensures) c.in-Ok.ensures.whole)) c.write_came.ensures.prefix

pub returns-in-Err-clause-prefix : goal.returns-in-Err-clause-prefix
returns-in-Err-clause-prefix g c =
    let old = g.K.Sink.contents c.args.sink.now in
    let mid = g.K.Sink.contents c.write_line.new.sink in
    let front = line_frame (ToRequester 1 c.args.event) in
    let back = line_frames (event_data 1 c.args.event c.args.last.now) in
    prefix_of_first old mid front back (subst (λ (l : List ℕ). TakesPrefix old l mid) (framed (ToRequester 1 c.args.event) c.line_event.new.out c.line_event.ensures) c.in-Err.ensures.prefix)
