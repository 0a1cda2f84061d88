use Rattle.frame_stream.specs.Runs.{Counts}
use Rattle.frame_stream.specs.Standing.{in_front}
use Rattle.script_laws.proofs.ConfigTextRead.{no_configured_end_has_fault}
use Rattle.std.proofs.Common.{refl}
use Rattle.stream_commands.proofs.ServingAnswers.{all_served, not_served, of_stream}
use Rattle.stream_commands.proofs.Streams.{same_stream}
use Rattle.stream_commands.specs.Outside.{Outside, outside}
use Rattle.stream_commands.specs.declared.begin.StreamStart.{StreamStart}
use Rattle.stream_commands.proofs.serving.serve_behind.Goals as goal

pub returns-in-Ok-clause-followed : goal.returns-in-Ok-clause-followed
returns-in-Ok-clause-followed g c = λ left seeds others reads seeded_before seeded_after begun earlier.
    let own : StreamStart = record { config = c.args.config.now; seed = c.args.seed; before = c.args.before.now } in
    let rest = g.S.Source.remaining c.args.source.now in
    let before : Outside = outside left (g.K.Sink.contents c.args.sink.now) seeds reads (g.K.Sink.faults c.args.sink.now) seeded_before in
    let after : Outside = outside (g.S.Source.remaining c.serve.new.source) (g.K.Sink.contents c.serve.new.sink) others (g.S.Source.faults c.serve.new.source) (g.K.Sink.faults c.serve.new.sink) seeded_after in
    all_served c.args.boot before after own rest (in_front c.args.before.now rest) begun
    (same_stream left begun.text c.args.before.now c.args.before.now rest begun.read refl) c.in-Ok.ensures.served c.in-Ok.ensures.end

pub of_serving-requires : goal.of_serving-requires
of_serving-requires g c =
    let config = c.args.config.now in
    of_stream config c.in-Err.fault (no_configured_end_has_fault c.requires.read.0 config c.requires.read.1) c.in-Err.ensures.refused

pub returns-in-Err-clause-followed : goal.returns-in-Err-clause-followed
returns-in-Err-clause-followed g c = λ left seeds others reads seeded_before seeded_after begun earlier.
    let own : StreamStart = record { config = c.args.config.now; seed = c.args.seed; before = c.args.before.now } in
    let rest = g.S.Source.remaining c.args.source.now in
    let before : Outside = outside left (g.K.Sink.contents c.args.sink.now) seeds reads (g.K.Sink.faults c.args.sink.now) seeded_before in
    let after : Outside = outside (g.S.Source.remaining c.serve.new.source) (g.K.Sink.contents c.serve.new.sink) others (g.S.Source.faults c.serve.new.source) (g.K.Sink.faults c.serve.new.sink) seeded_after in
    let n : Counts = record {
      read_before = g.S.Source.faults c.args.source.now;
      read_after = g.S.Source.faults c.serve.new.source;
      written_before = g.K.Sink.faults c.args.sink.now;
      written_after = g.K.Sink.faults c.serve.new.sink;
    } in
    not_served c.args.boot before after own rest (in_front c.args.before.now rest) begun
    (same_stream left begun.text c.args.before.now c.args.before.now rest begun.read refl) n c.of_serving.result
    earlier c.in-Err.ensures.read_later refl refl refl c.in-Err.fault c.in-Err.ensures.fault c.of_serving.ensures
