use Rattle.frame_stream.specs.Runs.{Counts}
use Rattle.frame_stream.specs.Standing.{in_front}
use Rattle.requester_drive.proofs.Faults.{some_requester}
use Rattle.script_laws.proofs.ConfigTextRead.{config_sound, no_configured_end_has_fault}
use Rattle.std.proofs.Common.{refl}
use Rattle.std.specs.Prelude.{replicate}
use Rattle.stream_commands.proofs.DrivingAnswers.{all_driven, not_driven, of_driving}
use Rattle.stream_commands.proofs.Streams.{same_stream}
use Rattle.stream_commands.specs.Outside.{Outside, outside}
use Rattle.stream_commands.specs.declared.begin.StreamStart.{StreamStart}
use Rattle.stream_commands.proofs.driving.drive_behind.Goals as goal

pub drive-requires-clause-some : goal.drive-requires-clause-some
drive-requires-clause-some g c = (config_sound c.requires.read.0 c.args.config.now (replicate 32 0) refl c.requires.read.1).some

pub returns-in-Ok-clause-followed : goal.returns-in-Ok-clause-followed
returns-in-Ok-clause-followed g c = λ left seeds others reads seeded_before seeded_after begun earlier.
    let own : StreamStart = record { config = c.args.config.now; seed = c.args.seed; before = c.args.before.now } in
    let rest = g.S.Source.remaining c.args.source.now in
    let before : Outside = outside left (g.K.Sink.contents c.args.sink.now) seeds reads (g.K.Sink.faults c.args.sink.now) seeded_before in
    let after : Outside = outside (g.S.Source.remaining c.drive.new.source) (g.K.Sink.contents c.drive.new.sink) others (g.S.Source.faults c.drive.new.source) (g.K.Sink.faults c.drive.new.sink) seeded_after in
    let sound = config_sound begun.text c.args.config.now (replicate 32 0) refl begun.is in
    let first = some_requester c.args.config.now c.args.seed c.args.boot sound.some in
    all_driven c.args.boot before after own rest (in_front c.args.before.now rest) first.0 first.1 begun
    (same_stream left begun.text c.args.before.now c.args.before.now rest begun.read refl) (c.in-Ok.ensures.driven first.0 first.1) c.in-Ok.ensures.end

pub of_driving-requires : goal.of_driving-requires
of_driving-requires g c =
    let config = c.args.config.now in
    of_driving config c.in-Err.fault (no_configured_end_has_fault c.requires.read.0 config c.requires.read.1) c.in-Err.ensures.refused

pub returns-in-Err-clause-followed : goal.returns-in-Err-clause-followed
returns-in-Err-clause-followed g c = λ left seeds others reads seeded_before seeded_after begun earlier.
    let own : StreamStart = record { config = c.args.config.now; seed = c.args.seed; before = c.args.before.now } in
    let rest = g.S.Source.remaining c.args.source.now in
    let before : Outside = outside left (g.K.Sink.contents c.args.sink.now) seeds reads (g.K.Sink.faults c.args.sink.now) seeded_before in
    let after : Outside = outside (g.S.Source.remaining c.drive.new.source) (g.K.Sink.contents c.drive.new.sink) others (g.S.Source.faults c.drive.new.source) (g.K.Sink.faults c.drive.new.sink) seeded_after in
    let n : Counts = record {
      read_before = g.S.Source.faults c.args.source.now;
      read_after = g.S.Source.faults c.drive.new.source;
      written_before = g.K.Sink.faults c.args.sink.now;
      written_after = g.K.Sink.faults c.drive.new.sink;
    } in
    let sound = config_sound begun.text c.args.config.now (replicate 32 0) refl begun.is in
    let first = some_requester c.args.config.now c.args.seed c.args.boot sound.some in
    not_driven c.args.boot before after own rest (in_front c.args.before.now rest) first.0 first.1 begun
    (same_stream left begun.text c.args.before.now c.args.before.now rest begun.read refl) n c.of_driving.result
    earlier c.in-Err.ensures.read_later refl refl refl c.in-Err.fault (c.in-Err.ensures.fault first.0 first.1) c.of_driving.ensures
