use Rattle.frame_stream.specs.Runs.{Counts}
use Rattle.frame_stream.specs.Standing.{in_front}
use Rattle.script_laws.proofs.ConfigTextRead.{config_sound, no_configured_end_has_fault}
use Rattle.script_laws.proofs.SetUpRight.{are_few}
use Rattle.std.proofs.Common.{[], arith, refl}
use Rattle.std.specs.Prelude.{replicate}
use Rattle.device_command.proofs.DeviceAnswers.{all_devised, not_devised}
use Rattle.stream_commands.proofs.ServingAnswers.{of_stream}
use Rattle.stream_commands.proofs.Streams.{same_stream}
use Rattle.stream_commands.specs.Outside.{Outside, outside}
use Rattle.device_command.proofs.stream.device_behind.Goals as goal

pub serve_device-requires-clause-few : goal.serve_device-requires-clause-few
serve_device-requires-clause-few g c =
    let config = c.args.config.now in
    let sound = config_sound c.requires.0 config (replicate 32 0) refl c.requires.1 in
    let few = are_few config.responder.eid.number [] config.requesters sound.requesters (omega arith) in
    omega (arith, few)

pub returns-in-Ok-clause-followed : goal.returns-in-Ok-clause-followed
returns-in-Ok-clause-followed g c = λ left seeds others reads seeded_before seeded_after begun earlier.
    let rest = g.S.Source.remaining c.args.source.now in
    let before : Outside = outside left (g.K.Sink.contents c.args.sink.now) seeds reads (g.K.Sink.faults c.args.sink.now) seeded_before in
    let after : Outside = outside (g.S.Source.remaining c.serve_device.new.source) (g.K.Sink.contents c.serve_device.new.sink) others (g.S.Source.faults c.serve_device.new.source) (g.K.Sink.faults c.serve_device.new.sink) seeded_after in
    all_devised 0 before after c.args.config.now c.args.seed c.args.before.now rest (in_front c.args.before.now rest) begun
    (same_stream left begun.text c.args.before.now c.args.before.now rest begun.read refl) c.in-Ok.ensures.served c.in-Ok.ensures.end

pub of_serving-requires : goal.of_serving-requires
of_serving-requires g c =
    let config = c.args.config.now in
    of_stream config c.in-Err.fault (no_configured_end_has_fault c.requires.0 config c.requires.1) c.in-Err.ensures.refused

pub returns-in-Err-clause-followed : goal.returns-in-Err-clause-followed
returns-in-Err-clause-followed g c = λ left seeds others reads seeded_before seeded_after begun earlier.
    let rest = g.S.Source.remaining c.args.source.now in
    let before : Outside = outside left (g.K.Sink.contents c.args.sink.now) seeds reads (g.K.Sink.faults c.args.sink.now) seeded_before in
    let after : Outside = outside (g.S.Source.remaining c.serve_device.new.source) (g.K.Sink.contents c.serve_device.new.sink) others (g.S.Source.faults c.serve_device.new.source) (g.K.Sink.faults c.serve_device.new.sink) seeded_after in
    let n : Counts = record {
      read_before = g.S.Source.faults c.args.source.now;
      read_after = g.S.Source.faults c.serve_device.new.source;
      written_before = g.K.Sink.faults c.args.sink.now;
      written_after = g.K.Sink.faults c.serve_device.new.sink;
    } in
    not_devised 0 before after c.args.config.now c.args.seed c.args.before.now rest (in_front c.args.before.now rest) begun
    (same_stream left begun.text c.args.before.now c.args.before.now rest begun.read refl) n c.of_serving.result
    earlier c.in-Err.ensures.read_later refl refl refl c.in-Err.fault c.in-Err.ensures.fault c.of_serving.ensures
