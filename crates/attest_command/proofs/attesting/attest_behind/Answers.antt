use Rattle.attest_command.proofs.Answered.{all_attested, not_attested}
use Rattle.attest_command.proofs.Streams.{same_stream}
use Rattle.attest_command.specs.declared.begin.AttestStart.{AttestStart}
use Rattle.frame_stream.specs.Runs.{Counts}
use Rattle.frame_stream.specs.Standing.{in_front}
use Rattle.requester_attest.proofs.Steps.{some_appraised, some_attesting}
use Rattle.script_laws.proofs.ConfigTextRead.{config_sound, no_configured_end_has_fault}
use Rattle.std.proofs.Common.{refl}
use Rattle.std.specs.Prelude.{replicate}
use Rattle.stream_commands.proofs.DrivingAnswers.{of_driving}
use Rattle.stream_commands.specs.Outside.{Outside, outside}
use Rattle.attest_command.proofs.attesting.attest_behind.Goals as goal

pub attest-requires-clause-some : goal.attest-requires-clause-some
attest-requires-clause-some g c = (config_sound c.requires.read.0.0 c.args.config.now (replicate 32 0) refl c.requires.read.0.1).some

pub attest-requires-clause-sound : goal.attest-requires-clause-sound
attest-requires-clause-sound g c = c.requires.read.1

pub returns-in-Ok-clause-followed : goal.returns-in-Ok-clause-followed
returns-in-Ok-clause-followed g c = λ left seeds others reads seeded_before seeded_after begun earlier.
    let own : AttestStart = record { parsed = record { config = c.args.config.now; policy = c.args.policy }; seed = c.args.seed; before = c.args.before.now } in
    let rest = g.S.Source.remaining c.args.source.now in
    let before : Outside = outside left (g.K.Sink.contents c.args.sink.now) seeds reads (g.K.Sink.faults c.args.sink.now) seeded_before in
    let after : Outside = outside (g.S.Source.remaining c.attest.new.source) (g.K.Sink.contents c.attest.new.sink) others (g.S.Source.faults c.attest.new.source) (g.K.Sink.faults c.attest.new.sink) seeded_after in
    let sound = config_sound begun.text c.args.config.now (replicate 32 0) refl begun.is in
    let first = some_attesting c.args.config.now c.args.policy c.args.seed c.args.boot sound.some in
    let right = some_appraised c.args.policy begun.sound in
    let same = same_stream left c.args.before.now c.args.before.now rest begun.read refl in
    all_attested c.args.boot before after own rest (in_front c.args.before.now rest) first.0 right.0 begun first.1 right.1 same c.in-Ok.verdict (c.in-Ok.ensures.attested right.0 first.0 first.1 right.1) c.in-Ok.ensures.end

pub of_driving-requires : goal.of_driving-requires
of_driving-requires g c =
    let config = c.args.config.now in
    of_driving config c.in-Err.fault (no_configured_end_has_fault c.requires.read.0.0 config c.requires.read.0.1) c.in-Err.ensures.refused

pub returns-in-Err-clause-followed : goal.returns-in-Err-clause-followed
returns-in-Err-clause-followed g c = λ left seeds others reads seeded_before seeded_after begun earlier.
    let own : AttestStart = record { parsed = record { config = c.args.config.now; policy = c.args.policy }; seed = c.args.seed; before = c.args.before.now } in
    let rest = g.S.Source.remaining c.args.source.now in
    let before : Outside = outside left (g.K.Sink.contents c.args.sink.now) seeds reads (g.K.Sink.faults c.args.sink.now) seeded_before in
    let after : Outside = outside (g.S.Source.remaining c.attest.new.source) (g.K.Sink.contents c.attest.new.sink) others (g.S.Source.faults c.attest.new.source) (g.K.Sink.faults c.attest.new.sink) seeded_after in
    let sound = config_sound begun.text c.args.config.now (replicate 32 0) refl begun.is in
    let first = some_attesting c.args.config.now c.args.policy c.args.seed c.args.boot sound.some in
    let right = some_appraised c.args.policy begun.sound in
    let same = same_stream left c.args.before.now c.args.before.now rest begun.read refl in
    let n : Counts = record {
      read_before = g.S.Source.faults c.args.source.now;
      read_after = g.S.Source.faults c.attest.new.source;
      written_before = g.K.Sink.faults c.args.sink.now;
      written_after = g.K.Sink.faults c.attest.new.sink;
    } in
    not_attested c.args.boot before after own rest (in_front c.args.before.now rest) first.0 right.0 begun first.1 right.1 same n c.of_driving.result
    earlier c.in-Err.ensures.read_later refl refl refl c.in-Err.fault (c.in-Err.ensures.fault right.0 first.0 first.1 right.1) c.of_driving.ensures
