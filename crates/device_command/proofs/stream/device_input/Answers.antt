use Rattle.stream_commands.proofs.Answered.{answered}
use Rattle.stream_commands.proofs.Begun.{seeded, with_bytes}
use Rattle.device_command.proofs.Ends.{devising_ends}
use Rattle.device_command.specs.Devised.{IsStreamToDevise, devising_command}
use Rattle.stream_commands.proofs.Ends.{IsAnswerFor}
use Rattle.stream_commands.proofs.Exactly.{exactly}
use Rattle.stream_commands.specs.InputEnds.{HasEnd}
use Rattle.stream_commands.specs.Outside.{Outside, outside}
use Rattle.device_command.proofs.stream.device_input.Goals as goal

pub returns-in-Ok-clause-answers : goal.returns-in-Ok-clause-answers
returns-in-Ok-clause-answers g c =
    let before : Outside = outside (g.S.Source.remaining c.args.source.now) (g.K.Sink.contents c.args.sink.now) (g.E.Seeds.left c.args.seeds.now) (g.S.Source.faults c.args.source.now) (g.K.Sink.faults c.args.sink.now) (g.E.Seeds.faults c.args.seeds.now) in
    let after : Outside = outside (g.S.Source.remaining c.device_behind.new.source) (g.K.Sink.contents c.device_behind.new.sink) (g.E.Seeds.left c.begin.new.seeds) (g.S.Source.faults c.device_behind.new.source) (g.K.Sink.faults c.device_behind.new.sink) (g.E.Seeds.faults c.begin.new.seeds) in
    let begun = c.in-Ok.ensures.begun in
    answered devising_command 0 before after (seeded before after (record { config = c.in-Ok.begun.config; seed = c.in-Ok.begun.seed; before = c.in-Ok.begun.before }) (g.S.Source.remaining c.begin.new.source) begun) c.device_behind.result
    (c.device_behind.ensures.followed before.left before.seeds after.seeds before.read_faults before.seed_faults after.seed_faults (with_bytes before after (record { config = c.in-Ok.begun.config; seed = c.in-Ok.begun.seed; before = c.in-Ok.begun.before }) (g.S.Source.remaining c.begin.new.source) c.as_slice.result.now c.as_slice.ensures.value begun) c.in-Ok.ensures.read_later)

pub returns-in-Ok-clause-exact : goal.returns-in-Ok-clause-exact
returns-in-Ok-clause-exact g c = λ input end left has read written quiet.
    let before : Outside = outside (g.S.Source.remaining c.args.source.now) (g.K.Sink.contents c.args.sink.now) (g.E.Seeds.left c.args.seeds.now) (g.S.Source.faults c.args.source.now) (g.K.Sink.faults c.args.sink.now) (g.E.Seeds.faults c.args.seeds.now) in
    let after : Outside = outside (g.S.Source.remaining c.device_behind.new.source) (g.K.Sink.contents c.device_behind.new.sink) (g.E.Seeds.left c.begin.new.seeds) (g.S.Source.faults c.device_behind.new.source) (g.K.Sink.faults c.device_behind.new.sink) (g.E.Seeds.faults c.begin.new.seeds) in
    exactly _ devising_command (HasEnd IsStreamToDevise) IsAnswerFor devising_ends before after input left read written quiet 0 end c.device_behind.result has (returns-in-Ok-clause-answers g c)
