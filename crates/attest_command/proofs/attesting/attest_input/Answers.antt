use Rattle.attest_command.proofs.Answered.{seeded, with_bytes}
use Rattle.attest_command.proofs.Ends.{attesting_ends}
use Rattle.attest_command.specs.InputEnds.{Answers, HasEnd}
use Rattle.attest_command.specs.Outcome.{attesting_command}
use Rattle.stream_commands.proofs.Answered.{answered}
use Rattle.stream_commands.proofs.Exactly.{exactly}
use Rattle.stream_commands.specs.Outside.{Outside, outside}
use Rattle.attest_command.proofs.attesting.attest_input.Goals as goal

pub returns-clause-answers : goal.returns-clause-answers
returns-clause-answers g c =
    let before : Outside = outside (g.S.Source.remaining c.args.source.now) (g.K.Sink.contents c.args.sink.now) (g.E.Seeds.left c.args.seeds.now) (g.S.Source.faults c.args.source.now) (g.K.Sink.faults c.args.sink.now) (g.E.Seeds.faults c.args.seeds.now) in
    let after : Outside = outside (g.S.Source.remaining c.attest_behind.new.source) (g.K.Sink.contents c.attest_behind.new.sink) (g.E.Seeds.left c.begin.new.seeds) (g.S.Source.faults c.attest_behind.new.source) (g.K.Sink.faults c.attest_behind.new.sink) (g.E.Seeds.faults c.begin.new.seeds) in
    let rest = g.S.Source.remaining c.begin.new.source in
    let begun = c.in-Ok.ensures.begun in
    answered attesting_command 0 before after (seeded before after c.in-Ok.begun rest begun) c.attest_behind.result
    (c.attest_behind.ensures.followed before.left before.seeds after.seeds before.read_faults before.seed_faults after.seed_faults (with_bytes before after c.in-Ok.begun rest c.as_slice.result.now c.as_slice.ensures.value begun) c.in-Ok.ensures.read_later)

pub returns-clause-exact : goal.returns-clause-exact
returns-clause-exact g c = λ input end left has read written quiet.
    let before : Outside = outside (g.S.Source.remaining c.args.source.now) (g.K.Sink.contents c.args.sink.now) (g.E.Seeds.left c.args.seeds.now) (g.S.Source.faults c.args.source.now) (g.K.Sink.faults c.args.sink.now) (g.E.Seeds.faults c.args.seeds.now) in
    let after : Outside = outside (g.S.Source.remaining c.attest_behind.new.source) (g.K.Sink.contents c.attest_behind.new.sink) (g.E.Seeds.left c.begin.new.seeds) (g.S.Source.faults c.attest_behind.new.source) (g.K.Sink.faults c.attest_behind.new.sink) (g.E.Seeds.faults c.begin.new.seeds) in
    exactly _ attesting_command HasEnd Answers attesting_ends before after input left read written quiet 0 end c.attest_behind.result has (returns-clause-answers g c)
