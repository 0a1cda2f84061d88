use Rattle.std.proofs.Common.{Err, Ok, ap, refl}
use Rattle.stream_commands.proofs.Answered.{answered_kept, no_boot, was_asked}
use Rattle.stream_commands.proofs.Begun.{seeded, unread, with_bytes}
use Rattle.stream_commands.proofs.Ends.{IsAnswerFor, driving_ends, kept_answer}
use Rattle.stream_commands.proofs.Exactly.{kept_exactly}
use Rattle.stream_commands.specs.StreamStart.{config_text}
use Rattle.stream_commands.specs.Driven.{driving_command}
use Rattle.stream_commands.specs.InputEnds.{HasEnd, IsStreamToDrive}
use Rattle.stream_commands.specs.Kept.{IsNextBoot, KeeperState, keeper_state}
use Rattle.stream_commands.specs.Outside.{Outside, outside}
use Rattle.stream_commands.specs.declared.kept_fault.KeptFault.TheVariants.{Boot, Stream}
use Rattle.stream_commands.proofs.driving_kept.drive_kept_input.Goals as goal

pub returns-in-Err-next_boot-clause-answers : goal.returns-in-Err-next_boot-clause-answers
returns-in-Err-next_boot-clause-answers g c =
    let found : KeeperState = keeper_state (g.P.Keeper.contents c.args.keeper.now) (g.P.Keeper.faults c.args.keeper.now) in
    let left : KeeperState = keeper_state (g.P.Keeper.contents c.next_boot.new.keeper) (g.P.Keeper.faults c.next_boot.new.keeper) in
    let before : Outside = outside (g.S.Source.remaining c.args.source.now) (g.K.Sink.contents c.args.sink.now) (g.E.Seeds.left c.args.seeds.now) (g.S.Source.faults c.args.source.now) (g.K.Sink.faults c.args.sink.now) (g.E.Seeds.faults c.args.seeds.now) in
    let after : Outside = outside (g.S.Source.remaining c.begin.new.source) (g.K.Sink.contents c.args.sink.now) (g.E.Seeds.left c.begin.new.seeds) (g.S.Source.faults c.begin.new.source) (g.K.Sink.faults c.args.sink.now) (g.E.Seeds.faults c.begin.new.seeds) in
    let begun = c.in-Ok.ensures.begun in
    no_boot config_text found left before after c.in-Err-next_boot.fault (seeded before after c.in-Ok.begun after.left begun) (unread before after c.in-Ok.begun begun c.as_slice-before.ensures.fits) refl
    c.in-Err-next_boot.ensures.next (λ is. c.in-Err-next_boot.ensures.fault (ap Err is)) (λ is. c.in-Err-next_boot.ensures.spent (ap Err is))

pub returns-in-Err-next_boot-clause-exact : goal.returns-in-Err-next_boot-clause-exact
returns-in-Err-next_boot-clause-exact g c = λ input device end has_left holds has read written quiet kept.
    let found : KeeperState = keeper_state (g.P.Keeper.contents c.args.keeper.now) (g.P.Keeper.faults c.args.keeper.now) in
    let left : KeeperState = keeper_state (g.P.Keeper.contents c.next_boot.new.keeper) (g.P.Keeper.faults c.next_boot.new.keeper) in
    let before : Outside = outside (g.S.Source.remaining c.args.source.now) (g.K.Sink.contents c.args.sink.now) (g.E.Seeds.left c.args.seeds.now) (g.S.Source.faults c.args.source.now) (g.K.Sink.faults c.args.sink.now) (g.E.Seeds.faults c.args.seeds.now) in
    let after : Outside = outside (g.S.Source.remaining c.begin.new.source) (g.K.Sink.contents c.args.sink.now) (g.E.Seeds.left c.begin.new.seeds) (g.S.Source.faults c.begin.new.source) (g.K.Sink.faults c.args.sink.now) (g.E.Seeds.faults c.begin.new.seeds) in
    kept_answer device end (Err (Boot c.in-Err-next_boot.fault))
    (kept_exactly _ driving_command (HasEnd IsStreamToDrive) IsAnswerFor driving_ends before after input has_left read written quiet found left device holds kept end has (Err (Boot c.in-Err-next_boot.fault)) (returns-in-Err-next_boot-clause-answers g c))

pub returns-in-Ok-drive_behind-clause-answers : goal.returns-in-Ok-drive_behind-clause-answers
returns-in-Ok-drive_behind-clause-answers g c =
    let found : KeeperState = keeper_state (g.P.Keeper.contents c.args.keeper.now) (g.P.Keeper.faults c.args.keeper.now) in
    let left : KeeperState = keeper_state (g.P.Keeper.contents c.next_boot.new.keeper) (g.P.Keeper.faults c.next_boot.new.keeper) in
    let next : IsNextBoot c.in-Ok-next_boot.boot found left = record { next = c.in-Ok-next_boot.ensures.next; above = c.in-Ok-next_boot.ensures.above; fits = c.in-Ok-next_boot.ensures.fits; quiet = c.in-Ok-next_boot.ensures.quiet } in
    let before : Outside = outside (g.S.Source.remaining c.args.source.now) (g.K.Sink.contents c.args.sink.now) (g.E.Seeds.left c.args.seeds.now) (g.S.Source.faults c.args.source.now) (g.K.Sink.faults c.args.sink.now) (g.E.Seeds.faults c.args.seeds.now) in
    let after : Outside = outside (g.S.Source.remaining c.drive_behind.new.source) (g.K.Sink.contents c.drive_behind.new.sink) (g.E.Seeds.left c.begin.new.seeds) (g.S.Source.faults c.drive_behind.new.source) (g.K.Sink.faults c.drive_behind.new.sink) (g.E.Seeds.faults c.begin.new.seeds) in
    let begun = c.in-Ok.ensures.begun in
    answered_kept driving_command c.in-Ok-next_boot.boot found left before after next (seeded before after c.in-Ok.begun (g.S.Source.remaining c.begin.new.source) begun) (Ok tt)
    (c.in-Ok-drive_behind.ensures.followed before.left before.seeds after.seeds before.read_faults before.seed_faults after.seed_faults (with_bytes before after c.in-Ok.begun (g.S.Source.remaining c.begin.new.source) c.as_slice-before.result.now c.as_slice-before.ensures.value begun) c.in-Ok.ensures.read_later)

pub returns-in-Ok-drive_behind-clause-exact : goal.returns-in-Ok-drive_behind-clause-exact
returns-in-Ok-drive_behind-clause-exact g c = λ input device end has_left holds has read written quiet kept.
    let found : KeeperState = keeper_state (g.P.Keeper.contents c.args.keeper.now) (g.P.Keeper.faults c.args.keeper.now) in
    let left : KeeperState = keeper_state (g.P.Keeper.contents c.next_boot.new.keeper) (g.P.Keeper.faults c.next_boot.new.keeper) in
    let before : Outside = outside (g.S.Source.remaining c.args.source.now) (g.K.Sink.contents c.args.sink.now) (g.E.Seeds.left c.args.seeds.now) (g.S.Source.faults c.args.source.now) (g.K.Sink.faults c.args.sink.now) (g.E.Seeds.faults c.args.seeds.now) in
    let after : Outside = outside (g.S.Source.remaining c.drive_behind.new.source) (g.K.Sink.contents c.drive_behind.new.sink) (g.E.Seeds.left c.begin.new.seeds) (g.S.Source.faults c.drive_behind.new.source) (g.K.Sink.faults c.drive_behind.new.sink) (g.E.Seeds.faults c.begin.new.seeds) in
    kept_answer device end (Ok tt)
    (kept_exactly _ driving_command (HasEnd IsStreamToDrive) IsAnswerFor driving_ends before after input has_left read written quiet found left device holds kept end has (Ok tt) (returns-in-Ok-drive_behind-clause-answers g c))

pub returns-clause-answers : goal.returns-clause-answers
returns-clause-answers g c =
    let found : KeeperState = keeper_state (g.P.Keeper.contents c.args.keeper.now) (g.P.Keeper.faults c.args.keeper.now) in
    let left : KeeperState = keeper_state (g.P.Keeper.contents c.next_boot.new.keeper) (g.P.Keeper.faults c.next_boot.new.keeper) in
    let next : IsNextBoot c.in-Ok-next_boot.boot found left = record { next = c.in-Ok-next_boot.ensures.next; above = c.in-Ok-next_boot.ensures.above; fits = c.in-Ok-next_boot.ensures.fits; quiet = c.in-Ok-next_boot.ensures.quiet } in
    let before : Outside = outside (g.S.Source.remaining c.args.source.now) (g.K.Sink.contents c.args.sink.now) (g.E.Seeds.left c.args.seeds.now) (g.S.Source.faults c.args.source.now) (g.K.Sink.faults c.args.sink.now) (g.E.Seeds.faults c.args.seeds.now) in
    let after : Outside = outside (g.S.Source.remaining c.drive_behind.new.source) (g.K.Sink.contents c.drive_behind.new.sink) (g.E.Seeds.left c.begin.new.seeds) (g.S.Source.faults c.drive_behind.new.source) (g.K.Sink.faults c.drive_behind.new.sink) (g.E.Seeds.faults c.begin.new.seeds) in
    let begun = c.in-Ok.ensures.begun in
    answered_kept driving_command c.in-Ok-next_boot.boot found left before after next (seeded before after c.in-Ok.begun (g.S.Source.remaining c.begin.new.source) begun) (Err c.in-Err-drive_behind.fault)
    (c.in-Err-drive_behind.ensures.followed before.left before.seeds after.seeds before.read_faults before.seed_faults after.seed_faults (with_bytes before after c.in-Ok.begun (g.S.Source.remaining c.begin.new.source) c.as_slice-before.result.now c.as_slice-before.ensures.value begun) c.in-Ok.ensures.read_later)

pub returns-clause-exact : goal.returns-clause-exact
returns-clause-exact g c = λ input device end has_left holds has read written quiet kept.
    let found : KeeperState = keeper_state (g.P.Keeper.contents c.args.keeper.now) (g.P.Keeper.faults c.args.keeper.now) in
    let left : KeeperState = keeper_state (g.P.Keeper.contents c.next_boot.new.keeper) (g.P.Keeper.faults c.next_boot.new.keeper) in
    let before : Outside = outside (g.S.Source.remaining c.args.source.now) (g.K.Sink.contents c.args.sink.now) (g.E.Seeds.left c.args.seeds.now) (g.S.Source.faults c.args.source.now) (g.K.Sink.faults c.args.sink.now) (g.E.Seeds.faults c.args.seeds.now) in
    let after : Outside = outside (g.S.Source.remaining c.drive_behind.new.source) (g.K.Sink.contents c.drive_behind.new.sink) (g.E.Seeds.left c.begin.new.seeds) (g.S.Source.faults c.drive_behind.new.source) (g.K.Sink.faults c.drive_behind.new.sink) (g.E.Seeds.faults c.begin.new.seeds) in
    kept_answer device end (Err (Stream c.in-Err-drive_behind.fault))
    (kept_exactly _ driving_command (HasEnd IsStreamToDrive) IsAnswerFor driving_ends before after input has_left read written quiet found left device holds kept end has (Err (Stream c.in-Err-drive_behind.fault)) (returns-clause-answers g c))

pub returns-clause-unasked : goal.returns-clause-unasked
returns-clause-unasked g c = λ unasked.
    let before : Outside = outside (g.S.Source.remaining c.args.source.now) (g.K.Sink.contents c.args.sink.now) (g.E.Seeds.left c.args.seeds.now) (g.S.Source.faults c.args.source.now) (g.K.Sink.faults c.args.sink.now) (g.E.Seeds.faults c.args.seeds.now) in
    let after : Outside = outside (g.S.Source.remaining c.drive_behind.new.source) (g.K.Sink.contents c.drive_behind.new.sink) (g.E.Seeds.left c.begin.new.seeds) (g.S.Source.faults c.drive_behind.new.source) (g.K.Sink.faults c.drive_behind.new.sink) (g.E.Seeds.faults c.begin.new.seeds) in
    was_asked driving_command c.in-Ok-next_boot.boot before after c.in-Err-drive_behind.fault
    (c.in-Err-drive_behind.ensures.followed before.left before.seeds after.seeds before.read_faults before.seed_faults after.seed_faults (with_bytes before after c.in-Ok.begun (g.S.Source.remaining c.begin.new.source) c.as_slice-before.result.now c.as_slice-before.ensures.value c.in-Ok.ensures.begun) c.in-Ok.ensures.read_later) unasked
