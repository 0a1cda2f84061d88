use Rattle.std.proofs.Common.{arith}
use Rattle.script_run.proofs.LivesRead.{lives_sound}
use Rattle.spdm_command.proofs.scripts.live.Goals as goal

pub run_lives-requires : goal.run_lives-requires
run_lives-requires g c =
    let range = lives_sound c.args.text.now c.in-Ok.lives c.in-Ok.ensures in
    let few = range.few in
    record { sound = range.config; some = range.some; few = omega (arith, few) }
