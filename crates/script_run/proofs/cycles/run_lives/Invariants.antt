use Rattle.std.proofs.Common.{◌≡◌, ◌≤◌, ◌+◌, drop}
use Rattle.script_run.proofs.Lived.{Lived}
use Rattle.script_run.proofs.cycles.run_lives.Given as goal

-- The lives so far were run, and none found its link full.
abbrev pub invariant-loop-life : goal.invariant-loop-life
invariant-loop-life g l = record {
  lived : Lived l.lives.config l.lives.lives l.boot (drop l.life-index l.others) (g.K.Sink.contents l.fn.sink) (g.K.Sink.contents l.sink) l.world;
  counted : l.boot ≡ l.life-index + 1;
  later : g.K.Sink.faults l.fn.sink ≤ g.K.Sink.faults l.sink;
}
