use Rattle.std.proofs.Common.{◌≡◌}
use Rattle.script_text.specs.Generator.{drawn, events_up_to}
use Rattle.script_text.proofs.generator.generate.Given as goal

abbrev pub invariant-loop-i : goal.invariant-loop-i
invariant-loop-i l = record {
  drawn : l.x ≡ drawn l.seed l.i;
  events : l.events ≡ events_up_to l.seed l.i;
}
