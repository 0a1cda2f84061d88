use Rattle.std.proofs.Common.{◌≡◌, length}
use Rattle.negotiate.specs.Versions.{version_entries, first_of_1_2}
use Rattle.negotiate.proofs.version.choose_version.Given as goal

abbrev pub decreases-loop-rest : goal.decreases-loop-rest
decreases-loop-rest l = length l.rest

abbrev pub invariant-loop-rest : goal.invariant-loop-rest
invariant-loop-rest l = first_of_1_2 (version_entries l.rest) ≡ first_of_1_2 (version_entries l.entries)
