use Rattle.std.proofs.Common.{length}
use Rattle.appraise.specs.Walk.{IsRead}
use Rattle.appraise.proofs.appraising.read.Given as goal

abbrev pub decreases-loop-block : goal.decreases-loop-block
decreases-loop-block l = length l.rest

abbrev pub invariant-loop-block : goal.invariant-loop-block
invariant-loop-block l = IsRead l.rules l.bytes l.seen.table l.fault l.rest
