use Rattle.std.proofs.Common.{◌≡◌, ◌<◌, ℕ, List, false}
use Rattle.appraise.specs.Records.{Measured}
use Rattle.appraise.specs.Answers.{is_missing}
use Rattle.appraise.specs.Walk.{StandsFor}
use Rattle.appraise.proofs.appraising.first_missing.Given as goal

-- no index so far is missing
abbrev pub invariant-loop-index : goal.invariant-loop-index
invariant-loop-index l =
    (blocks : List Measured) → StandsFor l.seen.table blocks → (lower : ℕ) → lower < l.index → is_missing l.rules blocks lower ≡ false
