use Rattle.std.proofs.Common.{◌≡◌, ℕ, List, ◌++◌}
use Rattle.std.specs.Prelude.{map}
use Rattle.std.specs.List.{range_with_len}
use Rattle.ghash.specs.Hash.{ghash, block_at}
use Rattle.ghash.proofs.tableless.TablelessHashKey.absorb.Given as goal

abbrev pub invariant-loop-i : goal.invariant-loop-i
invariant-loop-i l =
    (before : List ℕ) → l.sum ≡ ghash l.self before → l.hash ≡ ghash l.self (before ++ map (block_at l.bytes) (range_with_len 0 l.i))
