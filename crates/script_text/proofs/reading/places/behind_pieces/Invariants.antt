use Rattle.std.proofs.Common.{◌≡◌, ◌≤◌, ◌+◌, length, nat_eq}
use Rattle.std.specs.List.{position_or_len}
use Rattle.script_text.proofs.reading.places.behind_pieces.Given as goal

abbrev pub invariant-pieces : goal.invariant-pieces
invariant-pieces l = record {
  place : position_or_len (λ b. nat_eq b l.sought) l.bytes + length l.rest
      ≡ length l.bytes + position_or_len (λ b. nat_eq b l.sought) l.rest;
  within : length l.rest ≤ length l.bytes;
}

abbrev pub decreases-pieces : goal.decreases-pieces
decreases-pieces l = length l.rest
