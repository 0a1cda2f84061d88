-- Places of one input, one after the other. This project's own.
use Rattle.std.specs.Prelude.{◌≡◌, ◌≤◌, ◌+◌, length}
use Rattle.spdm_grammar.specs.Reading.{Place}

-- The second place is in the same input and not before the first.
pub record IsBehind (old new : Place) : Type 0 where
  pub later : old.at ≤ new.at
  pub same : new.at + length new.rest ≡ old.at + length old.rest
