-- The bytes of a body that is being gathered, and how many there may be. This project's own.
use Rattle.std.specs.Prelude.{ℕ, List}

pub record Held : Type 0 where
  pub limit : ℕ
  pub bytes : List ℕ
