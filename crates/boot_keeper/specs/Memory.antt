-- What contracts see of a device in memory. This project's own.
use Rattle.std.specs.Prelude.{ℕ, List}
use Rattle.spdm_basis.specs.Memory.{Calls}

-- A device: the bytes that it holds, and its calls.
pub record Held : Type 0 where
  pub held : List ℕ
  pub calls : Calls
