-- The values that a requester chooses for its messages, as the program is handed them.
use Rattle.std.specs.Prelude.{◌≡◌}
use Rattle.requester_core.specs.declared.free_values.FreeValues.{FreeValues}
use Rattle.requester_machine.specs.Commands.{Free}

-- These are the values of the definitions.
pub record IsFree (seen : FreeValues) (f : Free) : Type 0 where
  pub id : f.id ≡ seen.id
  pub context : f.context ≡ seen.context.now
  pub opaque : f.opaque ≡ seen.opaque.now
