-- The values that a responder chooses for an answer, as the program is handed them.
use Rattle.std.specs.Prelude.{◌≡◌}
use Rattle.responder_core.specs.declared.free_values.FreeValues.{FreeValues}
use Rattle.responder_machine.specs.Answer.{Free}

-- These are the values of the definitions.
pub record IsFree (seen : FreeValues) (f : Free) : Type 0 where
  pub id : f.id ≡ seen.id
  pub context : f.context ≡ seen.context.now
  pub exchange_opaque : f.exchange_opaque ≡ seen.exchange_opaque.now
  pub nonce : f.nonce ≡ seen.nonce
  pub measured_opaque : f.measured_opaque ≡ seen.measured_opaque.now
  pub handle : f.handle ≡ seen.handle
  pub reply : f.reply ≡ seen.reply.now
  pub pad : f.pad ≡ seen.pad.now
