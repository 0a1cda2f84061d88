-- What a record key is for.
use Rattle.std.specs.Prelude.{◌≡◌}
use Rattle.key_schedule.specs.Keys.{DirectionSecret}
use Rattle.key_schedule.specs.Purpose.{Purpose, IsSecretOf}
use Rattle.spdm_grammar.specs.declared.messages.choice.Choice.{Choice}

-- The key of a direction, as contracts see it, is that of a purpose under a choice of algorithms.
pub record IsKeyOf (key : DirectionSecret) (choice : Choice) (p : Purpose) : Type 0 where
  pub hash : key.hash ≡ choice.hash
  pub aead : key.aead ≡ choice.aead
  pub secret : IsSecretOf key p
