-- The end that a configuration and a seed set up. This project's own.
use Rattle.std.specs.Prelude.{ℕ, List}
use Rattle.script_text.specs.declared.configuration.config.ScriptConfig.{ScriptConfig}
use Rattle.spdm_basis.specs.Stream.{GivesSeed}
use Rattle.stream_commands.specs.StreamStart.{IsConfigured}
use Rattle.stream_commands.specs.Outside.{Outside}

-- The text is this configuration, and this seed was taken, and no other.
pub record IsSetUp (c : ScriptConfig) (seed : List ℕ) (before after : Outside) : Type 0 where
  pub configured : IsConfigured c before.left
  pub given : GivesSeed before.seeds seed after.seeds
