-- What holds of scripts holds of generated ones.
use Rattle.std.proofs.Common.{ℕ}
use Rattle.script_laws.proofs.WorldsRight.{sound_holds}
use Rattle.script_laws.specs.Worlds.{HoldsOf}
use Rattle.script_text.specs.Generator.{generated}
use Rattle.spdm_command.proofs.GeneratedSound.{generated_sound}

pub generated_holds : (seed count : ℕ) → HoldsOf (generated seed count)
generated_holds seed count = sound_holds (generated seed count) (generated_sound seed)
