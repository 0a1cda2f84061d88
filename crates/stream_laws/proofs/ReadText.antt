-- A configuration that a text is keeps all limits of a world: with some seed it is in range, and no limit is on seeds.
use Rattle.std.proofs.Common.{refl}
use Rattle.std.specs.Prelude.{replicate}
use Rattle.script_laws.proofs.ConfigTextRead.{config_sound}
use Rattle.script_laws.proofs.ScriptRead.{seeded}
use Rattle.script_laws.proofs.SetUpRight.{is_configuration}
use Rattle.stream_laws.specs.Laws.{ReadConfigurationKeepsLimits}

pub keeps_limits : ReadConfigurationKeepsLimits
keeps_limits text c read =
    let bytes = replicate 32 0 in
    is_configuration (seeded bytes c) (config_sound text c bytes refl read)
