use Rattle.std.proofs.Common.{◌∙◌, ap, sym}
use Rattle.script_text.specs.ConfigText.{config_in}
use Rattle.stream_commands.proofs.Texts.{configured}
use Rattle.device_command.proofs.begin.begin.Goals as goal

pub returns-in-Ok-seed-clause-begun : goal.returns-in-Ok-seed-clause-begun
returns-in-Ok-seed-clause-begun g c =
    let is = ap config_in (sym c.as_slice.ensures) ∙ c.in-Ok-parse.ensures in
    record {
      configured = configured _ c.in-Ok.read.text c.in-Ok.read.before _ c.in-Ok-parse.config c.in-Ok.ensures.text c.in-Ok.ensures.within is;
      text = c.in-Ok.read.text;
      read = c.in-Ok.ensures.text;
      seed = c.in-Ok-seed.ensures.gives;
      is = is;
    }

pub returns-clause-fault : goal.returns-clause-fault
returns-clause-fault g c =
    let is = ap config_in (sym c.as_slice.ensures) ∙ c.in-Ok-parse.ensures in
    (c.in-Err-seed.ensures.fault, (c.in-Ok-parse.config, configured _ c.in-Ok.read.text c.in-Ok.read.before _ c.in-Ok-parse.config c.in-Ok.ensures.text c.in-Ok.ensures.within is))
