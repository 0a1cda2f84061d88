use Rattle.appraise.proofs.ReadRules.{read_rules}
use Rattle.appraise.proofs.laws.read_rules_are_sound.Goals as goal

pub returns : goal.returns
returns c = read_rules
