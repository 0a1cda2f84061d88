use Rattle.std.proofs.Common.{refl}
use Rattle.attestor.proofs.attestor.Attestor.resume.Goals as goal

pub returns-in-Ok-clause-stands : goal.returns-in-Ok-clause-stands
returns-in-Ok-clause-stands c = c.over.ensures _ c.in-Ok.ensures.stands refl
