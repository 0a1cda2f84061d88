use Rattle.std.proofs.Common.{refl}
use Rattle.requester_attest.proofs.Steps.{first_kept}
use Rattle.requester_attest.proofs.attending.Attending.new.Goals as goal

pub returns-in-Ok-first_attestor-clause-stands : goal.returns-in-Ok-first_attestor-clause-stands
returns-in-Ok-first_attestor-clause-stands c = λ appraised a is right. first_kept c.args.config.now c.args.policy c.args.seed c.args.boot _ appraised a is right (c.in-Ok-first_attestor.ensures.stands a is) refl
