use Rattle.std.proofs.Common.{subst, is_some, ap, Some, ◌∙◌}
use Rattle.responder_core.specs.Connected as connected
use Rattle.responder_machine.specs.History.{History}
use Rattle.check_fetched_laws.proofs.PutBytes.{forgotten_is}
use Rattle.check_fetched_laws.proofs.pending_bytes.forget_bytes.Goals as goal

pub returns : goal.returns
returns c = λ r h whole other apart one two judges.
    subst (λ (l : History). connected.StandsFor c.forget_in.new.self r l) (forgotten_is c.args.id whole other apart h (one.large, two.large))
    (c.forget_in.ensures r _ (ap is_some one.large) one.measured judges)
