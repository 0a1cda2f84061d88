use Rattle.std.proofs.Common.{subst, Some}
use Rattle.responder_core.specs.Connected as connected
use Rattle.responder_machine.specs.History.{History}
use Rattle.check_fetched_laws.proofs.PutBytes.{put_is}
use Rattle.check_fetched_laws.proofs.pending_bytes.put_bytes.Goals as goal
use Rattle.capture_machine.specs.LargeAnswers.{with_large}

pub returns : goal.returns
returns c = λ r h whole one other long stands. subst (λ (l : History). connected.StandsFor c.set_pending_bytes.new.self r l) (put_is c.args.id whole c.args.bytes.now h (one.large, other.large)) (c.set_pending_bytes.ensures r (with_large (Some c.args.id) whole h) long one.more one.measured stands)
