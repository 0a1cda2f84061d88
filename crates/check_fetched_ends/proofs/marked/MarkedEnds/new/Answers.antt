use Rattle.std.proofs.Common.{subst, sym}
use Rattle.check_fetched_ends.proofs.marked.MarkedEnds.new.Goals as goal
use Rattle.check_late_laws.specs.Late.Marking as marking
use Rattle.capture_machine.specs.Rounds.{Dialogue}

pub returns : goal.returns
returns c = λ w q party. (c.new.ensures w q party, λ d walk. subst (λ (x : Dialogue). marking.StandsFor c.new-2.result x.responder) (sym walk) c.new-2.ensures)
