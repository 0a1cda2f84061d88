use Rattle.responder_machine.proofs.Updates.{numbers_counted}
use Rattle.responder_machine.proofs.laws.next_numbers_are_counts.Goals as goal

pub returns : goal.returns
returns c = numbers_counted
