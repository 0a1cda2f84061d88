use Rattle.responder_machine.proofs.Updates.{reply_is_count}
use Rattle.responder_machine.proofs.laws.reply_number_is_count.Goals as goal

pub returns : goal.returns
returns c = reply_is_count
