use Rattle.check_ends.proofs.AwaitingStay.{awaiting_stay}
use Rattle.check_ends.proofs.conversation_laws.awaiting_conversations_stay.Goals as goal

pub returns : goal.returns
returns c = awaiting_stay
