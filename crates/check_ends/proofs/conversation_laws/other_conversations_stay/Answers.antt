use Rattle.check_ends.proofs.OthersStay.{conversations_stay}
use Rattle.check_ends.proofs.conversation_laws.other_conversations_stay.Goals as goal

pub returns : goal.returns
returns c = conversations_stay c.other_places_stay.ensures
