use Rattle.message_fields.proofs.Cut.{pieces_whole}
use Rattle.message_fields.proofs.laws.pieces_are_whole.Goals as goal

pub returns : goal.returns
returns c = pieces_whole
