use Rattle.check_ends.proofs.conversation.Conversation.new.Goals as goal
use Rattle.check_laws.proofs.KeptAnswers.{kept_begins}
use Rattle.check_laws.specs.Keeping.{kept_of}
use Rattle.capture_machine.specs.Rounds.{new_dialogue}

pub returns : goal.returns
returns c = λ w q party. (kept_of (new_dialogue q), kept_begins w q, party)
