use Rattle.negotiate.proofs.Choices.{choice_is_agreed}
use Rattle.negotiate.proofs.laws.selected_is_agreed.Goals as goal

pub returns : goal.returns
returns c = choice_is_agreed
