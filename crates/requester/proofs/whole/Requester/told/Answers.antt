use Rattle.requester.proofs.whole.Requester.told.Goals as goal

pub returns : goal.returns
returns c = λ a stands. c.told.ensures a.setup a.history stands.asking
