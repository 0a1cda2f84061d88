use Rattle.check_requester.proofs.judged_requester.JudgedRequester.begins_large.Goals as goal

pub returns-then-self-clause-told : goal.returns-then-self-clause-told
returns-then-self-clause-told c = λ w q older k keeps few asker. c.begins_owed.ensures.told w q older k keeps few c.if-self.true asker

pub returns-then-self-clause-kept : goal.returns-then-self-clause-kept
returns-then-self-clause-kept c = λ w q older k keeps few asker. c.begins_owed.ensures.kept w q older k keeps few c.if-self.true asker

pub returns-else-self-clause-told : goal.returns-else-self-clause-told
returns-else-self-clause-told c = λ w q older k keeps few asker. c.begins_open.ensures.told w q older k keeps few c.if-self.false asker

pub returns-else-self-clause-kept : goal.returns-else-self-clause-kept
returns-else-self-clause-kept c = λ w q older k keeps few asker. c.begins_open.ensures.kept w q older k keeps few c.if-self.false asker
