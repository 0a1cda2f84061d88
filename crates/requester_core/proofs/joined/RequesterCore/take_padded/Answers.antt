use Rattle.requester_core.proofs.OwedSessions.{telling, telling_last, upon, upon_last}
use Rattle.requester_core.proofs.OwedTalk.{is_repadded}
use Rattle.requester_core.proofs.joined.RequesterCore.take_padded.Goals as goal

pub returns-clause-repadded : goal.returns-clause-repadded
returns-clause-repadded c = λ q bare sent id ask took aims stands.
    is_repadded c.args.self.now c.take_padded.new.self q bare (upon bare) id ask sent c.args.sealed.now c.take_padded.result (upon_last bare id ask took) stands (c.take_padded.ensures.repadded q bare sent id ask took aims stands.sessions)

pub returns-clause-retold : goal.returns-clause-retold
returns-clause-retold c = λ q older command d sent id ask is aims stands.
    is_repadded c.args.self.now c.take_padded.new.self q older (telling older command d) id ask sent c.args.sealed.now c.take_padded.result (telling_last older command d id ask is) stands
    (c.take_padded.ensures.retold q older command d sent id ask is aims stands.sessions)
