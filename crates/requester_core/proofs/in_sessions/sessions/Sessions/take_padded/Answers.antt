use Rattle.requester_core.proofs.OwedSessions.{repadded, telling, telling_last, upon, upon_last}
use Rattle.requester_core.proofs.in_sessions.sessions.Sessions.take_padded.Goals as goal

pub returns-clause-repadded : goal.returns-clause-repadded
returns-clause-repadded c = λ q bare sent id ask took aims stands.
    repadded c.args.self.now c.take_padded_at.new.self q bare (upon bare) id ask sent c.args.sealed.now c.take_padded_at.result (upon_last bare id ask took) aims stands c.take_padded_at.ensures.own c.take_padded_at.ensures.others c.take_padded_at.ensures.id

pub returns-clause-retold : goal.returns-clause-retold
returns-clause-retold c = λ q older command d sent id ask is aims stands.
    repadded c.args.self.now c.take_padded_at.new.self q older (telling older command d) id ask sent c.args.sealed.now c.take_padded_at.result (telling_last older command d id ask is) aims stands c.take_padded_at.ensures.own c.take_padded_at.ensures.others
    c.take_padded_at.ensures.id
