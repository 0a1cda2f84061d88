use Rattle.check_fetched_ends.proofs.MarkedOn.{asked_marked}
use Rattle.check_fetched_ends.proofs.marked.MarkedEnds.asks.Goals as goal

pub returns-clause-told : goal.returns-clause-told
returns-clause-told c = λ w q older rows packet route at few fits tag round none stands table.
    asked_marked w q older rows packet route c.args.body.now c.asks.result c.asks.new.self c.args.self.now.marks c.asks.new.table at stands.1 (c.asks.ensures.told w q older rows packet route at few fits tag round none stands.0 table)
