use Rattle.std.proofs.Common.{◌∙◌, sym}
use Rattle.check_ends.proofs.PlainlyAsked.{none_sent}
use Rattle.check_ends.proofs.conversation.Conversation.asks.Goals as goal

pub returns-clause-told : goal.returns-clause-told
returns-clause-told c = λ w q older rows packet route at few fits tag round none stands table.
    let rest = none_sent c.args.self.now.large (sym c.is_some.ensures ∙ c.if-is_some.false) in
    c.asks_plainly.ensures.told w q older rows packet route at few fits tag round none (sym c.is_first_chunk.ensures ∙ c.if-is_first_chunk.false) rest stands table
