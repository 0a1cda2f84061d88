use Rattle.std.proofs.Common.{Option, subst, sym}
use Rattle.check_ends.proofs.conversation.Conversation.asks_largely.Goals as goal
use Rattle.check_ends.specs.Conversation.{StandsAs}
use Rattle.check_laws.specs.declared.sending_large.large_request.LargeRequest.{LargeRequest}

pub returns-in-Ok-clause-told : goal.returns-in-Ok-clause-told
returns-in-Ok-clause-told c = λ w q older rows packet route at few fits tag round none stands table.
    c.in-Ok.ensures.told w q older rows packet route at few fits tag round none (subst (λ (o : Option LargeRequest). StandsAs c.args.self.now.party o w q older rows) (sym c.take-large.ensures.value) stands) table

pub returns-in-Err-clause-told : goal.returns-in-Err-clause-told
returns-in-Err-clause-told c = λ w q older rows packet route at few fits tag round none stands table.
    c.in-Err.ensures.told w q older rows packet route at few fits tag round none (subst (λ (o : Option LargeRequest). StandsAs c.args.self.now.party o w q older rows) (sym c.take-large.ensures.value) stands) table
