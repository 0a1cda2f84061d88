use Rattle.std.proofs.Common.{refl, subst, Result}
use Rattle.spdm_grammar.specs.declared.told.why.Why as declared
use Rattle.check_ends.proofs.PartyAsked.{beside_of, large_or_refused, whole_by}
use Rattle.check_requester.proofs.CarriedBy.{keeps_carries}
use Rattle.check_ends.proofs.party.Party.asks.Goals as goal
use Rattle.check_requester.specs.JudgedRequester.{is_first_chunk}
use Rattle.check_ends.specs.Party.{IsAskedWhole}

pub returns-in-Ok-clause-told : goal.returns-in-Ok-clause-told
returns-in-Ok-clause-told c = λ w q older rows k route keeps few fits round tag none party table.
    subst (λ (x : Result Unit declared.Why). IsAskedWhole w q older rows k route c.args.body.now x c.asks_whole.new.self c.asks_whole.new.table) c.in-Ok.is
    (whole_by w q older rows k route c.args.body.now _ c.args.self.now c.asks_whole.new.self c.asks_whole.new.table party c.asks_whole.ensures.answerer
    (c.asks_whole.ensures.told w q older rows k route (keeps_carries w q older k keeps) few fits round tag none (beside_of c.args.self.now w q k rows party) table))

pub returns-in-Err-clause-told : goal.returns-in-Err-clause-told
returns-in-Err-clause-told c = λ w q older rows k route keeps few fits round tag none party table.
    let told = subst (λ (x : Result Unit declared.Why). IsAskedWhole w q older rows k route c.args.body.now x c.asks_whole.new.self c.asks_whole.new.table) c.in-Err.is
    (whole_by w q older rows k route c.args.body.now _ c.args.self.now c.asks_whole.new.self c.asks_whole.new.table party c.asks_whole.ensures.answerer
    (c.asks_whole.ensures.told w q older rows k route (keeps_carries w q older k keeps) few fits round tag none (beside_of c.args.self.now w q k rows party) table)) in
    large_or_refused w q older rows k route c.args.body.now _ _ c.in-Err.why c.refused.result (is_first_chunk c.args.body.now) refl c.refused.ensures told
