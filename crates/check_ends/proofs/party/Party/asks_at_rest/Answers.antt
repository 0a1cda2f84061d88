use Rattle.std.proofs.Common.{Option, Result, subst}
use Rattle.spdm_grammar.specs.declared.told.why.Why as declared
use Rattle.check_ends.proofs.BeginsTold.{beginning_on, refused_on, whole_on}
use Rattle.check_ends.proofs.PartyAsked.{beside_of, whole_by}
use Rattle.check_requester.proofs.CarriedBy.{keeps_carries}
use Rattle.check_ends.proofs.party.Party.asks_at_rest.Goals as goal
use Rattle.check_ends.specs.Conversation.{IsBeginning}
use Rattle.check_ends.specs.Party.{IsAskedWhole}
use Rattle.check_laws.specs.declared.sending_large.large_request.LargeRequest.{LargeRequest}

pub returns-in-Some-clause-told : goal.returns-in-Some-clause-told
returns-in-Some-clause-told c = λ w q older rows packet route k at few fits round tag none keeps party table.
    let begun = c.in-Some.ensures.told w q older rows k route few round tag none keeps party in
    beginning_on w q older rows packet route c.args.body.now at k keeps c.copy_is_request.ensures c.round_is_request.ensures c.begins.new.self (c.begins.ensures.kept w q older rows k few keeps party) c.ask.new.self
    (record {
      stands = λ before after step places. c.ask.ensures.table w _ before after rows step few table places;
      stay = λ before after step places. c.ask.ensures.places before after rows step places;
    }) c.in-Some.large begun.0 begun.1 begun.2

pub returns-in-Ok-clause-told : goal.returns-in-Ok-clause-told
returns-in-Ok-clause-told c = λ w q older rows packet route k at few fits round tag none keeps party table.
    let still = c.begins.ensures.kept w q older rows k few keeps party in
    let told = subst (λ (x : Result Unit declared.Why). IsAskedWhole w q older rows k route c.args.body.now x c.asks_whole.new.self c.asks_whole.new.table) c.in-Ok.is
    (whole_by w q older rows k route c.args.body.now _ c.begins.new.self c.asks_whole.new.self c.asks_whole.new.table still c.asks_whole.ensures.answerer
    (c.asks_whole.ensures.told w q older rows k route (keeps_carries w q older k keeps) few fits round tag none (beside_of c.begins.new.self w q k rows still) table)) in
    whole_on w q older rows packet route c.args.body.now at k keeps c.asks_whole.new.self c.asks_whole.new.table told

pub returns-in-Err-clause-told : goal.returns-in-Err-clause-told
returns-in-Err-clause-told c = λ w q older rows packet route k at few fits round tag none keeps party table.
    let still = c.begins.ensures.kept w q older rows k few keeps party in
    let begun = subst (λ (o : Option LargeRequest). IsBeginning k route c.args.body.now o) c.in_default.is (c.begins.ensures.told w q older rows k route few round tag none keeps party) in
    let told = subst (λ (x : Result Unit declared.Why). IsAskedWhole w q older rows k route c.args.body.now x c.asks_whole.new.self c.asks_whole.new.table) c.in-Err.is
    (whole_by w q older rows k route c.args.body.now _ c.begins.new.self c.asks_whole.new.self c.asks_whole.new.table still c.asks_whole.ensures.answerer
    (c.asks_whole.ensures.told w q older rows k route (keeps_carries w q older k keeps) few fits round tag none (beside_of c.begins.new.self w q k rows still) table)) in
    refused_on w q older rows packet route c.args.body.now at k keeps c.asks_whole.new.self c.asks_whole.new.table c.in-Err.why begun told
