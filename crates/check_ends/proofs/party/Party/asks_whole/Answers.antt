use Rattle.std.proofs.Common.{◌∙◌, refl, sym, ap, subst, ℕ, Option, Result}
use Rattle.spdm_grammar.specs.declared.told.why.Why as declared
use Rattle.std.proofs.lemmas.Bool.{false≢true}
use Rattle.check_ends.proofs.InTurn.{asks_in_turn}
use Rattle.check_ends.proofs.PartyAsked.{began, copied, goes_nowhere, refused_by}
use Rattle.check_ends.proofs.party.Party.asks_whole.Goals as goal
use Rattle.check_requester.specs.Asked.{IsJudged}
use Rattle.capture_machine.specs.Capture.{may_begin}
use Rattle.capture_machine.specs.Difference.{is_copy}
use Rattle.capture_machine.specs.Rounds.{Round}

pub returns-then-is_copy-clause-told : goal.returns-then-is_copy-clause-told
returns-then-is_copy-clause-told c = λ w q older rows k route keeps few fits round tag none party table.
    let body = c.args.body.now in
    let copy = ap (λ (o : Option Round). is_copy o route.tag body) (sym round) ∙ ap (λ (n : ℕ). is_copy c.args.round.now n body) tag ∙ sym c.is_copy.ensures ∙ c.if-is_copy.true in
    copied w q older rows k route body (asks_in_turn k route body none) c.args.self.now c.ask.new.self party
    (record {
      stands = λ before after step places. c.ask.ensures.table w _ before after rows step few table places;
      stay = λ before after step places. c.ask.ensures.places before after rows step places;
    }) copy

pub returns-then-not-may_begin-clause-told : goal.returns-then-not-may_begin-clause-told
returns-then-not-may_begin-clause-told c = λ w q older rows k route keeps few fits round tag none party table.
    let body = c.args.body.now in
    let turn = asks_in_turn k route body none in
    let other = ap (λ (o : Option Round). is_copy o route.tag body) (sym round) ∙ ap (λ (n : ℕ). is_copy c.args.round.now n body) tag ∙ sym c.is_copy.ensures ∙ c.if-is_copy.false in
    let never = ap (λ (o : Option Round). may_begin o body) (sym round) ∙ sym c.may_begin.ensures ∙ c.if-not-may_begin.true in
    refused_by w q older rows k route body turn c.args.self.now c.args.table.now c.why.result
    (goes_nowhere w q older rows k route body turn other (λ after may sends. false≢true (sym never ∙ may)))
    (c.why.ensures.why w q older k keeps few party.asker)

pub returns-in-Ok-clause-told : goal.returns-in-Ok-clause-told
returns-in-Ok-clause-told c = λ w q older rows k route keeps few fits round tag none party table.
    let body = c.args.body.now in
    let turn = asks_in_turn k route body none in
    let other = ap (λ (o : Option Round). is_copy o route.tag body) (sym round) ∙ ap (λ (n : ℕ). is_copy c.args.round.now n body) tag ∙ sym c.is_copy.ensures ∙ c.if-is_copy.false in
    let may = ap (λ (o : Option Round). may_begin o body) (sym round) ∙ sym c.may_begin.ensures ∙ c.if-not-may_begin.false in
    let judged = subst (λ (x : Result Unit declared.Why). IsJudged q k body x c.judge.new.self) c.in-Ok.is (c.judge.ensures w q older k keeps few fits party.asker) in
    began w q older rows k route body turn c.args.self.now _ c.ask-in-Ok.new.self c.sent.result judged.0 party refl refl refl other may judged.1 judged.2
    (c.sent.ensures q _ judged.2 refl)
    (record {
      stands = λ before after step places. c.ask-in-Ok.ensures.table w _ before after rows step few table places;
      stay = λ before after step places. c.ask-in-Ok.ensures.places before after rows step places;
    })

pub returns-in-Err-clause-told : goal.returns-in-Err-clause-told
returns-in-Err-clause-told c = λ w q older rows k route keeps few fits round tag none party table.
    let body = c.args.body.now in
    let turn = asks_in_turn k route body none in
    let other = ap (λ (o : Option Round). is_copy o route.tag body) (sym round) ∙ ap (λ (n : ℕ). is_copy c.args.round.now n body) tag ∙ sym c.is_copy.ensures ∙ c.if-is_copy.false in
    let judged = subst (λ (x : Result Unit declared.Why). IsJudged q k body x c.judge.new.self) c.in-Err.is (c.judge.ensures w q older k keeps few fits party.asker) in
    refused_by w q older rows k route body turn c.args.self.now c.args.table.now c.in-Err.why
    (goes_nowhere w q older rows k route body turn other (λ after may sends. judged.0 after sends)) judged.1
