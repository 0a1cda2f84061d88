use Rattle.std.proofs.Common.{◌∙◌, ℕ, Option, ap, sym}
use Rattle.check_ends.proofs.InTurn.{asks_in_turn}
use Rattle.check_ends.proofs.SendingTold.{asker_before, copied, few_earlier, refused_early}
use Rattle.check_requester.proofs.CarriedBy.{keeps_carries}
use Rattle.check_ends.proofs.party.Party.asks_meanwhile.Goals as goal
use Rattle.check_ends.specs.Conversation.{meanwhile}
use Rattle.capture_machine.specs.Capture.{may_begin}
use Rattle.capture_machine.specs.Difference.{is_copy}
use Rattle.capture_machine.specs.Rounds.{Round}

pub returns-then-is_copy-clause-told : goal.returns-then-is_copy-clause-told
returns-then-is_copy-clause-told c = λ w q older rows packet route s at few now tag none way table.
    let body = c.args.body.now in
    let copy = ap (λ (o : Option Round). is_copy o route.tag body) (sym now) ∙ ap (λ (n : ℕ). is_copy c.args.round.now n body) tag ∙ sym c.is_copy.ensures ∙ c.if-is_copy.true in
    copied c.copy_is_request.ensures c.round_is_request.ensures w q older rows packet route body at s c.args.self.now c.args.large way (asks_in_turn (meanwhile s) route body none) c.ask.new.self
    (record {
      stands = λ before after step places. c.ask.ensures.table w _ before after rows step few table places;
      stay = λ before after step places. c.ask.ensures.places before after rows step places;
    }) copy

pub returns-then-not-may_begin-clause-told : goal.returns-then-not-may_begin-clause-told
returns-then-not-may_begin-clause-told c = λ w q older rows packet route s at few now tag none way table.
    let body = c.args.body.now in
    let asker = asker_before c.args.self.now.asker q s way.kept.asker in
    let other = ap (λ (o : Option Round). is_copy o route.tag body) (sym now) ∙ ap (λ (n : ℕ). is_copy c.args.round.now n body) tag ∙ sym c.is_copy.ensures ∙ c.if-is_copy.false in
    let never = ap (λ (o : Option Round). may_begin o body) (sym now) ∙ sym c.may_begin.ensures ∙ c.if-not-may_begin.true in
    refused_early w q older rows packet route body at s way.sending asker.kept.limits (asks_in_turn (meanwhile s) route body none) other c.args.self.now c.args.table.now c.why_other.result
    (c.why_other.ensures.why w q way.earlier s.before (keeps_carries w q way.earlier s.before way.before) (few_earlier c.args.self.now c.args.large w q older rows s way few) asker) never

pub returns-clause-told : goal.returns-clause-told
returns-clause-told c = λ w q older rows packet route s at few now tag none way table.
    let body = c.args.body.now in
    let other = ap (λ (o : Option Round). is_copy o route.tag body) (sym now) ∙ ap (λ (n : ℕ). is_copy c.args.round.now n body) tag ∙ sym c.is_copy.ensures ∙ c.if-is_copy.false in
    let may = ap (λ (o : Option Round). may_begin o body) (sym now) ∙ sym c.may_begin.ensures ∙ c.if-not-may_begin.false in
    c.asks_onward.ensures.told w q older rows packet route s at few none other may way table
