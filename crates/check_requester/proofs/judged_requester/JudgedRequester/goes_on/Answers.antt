use Rattle.std.proofs.Common.{◌≡◌, Bool, subst, refl, true, false}
use Rattle.check_requester.proofs.GoneOn.{gone_on_by}
use Rattle.check_requester.proofs.judged_requester.JudgedRequester.goes_on.Goals as goal
use Rattle.check_requester.specs.JudgedRequester.{IsSentOwed}

pub returns-then-not-sends_owed : goal.returns-then-not-sends_owed
returns-then-not-sends_owed c = λ w q older k keeps few fits asker.
    let told : c.sends_owed.result ≡ false = c.if-not-sends_owed.true in
    gone_on_by w q older k c.args.body.now c.args.self.now _ false keeps few fits asker c.if-not-self.false refl c.if-not-self.false
    (λ p bare sent kept took short long stands. subst (λ (b : Bool). IsSentOwed p bare sent c.args.body.now b c.sends_owed.new.asking) told (c.sends_owed.ensures p bare sent kept took short long stands))

pub returns : goal.returns
returns c = λ w q older k keeps few fits asker.
    let told : c.sends_owed.result ≡ true = c.if-not-sends_owed.false in
    gone_on_by w q older k c.args.body.now c.args.self.now _ true keeps few fits asker c.if-not-self.false refl refl
    (λ p bare sent kept took short long stands. subst (λ (b : Bool). IsSentOwed p bare sent c.args.body.now b c.sends_owed.new.asking) told (c.sends_owed.ensures p bare sent kept took short long stands))
