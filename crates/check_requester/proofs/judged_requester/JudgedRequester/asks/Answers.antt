use Rattle.std.proofs.Common.{◌∙◌, Bool, Option, subst, refl, sym}
use Rattle.requester_core.specs.Joined.{StandsFor}
use Rattle.requester_machine.specs.Message.{Sent}
use Rattle.check_requester.proofs.AskedBy.{bare_kept, command_asks, none_kept, none_waits, owed_asks, owed_busy, version_asks, waits_busy}
use Rattle.check_requester.proofs.GoneOn.{some_of}
use Rattle.check_requester.proofs.OwedTook.{kept_few, owed_took}
use Rattle.check_requester.proofs.judged_requester.JudgedRequester.asks.Goals as goal
use Rattle.check_requester.specs.JudgedRequester.{IsGoneOn}
use Rattle.check_laws.specs.Keeping.{owing}

pub returns-then-goes_on : goal.returns-then-goes_on
returns-then-goes_on c = λ w q older k keeps few fits asker.
    owed_asks q k c.args.body.now c.goes_on.new.self (subst (λ (b : Bool). IsGoneOn q k c.args.body.now b c.goes_on.new.self) c.if-goes_on.true (c.goes_on.ensures w q older k keeps few fits asker))

pub returns-then-self : goal.returns-then-self
returns-then-self c = λ w q older k keeps few fits asker.
    let gone = subst (λ (b : Bool). IsGoneOn q k c.args.body.now b c.goes_on.new.self) c.if-goes_on.false (c.goes_on.ensures w q older k keeps few fits asker) in
    let some = some_of k.owed (sym gone.1.owes ∙ c.if-self.true) in
    let stands = subst (λ (o : Option Sent). StandsFor c.goes_on.new.self.asking q (owing o k.requester)) some.1 gone.1.stands in
    version_asks q k c.args.body.now c.goes_on.new.self _ gone.1 refl refl gone.0 (owed_busy k some.0 some.1) c.connects_instead.result
    (c.connects_instead.ensures q k.requester some.0 gone.1.kept.limits (owed_took w q older k some.0 keeps some.1) stands)

pub returns-then-write_outstanding : goal.returns-then-write_outstanding
returns-then-write_outstanding c = λ w q older k keeps few fits asker.
    let gone = subst (λ (b : Bool). IsGoneOn q k c.args.body.now b c.goes_on.new.self) c.if-goes_on.false (c.goes_on.ensures w q older k keeps few fits asker) in
    let short = kept_few w q older k keeps few in
    let stands = bare_kept q k c.goes_on.new.self gone.1 c.if-self.false in
    let waits = sym (c.write_outstanding.ensures.waits q k.requester gone.1.kept short stands) ∙ c.if-write_outstanding.true in
    version_asks q k c.args.body.now c.goes_on.new.self _ gone.1 refl c.if-self.false gone.0 (waits_busy k waits) c.connects.result
    (c.connects.ensures q k.requester gone.1.kept short (c.write_outstanding.ensures.stands q k.requester gone.1.kept short stands))

pub returns : goal.returns
returns c = λ w q older k keeps few fits asker.
    let gone = subst (λ (b : Bool). IsGoneOn q k c.args.body.now b c.goes_on.new.self) c.if-goes_on.false (c.goes_on.ensures w q older k keeps few fits asker) in
    let short = kept_few w q older k keeps few in
    let stands = bare_kept q k c.goes_on.new.self gone.1 c.if-self.false in
    let none = none_waits k (sym (c.write_outstanding.ensures.waits q k.requester gone.1.kept short stands) ∙ c.if-write_outstanding.false) in
    command_asks q k c.args.body.now c.goes_on.new.self _ gone.1 refl c.if-self.false gone.0 (none_kept q k c.goes_on.new.self gone.1 c.if-self.false) none c.sends_command.result
    (c.sends_command.ensures q k.requester gone.1.kept short fits none (c.write_outstanding.ensures.stands q k.requester gone.1.kept short stands))
