use Rattle.std.proofs.Common.{◌≡◌, ◌∙◌, ◌+◌, ℕ, Option, Some, ap, false, refl, subst, sym}
use Rattle.requester_core.specs.Joined.{StandsFor}
use Rattle.requester_machine.specs.History.{next_handle}
use Rattle.requester_machine.specs.Message.{Sent}
use Rattle.requester_machine.specs.Owed.{with_next}
use Rattle.check_requester.proofs.FinishApart.{long_with}
use Rattle.check_requester.proofs.GoneOn.{some_of}
use Rattle.check_requester.proofs.OwedEnded.{H, a, owed_count, owed_ended, owed_out}
use Rattle.check_requester.proofs.OwedSent.{out_owed}
use Rattle.check_requester.proofs.OwedTook.{kept_few, owed_took}
use Rattle.check_requester.proofs.CarriedBy.{keeps_carries}
use Rattle.check_requester.proofs.judged_requester.JudgedRequester.ends_large.Goals as goal
use Rattle.check_requester.specs.LargeAsked.{IsCarried}
use Rattle.check_laws.specs.Keeping.{owing}
use Rattle.check_laws.specs.Large.Sending.{number_of}

pub returns-then-not-self : goal.returns-then-not-self
returns-then-not-self c = λ w q older earlier s own keeps few stand last due number asker. c.ends_open.ensures w q older earlier s own keeps few stand last due number c.if-not-self.true asker

pub returns : goal.returns
returns c = λ w q older earlier s own keeps few stand last due number asker.
    let some = some_of s.before.owed (sym asker.owes ∙ c.if-not-self.false) in
    let sent : Sent = some.0 in
    let took = owed_took w q earlier s.before sent (keeps_carries w q earlier s.before keeps) some.1 in
    let stands = subst (λ (o : Option Sent). StandsFor c.args.self.now.asking q (owing o s.before.requester)) some.1 asker.stands in
    let long = long_with s.before.requester sent (kept_few w q earlier s.before (keeps_carries w q earlier s.before keeps) few) in
    let still = c.write_outstanding.ensures.stands q (with_next (Some sent) s.before.requester) asker.kept long stands in
    let room = c.write_outstanding.ensures.room q (with_next (Some sent) s.before.requester) sent asker.kept long stands (out_owed s.before.requester sent took) in
    let hist = H w q older earlier s own keeps c.args.whole.now stand last due c.args.self.now asker sent some.1 took in
    let asked = a w q older earlier s own keeps c.args.whole.now stand last due c.args.self.now asker sent some.1 took in
    let first = owed_out w q older earlier s own keeps c.args.whole.now stand last due c.args.self.now asker sent some.1 took c.write_outstanding.new.asking c.write_outstanding.new.room still room in
    let count = owed_count w q older earlier s own keeps c.args.whole.now stand last due c.args.self.now asker sent some.1 took (c.from-count.result + 1) c.args.number number (ap (λ (n : ℕ). n + 1) c.from-count.ensures) in
    let carried = c.carries.ensures q hist asked (next_handle s.before.requester) first count in
    let many : c.from-count.result + 1 ≡ number_of s + 1 = ap (λ (n : ℕ). n + 1) (c.from-count.ensures ∙ number) in
    owed_ended w q older earlier s own keeps c.args.whole.now stand last due c.args.self.now asker sent some.1 took c.carries.result
    (record c.args.self.now { asking = c.carries.new.asking; room = c.carries.new.room; owes = false }) refl refl
    (subst (λ (n : ℕ). IsCarried q hist asked (next_handle s.before.requester) c.args.whole.now n c.carries.result c.carries.new.asking) many carried)
