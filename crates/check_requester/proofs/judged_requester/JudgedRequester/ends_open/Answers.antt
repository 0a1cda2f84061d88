use Rattle.std.proofs.Common.{◌≡◌, ◌∙◌, ◌+◌, ℕ, Bool, ap, refl, subst}
use Rattle.spdm_grammar.specs.Message.{ExchangeMessage, exchange_message}
use Rattle.check_requester.proofs.AskedBy.{bare_kept, none_kept}
use Rattle.check_requester.proofs.LargeEnded.{asked_own, counted, ended_by, first_out, h, no_exchange, not_ended}
use Rattle.check_requester.proofs.OwedTook.{kept_few}
use Rattle.check_requester.proofs.CarriedBy.{keeps_carries}
use Rattle.check_requester.proofs.judged_requester.JudgedRequester.ends_open.Goals as goal
use Rattle.check_requester.specs.LargeAsked.{IsCarried, IsOpenedLarge}
use Rattle.check_laws.proofs.Large.SendingReasons.{none_before}
use Rattle.check_laws.specs.Large.Sending.{number_of}
use Rattle.requester_machine.specs.History.{History, next_handle}
use Rattle.spdm_grammar.specs.Message.{RequestMessage}

pub returns-in_default : goal.returns-in_default
returns-in_default c = λ w q older earlier s own keeps few stand last due number rests asker.
    no_exchange w q older s own c.args.whole.now stand last due c.args.self.now asker (none_kept q s.before c.args.self.now asker rests) c.args.self.now c.in_default.ensures

pub returns-then-not-opens_large : goal.returns-then-not-opens_large
returns-then-not-opens_large c = λ w q older earlier s own keeps few stand last due number rests asker.
    let x : ExchangeMessage = exchange_message c.in-Some.exchange in
    let opened = c.opens_large.ensures q s.before.requester asker.kept (kept_few w q earlier s.before (keeps_carries w q earlier s.before keeps) few) (none_before s.before own.begins.0 own.begins.1) (bare_kept q s.before c.args.self.now asker rests) in
    not_ended w q older s own c.args.whole.now stand last due c.args.self.now asker (none_kept q s.before c.args.self.now asker rests) x c.in-Some.ensures c.args.self.now c.opens_large.new.asking c.opens_large.new.room
    (subst (λ (b : Bool). IsOpenedLarge q s.before.requester x b c.opens_large.new.asking c.opens_large.new.room) c.if-not-opens_large.true opened)

pub returns : goal.returns
returns c = λ w q older earlier s own keeps few stand last due number rests asker.
    let x : ExchangeMessage = exchange_message c.in-Some.exchange in
    let none = none_kept q s.before c.args.self.now asker rests in
    let told = c.opens_large.ensures q s.before.requester asker.kept (kept_few w q earlier s.before (keeps_carries w q earlier s.before keeps) few) (none_before s.before own.begins.0 own.begins.1) (bare_kept q s.before c.args.self.now asker rests) in
    let opened = subst (λ (b : Bool). IsOpenedLarge q s.before.requester x b c.opens_large.new.asking c.opens_large.new.room) c.if-not-opens_large.false told in
    let hist : History = h w q older s own c.args.whole.now stand last due c.args.self.now asker none x c.in-Some.ensures c.opens_large.new.asking c.opens_large.new.room opened in
    let asked : RequestMessage = asked_own w q older s own c.args.whole.now stand last due c.args.self.now asker none x c.in-Some.ensures c.opens_large.new.asking c.opens_large.new.room opened in
    let first = first_out w q older s own c.args.whole.now stand last due c.args.self.now asker none x c.in-Some.ensures c.opens_large.new.asking c.opens_large.new.room opened in
    let count = counted w q older s own c.args.whole.now stand last due c.args.self.now asker (c.from-count.result + 1) c.args.number number (ap (λ (n : ℕ). n + 1) c.from-count.ensures) in
    let carried = c.carries.ensures q hist asked (next_handle s.before.requester) first count in
    let many : c.from-count.result + 1 ≡ number_of s + 1 = ap (λ (n : ℕ). n + 1) (c.from-count.ensures ∙ number) in
    ended_by w q older s own c.args.whole.now stand last due c.args.self.now asker none x c.in-Some.ensures c.opens_large.new.asking c.opens_large.new.room opened c.carries.result
    (record c.args.self.now { asking = c.carries.new.asking; room = c.carries.new.room }) refl rests
    (subst (λ (n : ℕ). IsCarried q hist asked (next_handle s.before.requester) c.args.whole.now n c.carries.result c.carries.new.asking) many carried)
