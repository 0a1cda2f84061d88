use Rattle.std.proofs.Common.{◌∙◌, sym, true, false}
use Rattle.psk_session.proofs.Past.{keeps_taken}
use Rattle.psk_session.proofs.kept.Kept.count.Goals as goal

pub returns-then-had_data : goal.returns-then-had_data
returns-then-had_data c = λ psk s epoch sealed inner effect keeps opens updated brings few.
    keeps_taken true sealed inner effect c.args.self.now _ psk s epoch
    (λ i. record c.args.self.now { response_next = c.saturating_add-self.ensures i; taken = c.saturating_add-self-then-had_data.ensures i })
    keeps opens updated (sym c.if-had_data.true ∙ brings) few

pub returns-else-had_data : goal.returns-else-had_data
returns-else-had_data c = λ psk s epoch sealed inner effect keeps opens updated brings few.
    keeps_taken false sealed inner effect c.args.self.now _ psk s epoch
    (λ i. record c.args.self.now { response_next = c.saturating_add-self.ensures i })
    keeps opens updated (sym c.if-had_data.false ∙ brings) few
