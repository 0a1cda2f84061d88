use Rattle.std.proofs.Common.{sym}
use Rattle.requester_core.proofs.Fetched.{gathered_as, large_gathered}
use Rattle.requester_core.proofs.clear.clear_state.ClearState.on_clear.Goals as goal

pub returns-then-is_large-clause-gathered : goal.returns-then-is_large-clause-gathered
returns-then-is_large-clause-gathered c = λ q h sent request setup stands waits gathers asks short.
    let both = c.on_outstanding-led.ensures q h sent request setup stands waits gathers asks short in
    large_gathered q h sent request c.args.message.now c.on_outstanding-led.result c.args.self.now c.on_outstanding-led.new.self c.on_outstanding-led.new.out c.args.gathered.now c.on_outstanding-led.new.gathered c.clear.new.self both.0 both.1
    (sym c.if-is_large.ensures) c.clear.ensures.max c.clear.ensures.stands

pub returns-else-is_large-clause-gathered : goal.returns-else-is_large-clause-gathered
returns-else-is_large-clause-gathered c = λ q h sent request setup stands waits gathers asks short.
    let both = c.on_outstanding-led.ensures q h sent request setup stands waits gathers asks short in
    gathered_as q h sent request c.args.message.now c.on_outstanding-led.result c.args.self.now c.on_outstanding-led.new.self c.on_outstanding-led.new.out c.args.gathered.now c.on_outstanding-led.new.gathered both.0 both.1 (sym c.if-is_large.ensures)
