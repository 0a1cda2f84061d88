use Rattle.std.proofs.Common.{ℕ, arith, subst}
use Rattle.capture_difference.proofs.Trying.{first_found, none_more}
use Rattle.capture_difference.proofs.seeking.seek.Goals as goal
use Rattle.capture_difference.specs.Difference.{IsTried}
use Rattle.script_ends.specs.Configured.{configuration_in}
use Rattle.world_machine.specs.Setup.{Configuration}

pub loop-number-init : goal.loop-number-init
loop-number-init c = λ sound few m less. absurd (omega (arith, less))

pub loop-number-preserved : goal.loop-number-preserved
loop-number-preserved c = λ sound few.
    let w : Configuration = configuration_in c.args.config.now in
    let n : ℕ = c.loop-number.number in
    let tried : IsTried w c.args.before.now c.args.packet.now c.args.behind.now n c.in_ok-byte.field-0 = c.in_ok-byte.ensures sound few in
    none_more w c.args.before.now c.args.packet.now c.args.behind.now n (c.loop-number.invariant sound few)
    (subst (IsTried w c.args.before.now c.args.packet.now c.args.behind.now n) c.in-None.is tried)

pub returns-in-Some : goal.returns-in-Some
returns-in-Some c = λ sound few.
    let w : Configuration = configuration_in c.args.config.now in
    let n : ℕ = c.loop-number.number in
    let tried : IsTried w c.args.before.now c.args.packet.now c.args.behind.now n c.in_ok-byte.field-0 = c.in_ok-byte.ensures sound few in
    first_found w c.args.before.now c.args.packet.now c.args.behind.now c.args.most n c.in-Some.byte c.loop-number-test.true (c.loop-number.invariant sound few)
    (subst (IsTried w c.args.before.now c.args.packet.now c.args.behind.now n) c.in-Some.is tried)

pub returns : goal.returns
returns c = λ sound few m less. c.loop-number.invariant sound few m (omega (arith, less, c.loop-number-test.false))
