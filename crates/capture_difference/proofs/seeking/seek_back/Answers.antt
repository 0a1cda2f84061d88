use Rattle.std.proofs.Common.{◌-◌, ℕ, arith, subst, length}
use Rattle.capture_difference.proofs.Trying.{found_first, one_passed}
use Rattle.capture_difference.proofs.seeking.seek_back.Goals as goal
use Rattle.capture_difference.specs.Difference.{IsFoundAt}
use Rattle.script_ends.specs.Configured.{configuration_in}
use Rattle.world_machine.specs.Setup.{Configuration}

pub loop-passed-init : goal.loop-passed-init
loop-passed-init c = λ sound few j least most. absurd (omega (arith, least, most))

pub loop-passed-preserved : goal.loop-passed-preserved
loop-passed-preserved c = λ sound few.
    let w : Configuration = configuration_in c.args.config.now in
    let packets = c.args.packets.now in
    let passed : ℕ = c.loop-passed.passed in
    let place : ℕ = length packets - 1 - passed in
    let found : IsFoundAt w packets place c.in_ok-byte.field-0 = c.in_ok-byte.ensures sound few in
    one_passed w packets passed place (omega (arith, c.loop-passed-test.true)) (c.loop-passed.invariant sound few) (subst (IsFoundAt w packets place) c.in-None.is found)

pub returns-in-Some : goal.returns-in-Some
returns-in-Some c = λ sound few.
    let w : Configuration = configuration_in c.args.config.now in
    let packets = c.args.packets.now in
    let passed : ℕ = c.loop-passed.passed in
    let place : ℕ = length packets - 1 - passed in
    let found : IsFoundAt w packets place c.in_ok-byte.field-0 = c.in_ok-byte.ensures sound few in
    found_first w packets passed place c.in-Some.byte (omega (arith, c.loop-passed-test.true)) (c.loop-passed.invariant sound few) (subst (IsFoundAt w packets place) c.in-Some.is found)

pub returns : goal.returns
returns c = λ sound few place inside. c.loop-passed.invariant sound few place (omega (arith, c.loop-passed-test.false)) inside
