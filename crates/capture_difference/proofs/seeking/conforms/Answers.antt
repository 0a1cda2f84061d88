use Rattle.std.proofs.Common.{◌++◌, ◌∷◌, [], Result, arith, subst, reverse}
use Rattle.std.proofs.lemmas.List.{length-reverse}
use Rattle.capture_difference.proofs.Conforming.{few_with, kept_before, kept_with, refused_whole, stopped_before, went_on}
use Rattle.capture_difference.proofs.seeking.conforms.Goals as goal
use Rattle.capture_difference.specs.Difference.{IsFollowed}
use Rattle.check_laws.specs.Judged.{why_of}
use Rattle.script_ends.specs.Configured.{configuration_in}
use Rattle.spdm_grammar.specs.declared.told.why.Why as declared
use Rattle.trace_check.specs.Checker.{IsChecker, IsTold}
use Rattle.trace_check.specs.JudgedPair.{IsRefused}
use Rattle.world_machine.specs.Setup.{Configuration}

pub returns-then-not-branch : goal.returns-then-not-branch
returns-then-not-branch c = λ sound few.
    let w : Configuration = configuration_in c.args.config.now in
    let before = c.args.before.now in
    let told : IsFollowed w before c.in_ok-follow.field-0 c.follow.new.checker = c.in_ok-follow.ensures w [] sound (c.in_ok-checker.ensures sound) (omega (arith, few)) in
    stopped_before w before c.args.packet.now c.args.behind.now c.in_ok-follow.field-0 c.follow.new.checker told c.if-not-branch.true

pub returns-in-Err : goal.returns-in-Err
returns-in-Err c = λ sound few.
    let w : Configuration = configuration_in c.args.config.now in
    let before = c.args.before.now in
    let packet = c.args.packet.now in
    let behind = c.args.behind.now in
    let told : IsFollowed w before c.in_ok-follow.field-0 c.follow.new.checker = c.in_ok-follow.ensures w [] sound (c.in_ok-checker.ensures sound) (omega (arith, few)) in
    let kept = kept_before w before packet behind c.in_ok-follow.field-0 c.follow.new.checker told c.if-not-branch.false in
    let turned = length-reverse before in
    let taken : IsTold w (reverse before) packet c.in_ok-take.field-0 c.take.new.self = c.in_ok-take.ensures w (reverse before) sound kept (omega (arith, turned, few)) in
    let refused : IsRefused w (reverse before) packet (why_of c.in-Err.field-0) = subst (λ (x : Result Unit declared.Why). IsTold w (reverse before) packet x c.take.new.self) c.in-Err.is taken in
    refused_whole w before behind packet (why_of c.in-Err.field-0) refused

pub returns : goal.returns
returns c = λ sound few.
    let w : Configuration = configuration_in c.args.config.now in
    let before = c.args.before.now in
    let packet = c.args.packet.now in
    let behind = c.args.behind.now in
    let told : IsFollowed w before c.in_ok-follow.field-0 c.follow.new.checker = c.in_ok-follow.ensures w [] sound (c.in_ok-checker.ensures sound) (omega (arith, few)) in
    let kept = kept_before w before packet behind c.in_ok-follow.field-0 c.follow.new.checker told c.if-not-branch.false in
    let turned = length-reverse before in
    let taken : IsTold w (reverse before) packet c.in_ok-take.field-0 c.take.new.self = c.in_ok-take.ensures w (reverse before) sound kept (omega (arith, turned, few)) in
    let on : IsChecker c.take.new.self w (packet ∷ reverse before) = subst (λ (x : Result Unit declared.Why). IsTold w (reverse before) packet x c.take.new.self) c.in-Ok.is taken in
    went_on w before packet behind c.follow-2.result c.follow-2.new.checker
    (c.follow-2.ensures w (before ++ packet ∷ []) sound (kept_with w before packet behind c.take.new.self on) (few_with w before packet behind few))
