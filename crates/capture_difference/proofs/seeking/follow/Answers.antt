use Rattle.std.proofs.Common.{◌≡◌, ◌<◌, ◌+◌, ◌∙◌, ◌++◌, ◌∷◌, ℕ, List, Result, ap, subst, sym, append-nil, length, reverse, take, drop, get_or}
use Rattle.std.proofs.lemmas.List.{take_all}
use Rattle.capture_difference.proofs.Conforming.{behind_more, cut_at, refused_whole, short_behind}
use Rattle.capture_difference.proofs.seeking.follow.Goals as goal
use Rattle.capture_machine.specs.Capture.{Conforms}
use Rattle.check_laws.specs.Judged.{why_of}
use Rattle.spdm_grammar.specs.declared.told.why.Why as declared
use Rattle.trace_check.specs.Checker.{IsChecker, IsTold}
use Rattle.trace_check.specs.JudgedPair.{IsRefused}

pub loop-packet-init : goal.loop-packet-init
loop-packet-init c = λ w before sound is few. subst (λ (l : List (List ℕ)). IsChecker c.args.checker.now w (reverse l)) (sym (append-nil before)) is

pub loop-packet-preserved : goal.loop-packet-preserved
loop-packet-preserved c = λ w before sound kept few.
    let packets = c.args.packets.now in
    let i : ℕ = c.loop-packet.packet-index in
    let packet : List ℕ = c.packet-item.result in
    let inside : i < length packets = c.loop-packet-test.true in
    let at : packet ≡ get_or packets i packet = c.packet-item.is in
    let older : List (List ℕ) = reverse (before ++ take i packets) in
    let is = c.loop-packet.invariant w before sound kept few in
    let told : IsTold w older c.as_slice.result.now c.in_ok-take.field-0 c.take.new.self = c.in_ok-take.ensures w older sound is (short_behind before packets i inside few) in
    let on : IsChecker c.take.new.self w (c.as_slice.result.now ∷ older) = subst (λ (x : Result Unit declared.Why). IsTold w older c.as_slice.result.now x c.take.new.self) c.in-Ok.is told in
    subst (IsChecker c.take.new.self w) (ap (λ (x : List ℕ). x ∷ older) c.as_slice.ensures ∙ sym (behind_more before packets i packet inside at)) on

pub returns-in-Err : goal.returns-in-Err
returns-in-Err c = λ w before sound kept few.
    let packets = c.args.packets.now in
    let i : ℕ = c.loop-packet.packet-index in
    let packet : List ℕ = c.packet-item.result in
    let inside : i < length packets = c.loop-packet-test.true in
    let at : packet ≡ get_or packets i packet = c.packet-item.is in
    let older : List (List ℕ) = reverse (before ++ take i packets) in
    let is = c.loop-packet.invariant w before sound kept few in
    let told : IsTold w older c.as_slice.result.now c.in_ok-take.field-0 c.take.new.self = c.in_ok-take.ensures w older sound is (short_behind before packets i inside few) in
    let refused : IsRefused w older c.as_slice.result.now (why_of c.in-Err.field-0) = subst (λ (x : Result Unit declared.Why). IsTold w older c.as_slice.result.now x c.take.new.self) c.in-Err.is told in
    let these : IsRefused w older packet (why_of c.in-Err.field-0) = subst (λ (x : List ℕ). IsRefused w older x (why_of c.in-Err.field-0)) c.as_slice.ensures refused in
    λ whole. refused_whole w (before ++ take i packets) (drop (i + 1) packets) packet (why_of c.in-Err.field-0) these (subst (Conforms w) (cut_at before packets i packet inside at) whole)

pub returns : goal.returns
returns c = λ w before sound kept few.
    subst (λ (l : List (List ℕ)). IsChecker c.loop-packet.checker w (reverse (before ++ l))) (take_all c.loop-packet.packet-index c.args.packets.now c.loop-packet-test.false)
    (c.loop-packet.invariant w before sound kept few)
