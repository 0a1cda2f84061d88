use Rattle.std.proofs.Common.{◌≡◌, ◌<◌, ◌≤◌, ◌+◌, ◌∙◌, ◌∷◌, ℕ, List, Result, Ok, arith, ap, sym, subst, length, map, reverse, take, get_or}
use Rattle.script_ends.specs.Configured.{configuration_in}
use Rattle.spdm_grammar.specs.declared.told.why.Why as declared
use Rattle.check_laws.specs.Judged.{why_of}
use Rattle.check_laws.specs.Verdict.{seen_of}
use Rattle.check_laws.specs.declared.verdict.Seen.{Seen}
use Rattle.trace_check.proofs.Verdicts.{conforming, differs, one_more, short, take_all}
use Rattle.trace_check.proofs.checking.check.Goals as goal
use Rattle.trace_check.specs.Checker.{IsChecker, IsTold}
use Rattle.trace_check.specs.JudgedPair.{IsRefused}
use Rattle.capture_machine.specs.SessionTable.{HasTable}
use Rattle.world_machine.specs.Setup.{Configuration}

pub loop-packet-preserved : goal.loop-packet-preserved
loop-packet-preserved c = record {
  kept = λ sound most.
      let w : Configuration = configuration_in c.args.capture.now.config in
      let packets = c.args.capture.now.packets in
      let i : ℕ = c.loop-packet.packet-index in
      let items = c.as_slice-packet-items.ensures in
      let packet : List ℕ = c.packet-item.result in
      let few : i < length packets = subst (λ (l : List (List ℕ)). i < length l) items c.loop-packet-test.true in
      let at : packet ≡ get_or packets i packet = c.packet-item.is ∙ ap (λ (l : List (List ℕ)). get_or l i packet) items in
      let older : List (List ℕ) = reverse (take i packets) in
      let is = c.loop-packet.invariant.kept sound most in
      let told : IsTold w older c.as_slice.result.now c.in_ok-take.field-0 c.take.new.self = c.in_ok-take.ensures w older sound is (short packets i few most) in
      let kept : IsChecker c.take.new.self w (c.as_slice.result.now ∷ older) = subst (λ (x : Result Unit declared.Why). IsTold w older c.as_slice.result.now x c.take.new.self) c.in-Ok.is told in
      subst (IsChecker c.take.new.self w) (ap (λ (x : List ℕ). x ∷ older) c.as_slice.ensures ∙ sym (one_more packets i packet few at)) kept;
  counted = λ few.
      let counted = c.loop-packet.invariant.counted (omega (arith, few)) in
      let next = c.saturating_add-number.ensures in
      omega (arith, next, counted, few);
}

pub returns-in-Err : goal.returns-in-Err
returns-in-Err c = λ sound most.
    let w : Configuration = configuration_in c.args.capture.now.config in
    let packets = c.args.capture.now.packets in
    let i : ℕ = c.loop-packet.packet-index in
    let items = c.as_slice-packet-items.ensures in
    let packet : List ℕ = c.packet-item.result in
    let few : i < length packets = subst (λ (l : List (List ℕ)). i < length l) items c.loop-packet-test.true in
    let at : packet ≡ get_or packets i packet = c.packet-item.is ∙ ap (λ (l : List (List ℕ)). get_or l i packet) items in
    let older : List (List ℕ) = reverse (take i packets) in
    let is = c.loop-packet.invariant.kept sound most in
    let told : IsTold w older c.as_slice.result.now c.in_ok-take.field-0 c.take.new.self = c.in_ok-take.ensures w older sound is (short packets i few most) in
    let counted = c.loop-packet.invariant.counted (omega (arith, few, most)) in
    let next = c.saturating_add-number.ensures in
    let count : c.saturating_add-number.result ≡ i + 1 = omega (arith, next, counted, few, most) in
    let refused : IsRefused w older c.as_slice.result.now (why_of c.in-Err.why) = subst (λ (x : Result Unit declared.Why). IsTold w older c.as_slice.result.now x c.take.new.self) c.in-Err.is told in
    differs w packets i c.saturating_add-number.result packet c.loop-packet.checker few at count is (why_of c.in-Err.why) (subst (λ (x : List ℕ). IsRefused w older x (why_of c.in-Err.why)) c.as_slice.ensures refused)

pub returns : goal.returns
returns c = λ sound most.
    let w : Configuration = configuration_in c.args.capture.now.config in
    let packets = c.args.capture.now.packets in
    let i : ℕ = c.loop-packet.packet-index in
    let items = c.as_slice-packet-items.ensures in
    let end : length packets ≤ i = subst (λ (l : List (List ℕ)). length l ≤ i) items c.loop-packet-test.false in
    let is = subst (λ (l : List (List ℕ)). IsChecker c.loop-packet.checker w (reverse l)) (take_all packets i end) (c.loop-packet.invariant.kept sound most) in
    subst (λ (t : List Seen). HasTable w packets (map seen_of t)) (sym c.into_table.ensures) (conforming w packets c.loop-packet.checker is)
