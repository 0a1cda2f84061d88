use Rattle.std.proofs.Common.{◌≡◌, ◌<◌, ◌+◌, ◌∙◌, ℕ, List, [], arith, ap, sym, subst, length, take}
use Rattle.std.proofs.lemmas.List.{length-map}
use Rattle.script_ends.specs.Configured.{requester_in}
use Rattle.trace_check.proofs.NewPairs.{is_sound, more_kept, number_is}
use Rattle.trace_check.proofs.checker.pairs_of.Goals as goal
use Rattle.trace_check.specs.Checker.{AreKept}
use Rattle.trace_check.specs.declared.judged_pair.JudgedPair.{JudgedPair}

pub loop-q-preserved : goal.loop-q-preserved
loop-q-preserved c = record {
  kept = λ w sound end all answering.
      let i : ℕ = c.loop-q.q-index in
      let own : ℕ = c.args.own.number in
      let parts = c.args.requesters.now in
      let less : i < length parts = c.loop-q-test.true in
      let long : length w.requesters ≡ length parts = ap length all ∙ length-map parts (requester_in own) in
      let few : i < length w.requesters = omega (arith, less, long) in
      let most = sound.few in
      let counted = c.loop-q.invariant.counted (omega (arith, few, most)) in
      let next = c.saturating_add-number.ensures in
      let count : c.saturating_add-number.result ≡ i + 1 = omega (arith, next, counted, few, most) in
      let x : JudgedPair = c.in_ok-pair.pair in
      let stands = c.in_ok-pair.ensures w end sound.responder (is_sound w own i parts c.q-item.result sound all few less c.q-item.is) answering (count ∙ number_is w own i parts c.q-item.result sound all few less c.q-item.is) in
      subst (λ (l : List JudgedPair). AreKept l w [] [] (take (i + 1) w.requesters)) (sym {A = List JudgedPair} c.in-Ok-push.ensures.items)
      (more_kept w own i parts c.q-item.result sound all few less c.q-item.is c.loop-q.pairs.items x (c.loop-q.invariant.kept w sound end all answering) stands);
  counted = λ few.
      let counted = c.loop-q.invariant.counted (omega (arith, few)) in
      let next = c.saturating_add-number.ensures in
      omega (arith, next, counted, few);
}
