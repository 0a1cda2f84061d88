use Rattle.std.proofs.Common.{◌≡◌, ◌≤◌, ◌+◌, ◌∙◌, ℕ, Some, refl, sym, ap, arith}
use Rattle.negotiate.specs.declared.shared.Common.{Common}
use Rattle.check_fetched_ends.proofs.clear_fetch.late_begins.held_again.Goals.{then-max-gt-MOST_BYTES, else-max-gt-MOST_BYTES}
use Rattle.check_fetched_ends.proofs.clear_fetch.late_begins.held_again.Goals as goal

pub returns : goal.returns
returns c = λ r h stands asked given.
    let common = c.common-common.ensures r h stands in
    let transfer = ap (λ (x : Common). x.to_requester.transfer) common in
    let max = ap (λ (x : Common). x.to_requester.max) common in
    record {
      other = c.other_tag.ensures;
      request = c.frame_of.ensures asked;
      reply_is = c.frame_of-2.ensures given;
      newest = c.keep.ensures asked given;
      transfer = sym transfer;
      least = ap (λ (n : ℕ). n + 1) transfer;
      short = elim c.if-max-gt-MOST_BYTES.branch [ then-max-gt-MOST_BYTES w ↦ omega (arith, max, w.if-max-gt-MOST_BYTES, w.result-is) | else-max-gt-MOST_BYTES w ↦ omega (arith, max, w.if-max-gt-MOST_BYTES, w.result-is) ];
      few = elim c.if-max-gt-MOST_BYTES.branch [ then-max-gt-MOST_BYTES w ↦ omega (arith, w.if-max-gt-MOST_BYTES, w.result-is) | else-max-gt-MOST_BYTES w ↦ omega (arith, w.if-max-gt-MOST_BYTES, w.result-is) ];
      full = λ n at most. elim c.if-max-gt-MOST_BYTES.branch [ then-max-gt-MOST_BYTES w ↦ omega (arith, max, at, most, w.if-max-gt-MOST_BYTES, w.result-is) | else-max-gt-MOST_BYTES w ↦ omega (arith, max, at, most, w.if-max-gt-MOST_BYTES, w.result-is) ];
      late = ap Some c.copy.ensures;
      answer = c.new.ensures;
    }
