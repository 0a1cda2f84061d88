use Rattle.std.proofs.Common.{◌≤◌, ℕ, List, length, subst, sym}
use Rattle.responder.proofs.Limits.{limits}
use Rattle.responder.proofs.part.Part.new.Goals as goal

pub invariant_of-result : goal.invariant_of-result
invariant_of-result c =
    let l = limits c.args.config.now c.in_ok-inventory.ensures.sound in
    record {
      unit_low = l.unit_low;
      unit_high = l.unit_high;
      opaque_fits = subst (λ (bytes : List ℕ). length bytes ≤ 1024) (sym c.in-Ok.ensures) l.opaque;
    }
