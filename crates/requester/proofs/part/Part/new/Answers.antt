use Rattle.std.proofs.Common.{rules, ◌≡◌, None}
use Rattle.requester.proofs.Limits.{limits}
use Rattle.requester.proofs.part.Part.new.Goals as goal
use Rattle.requester.specs.Config.{config_fault}

pub invariant_of-result : goal.invariant_of-result
invariant_of-result c =
    let none : config_fault c.args.config.now ≡ None = search rules in
    let l = limits c.args.config.now none in
    record { unit_low = l.unit_low; unit_high = l.unit_high; pad_fits = l.pad }
