use Rattle.std.proofs.Common.{rules, [], ◌∷◌, OnErr, Ok, Err}
use Rattle.byteorder.specs.Endian.{little_bytes}
use Rattle.boot_keeper.specs.Device.{TakesBytes, TearsBytes, TakesSome}
use Rattle.boot_keeper.specs.Slots.{three_writes, gate_of, place_of}
use Rattle.boot_keeper.proofs.Tears.{torn_number, torn_gate}
use Rattle.boot_keeper.proofs.boots.renew.Goals as goal

pub returns-in_err-write-2-clause-tears : goal.returns-in_err-write-2-clause-tears
returns-in_err-write-2-clause-tears g c =
    let held = g.P.Keeper.contents in
    let closed : TakesBytes (held c.args.keeper.now) (gate_of c.args.slot) (0 ∷ []) (held c.write.new.self) = search rules in
    let torn : TearsBytes (held c.write.new.self) (place_of c.args.slot) 8 (held c.write-2.new.self) = search rules in
    let left = torn_number (held c.args.keeper.now) (held c.write.new.self) (held c.write-2.new.self) c.args.slot c.args.number closed torn in
    elim c.from_residual-in_err-write-2.result as (λ r. OnErr r (TakesSome (held c.args.keeper.now) (three_writes c.args.slot c.args.number) (held c.write-2.new.self))) [ Ok _ ↦ tt | Err _ ↦ left ]

pub returns-in_err-write-3-clause-tears : goal.returns-in_err-write-3-clause-tears
returns-in_err-write-3-clause-tears g c =
    let held = g.P.Keeper.contents in
    let closed : TakesBytes (held c.args.keeper.now) (gate_of c.args.slot) (0 ∷ []) (held c.write.new.self) = search rules in
    let numbered : TakesBytes (held c.write.new.self) (place_of c.args.slot) (little_bytes 8 c.args.number) (held c.write-2.new.self) = search rules in
    let torn : TearsBytes (held c.write-2.new.self) (gate_of c.args.slot) 1 (held c.write-3.new.self) = search rules in
    let left = torn_gate (held c.args.keeper.now) (held c.write.new.self) (held c.write-2.new.self) (held c.write-3.new.self) c.args.slot c.args.number closed numbered torn in
    elim c.from_residual-in_err-write-3.result as (λ r. OnErr r (TakesSome (held c.args.keeper.now) (three_writes c.args.slot c.args.number) (held c.write-3.new.self))) [ Ok _ ↦ tt | Err _ ↦ left ]
