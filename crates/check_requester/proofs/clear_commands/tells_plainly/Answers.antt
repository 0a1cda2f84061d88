use Rattle.std.proofs.Common.{refl, []}
use Rattle.requester_machine.specs.Commands.{Free}
use Rattle.check_requester.proofs.OwedSent.{long_allowed}
use Rattle.check_requester.proofs.clear_commands.tells_plainly.Goals as goal

pub returns : goal.returns
returns c = λ q h kept short stands clear.
    let f : Free = record { id = c.free_id.result; context = _; opaque = []; pad = [] } in
    let allowed = long_allowed q h c.free_id.result _ kept.limits (c.free_id.ensures.value q h stands) refl in
    (f, allowed, c.tells.ensures q h f kept (record { id = refl; context = refl; opaque = refl }) refl allowed short stands clear)
