use Rattle.std.proofs.Common.{◌∙◌, refl, sym, []}
use Rattle.requester_core.specs.Joined.{command_of}
use Rattle.requester_machine.specs.Commands.{Free}
use Rattle.spdm_machine.specs.Bodies.{record_body}
use Rattle.check_requester.proofs.OwedSent.{long_allowed}
use Rattle.check_requester.proofs.SealedSent.{err_sent, ok_sent}
use Rattle.check_requester.proofs.sealed_commands.seals.Goals as goal
use Rattle.capture_machine.specs.Rounds.{no_draw}

pub returns-then-is_err : goal.returns-then-is_err
returns-then-is_err c = λ q h kept short fits stands its.
    let f : Free = record { id = c.free_id.result; context = _; opaque = []; pad = [] } in
    let allowed = long_allowed q h c.free_id.result _ kept.limits (c.free_id.ensures.value q h stands) refl in
    let did = c.command.ensures q h f no_draw (c.setup.ensures q kept) kept.psk (record { id = refl; context = refl; opaque = refl }) refl allowed short stands in
    err_sent q h (command_of c.args.command) its f c.command.result c.command.new.out (record_body c.args.sealed.now) c.command.new.self c.command.new.self (sym c.is_err.ensures.value ∙ c.if-is_err.true) did

pub returns : goal.returns
returns c = λ q h kept short fits stands its.
    let f : Free = record { id = c.free_id.result; context = _; opaque = []; pad = [] } in
    let allowed = long_allowed q h c.free_id.result _ kept.limits (c.free_id.ensures.value q h stands) refl in
    let did = c.command.ensures q h f no_draw (c.setup.ensures q kept) kept.psk (record { id = refl; context = refl; opaque = refl }) refl allowed short stands in
    ok_sent q h (command_of c.args.command) its f c.command.result c.command.new.out c.args.sealed.now c.command.new.self c.take_padded.new.self c.take_padded.result (sym c.is_err.ensures.value ∙ c.if-is_err.false) kept.limits fits did
    (λ sent id ask aims behind. c.take_padded.ensures.retold q h (command_of c.args.command) no_draw sent id ask its aims behind)
