use Rattle.std.proofs.Common.{refl, ◌∙◌, []}
use Rattle.requester_machine.specs.Commands.{Free}
use Rattle.check_requester.proofs.OwedSent.{long_allowed, retry_out, retry_stands, retry_waits}
use Rattle.check_requester.proofs.owed_messages.write_outstanding.Goals as goal
use Rattle.capture_machine.specs.Rounds.{no_draw}

pub returns-clause-stands : goal.returns-clause-stands
returns-clause-stands c = λ q h kept short stands.
    let f : Free = record { id = c.free_id.result; context = _; opaque = []; pad = [] } in
    retry_stands q h f no_draw c.command.result c.command.new.out c.command.new.self
    (c.command.ensures q h f no_draw (c.setup.ensures q kept) kept.psk (record { id = refl; context = refl; opaque = refl }) refl
    (long_allowed q h c.free_id.result _ kept.limits (c.free_id.ensures.value q h stands) refl) short stands)

pub returns-clause-room : goal.returns-clause-room
returns-clause-room c = λ q h sent kept short stands waits.
    let f : Free = record { id = c.free_id.result; context = _; opaque = []; pad = [] } in
    retry_out q h f no_draw sent c.command.result c.command.new.out c.command.new.self waits
    (c.command.ensures q h f no_draw (c.setup.ensures q kept) kept.psk (record { id = refl; context = refl; opaque = refl }) refl
    (long_allowed q h c.free_id.result _ kept.limits (c.free_id.ensures.value q h stands) refl) short stands)

pub returns-clause-waits : goal.returns-clause-waits
returns-clause-waits c = λ q h kept short stands.
    let f : Free = record { id = c.free_id.result; context = _; opaque = []; pad = [] } in
    c.is_ok.ensures.value
    ∙ retry_waits q h f no_draw c.command.result c.command.new.out c.command.new.self
    (c.command.ensures q h f no_draw (c.setup.ensures q kept) kept.psk (record { id = refl; context = refl; opaque = refl }) refl
    (long_allowed q h c.free_id.result _ kept.limits (c.free_id.ensures.value q h stands) refl) short stands)
