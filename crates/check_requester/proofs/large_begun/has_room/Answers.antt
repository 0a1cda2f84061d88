use Rattle.std.proofs.Common.{refl, subst, false, [], ℕ, Result}
use Rattle.requester_core.specs.Joined.{IsCommanded}
use Rattle.requester_machine.specs.Asking.{asks}
use Rattle.requester_machine.specs.Commands.{Free}
use Rattle.requester_machine.specs.Message.Command.{Open}
use Rattle.spdm_grammar.specs.declared.told.command_fault.CommandFault.{CommandFault}
use Rattle.check_requester.proofs.LargeBegun.{never_open, refused_open}
use Rattle.check_requester.proofs.OwedSent.{long_allowed}
use Rattle.check_requester.proofs.large_begun.has_room.Goals as goal
use Rattle.capture_machine.specs.Rounds.{no_draw}

pub returns-in-Ok-clause-none : goal.returns-in-Ok-clause-none
returns-in-Ok-clause-none c = λ q h kept short stands room.
    let f : Free = record { id = c.free_id.result; context = _; opaque = []; pad = [] } in
    let allowed = long_allowed q h c.free_id.result _ kept.limits (c.free_id.ensures.value q h stands) refl in
    let did = c.command.ensures q h f no_draw (c.setup.ensures q kept) kept.psk (record { id = refl; context = refl; opaque = refl }) refl allowed short stands in
    absurd (never_open q h f _ c.command.new.out c.command.new.self (subst (λ (r : Result ℕ CommandFault). IsCommanded q h (asks false q h (Open 2) f no_draw) r c.command.new.out c.command.new.self) c.in-Ok.is did))

pub returns-in-Ok-clause-stands : goal.returns-in-Ok-clause-stands
returns-in-Ok-clause-stands c = λ q h kept short stands.
    let f : Free = record { id = c.free_id.result; context = _; opaque = []; pad = [] } in
    let allowed = long_allowed q h c.free_id.result _ kept.limits (c.free_id.ensures.value q h stands) refl in
    let did = c.command.ensures q h f no_draw (c.setup.ensures q kept) kept.psk (record { id = refl; context = refl; opaque = refl }) refl allowed short stands in
    absurd (never_open q h f _ c.command.new.out c.command.new.self (subst (λ (r : Result ℕ CommandFault). IsCommanded q h (asks false q h (Open 2) f no_draw) r c.command.new.out c.command.new.self) c.in-Ok.is did))

pub returns-in-Err-clause-room : goal.returns-in-Err-clause-room
returns-in-Err-clause-room c = λ q h kept short stands.
    let f : Free = record { id = c.free_id.result; context = _; opaque = []; pad = [] } in
    let allowed = long_allowed q h c.free_id.result _ kept.limits (c.free_id.ensures.value q h stands) refl in
    let did = c.command.ensures q h f no_draw (c.setup.ensures q kept) kept.psk (record { id = refl; context = refl; opaque = refl }) refl allowed short stands in
    (refused_open q h f c.in-Err.fault c.command.new.out c.command.new.self c.is_refused_late.result c.is_refused_late.ensures
    (subst (λ (r : Result ℕ CommandFault). IsCommanded q h (asks false q h (Open 2) f no_draw) r c.command.new.out c.command.new.self) c.in-Err.is did)).0

pub returns-in-Err-clause-none : goal.returns-in-Err-clause-none
returns-in-Err-clause-none c = λ q h kept short stands.
    let f : Free = record { id = c.free_id.result; context = _; opaque = []; pad = [] } in
    let allowed = long_allowed q h c.free_id.result _ kept.limits (c.free_id.ensures.value q h stands) refl in
    let did = c.command.ensures q h f no_draw (c.setup.ensures q kept) kept.psk (record { id = refl; context = refl; opaque = refl }) refl allowed short stands in
    (refused_open q h f c.in-Err.fault c.command.new.out c.command.new.self c.is_refused_late.result c.is_refused_late.ensures
    (subst (λ (r : Result ℕ CommandFault). IsCommanded q h (asks false q h (Open 2) f no_draw) r c.command.new.out c.command.new.self) c.in-Err.is did)).1

pub returns-in-Err-clause-stands : goal.returns-in-Err-clause-stands
returns-in-Err-clause-stands c = λ q h kept short stands.
    let f : Free = record { id = c.free_id.result; context = _; opaque = []; pad = [] } in
    let allowed = long_allowed q h c.free_id.result _ kept.limits (c.free_id.ensures.value q h stands) refl in
    let did = c.command.ensures q h f no_draw (c.setup.ensures q kept) kept.psk (record { id = refl; context = refl; opaque = refl }) refl allowed short stands in
    (refused_open q h f c.in-Err.fault c.command.new.out c.command.new.self c.is_refused_late.result c.is_refused_late.ensures
    (subst (λ (r : Result ℕ CommandFault). IsCommanded q h (asks false q h (Open 2) f no_draw) r c.command.new.out c.command.new.self) c.in-Err.is did)).2
