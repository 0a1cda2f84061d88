use Rattle.std.proofs.Common.{◌≡◌, ◌∙◌, List, refl, sym, subst, []}
use Rattle.std.specs.Bool.{Decides}
use Rattle.std.proofs.lemmas.Bool.Decides.{Decides-eqb}
use Rattle.std.proofs.lemmas.Slice.Eq.{slice_eq-Decides}
use Rattle.requester_machine.specs.Commands.{Free}
use Rattle.check_requester.proofs.OwedSent.{long_allowed}
use Rattle.check_requester.proofs.SentBy.{connect_err, connect_ok}
use Rattle.check_requester.proofs.sending.connects.Goals as goal
use Rattle.capture_machine.specs.Rounds.{no_draw}

pub returns-then-is_err : goal.returns-then-is_err
returns-then-is_err c = λ q h kept short stands.
    let f : Free = record { id = c.free_id.result; context = _; opaque = []; pad = [] } in
    let allowed = long_allowed q h c.free_id.result _ kept.limits (c.free_id.ensures.value q h stands) refl in
    connect_err q h f c.command.result c.command.new.out c.command.new.self (sym c.is_err.ensures.value ∙ c.if-is_err.true)
    (c.command.ensures q h f no_draw (c.setup.ensures q kept) kept.psk (record { id = refl; context = refl; opaque = refl }) refl allowed short stands)

pub returns : goal.returns
returns c = λ q h kept short stands.
    let f : Free = record { id = c.free_id.result; context = _; opaque = []; pad = [] } in
    let allowed = long_allowed q h c.free_id.result _ kept.limits (c.free_id.ensures.value q h stands) refl in
    connect_ok q h f c.command.result c.command.new.out c.args.body.now c.command.new.self c.eq.result kept.limits
    (c.command.ensures q h f no_draw (c.setup.ensures q kept) kept.psk (record { id = refl; context = refl; opaque = refl }) refl allowed short stands)
    (subst (λ (l : List _). Decides c.eq.result (l ≡ c.args.body.now)) c.as_slice.ensures.value (slice_eq-Decides Decides-eqb _ _ _ c.eq.ensures))
