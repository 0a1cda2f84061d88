use Rattle.std.proofs.Common.{rules, ◌≡◌, ◌∙◌, ℕ, ap, length, sym}
use Rattle.std.specs.Prelude.{take}
use Rattle.requester.proofs.Chosen.{command_allowed, command_pad, free_is}
use Rattle.requester.proofs.telling.tell.Goals as goal
use Rattle.session_keys.specs.Drawing.{draw_as}
use Rattle.requester_machine.specs.Does.{command_chosen}
use Rattle.spdm_grammar.specs.declared.messages.choice.Choice.{Choice}
use Rattle.spdm_machine.specs.Keys.{Draw, context_of}

pub returns : goal.returns
returns c = λ q h part few stands.
    let d : Draw = draw_as c.args.drawn.now in
    let bytes : length c.args.drawn.now.bytes ≡ 32 = search rules in
    let free = free_is q h d _ (c.free_id.ensures.value q h stands) (c.as_slice.ensures.value ∙ c.context_of-context.ensures.value ∙ ap (λ (x : Choice). context_of x.hash d) (c.choice.ensures q h stands)) (part.opaque ∙ sym c.as_slice-2.ensures) in
    c.command.ensures q h (command_chosen q h d) d (c.setup.ensures q part) part.psk free (command_pad q h d ∙ ap (λ (n : ℕ). take n c.args.drawn.now.bytes) (part.pad ∙ sym c.from.ensures))
    (command_allowed q h d part.limits bytes) few stands
