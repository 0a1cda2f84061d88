use Rattle.std.proofs.Common.{rules, ◌≡◌, ◌∙◌, ap, length, refl}
use Rattle.responder.proofs.Chosen.{clear_is}
use Rattle.responder.proofs.hearing.hear_clear.Goals as goal
use Rattle.session_keys.specs.Drawing.{draw_as}
use Rattle.responder_machine.proofs.Does.{chosen_allowed}
use Rattle.responder_machine.specs.Does.{clear_chosen}
use Rattle.responder_machine.specs.Place.{clear_place}
use Rattle.spdm_grammar.specs.declared.messages.choice.Choice.{Choice}
use Rattle.spdm_machine.specs.Bodies.{clear_body}
use Rattle.spdm_machine.specs.Keys.{Draw, context_of}

pub returns-clause-done : goal.returns-clause-done
returns-clause-done c = λ r h setup made stands.
    let d : Draw = draw_as c.args.drawn.now in
    let bytes : length c.args.drawn.now.bytes ≡ 32 = search rules in
    let free = clear_is r h d _ (c.free_id.ensures.value r h stands) (c.as_slice.ensures.value ∙ c.context_of-context.ensures.value ∙ ap (λ (x : Choice). context_of x.hash d) (c.choice.ensures.value r h stands)) setup.opaque refl refl
    (c.next_handle.ensures r h stands) (c.as_slice-2.ensures.value ∙ c.write_next_reply.ensures r h stands) refl in
    let done = c.on_clear-heard.ensures.done r h (clear_chosen r h d) d setup free (chosen_allowed r h (clear_place h) d made bytes setup.opaque_most) stands in
    record { told = done.told; body = c.write_body.ensures ∙ ap clear_body c.as_slice-3.ensures.value ∙ done.body; stands = done.stands }

pub returns-clause-drawn : goal.returns-clause-drawn
returns-clause-drawn c = λ r h setup made stands.
    let d : Draw = draw_as c.args.drawn.now in
    let bytes : length c.args.drawn.now.bytes ≡ 32 = search rules in
    let free = clear_is r h d _ (c.free_id.ensures.value r h stands) (c.as_slice.ensures.value ∙ c.context_of-context.ensures.value ∙ ap (λ (x : Choice). context_of x.hash d) (c.choice.ensures.value r h stands)) setup.opaque refl refl
    (c.next_handle.ensures r h stands) (c.as_slice-2.ensures.value ∙ c.write_next_reply.ensures r h stands) refl in
    c.on_clear-heard.ensures.drawn r h (clear_chosen r h d) d setup free (chosen_allowed r h (clear_place h) d made bytes setup.opaque_most) stands
