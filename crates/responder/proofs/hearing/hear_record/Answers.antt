use Rattle.std.proofs.Common.{◌∙◌, ap, refl}
use Rattle.responder_core.specs.Sessions.{body_by}
use Rattle.responder.proofs.hearing.hear_record.Goals as goal
use Rattle.session_keys.specs.Drawing.{draw_as}

pub returns-clause-done : goal.returns-clause-done
returns-clause-done c = λ r h tag setup few stands.
    let done = c.on_record_chosen-heard.ensures.done r h tag (draw_as c.args.drawn.now) setup refl few stands in
    record { told = done.told; body = c.write_reply.ensures ∙ ap (body_by c.on_record_chosen-heard.result) c.as_slice.ensures.value ∙ done.body; stands = done.stands }

pub returns-clause-drawn : goal.returns-clause-drawn
returns-clause-drawn c = λ r h tag setup few stands. c.on_record_chosen-heard.ensures.drawn r h tag (draw_as c.args.drawn.now) setup refl few stands
