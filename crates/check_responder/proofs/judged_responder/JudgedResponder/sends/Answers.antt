use Rattle.std.proofs.Common.{◌≡◌, ◌∙◌, ap, sym}
use Rattle.responder_core.specs.Sessions.{body_by}
use Rattle.responder_machine.specs.Responder.{body_of, on_record}
use Rattle.check_responder.proofs.judged_responder.JudgedResponder.sends.Goals as goal
use Rattle.capture_machine.specs.Rounds.{no_draw}

pub returns-clause-told : goal.returns-clause-told
returns-clause-told c = λ r h tag f set stands few free.
    let done = c.on_record-heard.ensures.done r h tag f no_draw set free few stands in
    let body : body_by c.on_record-heard.result c.as_slice.result.now ≡ body_of (on_record r h tag c.args.request.now f no_draw) = ap (body_by c.on_record-heard.result) c.as_slice.ensures.value ∙ done.body in
    (λ is. sym body ∙ c.is_sent.ensures.0 is, λ same. c.is_sent.ensures.1 (body ∙ same))

pub returns-clause-stands : goal.returns-clause-stands
returns-clause-stands c = λ r h tag f set stands few free. (c.on_record-heard.ensures.done r h tag f no_draw set free few stands).stands
