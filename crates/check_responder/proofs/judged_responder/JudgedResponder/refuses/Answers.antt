use Rattle.std.proofs.Common.{◌≡◌, ◌∙◌, ap, sym}
use Rattle.responder_core.specs.Sessions.{body_by}
use Rattle.responder_machine.specs.Answer.{Free}
use Rattle.responder_machine.specs.Place.{session_place}
use Rattle.responder_machine.specs.Responder.{body_of, on_record}
use Rattle.responder_machine.specs.Session.{id_in_record, session_of}
use Rattle.check_responder.proofs.judged_responder.JudgedResponder.refuses.Goals as goal
use Rattle.check_laws.specs.AnswersShown.{least_values}
use Rattle.capture_machine.specs.Rounds.{no_draw}

pub returns-clause-told : goal.returns-clause-told
returns-clause-told c = λ r h tag set stands few.
    let p = session_place (session_of (id_in_record c.args.request.now) h) in
    let k : Free = least_values h p in
    let done = c.on_record-heard.ensures.done r h tag k no_draw set (c.least_free-free.ensures.free h p) few stands in
    let body : body_by c.on_record-heard.result c.as_slice.result.now ≡ body_of (on_record r h tag c.args.request.now k no_draw) = ap (body_by c.on_record-heard.result) c.as_slice.ensures.value ∙ done.body in
    (λ is. sym body ∙ c.is_refused.ensures.0 is, λ same. c.is_refused.ensures.1 (body ∙ same))

pub returns-clause-stands : goal.returns-clause-stands
returns-clause-stands c = λ r h tag set stands few.
    let p = session_place (session_of (id_in_record c.args.request.now) h) in
    (c.on_record-heard.ensures.done r h tag (least_values h p) no_draw set (c.least_free-free.ensures.free h p) few stands).stands
