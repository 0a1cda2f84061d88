use Rattle.std.proofs.Common.{◌∙◌, ◌||◌, ap, sym, Bool}
use Rattle.responder_machine.specs.Responder.{repeats}
use Rattle.responder_machine.specs.Session.{id_in_record, last_of, session_of}
use Rattle.check_responder.proofs.record_answers.is_repeated.Goals as goal

pub returns-then-ended : goal.returns-then-ended
returns-then-ended c = λ r h stands.
    let last : Bool = repeats (last_of (session_of (id_in_record c.args.request.now) h)) c.args.request.now in
    c.if-ended.true ∙ sym (ap (λ (b : Bool). b || last) (sym (c.repeats_ended-ended.ensures r h stands) ∙ c.if-ended.true))

pub returns-else-ended : goal.returns-else-ended
returns-else-ended c = λ r h stands.
    let last : Bool = repeats (last_of (session_of (id_in_record c.args.request.now) h)) c.args.request.now in
    c.repeats_last-last.ensures r h stands ∙ sym (ap (λ (b : Bool). b || last) (sym (c.repeats_ended-ended.ensures r h stands) ∙ c.if-ended.false))
