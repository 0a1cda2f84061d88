use Rattle.std.proofs.Common.{◌∙◌, refl, sym}
use Rattle.responder_machine.specs.Session.{id_in_record, session_of}
use Rattle.spdm_machine.specs.Bodies.{record_body}
use Rattle.check_responder.proofs.KeysComing.{inside_by}
use Rattle.check_responder.proofs.KeysOpen.{coming_again, coming_by, coming_ended}
use Rattle.check_responder.proofs.answer_keys.taken_key.Goals as goal
use Rattle.capture_machine.specs.Opening.{any_free}

pub returns-then-repeats_ended-clause-key : goal.returns-then-repeats_ended-clause-key
returns-then-repeats_ended-clause-key c = λ r h stands few.
    coming_ended r h (record_body c.args.request.now) (sym (c.repeats_ended.ensures r h stands) ∙ c.if-repeats_ended.true)

pub returns-then-repeats_last-clause-key : goal.returns-then-repeats_last-clause-key
returns-then-repeats_last-clause-key c = λ r h stands few.
    coming_again r h (record_body c.args.request.now) (sym (c.repeats_last.ensures r h stands) ∙ c.if-repeats_last.true)

pub returns-clause-key : goal.returns-clause-key
returns-clause-key c = λ r h stands few.
    coming_by r h (record_body c.args.request.now) c.answer_key.new.inner c.answer_key.result refl (sym (c.repeats_ended.ensures r h stands) ∙ c.if-repeats_ended.false)
    (sym (c.repeats_last.ensures r h stands) ∙ c.if-repeats_last.false) (λ f. c.answer_key.ensures r h f few stands)

pub returns-clause-inner : goal.returns-clause-inner
returns-clause-inner c = λ r h stands few.
    inside_by r (session_of (id_in_record c.args.request.now) h) any_free c.args.request.now c.answer_key.new.inner c.answer_key.result (c.answer_key.ensures r h any_free few stands)
