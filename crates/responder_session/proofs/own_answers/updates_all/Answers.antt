use Rattle.std.proofs.Common.{◌∙◌, ap, sym}
use Rattle.responder_machine.specs.Refusal.{fits_stage, lacks_flag}
use Rattle.responder_machine.specs.Place.{session_place}
use Rattle.responder_machine.specs.Session.{session_terms}
use Rattle.responder_machine.specs.Turn.{updates}
use Rattle.spdm_grammar.specs.Message.RequestMessage.{KeyUpdate}
use Rattle.spdm_grammar.specs.declared.told.phase.Stage.{Stage}
use Rattle.responder_session.proofs.AllKeys.{all_turn, is_two, not_two, other_turn}
use Rattle.responder_session.proofs.Doing.{lacking_turn}
use Rattle.responder_session.proofs.own_answers.updates_all.Goals as goal

pub returns-then-op-ne-UPDATE_ALL_KEYS : goal.returns-then-op-ne-UPDATE_ALL_KEYS
returns-then-op-ne-UPDATE_ALL_KEYS c = λ r s f tag sizes place form is.
    other_turn r s f c.args.message.now (KeyUpdate c.args.op tag) form is (not_two c.args.op c.if-op-ne-UPDATE_ALL_KEYS.true)

pub returns-then-lacks_flag : goal.returns-then-lacks_flag
returns-then-lacks_flag c = λ r s f tag sizes place form is.
    let flag = sym (ap (lacks_flag (session_terms s)) c.byte_at.ensures) ∙ sym (c.lacks_flag.ensures (session_place s) place) in
    sym (ap (updates 2) (lacking_turn r s f c.args.message.now (KeyUpdate c.args.op tag) form is (flag ∙ c.if-lacks_flag.true)))

pub returns : goal.returns
returns c = λ r s f tag sizes place form is.
    let flag = sym (ap (lacks_flag (session_terms s)) c.byte_at.ensures) ∙ sym (c.lacks_flag.ensures (session_place s) place) in
    c.fits_stage.ensures ∙ ap (λ (x : Stage). fits_stage x c.args.op) (sym place.stage)
    ∙ all_turn r s f c.args.message.now c.args.op tag sizes form is (flag ∙ c.if-lacks_flag.false) (is_two c.args.op c.if-op-ne-UPDATE_ALL_KEYS.false)
