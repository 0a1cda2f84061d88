use Rattle.std.proofs.Common.{◌∙◌, sym, subst, List, ℕ, eq-eqb, ne_eqb}
use Rattle.std.specs.Prelude.{slice_index}
use Rattle.spdm_machine.specs.Bodies.{record_body}
use Rattle.check_responder.proofs.KeysComing.{body_coming}
use Rattle.check_responder.proofs.KeysOpen.{coming_clear}
use Rattle.check_responder.proofs.answer_keys.prepare.Goals as goal
use Rattle.check_responder.specs.AnswerKeys.{IsComing}

pub returns-then-byte_at-eq-SPDM : goal.returns-then-byte_at-eq-SPDM
returns-then-byte_at-eq-SPDM c = λ r h stands few.
    record { key = coming_clear r h c.args.body.now (eq-eqb (slice_index c.args.body.now 0) 5 (sym c.byte_at.ensures ∙ c.if-byte_at-eq-SPDM.true)); inner = tt }

pub returns : goal.returns
returns c = λ r h stands few.
    body_coming c.prepare_record.new.coming r h c.args.body.now (ne_eqb (slice_index c.args.body.now 0) 5 (λ e. c.if-byte_at-eq-SPDM.false (c.byte_at.ensures ∙ e)))
    (subst (λ (m : List ℕ). IsComing c.prepare_record.new.coming r h (record_body m)) c.behind_type.ensures (c.prepare_record.ensures r h stands few))
