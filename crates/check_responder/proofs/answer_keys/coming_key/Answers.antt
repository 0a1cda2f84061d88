use Rattle.std.proofs.Common.{◌∙◌, subst, List, ℕ, ne_eqb}
use Rattle.std.specs.Prelude.{slice_index}
use Rattle.spdm_machine.specs.Bodies.{record_body}
use Rattle.check_responder.proofs.KeysComing.{of_record}
use Rattle.check_responder.proofs.answer_keys.coming_key.Goals as goal
use Rattle.check_responder.specs.AnswerKeys.{IsComingKey}

pub returns : goal.returns
returns c = λ r h stands few.
    of_record r h c.args.body.now c.taken_key.result (ne_eqb (slice_index c.args.body.now 0) 5 (λ e. c.if-byte_at-eq-SPDM.false (c.byte_at.ensures ∙ e)))
    (subst (λ (m : List ℕ). IsComingKey r h (record_body m) c.taken_key.result) c.behind_type.ensures (c.taken_key.ensures.key r h stands few))
