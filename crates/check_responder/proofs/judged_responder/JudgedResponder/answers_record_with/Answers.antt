use Rattle.std.proofs.Common.{◌∙◌, ap, sym, subst, List, ℕ, Option}
use Rattle.std.specs.Prelude.{IfSome}
use Rattle.spdm_machine.specs.Bodies.{clear_body, record_body}
use Rattle.check_responder.proofs.RecordBrought.{kept_whole, other_given, whole_clear}
use Rattle.check_responder.proofs.RecordClosed.{clear_typed, record_typed}
use Rattle.check_responder.proofs.judged_responder.JudgedResponder.answers_record_with.Goals as goal
use Rattle.check_responder.specs.JudgedResponder.{IsAnswerer, history_shown}
use Rattle.check_responder.specs.RecordAnswers.{IsGivenTo, history_behind, whole_if}
use Rattle.check_responder.specs.declared.given.Given.{Given}

pub returns-then-kind-eq-SPDM-clause-told : goal.returns-then-kind-eq-SPDM-clause-told
returns-then-kind-eq-SPDM-clause-told c = λ r h tag set stands few coming.
    let request : List ℕ = c.args.request.now in
    let reply : List ℕ = c.behind_type.result.now in
    let typed = clear_typed c.args.answer.now (sym c.byte_at-kind.ensures ∙ c.if-kind-eq-SPDM.true) ∙ ap clear_body (sym c.behind_type.ensures) in
    subst (λ (o : Option Given). IsGivenTo r h tag (record_body request) c.args.answer.now o) (sym c.whole_if.ensures)
    (subst (λ (l : List ℕ). IsGivenTo r h tag (record_body request) l (whole_if c.answers_closed-closed.result)) (sym typed)
    (whole_clear r h tag request reply c.answers_closed-closed.result (c.answers_closed-closed.ensures.told r h tag set stands few)))

pub returns-then-kind-eq-SPDM-clause-stands : goal.returns-then-kind-eq-SPDM-clause-stands
returns-then-kind-eq-SPDM-clause-stands c = λ r h tag set stands few coming.
    let request : List ℕ = c.args.request.now in
    let typed = clear_typed c.args.answer.now (sym c.byte_at-kind.ensures ∙ c.if-kind-eq-SPDM.true) ∙ ap clear_body (sym c.behind_type.ensures) in
    let K : Given → Type 0 = λ x. IsAnswerer c.answers_closed-closed.new.self r (history_behind r h tag (record_body request) c.args.answer.now x) in
    subst (λ (o : Option Given). IfSome o K) (sym c.whole_if.ensures)
    (kept_whole K c.answers_closed-closed.result
    (λ is. subst (λ (l : List ℕ). IsAnswerer c.answers_closed-closed.new.self r (history_shown r h tag (record_body request) l)) (sym typed) (c.answers_closed-closed.ensures.stands r h tag set stands few is)))

pub returns-then-kind-eq-SECURED-clause-told : goal.returns-then-kind-eq-SECURED-clause-told
returns-then-kind-eq-SECURED-clause-told c = λ r h tag set stands few coming.
    let typed = record_typed c.args.answer.now (sym c.byte_at-kind.ensures ∙ c.if-kind-eq-SECURED.true) ∙ ap record_body (sym c.behind_type-then-kind-eq-SECURED.ensures) in
    subst (λ (l : List ℕ). IsGivenTo r h tag (record_body c.args.request.now) l c.answers_sealed.result) (sym typed) (c.answers_sealed.ensures.told r h tag set stands few coming)

pub returns-then-kind-eq-SECURED-clause-stands : goal.returns-then-kind-eq-SECURED-clause-stands
returns-then-kind-eq-SECURED-clause-stands c = λ r h tag set stands few coming.
    let typed = record_typed c.args.answer.now (sym c.byte_at-kind.ensures ∙ c.if-kind-eq-SECURED.true) ∙ ap record_body (sym c.behind_type-then-kind-eq-SECURED.ensures) in
    subst (λ (l : List ℕ). IfSome c.answers_sealed.result (λ x. IsAnswerer c.answers_sealed.new.self r (history_behind r h tag (record_body c.args.request.now) l x))) (sym typed) (c.answers_sealed.ensures.stands r h tag set stands few coming)

pub returns-clause-told : goal.returns-clause-told
returns-clause-told c = λ r h tag set stands few coming.
    other_given r h tag c.args.request.now c.args.answer.now (λ is. c.if-kind-eq-SPDM.false (c.byte_at-kind.ensures ∙ is)) (λ is. c.if-kind-eq-SECURED.false (c.byte_at-kind.ensures ∙ is))
