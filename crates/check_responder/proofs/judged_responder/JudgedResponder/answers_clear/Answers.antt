use Rattle.std.proofs.Common.{◌∙◌, sym, subst, ℕ, List, Option}
use Rattle.responder_machine.specs.History.{History}
use Rattle.responder_machine.specs.May.{with_dropped}
use Rattle.responder_machine.specs.Place.{clear_place}
use Rattle.responder_machine.specs.Responder.{after, on_clear}
use Rattle.check_responder.proofs.ApartJudged.{apart_again, apart_anew}
use Rattle.check_responder.proofs.ClearAnew.{behind_anew, judged_anew}
use Rattle.check_responder.proofs.ClearJudged.{again_still, behind_again, judged_again, kept_behind}
use Rattle.check_responder.proofs.ShownDrops.{few_dropped}
use Rattle.check_responder.specs.JudgedResponder.{IsAnswerer}
use Rattle.check_laws.specs.AnswersShown.{clear_values, least_values}
use Rattle.check_responder.specs.ClearAnswers.{IsGivenAt, dropped_before, given_in, history_given}
use Rattle.check_responder.specs.declared.given.Given.{Given}
use Rattle.check_responder.proofs.judged_responder.JudgedResponder.answers_clear.Goals as goal
use Rattle.capture_machine.specs.Rounds.{no_draw}

pub returns-then-is_repeat-clause-told : goal.returns-then-is_repeat-clause-told
returns-then-is_repeat-clause-told c = λ r h set stands few.
    let tag : ℕ = c.args.tag in
    let m : List ℕ = c.args.message.now in
    let reply : List ℕ = c.args.reply.now in
    let again = sym (c.is_repeat.ensures r h stands) ∙ c.if-is_repeat.true in
    let told = c.answers_again.ensures.told r h set stands few in record {
      given = judged_again r tag m reply h again (given_in c.answers_again.result) told.0;
      apart = apart_again r tag m reply h again c.answers_again.result told.1;
    }

pub returns-then-is_repeat-clause-stands : goal.returns-then-is_repeat-clause-stands
returns-then-is_repeat-clause-stands c = λ r h set stands few.
    let tag : ℕ = c.args.tag in
    let m : List ℕ = c.args.message.now in
    let reply : List ℕ = c.args.reply.now in
    let again = sym (c.is_repeat.ensures r h stands) ∙ c.if-is_repeat.true in
    let told = (c.answers_again.ensures.told r h set stands few).0 in
    kept_behind (λ (g : History). IsAnswerer c.answers_again.new.self r g) (history_given r h tag m reply) (after h (on_clear r h tag m (least_values h (clear_place h)) no_draw)) (given_in c.answers_again.result)
    (λ x is. behind_again r tag m reply h again x (subst (λ (o : Option Given). IsGivenAt r h tag m (least_values h (clear_place h)) reply o) is told)) (c.answers_again.ensures.stands r h set stands few)

pub returns-clause-told : goal.returns-clause-told
returns-clause-told c = λ r h set stands few.
    let tag : ℕ = c.args.tag in
    let m : List ℕ = c.args.message.now in
    let reply : List ℕ = c.args.reply.now in
    let ids : List ℕ = dropped_before h reply in
    let anew = sym (c.is_repeat.ensures r h stands) ∙ c.if-is_repeat.false in
    let told = c.answers_anew.ensures.told r (with_dropped h ids) set (c.drop_shown.ensures r h stands) (few_dropped ids h _ few) (again_still r tag m reply h ids _ anew) in record {
      given = judged_anew r tag m reply h anew (given_in c.answers_anew.result) told.0;
      apart = apart_anew r tag m reply h anew c.answers_anew.result told.1;
    }

pub returns-clause-stands : goal.returns-clause-stands
returns-clause-stands c = λ r h set stands few.
    let tag : ℕ = c.args.tag in
    let m : List ℕ = c.args.message.now in
    let reply : List ℕ = c.args.reply.now in
    let ids : List ℕ = dropped_before h reply in
    let g : History = with_dropped h ids in
    let anew = sym (c.is_repeat.ensures r h stands) ∙ c.if-is_repeat.false in
    let less = few_dropped ids h _ few in
    let dropped = c.drop_shown.ensures r h stands in
    let told = (c.answers_anew.ensures.told r g set dropped less (again_still r tag m reply h ids _ anew)).0 in
    kept_behind (λ (k : History). IsAnswerer c.answers_anew.new.self r k) (history_given r h tag m reply) (after g (on_clear r g tag m (clear_values r g m reply) no_draw)) (given_in c.answers_anew.result)
    (λ x is. behind_anew r tag m reply h anew x (subst (λ (o : Option Given). IsGivenAt r g tag m (clear_values r g m reply) reply o) is told)) (c.answers_anew.ensures.stands r g set dropped less)
