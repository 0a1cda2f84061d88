use Rattle.std.proofs.Common.{◌≡◌, ◌↔◌, ◌∙◌, ℕ, List, [], ◌∷◌, Bool, true, Option, ap, sym, subst}
use Rattle.responder_machine.specs.History.{History}
use Rattle.responder_machine.specs.May.{with_dropped}
use Rattle.spdm_machine.specs.Bodies.{clear_body}
use Rattle.check_responder.proofs.LargeTold.{again_not, anew_by, small_not}
use Rattle.check_responder.specs.JudgedResponder.{shows_large}
use Rattle.check_responder.specs.ClearAnswers.{IsGivenAt, given_in}
use Rattle.check_responder.specs.declared.given.Given.{Given}
use Rattle.check_laws.specs.AnswersShown.{clear_values}
use Rattle.check_laws.specs.LargeShown.{IsShownLarge}
use Rattle.check_responder.proofs.judged_responder.JudgedResponder.tells_large.Goals as goal

pub returns-then-is_repeat-clause-told : goal.returns-then-is_repeat-clause-told
returns-then-is_repeat-clause-told c = λ r h set stands idle few. again_not r c.args.tag c.args.message.now c.args.reply.now h (sym (c.is_repeat.ensures r h stands) ∙ c.if-is_repeat.true)

pub returns-then-not-shows_large-clause-told : goal.returns-then-not-shows_large-clause-told
returns-then-not-shows_large-clause-told c = λ r h set stands idle few.
    small_not r c.args.tag c.args.message.now c.args.reply.now h (sym (c.is_repeat.ensures r h stands) ∙ c.if-is_repeat.false)
    (ap shows_large (sym c.response_of.ensures) ∙ sym c.shows_large.ensures ∙ c.if-not-shows_large.true)

pub returns-in-Some-clause-told : goal.returns-in-Some-clause-told
returns-in-Some-clause-told c = λ r h set stands idle few.
    let tag : ℕ = c.args.tag in
    let m : List ℕ = c.args.message.now in
    let reply : List ℕ = c.args.reply.now in
    let o : Option Given = given_in c.says_without.result in
    let anew = sym (c.is_repeat.ensures r h stands) ∙ c.if-is_repeat.false in
    let P : List ℕ → Type 0 = λ ids. IsGivenAt r (with_dropped h ids) tag m (clear_values r (with_dropped h ids) m reply) reply o in
    let there = subst P (sym (c.in-Some.ensures r h stands)) (c.says_without.ensures.told r h set stands idle few anew).0 in
    subst (λ (b : Bool). (b ≡ true) ↔ IsShownLarge r h tag (clear_body m) (clear_body reply)) (sym c.brings_large.ensures) (anew_by r tag m reply h anew o there)

pub returns-in-None-clause-told : goal.returns-in-None-clause-told
returns-in-None-clause-told c = λ r h set stands idle few.
    let tag : ℕ = c.args.tag in
    let m : List ℕ = c.args.message.now in
    let reply : List ℕ = c.args.reply.now in
    let o : Option Given = given_in c.says_anew.result in
    let anew = sym (c.is_repeat.ensures r h stands) ∙ c.if-is_repeat.false in
    let P : List ℕ → Type 0 = λ ids. IsGivenAt r (with_dropped h ids) tag m (clear_values r (with_dropped h ids) m reply) reply o in
    let there = subst P (sym (c.in-None.ensures r h stands)) (c.says_anew.ensures r h set stands idle few anew).0 in
    subst (λ (b : Bool). (b ≡ true) ↔ IsShownLarge r h tag (clear_body m) (clear_body reply)) (sym c.brings_large-in-None.ensures) (anew_by r tag m reply h anew o there)
