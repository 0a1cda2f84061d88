use Rattle.std.proofs.Common.{◌≡◌, ◌==◌, ◌&&◌, ◌∙◌, ℕ, List, Bool, true, false, cond, None, drop, sym, ap}
use Rattle.std.specs.Prelude.{not, slice_index}
use Rattle.check_laws.specs.DropsShown.{id_begun, response_of}
use Rattle.check_laws.specs.KeptChanges.{begun_shown}
use Rattle.responder_machine.specs.History.{History, kept_of}
use Rattle.responder_machine.specs.Responder.{is_repeat}
use Rattle.check_responder.proofs.judged_responder.JudgedResponder.begun.Goals as goal

begun_by : (h : History) (tag : ℕ) (body answer : List ℕ) (a b : Bool) → (slice_index body 0 == 5) ≡ a → is_repeat (kept_of h) tag (drop 1 body) ≡ b
    → begun_shown h tag body answer ≡ cond (a && not b) (id_begun (response_of (drop 1 answer))) None
begun_by h tag body answer a b type again =
    ap (λ (x : Bool). cond (x && not (is_repeat (kept_of h) tag (drop 1 body))) (id_begun (response_of (drop 1 answer))) None) type
    ∙ ap (λ (x : Bool). cond (a && not x) (id_begun (response_of (drop 1 answer))) None) again

pub returns-then-is_repeat-clause-shown : goal.returns-then-is_repeat-clause-shown
returns-then-is_repeat-clause-shown c = λ r h stands.
    sym (begun_by h c.args.tag c.args.body.now c.args.answer.now true true (sym c.is_clear.ensures ∙ c.if-not-is_clear.false)
    (ap (is_repeat (kept_of h) c.args.tag) (sym c.rest_of.ensures) ∙ sym (c.is_repeat.ensures r h stands) ∙ c.if-is_repeat.true))

pub returns-clause-shown : goal.returns-clause-shown
returns-clause-shown c = λ r h stands.
    c.id_begun.ensures ∙ ap id_begun (c.response_of.ensures ∙ ap response_of c.rest_of-2.ensures)
    ∙ sym (begun_by h c.args.tag c.args.body.now c.args.answer.now true false (sym c.is_clear.ensures ∙ c.if-not-is_clear.false)
    (ap (is_repeat (kept_of h) c.args.tag) (sym c.rest_of.ensures) ∙ sym (c.is_repeat.ensures r h stands) ∙ c.if-is_repeat.false))
