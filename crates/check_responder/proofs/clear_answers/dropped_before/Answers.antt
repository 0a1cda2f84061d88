use Rattle.std.proofs.Common.{◌∙◌, sym, ap, subst, ℕ, List, [], ◌∷◌, Bool, cond, Some}
use Rattle.check_responder.proofs.ShownDrops.{begun_drops, large_drops}
use Rattle.check_responder.specs.JudgedResponder.{IsDropped, shows_large}
use Rattle.check_laws.specs.DropsShown.{id_begun}
use Rattle.check_responder.proofs.clear_answers.dropped_before.Goals as goal

pub returns-then-shows_large : goal.returns-then-shows_large
returns-then-shows_large c = λ r h stands.
    let reply : List ℕ = c.args.reply.now in
    let large = sym (c.shows_large.ensures ∙ ap shows_large c.response_of-response.ensures) ∙ c.if-shows_large.true in
    subst (λ (ids : List ℕ). IsDropped ids c.first_of_held.result) (sym (large_drops h reply large)) (c.first_of_held.ensures r h stands)

pub returns-then-not-is_timed : goal.returns-then-not-is_timed
returns-then-not-is_timed c = λ r h stands.
    let reply : List ℕ = c.args.reply.now in
    let id : ℕ = c.in-Some.id in
    let small = sym (c.shows_large.ensures ∙ ap shows_large c.response_of-response.ensures) ∙ c.if-shows_large.false in
    let begun = ap id_begun (sym c.response_of-response.ensures) ∙ sym c.id_begun.ensures ∙ c.in-Some.is in
    begun_drops h reply small (Some id) begun ∙ ap (λ (b : Bool). cond b (id ∷ []) []) (sym (c.is_timed.ensures r h stands) ∙ c.if-not-is_timed.true)

pub returns : goal.returns
returns c = λ r h stands.
    let reply : List ℕ = c.args.reply.now in
    let id : ℕ = c.in-Some.id in
    let small = sym (c.shows_large.ensures ∙ ap shows_large c.response_of-response.ensures) ∙ c.if-shows_large.false in
    let begun = ap id_begun (sym c.response_of-response.ensures) ∙ sym c.id_begun.ensures ∙ c.in-Some.is in
    begun_drops h reply small (Some id) begun ∙ ap (λ (b : Bool). cond b (id ∷ []) []) (sym (c.is_timed.ensures r h stands) ∙ c.if-not-is_timed.false)
