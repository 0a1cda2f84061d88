use Rattle.std.proofs.Common.{◌≡◌, ◌∙◌, ap, sym, subst, refl, ℕ, Option, Some, None}
use Rattle.responder_machine.specs.Answer.{request_at}
use Rattle.responder_machine.specs.Handling.{chunk_in}
use Rattle.responder_machine.specs.Place.{clear_place, inside, place_terms}
use Rattle.spdm_basis.specs.Sizes.{hash_size}
use Rattle.spdm_grammar.specs.Message.{ChunkMessage, chunk_message}
use Rattle.spdm_grammar.specs.Requests.{request_in}
use Rattle.spdm_grammar.specs.declared.messages.choice.Choice.{Choice}
use Rattle.spdm_machine.specs.Terms.{hash_len}
use Rattle.check_laws.specs.AnswersShown.{least_values, values_in_reply}
use Rattle.check_responder.specs.ShownBy.{AreReadClear}
use Rattle.check_responder.proofs.clear_values.read_clear.Goals as goal

pub returns-in-Some : goal.returns-in-Some
returns-in-Some c = λ r h set stands transfer so_far few.
    let p = clear_place h in
    let m = c.args.message.now in
    let chosen = ap (λ (x : Choice). x.hash) (sym (c.choice-hash.ensures.value r h stands)) in
    let len : c.size.result ≡ hash_len (place_terms p) = c.size.ensures ∙ ap hash_size (sym chosen) in
    let some : chunk_in (request_at p m) ≡ Some (chunk_message c.in-Some.chunk) = sym (c.in-Some.ensures ∙ ap (λ (n : ℕ). chunk_in (request_in n m)) len) in
    subst (λ (o : Option ChunkMessage). AreReadClear r h m c.args.reply.now (values_in_reply r p m (least_values h p) c.args.reply.now o) c.chunk_values.result) (sym some)
    (c.chunk_values.ensures r h m set (c.at_round-at.ensures (inside p) chosen transfer refl) (c.least_values-least.ensures r h p stands chosen) so_far few some)

pub returns-in-None : goal.returns-in-None
returns-in-None c = λ r h set stands transfer so_far few.
    let p = clear_place h in
    let m = c.args.message.now in
    let chosen = ap (λ (x : Choice). x.hash) (sym (c.choice-hash.ensures.value r h stands)) in
    let len : c.size.result ≡ hash_len (place_terms p) = c.size.ensures ∙ ap hash_size (sym chosen) in
    let none : chunk_in (request_at p m) ≡ None = sym (c.in-None.ensures ∙ ap (λ (n : ℕ). chunk_in (request_in n m)) len) in
    subst (λ (o : Option ChunkMessage). AreReadClear r h m c.args.reply.now (values_in_reply r p m (least_values h p) c.args.reply.now o) c.plain_values.result) (sym none)
    (c.plain_values.ensures r h set (c.at_round.ensures p chosen transfer refl) (c.least_values-least.ensures r h p stands chosen) none)
