use Rattle.std.proofs.Common.{◌≡◌, ◌∙◌, ap, sym, subst, ℕ, Option, Some}
use Rattle.responder_core.specs.Free.{IsFree}
use Rattle.responder_machine.specs.Answer.{request_at}
use Rattle.responder_machine.specs.Place.{place_terms}
use Rattle.spdm_basis.specs.Sizes.{hash_size}
use Rattle.spdm_grammar.specs.Message.{RequestMessage, request_message}
use Rattle.spdm_grammar.specs.Requests.{request_in}
use Rattle.spdm_grammar.specs.Responses.{response_in}
use Rattle.spdm_machine.specs.Terms.{hash_len}
use Rattle.check_laws.specs.AnswersShown.{asks_summary, with_fields}
use Rattle.check_responder.proofs.response_values.field_values.Goals as goal

pub returns-in-Some : goal.returns-in-Some
returns-in-Some c = λ p f chosen free.
    let m = c.args.message.now in
    let asked : RequestMessage = request_message c.in-Some.request in
    let len : c.size.result ≡ hash_len (place_terms p) = c.size.ensures ∙ ap hash_size (sym chosen) in
    let size : c.size-in-Some.result ≡ hash_len (place_terms p) = c.size-in-Some.ensures ∙ ap hash_size (sym chosen) in
    let is : Some asked ≡ request_at p m = c.in-Some.ensures ∙ ap (λ (n : ℕ). request_in n m) len in
    subst (λ (o : Option RequestMessage). IsFree c.with_fields.result (with_fields f o (response_in (hash_len (place_terms p)) (asks_summary o) c.args.response.now))) is
    (subst (λ (n : ℕ). IsFree c.with_fields.result (with_fields f (Some asked) (response_in n (asks_summary (Some asked)) c.args.response.now))) size (c.with_fields.ensures f free))
