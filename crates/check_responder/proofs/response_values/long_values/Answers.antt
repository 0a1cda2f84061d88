use Rattle.std.proofs.Common.{◌≡◌, ◌∙◌, ◌-◌, ap, sym, subst, length, ℕ, Option, Some, None}
use Rattle.responder_core.specs.Free.{IsFree}
use Rattle.responder_machine.specs.Answer.{answer_bytes, request_at}
use Rattle.spdm_basis.specs.Sizes.{hash_size}
use Rattle.spdm_grammar.specs.Message.{RequestMessage, request_message}
use Rattle.spdm_grammar.specs.Requests.{request_in}
use Rattle.check_responder.specs.JudgedResponder.{AreRead}
use Rattle.check_laws.specs.AnswersShown.{lengthened}
use Rattle.check_responder.proofs.response_values.long_values.Goals as goal

pub returns-in-Some : goal.returns-in-Some
returns-in-Some c = λ r p f set at free short.
    let m = c.args.message.now in
    let is : Some (request_message c.in-Some.request) ≡ request_at p m = c.in-Some.ensures ∙ ap (λ (n : ℕ). request_in n m) (c.size.ensures ∙ ap hash_size (sym at.hash)) in
    subst (λ (o : Option RequestMessage). AreRead r p m (lengthened f o (c.args.long - length (answer_bytes r p m f))) c.of_length.result) is (c.of_length.ensures r p m f set at (sym is) free short)

pub returns-in-None : goal.returns-in-None
returns-in-None c = λ r p f set at free short.
    let m = c.args.message.now in
    let none : Option RequestMessage = None in
    let is : none ≡ request_at p m = c.in-None.ensures ∙ ap (λ (n : ℕ). request_in n m) (c.size.ensures ∙ ap hash_size (sym at.hash)) in
    subst (λ (o : Option RequestMessage). IsFree c.args.values (lengthened f o (c.args.long - length (answer_bytes r p m f)))) is free
