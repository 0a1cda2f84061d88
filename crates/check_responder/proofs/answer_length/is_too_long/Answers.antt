use Rattle.std.proofs.Common.{◌≡◌, ◌∙◌, ap, sym, ℕ, Some, None}
use Rattle.std.specs.Prelude.{nat_lt}
use Rattle.responder_machine.specs.Answer.{request_at}
use Rattle.responder_machine.specs.Place.{place_terms}
use Rattle.spdm_basis.specs.Sizes.{hash_size}
use Rattle.spdm_grammar.specs.Message.{RequestMessage, request_message}
use Rattle.spdm_grammar.specs.Requests.{request_in}
use Rattle.spdm_machine.specs.Terms.{hash_len}
use Rattle.check_responder.proofs.ShortAnswers.{long_none, long_read}
use Rattle.check_responder.proofs.answer_length.is_too_long.Goals as goal

pub returns-in-Some : goal.returns-in-Some
returns-in-Some c = λ r p f set chosen free nonce.
    let m = c.args.message.now in
    let asked : RequestMessage = request_message c.in-Some.request in
    let len : c.size.result ≡ hash_len (place_terms p) = c.size.ensures ∙ ap hash_size (sym chosen) in
    let is : request_at p m ≡ Some asked = sym (c.in-Some.ensures ∙ ap (λ (n : ℕ). request_in n m) len) in
    ap (nat_lt 4096) (c.free_length.ensures.value r p m f set chosen free nonce) ∙ sym (long_read r p m f asked is)

pub returns-in-None : goal.returns-in-None
returns-in-None c = λ r p f set chosen free nonce.
    let m = c.args.message.now in
    let len : c.size.result ≡ hash_len (place_terms p) = c.size.ensures ∙ ap hash_size (sym chosen) in
    let is : request_at p m ≡ None = sym (c.in-None.ensures ∙ ap (λ (n : ℕ). request_in n m) len) in
    sym (long_none r p m f is)
