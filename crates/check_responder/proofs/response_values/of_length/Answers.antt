use Rattle.std.proofs.Common.{◌∙◌, ◌-◌, ap, ℕ}
use Rattle.spdm_basis.specs.Sizes.{hash_size}
use Rattle.spdm_basis.specs.declared.values.hash_alg.HashAlg.{HashAlg}
use Rattle.spdm_grammar.specs.Fields.{zeros}
use Rattle.spdm_grammar.specs.Message.{request_message}
use Rattle.check_responder.proofs.ResponseRead.{longer_read}
use Rattle.check_responder.proofs.response_values.of_length.Goals as goal

pub returns : goal.returns
returns c = λ r p m f set at is free short.
    longer_read r p m f c.args.long c.saturating_sub.result c.lengthened.result (request_message c.args.request.now) is
    (c.saturating_sub.ensures ∙ ap (λ (k : ℕ). c.args.long - k) (c.free_length-least.ensures.value r p m f set at.hash free short.nonce))
    (c.lengthened.ensures f free (short.context ∙ ap (λ (x : HashAlg). zeros (hash_size x)) at.hash) short.measured_opaque)
