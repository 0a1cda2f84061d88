use Rattle.std.proofs.Common.{◌∙◌, ap, sym, refl}
use Rattle.spdm_basis.specs.Sizes.{hash_size}
use Rattle.spdm_basis.specs.declared.values.hash_alg.HashAlg.{HashAlg}
use Rattle.spdm_grammar.specs.Fields.{zeros}
use Rattle.check_responder.proofs.clear_values.least_values.Goals as goal

pub returns : goal.returns
returns c = λ r h p stands chosen. record {
  id = sym (c.free_id.ensures.value r h stands);
  context = ap (λ (x : HashAlg). zeros (hash_size x)) chosen ∙ ap zeros (sym c.size.ensures) ∙ sym c.zeros.ensures;
  exchange_opaque = refl;
  nonce = refl;
  measured_opaque = refl;
  handle = refl;
  reply = refl;
  pad = refl;
}
