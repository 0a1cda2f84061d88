use Rattle.std.proofs.Common.{◌∙◌, ℕ, refl, sym, ap}
use Rattle.spdm_basis.specs.Sizes.{hash_size}
use Rattle.spdm_grammar.specs.Fields.{zeros}
use Rattle.spdm_grammar.specs.declared.messages.choice.Choice.{Choice}
use Rattle.check_fetched_ends.proofs.clear_fetch.held_version.least_values.Goals as goal

pub returns-clause-free : goal.returns-clause-free
returns-clause-free c = λ r h stands. record {
  id = sym (c.free_id.ensures.value r h stands);
  context = sym (c.zeros.ensures ∙ ap (λ (n : ℕ). zeros n) (c.size.ensures ∙ ap (λ (x : Choice). hash_size x.hash) (c.choice.ensures.value r h stands)));
  exchange_opaque = refl;
  nonce = refl;
  measured_opaque = refl;
  handle = refl;
  reply = refl;
  pad = refl;
}
