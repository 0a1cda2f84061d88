use Rattle.std.proofs.Common.{◌≤◌, ◌<◌, ◌∙◌, sym, ap, subst, length, ℕ, List}
use Rattle.check_responder.proofs.clear_answers.values_are_bounded.Goals as goal

pub returns : goal.returns
returns c = λ f free. record {
  exchange_opaque = subst (λ (l : List ℕ). length l ≤ 1024) (sym free.exchange_opaque) c.args.values.now.exchange_opaque_fits;
  nonce = ap length free.nonce ∙ c.nonce_is_whole.ensures;
  measured_opaque = subst (λ (l : List ℕ). length l ≤ 1024) (sym free.measured_opaque) c.args.values.now.measured_opaque_fits;
  handle = subst (λ (n : ℕ). n < 256) (sym free.handle) c.handle_is_byte.ensures;
}
