use Rattle.std.proofs.Common.{◌≡◌, ◌∙◌, ◌+◌, ℕ, length, sym, ap, arith}
use Rattle.std.specs.Prelude.{◌==◌, ◌||◌, if◌then◌else◌}
use Rattle.responder_core.proofs.AnswerLengths.{exchange_long}
use Rattle.responder_core.proofs.clear.exchange.exchange_rsp_len.Goals as goal
use Rattle.responder_machine.specs.Place.{place_terms}
use Rattle.spdm_basis.specs.Sizes.{hash_size}
use Rattle.spdm_grammar.specs.Message.{exchange_message}
use Rattle.spdm_grammar.specs.declared.messages.choice.Choice.{Choice}

pub returns-clause-value : goal.returns-clause-value
returns-clause-value c = λ r p m f place free.
    let kind = c.args.exchange.now.summary in
    let hash : c.size-hash_len.result ≡ hash_size (place_terms p).choice.hash = c.size-hash_len.ensures ∙ ap (λ (x : Choice). hash_size x.hash) (sym place.choice) in
    let summary : c.summary_len-summary_len.result ≡ (if kind == 1 || kind == 255 then hash_size (place_terms p).choice.hash else 0) =
    c.summary_len-summary_len.ensures.value ∙ ap (λ (n : ℕ). if kind == 1 || kind == 255 then n else 0) hash in
    let context = ap length free.context in
    let opaque = ap length free.exchange_opaque in
    let long = exchange_long r p m f (exchange_message c.args.exchange.now) in
    total c.summary_len-summary_len.result _ c.size-hash_len.result _ _ _ _ _ _ long summary hash context opaque
  where
    total : (a b c d e f g h len : ℕ) → len ≡ 12 + b + e + g + d → a ≡ b → c ≡ d → e ≡ f → g ≡ h → 12 + a + f + h + c ≡ len
    total a b c d e f g h len long x y z w = omega arith
