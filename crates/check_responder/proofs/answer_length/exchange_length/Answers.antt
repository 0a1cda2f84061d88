use Rattle.std.proofs.Common.{◌≡◌, ◌∙◌, ◌+◌, ℕ, length, sym, ap, arith}
use Rattle.std.specs.Prelude.{◌==◌, ◌||◌, if◌then◌else◌}
use Rattle.responder_machine.specs.Place.{place_terms}
use Rattle.spdm_basis.specs.Sizes.{hash_size}
use Rattle.spdm_basis.specs.declared.values.hash_alg.HashAlg.{HashAlg}
use Rattle.spdm_grammar.specs.Message.{exchange_message}
use Rattle.check_responder.proofs.ReadLengths.{exchange_read_length}
use Rattle.check_responder.proofs.answer_length.exchange_length.Goals as goal

pub returns : goal.returns
returns c = λ r p m f chosen free.
    let kind = c.args.exchange.now.summary in
    let hash : c.size-hash_len.result ≡ hash_size (place_terms p).choice.hash = c.size-hash_len.ensures ∙ ap hash_size (sym chosen) in
    let summary : c.summary_length-summary_len.result ≡ (if kind == 1 || kind == 255 then hash_size (place_terms p).choice.hash else 0) =
    c.summary_length-summary_len.ensures.value ∙ ap (λ (x : HashAlg). if kind == 1 || kind == 255 then hash_size x else 0) (sym chosen) in
    let context = ap length free.context in
    let opaque = ap length free.exchange_opaque in
    let long = exchange_read_length r p m f (exchange_message c.args.exchange.now) in
    total c.summary_length-summary_len.result _ c.size-hash_len.result _ _ _ _ _ _ long summary hash context opaque
  where
    total : (a b c d e f g h len : ℕ) → len ≡ 12 + b + e + g + d → a ≡ b → c ≡ d → e ≡ f → g ≡ h → 12 + a + f + h + c ≡ len
    total a b c d e f g h len long x y z w = omega arith
