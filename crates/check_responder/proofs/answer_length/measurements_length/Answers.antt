use Rattle.std.proofs.Common.{◌≡◌, ◌∙◌, ◌+◌, ℕ, List, length, sym, ap, arith}
use Rattle.measurements.specs.Blocks.{record_of}
use Rattle.measurements.specs.Records.{asked}
use Rattle.spdm_grammar.specs.declared.told.block_spec.BlockSpec.{BlockSpec}
use Rattle.check_responder.proofs.ReadLengths.{measured_read_length}
use Rattle.check_responder.proofs.answer_length.measurements_length.Goals as goal

pub returns : goal.returns
returns c = λ r f set free nonce.
    let blocks = c.blocks_length-blocks_len.ensures.value ∙ ap (λ (b : List BlockSpec). length (record_of (asked c.args.op b))) (sym set) in
    let opaque = ap length free.measured_opaque in
    let long = measured_read_length r f c.args.op nonce in
    total c.blocks_length-blocks_len.result _ _ _ _ long blocks opaque
  where
    total : (a b c d len : ℕ) → len ≡ 42 + b + c → a ≡ b → c ≡ d → 42 + a + d ≡ len
    total a b c d len long x y = omega arith
