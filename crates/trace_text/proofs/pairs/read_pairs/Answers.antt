use Rattle.std.proofs.Common.{slice_index, ◌∙◌, ◌*◌, ◌+◌, arith}
use Rattle.hex.proofs.Pairs.{decode_step, decode_done}
use Rattle.hex.proofs.HexLemmas.{decode_of-even}
use Rattle.trace_text.proofs.PairDigits.{pair_value-digits}
use Rattle.trace_text.proofs.pairs.read_pairs.Goals as goal

pub bytes-preserved : goal.bytes-preserved
bytes-preserved c =
    let digits = c.args.digits.now in
    let at = 2 * c.bytes.i in
    let pair = pair_value-digits (slice_index digits at) (slice_index digits (at + 1)) at _ _ c.value.ensures.value c.value-in-bytes.ensures.value in
    decode_step _ _ c.bytes.i _ (omega arith) (omega arith) pair c.bytes.invariant

pub returns : goal.returns
returns c =
    decode_of-even c.args.digits.now (omega arith) ∙ decode_done _ c.bytes.bytes c.bytes.i (omega arith) (omega arith) c.bytes.invariant
