use Rattle.std.proofs.Common.{◌++◌, ap, ◌∙◌, length, length-append, rules, arith}
use Rattle.std.specs.Slice.Iter.{chunks_rest}
use Rattle.hex.specs.Hex.{encode_lower}
use Rattle.trace_text.proofs.HexText.{encode_lower_piece, encode_lower_end}
use Rattle.trace_text.proofs.print.push_pairs.Goals as goal

pub loop-piece-preserved : goal.loop-piece-preserved
loop-piece-preserved c =
    let piece = c.in-Some.piece.now in
    let all = chunks_rest c.loop-piece.piece-iterator in
    let rest = chunks_rest c.next.new.self in
    let steps = c.in-Some.ensures.steps in
    let lengths = ap length steps.1.0 ∙ length-append piece rest in
    let old = c.loop-piece.invariant in
    record {
      next = search rules;
      finite = tt;
      size = steps.0 ∙ old.size;
      text = ap (λ text. text ++ encode_lower rest) c.push_piece.ensures.text ∙ encode_lower_piece c.loop-piece.out all piece rest steps.1.0 ∙ old.text;
      length = omega (arith, c.push_piece.ensures.length, lengths, old.length);
    }

pub returns-clause-text : goal.returns-clause-text
returns-clause-text c =
    encode_lower_end c.loop-piece.out c.args.out.now c.args.bytes.now _ c.in-None.ensures.steps.1.0 c.loop-piece.invariant.text
