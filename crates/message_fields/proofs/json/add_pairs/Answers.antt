use Rattle.std.proofs.Common.{◌++◌, ap, ◌∙◌, rules}
use Rattle.std.specs.Slice.Iter.{chunks_rest}
use Rattle.hex.specs.Hex.{encode_lower}
use Rattle.trace_text.proofs.HexText.{encode_lower_piece, encode_lower_end}
use Rattle.message_fields.proofs.json.add_pairs.Goals as goal

pub loop-piece-preserved : goal.loop-piece-preserved
loop-piece-preserved c =
    let all = chunks_rest c.loop-piece.piece-iterator in
    let rest = chunks_rest c.next.new.self in
    let steps = c.in-Some.ensures.steps in
    let old = c.loop-piece.invariant in
    record {
      next = search rules;
      finite = tt;
      size = steps.0 ∙ old.size;
      text = ap (λ text. text ++ encode_lower rest) c.in_ok-add_piece.ensures
          ∙ encode_lower_piece c.loop-piece.text all c.in-Some.piece.now rest steps.1.0
          ∙ old.text;
    }

pub returns : goal.returns
returns c = encode_lower_end c.loop-piece.text c.args.text.now c.args.bytes.now _ c.in-None.ensures.steps.1.0 c.loop-piece.invariant.text
