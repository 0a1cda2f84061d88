use Rattle.std.proofs.Common.{◌≡◌, ◌+◌, ◌-◌, ◌*◌, ◌/◌, ◌∙◌, length, ap, arith, length-append, List, ℕ}
use Rattle.aes.specs.Cipher.{expanded, next_word, round_keys}
use Rattle.aes.proofs.Words.{expanded-more}
use Rattle.aes.proofs.expansion.expanded_by.Goals as goal

pub loop-n-preserved : goal.loop-n-preserved
loop-n-preserved c =
    let nk = length c.args.key.now / 4 in
    let word = c.next_word-word.result in
    record {
      small = c.loop-n.invariant.small;
      bytes = c.append.ensures ∙ expanded-more c.args.key.now c.loop-n.bytes.items word c.loop-n.n c.loop-n.invariant.bytes (c.next_word-word.ensures ∙ ap (λ (w : List ℕ). next_word w nk (nk + c.loop-n.n)) c.as_slice.ensures.value);
      long = ap length c.append.ensures ∙ length-append c.loop-n.bytes.items word ∙ omega (arith, c.loop-n.invariant.long);
    }

pub returns-clause-value : goal.returns-clause-value
unfolding round_keys
returns-clause-value c =
    let nk = length c.args.key.now / 4 in
    let e : c.loop-n.n ≡ 4 * (nk + 6 + 1) - nk = omega arith in
    c.loop-n.invariant.bytes ∙ ap (expanded c.args.key.now) e
