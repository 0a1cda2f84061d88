use Rattle.std.proofs.Common.{arith, append_assoc}
use Rattle.std.proofs.lemmas.Fmt.{decimal_step}
use Rattle.trace_text.proofs.text_words.+add_digits.Goals as goal

pub returns : goal.returns
returns t c =
    let n = c.args.number in
    rw (decimal_step n c.if-number-lt10.false (omega arith), ← append_assoc, ← c.in_ok-add_digits.ensures) c.extend-2.ensures.ok
