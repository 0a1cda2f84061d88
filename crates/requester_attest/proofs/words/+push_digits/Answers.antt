use Rattle.std.proofs.Common.{arith, append_assoc}
use Rattle.std.proofs.lemmas.Fmt.{decimal_step}
use Rattle.requester_attest.proofs.words.+push_digits.Goals as goal

pub returns-clause-text : goal.returns-clause-text
returns-clause-text t c =
    rw (decimal_step c.args.number c.if-number-lt10.false (omega arith), ← append_assoc, ← c.push_digits.ensures.text) c.push-2.ensures.text
