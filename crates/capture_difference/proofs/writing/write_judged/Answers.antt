use Rattle.std.proofs.Common.{ap, inr, is_ok}
use Rattle.capture_difference.proofs.writing.write_judged.Goals as goal

pub returns-in-Ok-clause-whole : goal.returns-in-Ok-clause-whole
returns-in-Ok-clause-whole g c = (c.in_ok-told.told, c.in_ok-told.ensures, c.in-Ok.ensures.whole)

pub returns-in-Ok-clause-read : goal.returns-in-Ok-clause-read
returns-in-Ok-clause-read g c = ap is_ok c.in_ok-told.ensures.1

pub returns-in-Err-clause-part : goal.returns-in-Err-clause-part
returns-in-Err-clause-part g c = inr (c.in_ok-told.told, c.in_ok-told.ensures, c.in-Err.ensures.prefix)

pub returns-in-Err-clause-readable : goal.returns-in-Err-clause-readable
returns-in-Err-clause-readable g c = λ fault. ap is_ok c.in_ok-told.ensures.1
