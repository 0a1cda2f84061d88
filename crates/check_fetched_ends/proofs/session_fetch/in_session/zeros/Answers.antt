use Rattle.std.proofs.Common.{ℕ}
use Rattle.std.proofs.lemmas.List.{take-replicate}
use Rattle.check_fetched_ends.proofs.session_fetch.in_session.zeros.Goals as goal

pub returns : goal.returns
returns c = take-replicate {X = ℕ} c.args.count 4096 0 c.requires
