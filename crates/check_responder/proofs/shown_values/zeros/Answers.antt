use Rattle.std.proofs.Common.{ℕ}
use Rattle.std.proofs.lemmas.List.{take-replicate}
use Rattle.check_responder.proofs.shown_values.zeros.Goals as goal

pub returns : goal.returns
returns c = take-replicate {X = ℕ} c.args.count 4144 0 c.requires
