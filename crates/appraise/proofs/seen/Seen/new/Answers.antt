use Rattle.std.proofs.Common.{false}
use Rattle.std.proofs.lemmas.List.{get_or-replicate}
use Rattle.appraise.proofs.seen.Seen.new.Goals as goal

pub returns : goal.returns
returns c = record { at = λ index h. get_or-replicate 256 index false false h }
