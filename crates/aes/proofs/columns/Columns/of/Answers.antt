use Rattle.aes.proofs.StateBytes.{block-bytes}
use Rattle.aes.proofs.columns.Columns.of.Goals as goal

pub returns-clause-bytes : goal.returns-clause-bytes
returns-clause-bytes c = block-bytes c.args.block
