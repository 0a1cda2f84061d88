use Rattle.aes.proofs.StateBytes.{add-bytes}
use Rattle.aes.proofs.columns.Columns.add.Goals as goal

pub returns-clause-bytes : goal.returns-clause-bytes
returns-clause-bytes c = add-bytes c.args.self.now c.args.key.now
