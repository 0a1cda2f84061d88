use Rattle.capture_records.specs.Keyed.{data_purpose}
use Rattle.capture_records.proofs.keys.data_key.Goals as goal

pub loop-preserved : goal.loop-preserved
loop-preserved c = c.step.ensures c.args.session.now.choice (data_purpose c.args.session.now c.args.psk.now c.args.direction c.loop.counter) c.loop.invariant
