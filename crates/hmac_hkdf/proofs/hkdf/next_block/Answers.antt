use Rattle.std.proofs.Common.{[]}
use Rattle.hmac_hkdf.proofs.hkdf.next_block.Goals as goal

pub returns-clause-value : goal.returns-clause-value
returns-clause-value c =
    c.finish.ensures.value c.args.hash c.args.prk.now _
    (c.push-3.ensures.runs c.args.hash (c.push-2.ensures.runs c.args.hash (c.push.ensures.runs c.args.hash c.new-mac.ensures.runs)))
    (c.push-3.ensures.given c.args.hash c.args.prk.now _
    (c.push-2.ensures.given c.args.hash c.args.prk.now _ (c.push.ensures.given c.args.hash c.args.prk.now [] c.new-mac.ensures.given)))

pub returns-clause-size : goal.returns-clause-size
returns-clause-size c =
    c.finish.ensures.size c.args.hash
    (c.push-3.ensures.runs c.args.hash (c.push-2.ensures.runs c.args.hash (c.push.ensures.runs c.args.hash c.new-mac.ensures.runs)))
