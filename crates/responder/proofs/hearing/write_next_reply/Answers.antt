use Rattle.responder.proofs.Filled.{filled}
use Rattle.responder.proofs.hearing.write_next_reply.Goals as goal
use Rattle.std.proofs.Common.{◌∙◌}

pub returns : goal.returns
returns c = λ r h stands.
    filled c.extend.result 1024 c.clear.new.self c.next_reply.result.now c.extend.new.self c.extend.ensures.ok c.extend.ensures.full c.clear.ensures c.next_reply.ensures.fits
    ∙ c.next_reply.ensures.value r h stands
