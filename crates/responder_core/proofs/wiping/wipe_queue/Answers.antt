use Rattle.std.proofs.Common.{rules, ◌≡◌, ◌+◌, ℕ, suc, List, arith, subst, ◌<◌}
use Rattle.std.specs.Prelude.{replicate}
use Rattle.responder_core.proofs.WipedQueue.{pushed}
use Rattle.responder_core.proofs.wiping.wipe_queue.Goals as goal

pub loop-n-init : goal.loop-n-init
loop-n-init c = c.new.ensures

pub loop-n-preserved : goal.loop-n-preserved
loop-n-preserved c =
    let small : c.loop-n._n < 16 = search rules in
    pushed c.loop-n._n small c.loop-n.queue c.push.new.self c.push.result c.loop-n.invariant c.push.ensures.fault c.push.ensures.ok
