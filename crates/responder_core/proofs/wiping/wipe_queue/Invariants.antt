use Rattle.std.proofs.Common.{◌≡◌}
use Rattle.std.specs.Prelude.{replicate}
use Rattle.spdm_grammar.specs.declared.names.TheConstants.{MAX_APP_DATA_LEN}
use Rattle.responder_core.proofs.wiping.wipe_queue.Given as goal

abbrev pub invariant-loop-n : goal.invariant-loop-n
invariant-loop-n l = l.queue ≡ replicate l._n (replicate MAX_APP_DATA_LEN 0)
