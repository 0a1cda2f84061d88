use Rattle.std.proofs.Common.{◌∷◌, []}
use Rattle.script_ends.proofs.Made.{added, known_more}
use Rattle.responder.specs.declared.config.Known.{Known}
use Rattle.std.proofs.Common.{◌∙◌, List, map, ap}
use Rattle.responder.specs.SetUp as answering
use Rattle.script_ends.proofs.responder_end.all_known.Goals as goal

pub loop-q-preserved : goal.loop-q-preserved
loop-q-preserved c = record {
  all = λ responder.
      ap (λ (l : List Known). map answering.known_of l) (added {A = Known} c.push.result c.loop-q.known.items (c.in_ok-own.own ∷ []) c.push.new.self.items c.push.ensures.items c.if-is_err.ensures.value)
      ∙ known_more responder c.loop-q.q-index c.args.requesters.now c.q-item.result c.loop-q.known.items c.in_ok-own.own c.loop-q-test.true c.q-item.is (c.loop-q.invariant.all responder) (c.in_ok-own.ensures responder);
}
