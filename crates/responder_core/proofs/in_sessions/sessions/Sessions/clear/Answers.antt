use Rattle.std.proofs.Common.{refl}
use Rattle.responder_core.proofs.Starting.{cleared, emptied}
use Rattle.responder_core.proofs.in_sessions.sessions.Sessions.clear.Goals as goal

pub returns : goal.returns
returns c = λ r h tag t d version stands.
    cleared r h tag t d c.args.self.now c.empty.new.self c.empty-2.new.self c.empty-3.new.self c.empty-4.new.self (record c.empty-4.new.self { ended = c.clear.new.self }) version stands
    (emptied r 1 c.args.self.now c.empty.new.self c.empty.ensures.own c.empty.ensures.others)
    (emptied r 2 c.empty.new.self c.empty-2.new.self c.empty-2.ensures.own c.empty-2.ensures.others)
    (emptied r 3 c.empty-2.new.self c.empty-3.new.self c.empty-3.ensures.own c.empty-3.ensures.others)
    (emptied r 4 c.empty-3.new.self c.empty-4.new.self c.empty-4.ensures.own c.empty-4.ensures.others)
    (λ i. refl) c.clear.ensures
