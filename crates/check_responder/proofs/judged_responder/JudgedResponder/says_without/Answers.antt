use Rattle.std.proofs.Common.{ℕ, ◌∷◌}
use Rattle.responder_machine.specs.History.{History}
use Rattle.responder_machine.specs.History.Entry.{Dropped}
use Rattle.check_responder.proofs.judged_responder.JudgedResponder.says_without.Goals as goal

pub returns-clause-told : goal.returns-clause-told
returns-clause-told c = λ r h set stands idle few anew.
    let g : History = Dropped c.args.id ∷ h in
    c.says_anew-judged.ensures r g set (c.set_aside-session.ensures.stands r h stands) idle few anew

pub returns-clause-stands : goal.returns-clause-stands
returns-clause-stands c = λ r h stands. c.put_back.ensures c.args.self.now.connection r h c.set_aside-session.ensures.aside stands
