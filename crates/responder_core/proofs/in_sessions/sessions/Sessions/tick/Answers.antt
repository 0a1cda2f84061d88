use Rattle.std.proofs.Common.{◌∙◌}
use Rattle.responder_core.proofs.Waiting.{ticked}
use Rattle.responder_core.proofs.in_sessions.sessions.Sessions.tick.Goals as goal

pub returns : goal.returns
returns c = λ r h stands.
    ticked r h c.args.seconds c.args.self.now c.wait.new.self c.wait-2.new.self c.wait-3.new.self c.wait-4.new.self stands
    (c.wait-4.ensures.ended ∙ c.wait-3.ensures.ended ∙ c.wait-2.ensures.ended ∙ c.wait.ensures.ended)
    (record { own = c.wait.ensures.own r; others = c.wait.ensures.others })
    (record { own = c.wait-2.ensures.own r; others = c.wait-2.ensures.others })
    (record { own = c.wait-3.ensures.own r; others = c.wait-3.ensures.others })
    (record { own = c.wait-4.ensures.own r; others = c.wait-4.ensures.others })
