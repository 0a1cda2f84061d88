use Rattle.std.proofs.Common.{◌∙◌}
use Rattle.responder_core.proofs.Starting.{began}
use Rattle.responder_core.proofs.in_sessions.sessions.Sessions.begin.Goals as goal

pub returns : goal.returns
returns c = λ r h tag t d is stands.
    began r h tag t d c.args.id c.args.session c.args.answer.now c.begin.result c.args.self.now c.leave.new.self c.leave-2.new.self c.leave-3.new.self c.leave-4.new.self c.put.new.self c.requires.least is stands
    (record { own = c.leave.ensures.own r; others = c.leave.ensures.others })
    (record { own = c.leave-2.ensures.own r; others = c.leave-2.ensures.others })
    (record { own = c.leave-3.ensures.own r; others = c.leave-3.ensures.others })
    (record { own = c.leave-4.ensures.own r; others = c.leave-4.ensures.others })
    c.begin.ensures.session c.begin.ensures.idle c.begin.ensures.period c.put.ensures.own c.put.ensures.others (c.put.ensures.ended ∙ c.clear.ensures)
