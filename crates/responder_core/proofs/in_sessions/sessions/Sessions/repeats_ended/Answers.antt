use Rattle.std.proofs.Common.{◌∙◌, ap, Option}
use Rattle.responder_core.proofs.in_sessions.sessions.Sessions.repeats_ended.Goals as goal
use Rattle.responder_machine.specs.History.{KeptRecord}
use Rattle.responder_machine.specs.Responder.{repeats}

pub returns : goal.returns
returns c = λ r h stands. c.is_repeat.ensures ∙ ap (λ (k : Option KeptRecord). repeats k c.args.sealed.now) stands.ended
