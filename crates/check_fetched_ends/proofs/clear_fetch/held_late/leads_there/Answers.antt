use Rattle.std.proofs.Common.{◌∙◌, Option, ap, sym}
use Rattle.check_fetched_ends.specs.LastMarked.{with_ended_if}
use Rattle.check_late_laws.specs.declared.late_fetch.marks.Marks.{Marks}
use Rattle.responder_machine.specs.History.{ended_of}
use Rattle.check_fetched_ends.proofs.clear_fetch.held_late.leads_there.Goals as goal

pub returns-in-Some-clause-stands : goal.returns-in-Some-clause-stands
returns-in-Some-clause-stands c = λ r h keys b exchange set_up less byte at so.
    let all = c.leads_late.ensures.stands r h keys b exchange set_up less byte at so in
    (all.0, all.1, all.2 ∙ sym (ap (λ (late : Option Marks). with_ended_if late (ended_of b.left) all.0) c.in-Some.is))

pub returns-in-None-clause-stands : goal.returns-in-None-clause-stands
returns-in-None-clause-stands c = λ r h keys b exchange set_up less byte at so.
    let seen = c.leads_to.new.answerer.connection in
    (seen, c.leads_to.ensures.stands r h keys b exchange set_up less byte at so, sym (ap (λ (late : Option Marks). with_ended_if late (ended_of b.left) seen) c.in-None.is))
