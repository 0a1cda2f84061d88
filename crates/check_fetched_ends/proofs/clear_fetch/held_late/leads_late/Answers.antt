use Rattle.std.proofs.Common.{◌∙◌, ap}
use Rattle.responder_core.specs.LateFetch.{with_ended}
use Rattle.check_fetched_ends.proofs.clear_fetch.held_late.leads_late.Goals as goal

pub returns-clause-stands : goal.returns-clause-stands
returns-clause-stands c = λ r h keys b exchange set_up less byte at so.
    let seen = c.leads_to-led.new.answerer.connection in
    (seen, c.leads_to-led.ensures.stands r h keys b exchange set_up less byte at so, c.put_ended.ensures ∙ ap (with_ended seen) (c.ended_record-ended.ensures r b.left b.stands))
