use Rattle.std.proofs.Common.{◌∙◌}
use Rattle.link_world.proofs.Held.{counted_with}
use Rattle.link_world.proofs.totals.held_with.Goals as goal

pub returns : goal.returns
returns c = λ a r s t.
    counted_with a r.connections c.args.asker.now.eid.number c.held_in-asked.result c.held_in-served.result c.saturating_add.result c.as_slice.result.now c.as_slice-2.result.now s.stands.made s.eid
    (c.as_slice.ensures.value ∙ c.sessions.ensures a s.stands) (c.as_slice-2.ensures.value ∙ c.sessions-2.ensures r t) c.held_in-asked.ensures c.held_in-served.ensures c.saturating_add.ensures
