use Rattle.std.proofs.Common.{◌∙◌, ap, length}
use Rattle.check_laws.proofs.ChangedPlaces.{length_changed}
use Rattle.check_laws.proofs.verdict.SessionTable.change.Goals as goal
use Rattle.check_laws.specs.Rows.{changed_where, kept_for, new_place, places_after, with_sent}

pub returns-clause-places : goal.returns-clause-places
returns-clause-places c =
    let places = c.args.places.now in
    let change = c.args.change.now in
    let changed =
    c.count_sent_at.ensures
    ∙ ap (λ o. changed_where o with_sent c.follow.new.self) c.asking.ensures
    ∙ ap (changed_where (kept_for places.asks change.asked) with_sent) c.follow.ensures in
    c.follow-2.ensures
    ∙ ap (places_after places change) (c.in_ok-new.ensures.place ∙ ap (new_place change) (ap length changed ∙ length_changed places change c.args.self.now))
