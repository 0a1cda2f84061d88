use Rattle.std.proofs.Common.{rules, ◌≡◌, ◌∙◌, sym, Some, None}
use Rattle.std.specs.List.{position_from}
use Rattle.link_world.proofs.Askers.{few_places, found_at, unplaced}
use Rattle.link_world.specs.Standing.{has_eid}
use Rattle.link_world.proofs.ends.Ends.number_of.Goals as goal

pub returns-in-Some : goal.returns-in-Some
returns-in-Some c = λ w e.
    let is : position_from (has_eid c.args.eid) 0 c.args.self.now.requesters.items ≡ Some c.in-Some.place = search rules in
    let f = found_at c.args.eid c.in-Some.place c.args.self.now.requesters.items w.requesters e.requesters e.apart is in
    c.number_of_place.ensures (few_places c.in-Some.place c.args.self.now w e f.inside) ∙ sym f.number

pub returns-in-None : goal.returns-in-None
returns-in-None c = λ w e.
    let is : position_from (has_eid c.args.eid) 0 c.args.self.now.requesters.items ≡ None = search rules in
    sym ((unplaced c.args.eid 0 c.args.self.now.requesters.items w.requesters e.requesters is).number 1)
