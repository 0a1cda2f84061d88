use Rattle.std.proofs.Common.{◌≤◌, ◌∙◌, Option, arith, ap, sym, length}
use Rattle.std.proofs.lemmas.List.{get_or_past}
use Rattle.capture_bodies.specs.Answers.{came_as}
use Rattle.capture_records.proofs.Nobody.{seen_by_nobody}
use Rattle.capture_records.specs.Heard.{Heard}
use Rattle.capture_records.specs.Hearing.{nobody, seen_among, seen_by}
use Rattle.capture_records.specs.declared.ends.Way.{Way}
use Rattle.capture_records.proofs.hearing.Hearing.follow.Goals as goal

pub returns-then-way-len-clause-shown : goal.returns-then-way-len-clause-shown
returns-then-way-len-clause-shown c =
    let all = c.args.self.now in
    let way = c.in-Some.way in
    let done = came_as c.args.gathered.now.came c.args.gathered.now.body.now in
    let long = ap length c.self.view_is in
    let within = c.if-way-len.true in
    let counted = c.len.ensures in
    let past : length all ≤ way.place = omega (arith, long, within, counted) in
    c.unheard-then-way-len.ensures c.args.inner.now
    ∙ sym (seen_by_nobody way.direction done)
    ∙ ap (λ (h : Heard). seen_by h way.direction done) (sym (get_or_past all way.place nobody past))
    ∙ ap (λ (w : Option Way). seen_among all w done) (sym c.in-Some.is)
