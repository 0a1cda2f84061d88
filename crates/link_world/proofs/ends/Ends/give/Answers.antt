use Rattle.std.proofs.Common.{rules, refl, ◌≡◌, ◌∙◌, ℕ, List, length, ap, false, Some, None}
use Rattle.std.proofs.lemmas.Bool.{le-ltb, lt-ltb}
use Rattle.std.proofs.lemmas.Result.{on_ok_weaker}
use Rattle.std.specs.List.{position_from}
use Rattle.std.specs.Prelude.{◌==◌, slice_index}
use Rattle.link_world.proofs.Askers.{found_at, unplaced}
use Rattle.link_world.proofs.GivenTo.{given_other, given_short, to_nobody}
use Rattle.link_world.specs.Standing.{has_eid}
use Rattle.link_world.proofs.ends.Ends.give.Goals as goal

pub returns-then-packet-lt2 : goal.returns-then-packet-lt2
returns-then-packet-lt2 c = λ w e.
    let packet : List ℕ = c.args.packet.now in
    on_ok_weaker c.push_nobody.result (λ text. given_short w packet c.args.text.now c.push_nobody.new.text c.clear.new.self c.args.self.now (lt-ltb (length packet) 2 c.if-packet-lt2.true)
    (to_nobody w packet None c.args.text.now c.push_nobody.new.text c.clear.new.self c.args.self.now refl c.clear.ensures e text))
    c.push_nobody.ensures

pub returns-in-Some : goal.returns-in-Some
returns-in-Some c = λ w e.
    let ends = c.args.self.now in
    let packet : List ℕ = c.args.packet.now in
    let to : ℕ = slice_index packet 1 in
    let is : position_from (has_eid to) 0 ends.requesters.items ≡ Some c.in-Some.place = search rules in
    let f = found_at to c.in-Some.place ends.requesters.items w.requesters e.requesters e.apart is in
    let other : (to == ends.eid.number) ≡ false = search rules in
    on_ok_weaker c.give_requester.result (given_other w packet c.args.text.now c.give_requester.new.text c.give_requester.new.out c.give_requester.new.self (le-ltb (length packet) 2 c.if-packet-lt2.false)
    (ap (λ (n : ℕ). to == n) e.eid ∙ other) (Some f.hit_is.a) f.found)
    (c.give_requester.ensures w f.hit_is.a e f.hit_is.at)

pub returns-in-None : goal.returns-in-None
returns-in-None c = λ w e.
    let ends = c.args.self.now in
    let packet : List ℕ = c.args.packet.now in
    let to : ℕ = slice_index packet 1 in
    let is : position_from (has_eid to) 0 ends.requesters.items ≡ None = search rules in
    let u = unplaced to 0 ends.requesters.items w.requesters e.requesters is in
    let other : (to == ends.eid.number) ≡ false = search rules in
    on_ok_weaker c.push_nobody-in-None.result (λ text. given_other w packet c.args.text.now c.push_nobody-in-None.new.text c.clear.new.self ends (le-ltb (length packet) 2 c.if-packet-lt2.false)
    (ap (λ (n : ℕ). to == n) e.eid ∙ other) None u.found
    (to_nobody w packet None c.args.text.now c.push_nobody-in-None.new.text c.clear.new.self ends refl c.clear.ensures e text))
    c.push_nobody-in-None.ensures
