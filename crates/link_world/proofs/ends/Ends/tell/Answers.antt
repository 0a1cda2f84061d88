use Rattle.std.proofs.Common.{rules, refl, ◌≡◌, ◌∙◌, ◌≤◌, ◌+◌, length, ap, sym, subst}
use Rattle.std.proofs.lemmas.Result.{on_ok_weaker}
use Rattle.requester_core.specs.Joined.{command_of}
use Rattle.link_world.proofs.Askers.{ends_hit, none_numbered, requester_numbered}
use Rattle.link_world.proofs.GivenTo.{asker_told, nothing_told}
use Rattle.link_world.specs.declared.ends.AddressedRequester.{AddressedRequester}
use Rattle.requester.specs.Standing as asking
use Rattle.world_machine.specs.World.{requester_of}
use Rattle.link_world.proofs.ends.Ends.tell.Goals as goal

pub returns-in_default-get_mut : goal.returns-in_default-get_mut
returns-in_default-get_mut c = λ w e.
    let ends = c.args.self.now in
    let number : c.args.q ≡ c.in-Some.place + 1 = search rules in
    let outside : length ends.requesters.items ≤ c.in-Some.place = c.in_default-get_mut.ensures.item.3 in
    nothing_told w c.args.q (command_of c.args.command) (requester_of c.args.q w) c.args.text.now c.clear.new.self ends (none_numbered w ends c.args.q c.in-Some.place e number outside) c.clear.ensures e

pub returns : goal.returns
returns c = λ w e.
    let ends = c.args.self.now in
    let k = c.in-Some.place in
    let item = c.in-Some-get_mut.ensures.item in
    let number : c.args.q ≡ k + 1 = search rules in
    let h = ends_hit w ends k e item.3.0 in
    let seen : c.in-Some-get_mut.asker.now ≡ h.seen = item.3.1 h.seen ∙ h.there h.seen in
    let told = c.command-answer.ensures h.a (subst (λ (x : AddressedRequester). asking.StandsFor x.requester h.a) (sym seen) h.stands.stands) in
    let asker : AddressedRequester = record { eid = c.in-Some-get_mut.asker.now.eid; requester = c.command-answer.new.self } in
    on_ok_weaker c.push_command.result (asker_told w k ends _ asker e h (record { items = refl; eid = refl; responder = refl }) (ap (λ (x : AddressedRequester). x.eid) seen) c.args.q (command_of c.args.command) c.command-answer.result c.command-answer.new.out
    (requester_of c.args.q w) c.args.text.now c.push_command.new.text (requester_numbered w ends c.args.q k h number) told refl)
    c.push_command.ensures
