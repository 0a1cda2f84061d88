use Rattle.std.proofs.Common.{◌≡◌, ◌∙◌, ◌<◌, ◌≤◌, List, Option, Some, None, ap, sym, subst, length, get_or}
use Rattle.link_world.proofs.Askers.{none_at}
use Rattle.link_world.proofs.Shown.{is_there}
use Rattle.link_world.specs.Standing.{IsSeen}
use Rattle.link_world.specs.declared.ends.AddressedRequester.{AddressedRequester}
use Rattle.requester_machine.specs.Requesting.{Requesting}
use Rattle.link_world.proofs.world.World.requester.Goals as goal

pub returns-in-Some : goal.returns-in-Some
returns-in-Some c = λ w s.
    let xs = c.args.self.now.link.ends.requesters.items in
    let index = c.args.index in
    let x = c.in-Some.asker.now in
    let look = c.in-Some.ensures.lookup in
    let inside : index < length xs = subst (λ (l : List AddressedRequester). index < length l) c.deref.ensures.value look.3.0 in
    let is : x ≡ get_or xs index x = look.3.1 x ∙ ap (λ (l : List AddressedRequester). get_or l index x) c.deref.ensures.value in
    let t = is_there index xs w.requesters x inside is s.ends.requesters in
    subst (λ (o : Option Requesting). IsSeen (Some x.requester) o) (sym t.at) t.stands.stands

pub returns-in-None : goal.returns-in-None
returns-in-None c = λ w s.
    let xs = c.args.self.now.link.ends.requesters.items in
    let index = c.args.index in
    let beyond : length xs ≤ index = subst (λ (l : List AddressedRequester). length l ≤ index) c.deref.ensures.value c.in-None.ensures.lookup.3 in
    subst (λ (o : Option Requesting). IsSeen None o) (sym (none_at index xs w.requesters beyond s.ends.requesters)) tt
