use Rattle.std.proofs.Common.{rules, get_or, ◌≡◌, ◌∙◌, ℕ, List, Some, None, ap, subst, sym}
use Rattle.responder.proofs.Found.{hit, none_found}
use Rattle.responder.proofs.Waiting.{seen_stands}
use Rattle.responder.proofs.serving.Responder.data.Goals as goal
use Rattle.responder.specs.SessionTimes.{data_at}
use Rattle.responder.specs.Standing.{has_eid}
use Rattle.responder.specs.declared.peer.Peer.{Peer}
use Rattle.spdm_machine.specs.Packets.{fields_in}
use Rattle.std.specs.List.{position_from}

pub returns-in-Some : goal.returns-in-Some
returns-in-Some c = λ r stands.
    let eid : ℕ = c.args.eid.number in
    let items : List Peer = c.args.self.now.peers.items in
    let here : position_from (has_eid eid) 0 items ≡ Some c.in-Some.place = subst (λ (n : ℕ). position_from (has_eid n) 0 items ≡ Some c.in-Some.place) c.number.ensures.value (sym c.in-Some.ensures.place) in
    let found = hit r.part (fields_in r.given) eid 0 c.in-Some.place items r.connections stands.peers stands.apart here in
    let seen : Peer = c.index.result.now in
    let is : seen ≡ get_or items c.in-Some.place seen = search rules in
    let peer = seen_stands r eid items c.in-Some.place found seen is in
    c.data.ensures found.c.setup found.c.history peer.connection ∙ ap (data_at c.args.id) (sym found.found)

pub returns-in-None : goal.returns-in-None
returns-in-None c = λ r stands.
    let items : List Peer = c.args.self.now.peers.items in
    let nothing = none_found r.part (fields_in r.given) c.args.eid.number 0 items r.connections stands.peers (subst (λ (n : ℕ). position_from (has_eid n) 0 items ≡ None) c.number.ensures.value (sym c.in-None.ensures.place)) in
    sym (ap (data_at c.args.id) nothing)
