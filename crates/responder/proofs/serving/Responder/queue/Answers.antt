use Rattle.std.proofs.Common.{refl, ◌≡◌, ℕ, List, Option, Some, None, ap, subst, sym}
use Rattle.responder.proofs.Found.{hit, none_found}
use Rattle.responder.proofs.Waiting.{queue_stands, queue_told, seen_stands, unknown_stands}
use Rattle.responder.proofs.serving.Responder.queue.Goals as goal
use Rattle.responder.specs.Standing.{has_eid}
use Rattle.responder.specs.declared.peer.Peer.{Peer}
use Rattle.responder_machine.specs.Responding.{Connection, reply_fault_of}
use Rattle.spdm_machine.specs.Packets.{fields_in}
use Rattle.std.specs.List.{position_from}

pub returns-in-Some-get_mut-clause-fault : goal.returns-in-Some-get_mut-clause-fault
returns-in-Some-get_mut-clause-fault c = λ r stands.
    let eid : ℕ = c.args.eid.number in
    let items : List Peer = c.args.self.now.peers.items in
    let here : position_from (has_eid eid) 0 items ≡ Some c.in-Some.place = subst (λ (n : ℕ). position_from (has_eid n) 0 items ≡ Some c.in-Some.place) c.number.ensures.value (sym c.in-Some.ensures.place) in
    let found = hit r.part (fields_in r.given) eid 0 c.in-Some.place items r.connections stands.peers stands.apart here in
    let item = c.in-Some-get_mut.ensures.item in
    let seen : Peer = c.in-Some-get_mut.peer.now in
    queue_told r eid found.c c.args.bytes.now c.queue.result c.queue.new.self found.found (c.queue.ensures r.part (fields_in r.given) found.c (seen_stands r eid items c.in-Some.place found seen (item.3.1 seen)))

pub returns-in-Some-get_mut-clause-stands : goal.returns-in-Some-get_mut-clause-stands
returns-in-Some-get_mut-clause-stands c = λ r stands.
    let eid : ℕ = c.args.eid.number in
    let items : List Peer = c.args.self.now.peers.items in
    let here : position_from (has_eid eid) 0 items ≡ Some c.in-Some.place = subst (λ (n : ℕ). position_from (has_eid n) 0 items ≡ Some c.in-Some.place) c.number.ensures.value (sym c.in-Some.ensures.place) in
    let found = hit r.part (fields_in r.given) eid 0 c.in-Some.place items r.connections stands.peers stands.apart here in
    let item = c.in-Some-get_mut.ensures.item in
    let seen : Peer = c.in-Some-get_mut.peer.now in
    queue_stands r eid c.args.bytes.now c.args.self.now _ c.in-Some.place found c.queue.new.self c.queue.result stands (record { part = refl; given = refl; shared = refl }) refl
    (c.queue.ensures r.part (fields_in r.given) found.c (seen_stands r eid items c.in-Some.place found seen (item.3.1 seen)))

pub returns-in-None-clause-fault : goal.returns-in-None-clause-fault
returns-in-None-clause-fault c = λ r stands.
    let items : List Peer = c.args.self.now.peers.items in
    let nothing = none_found r.part (fields_in r.given) c.args.eid.number 0 items r.connections stands.peers (subst (λ (n : ℕ). position_from (has_eid n) 0 items ≡ None) c.number.ensures.value (sym c.in-None.ensures.place)) in
    ap (λ (o : Option Connection). reply_fault_of o c.args.bytes.now) nothing

pub returns-in-None-clause-stands : goal.returns-in-None-clause-stands
returns-in-None-clause-stands c = λ r stands.
    let items : List Peer = c.args.self.now.peers.items in
    let nothing = none_found r.part (fields_in r.given) c.args.eid.number 0 items r.connections stands.peers (subst (λ (n : ℕ). position_from (has_eid n) 0 items ≡ None) c.number.ensures.value (sym c.in-None.ensures.place)) in
    unknown_stands r c.args.eid.number c.args.bytes.now c.args.self.now stands nothing
