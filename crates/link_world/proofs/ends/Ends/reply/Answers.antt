use Rattle.std.proofs.Common.{rules, refl, ◌≡◌, ◌∙◌, ◌<◌, ◌≤◌, ◌+◌, List, get_or, length, ap, sym}
use Rattle.std.proofs.lemmas.Result.{on_ok_weaker}
use Rattle.link_world.proofs.Askers.{eid_of, ends_hit, none_numbered, requester_numbered}
use Rattle.link_world.proofs.GivenTo.{asker_replied, nothing_replied, reply_fault_is}
use Rattle.link_world.specs.declared.ends.AddressedRequester.{AddressedRequester}
use Rattle.responder_machine.specs.Responding.{connection_of, reply_fault_of}
use Rattle.world_machine.specs.World.{requester_of}
use Rattle.link_world.proofs.ends.Ends.reply.Goals as goal

pub returns-in_default-get : goal.returns-in_default-get
returns-in_default-get c = λ w e.
    let number : c.args.q ≡ c.in-Some.place + 1 = search rules in
    let outside : length c.args.self.now.requesters.items ≤ c.in-Some.place = search rules in
    nothing_replied w c.args.bytes.now (requester_of c.args.q w) c.args.text.now c.args.self.now (none_numbered w c.args.self.now c.args.q c.in-Some.place e number outside) e

pub returns : goal.returns
returns c = λ w e.
    let ends = c.args.self.now in
    let k = c.in-Some.place in
    let number : c.args.q ≡ k + 1 = search rules in
    let inside : k < length ends.requesters.items = search rules in
    let h = ends_hit w ends k e inside in
    let seen : c.in-Some-get.asker.now ≡ h.seen =
    c.in-Some-get.ensures.lookup.3.1 h.seen ∙ ap (λ (l : List AddressedRequester). get_or l k h.seen) c.deref.ensures.value ∙ h.there h.seen in
    let own : c.in-Some-get.asker.now.eid.number ≡ eid_of h.a = ap (λ (x : AddressedRequester). x.eid.number) seen ∙ sym h.stands.eid in
    let fault = c.queue-answer.ensures.fault w.responder e.responder in
    on_ok_weaker c.push_reply.result (asker_replied w k ends _ c.in-Some-get.asker.now.eid.number c.args.bytes.now c.queue-answer.result (requester_of c.args.q w) c.args.text.now c.push_reply.new.text e h
    (requester_numbered w ends c.args.q k h number) own refl refl refl (reply_fault_is c.queue-answer.result (reply_fault_of (connection_of c.in-Some-get.asker.now.eid.number w.responder.connections) c.args.bytes.now) fault)
    (c.queue-answer.ensures.stands w.responder e.responder))
    c.push_reply.ensures
