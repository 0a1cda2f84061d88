use Rattle.std.proofs.Common.{rules, get_or, ◌≡◌, ◌≢◌, ◌∙◌, ℕ, List, Option, ap, sym, subst, eq-eqb, ne_eqb}
use Rattle.mctp_framing.specs.Packet.{PacketFields, view_of}
use Rattle.responder.proofs.Found.{hit, none_found, peer_of}
use Rattle.responder.proofs.Brings.{brings_apart, brings_at, brings_unknown}
use Rattle.responder.proofs.Waiting.{seen_stands}
use Rattle.responder.proofs.serving.Responder.peek_view.Goals as goal
use Rattle.responder.specs.Peeking.{IsBrought}
use Rattle.responder.specs.Peers.{gathered_at}
use Rattle.responder.specs.declared.peer.Peer.{Peer}
use Rattle.responder_machine.specs.NewData.{Message, gathered_brings}
use Rattle.responder_machine.specs.Setup.{RspSetup}
use Rattle.spdm_machine.specs.Packets.{fields_in}

pub returns-then-view-number : goal.returns-then-view-number
returns-then-view-number c = λ r stands.
    let other : c.args.view.to ≢ c.args.self.now.part.eid.number = search rules in
    brings_apart r (view_of c.args.view) (ne_eqb _ _ (λ same. other (same ∙ stands.part.eid)))

pub returns-in-None : goal.returns-in-None
returns-in-None c = λ r stands.
    let own : c.args.view.to ≡ c.args.self.now.part.eid.number = search rules in
    let nothing = none_found r.part (fields_in r.given) c.args.view.from 0 c.args.self.now.peers.items r.connections stands.peers (sym c.in-None.ensures.place) in
    brings_unknown r (view_of c.args.view) (eq-eqb _ _ (own ∙ sym stands.part.eid)) nothing

pub returns-in-Some : goal.returns-in-Some
returns-in-Some c = λ r stands.
    let fields : PacketFields = view_of c.args.view in
    let items : List Peer = c.args.self.now.peers.items in
    let own : c.args.view.to ≡ c.args.self.now.part.eid.number = search rules in
    let found = hit r.part (fields_in r.given) c.args.view.from 0 c.in-Some.place items r.connections stands.peers stands.apart (sym c.in-Some.ensures.place) in
    let seen : Peer = c.index.result.now in
    let is : seen ≡ get_or items c.in-Some.place seen = search rules in
    let peer = seen_stands r c.args.view.from items c.in-Some.place found seen is in
    let same = sym (peer_of seen r.part (fields_in r.given) found.c peer) ∙ found.peer in
    let brought = brings_at r fields found.c (eq-eqb _ _ (own ∙ sym stands.part.eid)) found.found (ap (λ (s : RspSetup). s.eid) peer.setup) in
    subst (λ (m : Option Message). IsBrought c.peek.result c.args.view.from m) (sym brought)
    (subst (λ (n : ℕ). IsBrought c.peek.result n (gathered_brings found.c (gathered_at r.part (fields_in r.given) found.c fields))) same (c.peek.ensures r.part (fields_in r.given) found.c peer))
