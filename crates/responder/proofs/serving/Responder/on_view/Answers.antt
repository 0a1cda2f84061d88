use Rattle.std.proofs.Common.{rules, refl, ◌≡◌, ◌≢◌, ◌∙◌, ◌<◌, ◌-◌, ◌^◌, ℕ, ap, subst, sym, arith, get_or}
use Rattle.mctp_framing.specs.Packet.{PacketFields, view_of}
use Rattle.responder.proofs.Found.{hit}
use Rattle.responder.proofs.Reached.{messages_few, number_few, run_is}
use Rattle.responder.proofs.Steps.{another_step, taken_step, unknown_step}
use Rattle.responder.proofs.serving.Responder.on_view.Goals as goal
use Rattle.responder.specs.Peers as peers
use Rattle.responder.specs.declared.peer.Peer.{Peer}
use Rattle.responder_machine.specs.Responding.{Connection}
use Rattle.spdm_machine.proofs.Members.{found_in}
use Rattle.spdm_machine.specs.Packets.{fields_in}
use Rattle.std.specs.Prelude.{◌==◌}
use Rattle.responder_machine.proofs.Runs.{made_in}

pub returns-then-view-number : goal.returns-then-view-number
returns-then-view-number c = λ r packet is empty stands.
    let other : c.args.view.to ≢ c.args.self.now.part.eid.number = search rules in
    another_step r packet (view_of c.args.view) c.args.out.now c.args.self.now _ stands (record { few = c.requires.fresh; part = refl; given = refl; shared = refl; peers = refl }) empty is other

pub returns-in-None : goal.returns-in-None
returns-in-None c = λ r packet is empty stands.
    let own : c.args.view.to ≡ c.args.self.now.part.eid.number = search rules in
    unknown_step r packet (view_of c.args.view) c.args.out.now c.args.self.now _ stands (record { few = c.requires.fresh; part = refl; given = refl; shared = refl; peers = refl }) empty is own (sym c.in-None.ensures.place)

pub returns-in-Some-get_mut : goal.returns-in-Some-get_mut
returns-in-Some-get_mut c = λ r packet is empty stands.
    let fields : PacketFields = view_of c.args.view in
    let own : c.args.view.to ≡ c.args.self.now.part.eid.number = search rules in
    let found = hit r.part (fields_in r.given) c.args.view.from 0 c.in-Some.place c.args.self.now.peers.items r.connections stands.peers stands.apart (sym c.in-Some.ensures.place) in
    let item = c.in-Some-get_mut.ensures.item in
    let seen : Peer = c.in-Some-get_mut.peer.now in
    let at = found.at in
    let there : c.in-Some.place ≡ found.k = omega (arith, at) in
    let same : seen ≡ found.seen = item.3.1 seen ∙ ap (λ (n : ℕ). get_or c.args.self.now.peers.items n seen) there ∙ found.there seen in
    let m = (found_in (λ (y : Connection). y.setup.peer == fields.from) r.connections found.c found.found).0 in
    let run = run_is r stands.reached in
    let below = subst (λ (n : ℕ). n < 2 ^ 64 - 1) (sym stands.number) (number_few r stands.reached stands.first) in
    let taken = c.on_packet.ensures r.part (fields_in r.given) found.c stands.part (made_in r.connections found.c run.made m) (messages_few r stands.reached found.c m) below empty
    (subst (λ (x : Peer). peers.StandsFor x r.part (fields_in r.given) found.c) (sym same) found.stands) in
    taken_step r packet fields c.args.self.now _ c.in-Some.place found c.on_packet.new.self c.on_packet.result c.on_packet.new.out stands is own c.requires.fresh refl refl refl taken
