use Rattle.std.proofs.Common.{◌∙◌, ap, subst, sym}
use Rattle.responder_core.specs.Setup.{IsSetUp}
use Rattle.mctp_framing.specs.Cutting.{route_of}
use Rattle.mctp_framing.specs.Gathering.{Gathered}
use Rattle.mctp_framing.specs.Gathering.Gathered.{Dropped, More, Whole}
use Rattle.mctp_framing.specs.Packet.{PacketFields, view_of}
use Rattle.responder.proofs.Found.{peer_of}
use Rattle.responder.proofs.Taking.{EndsAt, ends_at, gathered_is, told_met}
use Rattle.responder.proofs.peer.Peer.on_packet.Goals as goal
use Rattle.responder.specs.Came.{Came, IsMet, came_of}
use Rattle.responder.specs.SetUp.{known_of}
use Rattle.responder_machine.specs.EndLaws.{receiver_of}
use Rattle.spdm_grammar.specs.declared.told.heard.Heard.TheVariants as heard
use Rattle.spdm_grammar.specs.declared.told.heard.RspIgnored.TheVariants as ignored
use Rattle.spdm_machine.specs.Keys.{Draw, draw_of}

pub returns-in-Whole : goal.returns-in-Whole
returns-in-Whole c = λ p given k part made few below empty stands.
    let packet : PacketFields = view_of c.args.view in
    let old = c.args.shared.now in
    let d : Draw = draw_of old.draws.seed old.draws.number in
    let whole : Gathered = Whole (route_of c.in-Whole.route) c.in-Whole.body.now in
    let is = gathered_is c.args.self.now p given k packet whole stands (c.in-Whole.ensures.fed given stands.assembler) in
    let ends = subst (EndsAt (receiver_of p.eid k.setup.peer)) (sym is) (ends_at (receiver_of p.eid k.setup.peer) given packet) in
    let set = subst (IsSetUp c.towards-setup.result) (sym stands.setup) (c.towards-setup.ensures.set p part) in
    let met = c.hear_whole.ensures p (known_of c.args.self.now.known) k part set stands.setup made few below ends.0 (ends.1 ∙ peer_of c.args.self.now p given k stands) empty stands.connection in
    let all = subst (λ (x : Came). IsMet k x c.hear_whole.result c.hear_whole.new.out c.hear_whole.new.connection old c.hear_whole.new.shared) (ap (came_of k d) is) met in
    let takes = c.take.follows.holds-at-none in
    record {
      met = all;
      stands = record { setup = stands.setup; receiver = takes.receiver ∙ stands.receiver; assembler = takes.stands given stands.assembler; connection = all.stands };
    }

pub returns-in-More : goal.returns-in-More
returns-in-More c = λ p given k part made few below empty stands.
    let packet : PacketFields = view_of c.args.view in
    let old = c.args.shared.now in
    let d : Draw = draw_of old.draws.seed old.draws.number in
    let is = gathered_is c.args.self.now p given k packet More stands (c.in-More.ensures.fed given stands.assembler) in
    let all = subst (λ (x : Came). IsMet k x heard.More c.args.out.now c.args.self.now.connection old old) (ap (came_of k d) is) (told_met k heard.More c.args.out.now c.args.self.now.connection old empty stands.connection) in
    let takes = c.take.follows.holds-at-none in
    record {
      met = all;
      stands = record { setup = stands.setup; receiver = takes.receiver ∙ stands.receiver; assembler = takes.stands given stands.assembler; connection = all.stands };
    }

pub returns-in-Dropped : goal.returns-in-Dropped
returns-in-Dropped c = λ p given k part made few below empty stands.
    let packet : PacketFields = view_of c.args.view in
    let old = c.args.shared.now in
    let d : Draw = draw_of old.draws.seed old.draws.number in
    let told = heard.Ignored (ignored.Dropped c.in-Dropped.cause) in
    let is = gathered_is c.args.self.now p given k packet (Dropped c.in-Dropped.cause) stands (c.in-Dropped.ensures.fed given stands.assembler) in
    let all = subst (λ (x : Came). IsMet k x told c.args.out.now c.args.self.now.connection old old) (ap (came_of k d) is) (told_met k told c.args.out.now c.args.self.now.connection old empty stands.connection) in
    let takes = c.take.follows.holds-at-none in
    record {
      met = all;
      stands = record { setup = stands.setup; receiver = takes.receiver ∙ stands.receiver; assembler = takes.stands given stands.assembler; connection = all.stands };
    }
