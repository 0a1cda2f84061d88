use Rattle.std.proofs.Common.{refl, ◌∙◌, ◌≤◌, ◌+◌, ◌++◌, Option, Some, None, ap, length, subst}
use Rattle.mctp_framing.specs.Cutting.{RouteFields, route_of}
use Rattle.mctp_framing.specs.Gathering.{Receiver}
use Rattle.mctp_framing.specs.Packet.{PacketFields, view_of}
use Rattle.responder.proofs.Brings.{none_brought, told_brings}
use Rattle.responder.proofs.peer.Peer.peek.Goals as goal
use Rattle.responder.specs.Peeking.{IsBrought}
use Rattle.responder_machine.specs.NewData.{Message, body_brings}

pub returns-in_err-completing : goal.returns-in_err-completing
returns-in_err-completing c = λ p given k stands.
    let packet : PacketFields = view_of c.args.view in
    let none = told_brings c.args.self.now p given k packet None stands (c.in_err-completing.ensures.value given stands.assembler) in
    subst (λ (m : Option Message). IsBrought c.from_residual.result c.args.self.now.known.eid.number m) none (none_brought _ _ None c.from_residual.ensures refl)

pub returns : goal.returns
returns c = λ p given k stands.
    let packet : PacketFields = view_of c.args.view in
    let route : RouteFields = route_of c.in_ok-completing.completing.route in
    let fits : length c.in_ok-completing.completing.before.now + length c.args.view.payload.now ≤ 4161 = subst (λ (r : Receiver). length c.in_ok-completing.completing.before.now + length c.args.view.payload.now ≤ r.limit) stands.receiver c.in_ok-completing.ensures.fits in
    let body = c.as_slice.ensures.value ∙ c.write_whole.ensures fits in
    let whole = told_brings c.args.self.now p given k packet (Some (record { route = route; body = c.in_ok-completing.completing.before.now ++ packet.payload })) stands (c.in_ok-completing.ensures.value given stands.assembler) in
    subst (λ (m : Option Message). IsBrought c.peek_body.result c.args.self.now.known.eid.number m) (ap (body_brings k route) body ∙ whole)
    (c.peek_body.ensures k route refl stands.connection)
