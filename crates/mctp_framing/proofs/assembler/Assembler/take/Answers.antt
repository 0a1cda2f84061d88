use Rattle.std.proofs.Common.{◌≡◌, ◌∙◌, ◌∷◌, length, refl, ap, sym, subst, arith}
use Rattle.mctp_framing.specs.Packet.{PacketFields, view_of}
use Rattle.mctp_framing.specs.Cutting.{RouteFields}
use Rattle.mctp_framing.specs.Gathering.{Receiver, route_of_packet}
use Rattle.mctp_framing.specs.Gathering.Gathered.{Whole}
use Rattle.mctp_framing.specs.Assembling.{Assembly, StandsFor, after_packet}
use Rattle.mctp_framing.specs.Lending.{TakesPacket}
use Rattle.mctp_framing.proofs.StandsFor as law
use Rattle.mctp_framing.proofs.WholeRoute.{told_route}
use Rattle.mctp_framing.proofs.assembler.Assembler.take.Goals as goal

-- what a step leaves is an assembler that was given the packet
takes : (old new : Assembly) (p : PacketFields) → new ≡ after_packet old p → TakesPacket p old new
takes old new p left = record {
  receiver = ap (λ (a : Assembly). a.receiver) left ∙ law.receiver_kept old p;
  stands = λ given before. (
      let P : Assembly → Type 0 = λ a. StandsFor a (p ∷ given) in
      subst P (sym left) (law.stands old given p before)
      );
}

pub returns-in-Whole : goal.returns-in-Whole
returns-in-Whole c =
    let p = view_of c.args.packet in
    let kept = takes c.args.self.now _ p (c.self.view_is ∙ c.step.ensures.after) in
    let body = c.as_slice.ensures.value ∙ ap (λ (a : Assembly). a.body) c.self.view_is in
    let route_by : Receiver → RouteFields = λ r. record { to = r.own; from = r.peer; owner = p.owner; tag = p.tag } in
    let route = told_route c.args.self.now p c.step.new.self.body _ (c.route.ensures ∙ ap route_by kept.receiver) c.in-Whole.ensures.answer in (
      (refl, λ _. tt, kept),
      record {
        fed = λ given before. ap (λ (r : RouteFields). Whole r c.as_slice.result.now) route ∙ ap (Whole (route_of_packet p)) body ∙ c.in-Whole.ensures.answer ∙ law.answers c.args.self.now given p before;
        fits = omega (arith, c.as_slice.ensures.fits, ap length c.as_slice.ensures.value, ap (λ (r : Receiver). r.limit) kept.receiver);
        rests = tt;
      },
    )

pub returns-in-More : goal.returns-in-More
returns-in-More c =
    let p = view_of c.args.packet in (
      (refl, λ _. tt, takes c.args.self.now _ p (c.self.view_is ∙ c.step.ensures.after)),
      record { fed = λ given before. c.in-More.ensures.answer ∙ law.answers c.args.self.now given p before; fits = omega arith; rests = tt },
    )

pub returns-in-Dropped : goal.returns-in-Dropped
returns-in-Dropped c =
    let p = view_of c.args.packet in (
      (refl, λ _. tt, takes c.args.self.now _ p (c.self.view_is ∙ c.step.ensures.after)),
      record { fed = λ given before. c.in-Dropped.ensures.answer ∙ law.answers c.args.self.now given p before; fits = omega arith; rests = tt },
    )
