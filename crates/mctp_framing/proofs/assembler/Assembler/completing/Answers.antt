use Rattle.std.proofs.Common.{rules, ◌≡◌, ◌∙◌, ◌++◌, true, Option, Some, ap, sym}
use Rattle.mctp_framing.proofs.StandsFor as law
use Rattle.mctp_framing.proofs.WholeRoute.{told_route}
use Rattle.mctp_framing.proofs.assembler.Assembler.completing.Goals as goal
use Rattle.mctp_framing.specs.Completing.{WholeBody, completed, completed_by}
use Rattle.mctp_framing.specs.Cutting.{RouteFields}
use Rattle.mctp_framing.specs.Gathering.{is_ours}
use Rattle.mctp_framing.specs.Packet.{PacketFields, view_of}
use Rattle.mctp_framing.specs.declared.completing.Completing.{Completing}

pub returns-in_err-before-clause-value : goal.returns-in_err-before-clause-value
returns-in_err-before-clause-value c = λ given stands.
    let p : PacketFields = view_of c.args.packet in
    let ours : is_ours c.args.self.now.receiver p ≡ true = search rules in
    ap (λ (o : Option Completing). completed_by o p.payload) c.from_residual.ensures ∙ sym (c.in_err-before.ensures.value ours) ∙ ap completed (law.answers c.args.self.now given p stands)

pub returns-clause-value : goal.returns-clause-value
returns-clause-value c = λ given stands.
    let p : PacketFields = view_of c.args.packet in
    let ours : is_ours c.args.self.now.receiver p ≡ true = search rules in
    let whole = c.in_ok-before.ensures.value ours in
    let by : RouteFields → Option WholeBody = λ r. Some (record { route = r; body = c.in_ok-before.before.now ++ p.payload }) in
    ap by (told_route c.args.self.now p _ _ c.route.ensures (sym whole)) ∙ sym (ap completed whole) ∙ ap completed (law.answers c.args.self.now given p stands)
