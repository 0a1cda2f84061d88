use Rattle.std.proofs.Common.{◌≡◌, ◌<◌, ◌+◌, ◌∷◌, ℕ, List, drop, length, ap, sym, ◌∙◌, arith}
use Rattle.mctp_framing.specs.Cutting.{packet_count, packets_of, route_of}
use Rattle.mctp_framing.proofs.Packets.{packets_from, no_packets_from}
use Rattle.mctp_framing.proofs.cutter.CutterIterator.next.Goals as goal

pub returns-then-self-clause-steps : goal.returns-then-self-clause-steps
returns-then-self-clause-steps c =
    let i = c.self.inside in
    let none = sym c.self.view_is ∙ no_packets_from (route_of i.route) i.unit i.body.now i.given (c.if-self.true ∙ c.self.invariant.2) in
    (none, none)

pub returns-clause-steps : goal.returns-clause-steps
returns-clause-steps c =
    let i = c.self.inside in
    let rest = drop (i.given + 1) (packets_of (route_of i.route) i.unit i.body.now) in
    let within : i.given < packet_count i.unit i.body.now = rw (← c.self.invariant.2) (omega arith) in
    sym c.self.view_is ∙ packets_from (route_of i.route) i.unit i.body.now i.given within ∙ ap (λ (p : List ℕ). p ∷ rest) (sym c.packet_at-packet.ensures)

shorter : (all rest : List (List ℕ)) (first : List ℕ) → all ≡ first ∷ rest → length rest < length all
shorter all rest first e = rw e (omega arith)

pub returns-clause-goes : goal.returns-clause-goes
returns-clause-goes c = record { on = λ _. (tt, tt, shorter _ _ _ (returns-clause-steps c)); keeps = tt; rests = λ _. tt }
