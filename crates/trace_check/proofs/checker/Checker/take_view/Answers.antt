use Rattle.std.proofs.Common.{◌≡◌, ◌∙◌, ◌==◌, ℕ, false, ne_eqb, sym}
use Rattle.mctp_framing.specs.Packet.{PacketFields, view_of}
use Rattle.check_laws.proofs.Telling.{of_none}
use Rattle.trace_check.proofs.AllPairs.{refused_by}
use Rattle.trace_check.proofs.checker.Checker.take_view.Goals as goal
use Rattle.capture_machine.specs.Difference.Why.{UnknownEnd}

pub returns : goal.returns
returns c = λ w older packet sound is few parses.
    let p : PacketFields = view_of c.args.view in
    let own : ℕ = w.responder.eid in
    let to : (p.to == own) ≡ false = ne_eqb p.to own (λ its. c.if-view-number.false (its ∙ sym is.own ∙ sym c.number.ensures.value)) in
    let from : (p.from == own) ≡ false = ne_eqb p.from own (λ its. c.if-view-number-2.false (its ∙ sym is.own ∙ sym c.number-2.ensures.value)) in
    refused_by w older c.args.self.now packet _ UnknownEnd is parses (of_none own w.requesters older p to from)
