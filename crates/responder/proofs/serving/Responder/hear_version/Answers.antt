use Rattle.std.proofs.Common.{◌≡◌, ◌∙◌, ℕ, List, ap, subst, sym}
use Rattle.responder.proofs.serving.Responder.hear_version.Goals as goal
use Rattle.responder.specs.Resetting.{version_packet}
use Rattle.responder.specs.Standing.{StandsFor}
use Rattle.responder_machine.specs.Responding.{responder_hears}

pub returns-clause-stands : goal.returns-clause-stands
returns-clause-stands c = λ r stands.
    let eid : ℕ = c.args.eid.number in
    let is : c.as_slice.result.now ≡ version_packet r.part.eid eid = c.as_slice.ensures.value ∙ c.version_packet-packet.ensures ∙ ap (λ (n : ℕ). version_packet n eid) (sym stands.part.eid) in
    subst (λ (p : List ℕ). StandsFor c.on_packet.new.self (responder_hears r p).after) is (c.on_packet.ensures.step r stands).stands
