use Rattle.std.proofs.Common.{refl, ℕ, ap, arith, sym, ◌∙◌}
use Rattle.hmac_hkdf.specs.Draw.{Draws}
use Rattle.mctp_framing.specs.Gathering.{Receiver}
use Rattle.requester.proofs.whole.Requester.resume.Goals as goal
use Rattle.requester.specs.SetUp.{setup_of}
use Rattle.spdm_machine.specs.Packets.{body_limit}

pub returns-clause-stands : goal.returns-clause-stands
returns-clause-stands c =
    let config = c.args.config.now in
    let part = c.in_ok-part.ensures.kept in
    let number = ap (λ (d : Draws). d.number) c.from_number-draws.ensures in
    let boot = c.from.ensures in
    let few = c.requires in
    let between : ℕ → ℕ → Receiver = λ own peer. record { own = own; peer = peer; limit = body_limit } in
    record {
      part = part;
      seed = ap (λ (d : Draws). d.seed) c.from_number-draws.ensures;
      number = omega (arith, number, boot);
      count = refl;
      receiver = c.in-Ok.ensures.receiver ∙ ap (λ (n : ℕ). between n c.in_ok-part.part.responder.number) (sym part.eid) ∙ ap (between (setup_of config).eid) (sym part.responder);
      assembler = c.in-Ok.ensures.stands;
      asking = c.in-Ok-new.ensures (setup_of config) part.max;
      made = tt;
      entries = omega arith;
      limit = omega arith;
      first = omega (arith, few);
    }
