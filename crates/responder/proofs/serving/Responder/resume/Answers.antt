use Rattle.std.proofs.Common.{refl, ◌*◌, ◌^◌, [], ap, arith, map}
use Rattle.hmac_hkdf.specs.Draw.{Draws}
use Rattle.responder.proofs.Limits.{limits}
use Rattle.responder.proofs.Making.{known_apart, new_apart, no_draws}
use Rattle.responder.proofs.serving.Responder.resume.Goals as goal
use Rattle.responder.specs.SetUp.{end_of, known_of, part_of}

pub returns-clause-stands : goal.returns-clause-stands
returns-clause-stands c =
    let config = c.args.config.now in
    let l = limits config c.in_ok-part.ensures.sound in
    let apart = known_apart config.eid.number config.known.now l.apart in
    let none = no_draws (part_of config) (map known_of config.known.now) in
    let number = ap (λ (d : Draws). d.number) c.from_number-draws.ensures in
    let boot = c.from.ensures in
    let few = c.requires in
    record {
      part = c.in_ok-part.ensures.kept;
      seed = ap (λ (d : Draws). d.seed) c.from_number-draws.ensures;
      number = omega (arith, number, boot, none);
      last = c.new-3.ensures;
      given = refl;
      peers = c.in-Ok-peers_of.ensures (part_of config) c.in_ok-part.ensures.kept;
      apart = new_apart (part_of config) (map known_of config.known.now) apart;
      reached = record { end = end_of config c.args.seed (c.args.boot * 2 ^ 40); all = []; apart = apart; is = refl };
      first = omega (arith, few);
    }
