use Rattle.std.proofs.Common.{◌∙◌, refl, sym, subst, arith, map, List}
use Rattle.std.proofs.lemmas.Option.{same_Some}
use Rattle.link_world.proofs.Made.{made_peers, none_taken, sound_few}
use Rattle.script_ends.specs.Configured.{requester_in, responder_in}
use Rattle.link_world.specs.Standing.{AreAskers}
use Rattle.requester_machine.specs.Requesting.{new_requesting}
use Rattle.script_text.specs.declared.configuration.config.ReqPart.{ReqPart}
use Rattle.world_machine.specs.Setup.{ends_from}
use Rattle.link_world.proofs.making.link_of.Goals as goal

pub returns-clause-stands : goal.returns-clause-stands
returns-clause-stands c = λ seed is.
    let own = c.in-Some.seed in
    let few = sound_few c.args.config.now c.in_ok-responder.ensures.sound in
    let eid = c.args.config.now.responder.eid.number in
    rw (same_Some seed own (sym is ∙ c.in-Some.is)) (record {
      ends = record {
        requesters = subst (λ (qs : List ReqPart). AreAskers c.in_ok-requesters.requesters.items (map new_requesting (ends_from 1 own c.args.boot (map (requester_in eid) qs)))) c.as_slice.ensures c.in_ok-requesters.ensures.stands;
        apart = few.apart own c.args.boot;
        few = few.made_few own c.args.boot;
        eid = refl;
        responder = c.in_ok-responder.ensures.stands;
        peers = made_peers eid own c.args.boot (responder_in c.args.config.now) 1 c.args.config.now.requesters;
        taken = none_taken eid own c.args.boot (responder_in c.args.config.now) 1 c.args.config.now.requesters;
      };
      sent = c.new-2.ensures;
      within = omega arith;
    })
