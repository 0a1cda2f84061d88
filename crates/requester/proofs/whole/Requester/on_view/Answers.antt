use Rattle.std.proofs.Common.{refl, ◌<◌, ◌^◌, ◌-◌, length, arith}
use Rattle.mctp_framing.specs.Cutting.{route_of}
use Rattle.mctp_framing.specs.Packet.{view_of}
use Rattle.requester.proofs.Steps.{counts_few, dropped_step, more_step, whole_step}
use Rattle.requester.proofs.whole.Requester.on_view.Goals as goal
use Rattle.requester_machine.specs.Requesting.{next_draw}
use Rattle.spdm_machine.specs.Packets.{fields_in}

pub returns-in-Whole : goal.returns-in-Whole
returns-in-Whole c = λ a packet parses empty is.
    let takes = c.take.follows.holds-at-none in
    let stands = is.stands in
    let entries = stands.entries in
    let below = counts_few a is.fresh in
    let few : length a.history < 2 ^ 64 - 1 = omega (arith, entries, below) in
    let heard = c.hear.ensures a.setup a.history (next_draw a) stands.part stands.made few empty stands.asking in
    whole_step a packet (view_of c.args.view) (route_of c.in-Whole.route) c.in-Whole.bytes.now c.hear.result c.hear.new.out c.args.self.now _ is heard (record {
      parses = parses;
      told = c.in-Whole.ensures.fed (fields_in a.given) stands.assembler;
      part = refl;
      draws = refl;
      taken = refl;
      receiver = takes.receiver;
      assembler = takes.stands (fields_in a.given) stands.assembler;
      asking = heard.stands;
    })

pub returns-in-More : goal.returns-in-More
returns-in-More c = λ a packet parses empty is.
    let takes = c.take.follows.holds-at-none in
    more_step a packet (view_of c.args.view) c.args.out.now c.args.self.now _ is empty (record {
      parses = parses;
      told = c.in-More.ensures.fed (fields_in a.given) is.stands.assembler;
      part = refl;
      draws = refl;
      taken = refl;
      receiver = takes.receiver;
      assembler = takes.stands (fields_in a.given) is.stands.assembler;
      asking = is.stands.asking;
    })

pub returns-in-Dropped : goal.returns-in-Dropped
returns-in-Dropped c = λ a packet parses empty is.
    let takes = c.take.follows.holds-at-none in
    dropped_step a packet (view_of c.args.view) c.in-Dropped.cause c.args.out.now c.args.self.now _ is empty (record {
      parses = parses;
      told = c.in-Dropped.ensures.fed (fields_in a.given) is.stands.assembler;
      part = refl;
      draws = refl;
      taken = refl;
      receiver = takes.receiver;
      assembler = takes.stands (fields_in a.given) is.stands.assembler;
      asking = is.stands.asking;
    })
