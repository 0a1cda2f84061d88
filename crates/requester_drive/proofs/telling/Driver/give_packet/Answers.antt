use Rattle.std.proofs.Common.{◌≤◌, ℕ, List, length, subst, sym}
use Rattle.frame_stream.specs.Standing.{content_in}
use Rattle.requester.specs.Standing.{IsGiven}
use Rattle.requester_drive.proofs.LastData.{last_short}
use Rattle.requester_drive.proofs.Short.{short_given}
use Rattle.requester_drive.proofs.Written.{given_written}
use Rattle.frame_stream.specs.Packets.{AreShort}
use Rattle.requester_machine.specs.Requesting.{requester_given}
use Rattle.spdm_basis.specs.Stream.{Takes, TakesPrefix}
use Rattle.requester_drive.proofs.telling.Driver.give_packet.Goals as goal

pub write_given-requires-clause-last : goal.write_given-requires-clause-last
write_given-requires-clause-last g c =
    let a = c.requires.0 in
    let after = (requester_given a c.content.result.now).after in
    let stands = (c.on_packet-event.ensures a c.requires.1).stands in
    subst (λ (l : List ℕ). length l ≤ 4096) (sym (c.last_data.ensures after stands)) (last_short after.setup after.history stands.part.sizes stands.made)

pub write_given-requires-clause-short : goal.write_given-requires-clause-short
write_given-requires-clause-short g c =
    let a = c.requires.0 in
    subst (λ (l : List (List ℕ)). AreShort l) (sym (c.on_packet-event.ensures a c.requires.1).sent) (short_given c.args.self.now.requester a c.content.result.now c.requires.1)

pub returns-in-Ok-clause-given : goal.returns-in-Ok-clause-given
returns-in-Ok-clause-given g c = λ a stands.
    let packet = content_in c.args.self.now.reader in
    let step = subst (λ (p : List ℕ). IsGiven (requester_given a p) c.on_packet-event.result c.on_packet-event.new.out c.on_packet-event.new.self) c.content.ensures (c.on_packet-event.ensures a stands) in (
      step.stands,
      subst (λ (l : List ℕ). Takes (g.K.Sink.contents c.args.sink.now) l (g.K.Sink.contents c.write_given.new.sink))
          (given_written a packet c.on_packet-event.result c.last_data.result.now c.on_packet-event.new.out step.event (c.last_data.ensures (requester_given a packet).after step.stands) step.sent) c.in-Ok.ensures.whole,
    )

pub returns-in-Err-clause-given : goal.returns-in-Err-clause-given
returns-in-Err-clause-given g c = λ a stands.
    let packet = content_in c.args.self.now.reader in
    let step = subst (λ (p : List ℕ). IsGiven (requester_given a p) c.on_packet-event.result c.on_packet-event.new.out c.on_packet-event.new.self) c.content.ensures (c.on_packet-event.ensures a stands) in
    subst (λ (l : List ℕ). TakesPrefix (g.K.Sink.contents c.args.sink.now) l (g.K.Sink.contents c.write_given.new.sink))
    (given_written a packet c.on_packet-event.result c.last_data.result.now c.on_packet-event.new.out step.event (c.last_data.ensures (requester_given a packet).after step.stands) step.sent) c.in-Err.ensures.prefix
