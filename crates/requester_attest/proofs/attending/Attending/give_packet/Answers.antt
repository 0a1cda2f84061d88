use Rattle.std.proofs.Common.{List, subst, sym, ℕ}
use Rattle.attestor.specs.Attesting.{attesting_given}
use Rattle.attestor.specs.Standing.{IsGiven}
use Rattle.frame_stream.specs.Packets.{AreShort}
use Rattle.frame_stream.specs.Standing.{content_in}
use Rattle.requester_attest.proofs.Short.{short_attested}
use Rattle.requester_attest.proofs.Steps.{kept_on, written_of}
use Rattle.requester_attest.specs.declared.attending.Attending.{Attending}
use Rattle.spdm_basis.specs.Stream.{Takes, TakesPrefix}
use Rattle.requester_attest.proofs.attending.Attending.give_packet.Goals as goal

pub write_step-requires : goal.write_step-requires
write_step-requires g c =
    let kept = c.requires in
    subst (λ (l : List (List ℕ)). AreShort l) (sym (c.on_packet-progress.ensures.given kept.attesting kept.stands.attestor).sent)
    (short_attested c.args.self.now.attestor kept.attesting c.content.result.now kept.stands.attestor)

pub returns-in-Ok-clause-given : goal.returns-in-Ok-clause-given
returns-in-Ok-clause-given g c = λ appraised a stands.
    let packet = content_in c.args.self.now.reader in
    let given = subst (λ (p : List ℕ). IsGiven (attesting_given a p) c.on_packet-progress.result c.on_packet-progress.new.out c.on_packet-progress.new.self) c.content.ensures (c.on_packet-progress.ensures.given a stands.attestor) in
    let new : Attending = record c.args.self.now { attestor = c.on_packet-progress.new.self; out = c.on_packet-progress.new.out; verdict = c.verdict_after-self.result } in
    let own = kept_on c.args.self.now new appraised a packet c.on_packet-progress.result stands given.answer given.stands c.verdict_after-self.ensures in (
      own.0,
      subst (λ (l : List ℕ). Takes (g.K.Sink.contents c.args.sink.now) l (g.K.Sink.contents c.write_step.new.sink))
          (written_of appraised (attesting_given a packet) c.on_packet-progress.result c.on_packet-progress.new.out own.1 given.sent) c.in-Ok.ensures.whole,
    )

pub returns-in-Err-clause-given : goal.returns-in-Err-clause-given
returns-in-Err-clause-given g c = λ appraised a stands.
    let packet = content_in c.args.self.now.reader in
    let given = subst (λ (p : List ℕ). IsGiven (attesting_given a p) c.on_packet-progress.result c.on_packet-progress.new.out c.on_packet-progress.new.self) c.content.ensures (c.on_packet-progress.ensures.given a stands.attestor) in
    let new : Attending = record c.args.self.now { attestor = c.on_packet-progress.new.self; out = c.on_packet-progress.new.out; verdict = c.verdict_after-self.result } in
    let own = kept_on c.args.self.now new appraised a packet c.on_packet-progress.result stands given.answer given.stands c.verdict_after-self.ensures in
    subst (λ (l : List ℕ). TakesPrefix (g.K.Sink.contents c.args.sink.now) l (g.K.Sink.contents c.write_step.new.sink))
    (written_of appraised (attesting_given a packet) c.on_packet-progress.result c.on_packet-progress.new.out own.1 given.sent) c.in-Err.ensures.prefix
