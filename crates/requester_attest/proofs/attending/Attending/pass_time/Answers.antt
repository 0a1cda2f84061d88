use Rattle.std.proofs.Common.{List, ap, refl, subst, sym, ℕ}
use Rattle.attestor.specs.Attesting.{attesting_timed}
use Rattle.attestor.specs.declared.progressed.Progressed.TheVariants as progress
use Rattle.frame_stream.specs.Packets.{AreShort}
use Rattle.requester_attest.proofs.Short.{short_timed}
use Rattle.requester_attest.proofs.Steps.{kept_still, time_stays, written_of}
use Rattle.requester_attest.specs.Attested.{told_as}
use Rattle.spdm_basis.specs.Stream.{Takes, TakesPrefix}
use Rattle.requester_attest.proofs.attending.Attending.pass_time.Goals as goal

pub write_step-requires : goal.write_step-requires
write_step-requires g c =
    let kept = c.requires in
    subst (λ (l : List (List ℕ)). AreShort l) (sym (c.on_time.ensures.timed kept.attesting kept.stands.attestor).sent) (short_timed c.args.self.now.attestor kept.attesting kept.stands.attestor)

pub returns-in-Ok-clause-timed : goal.returns-in-Ok-clause-timed
returns-in-Ok-clause-timed g c = λ appraised a stands.
    let step = attesting_timed a in
    let sent = c.on_time.ensures.timed a stands.attestor in
    let stays = time_stays a in (
      kept_still c.args.self.now _ appraised a step stays stands sent.stands refl,
      subst (λ (l : List ℕ). Takes (g.K.Sink.contents c.args.sink.now) l (g.K.Sink.contents c.write_step.new.sink))
          (written_of appraised step progress.Going c.on_time.new.out (ap (told_as appraised) (sym stays.none)) sent.sent) c.in-Ok.ensures.whole,
    )

pub returns-in-Err-clause-timed : goal.returns-in-Err-clause-timed
returns-in-Err-clause-timed g c = λ appraised a stands.
    let step = attesting_timed a in
    let sent = c.on_time.ensures.timed a stands.attestor in
    subst (λ (l : List ℕ). TakesPrefix (g.K.Sink.contents c.args.sink.now) l (g.K.Sink.contents c.write_step.new.sink))
    (written_of appraised step progress.Going c.on_time.new.out (ap (told_as appraised) (sym (time_stays a).none)) sent.sent) c.in-Err.ensures.prefix
