use Rattle.std.proofs.Common.{◌∙◌, ◌≤◌, ℕ, List, ap, arith, length, subst}
use Rattle.device_serve.proofs.Arriving.{brought_written}
use Rattle.device_serve.specs.Devised.{number_in}
use Rattle.spdm_basis.specs.declared.values.session_id.SessionId.{SessionId}
use Rattle.spdm_basis.specs.Stream.{Takes, TakesPrefix}
use Rattle.device_serve.proofs.hearing.tell_brought.Goals as goal

pub write_data-requires : goal.write_data-requires
write_data-requires g c =
    let few : length c.in-Some.brought.data.now ≤ 1024 = (c.in-Some.ensures.taken c.requires.kept.0 c.requires.kept.1).2 in
    omega (arith, few)

pub returns-in-Ok-clause-arrival : goal.returns-in-Ok-clause-arrival
returns-in-Ok-clause-arrival g c = λ r stands.
    let taken = c.in-Some.ensures.taken r stands in
    let brought : SessionId × List ℕ = (c.in-Some.brought.id, c.in-Some.brought.data.now) in (
      taken.0,
      (
        brought,
        taken.1,
        subst (λ (l : List ℕ). Takes (g.K.Sink.contents c.args.sink.now) l (g.K.Sink.contents c.write_data.new.sink))
            (brought_written c.args.config.now c.args.packet.now c.number_of-number.result c.in-Some.brought.eid.number brought (c.number_of-number.ensures ∙ ap (number_in c.args.config.now) c.number.ensures.value) taken.0) c.in-Ok.ensures.whole,
      ),
    )

pub returns-in-Err-clause-arrival : goal.returns-in-Err-clause-arrival
returns-in-Err-clause-arrival g c = λ r stands.
    let taken = c.in-Some.ensures.taken r stands in
    let brought : SessionId × List ℕ = (c.in-Some.brought.id, c.in-Some.brought.data.now) in (
      brought,
      taken.1,
      subst (λ (l : List ℕ). TakesPrefix (g.K.Sink.contents c.args.sink.now) l (g.K.Sink.contents c.write_data.new.sink))
          (brought_written c.args.config.now c.args.packet.now c.number_of-number.result c.in-Some.brought.eid.number brought (c.number_of-number.ensures ∙ ap (number_in c.args.config.now) c.number.ensures.value) taken.0) c.in-Err.ensures.prefix,
    )
