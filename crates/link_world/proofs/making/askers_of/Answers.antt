use Rattle.std.proofs.Common.{◌+◌, ◌%◌, ◌∷◌, [], length, subst, sym}
use Rattle.std.proofs.lemmas.Result.{err_from_is_err_and}
use Rattle.link_world.proofs.Made.{askers_fault, askers_more, sound_more}
use Rattle.script_ends.proofs.Made.{added}
use Rattle.link_world.proofs.Shown.{next_number}
use Rattle.link_world.specs.Making.{IsAskerFault}
use Rattle.link_world.specs.declared.ends.AddressedRequester.{AddressedRequester}
use Rattle.link_world.specs.declared.fault.WorldFault.{WorldFault}
use Rattle.link_world.proofs.making.askers_of.Goals as goal

pub returns-in_err-asker-clause-fault : goal.returns-in_err-asker-clause-fault
returns-in_err-asker-clause-fault c =
    let p = err_from_is_err_and c.from_residual.result c.from_residual.ensures.1 in
    rw p.1 (askers_fault c.args.responder.number c.loop-q.q-index c.args.requesters.now c.q-item.result p.0 c.loop-q-test.true c.q-item.is c.loop-q.invariant.sound
    (subst (λ (f : WorldFault). IsAskerFault c.args.responder.number c.q-item.result f) (sym p.2) c.in_err-asker.ensures.fault))

pub loop-q-preserved : goal.loop-q-preserved
loop-q-preserved c =
    let i = c.loop-q.q-index in
    let q = c.q-item.result in
    let qs = c.args.requesters.now in
    let inv = c.loop-q.invariant in
    let inside = c.loop-q-test.true in
    let number = next_number c.loop-q.number i (length qs) inv.number inside c.requires.few in
    let x : AddressedRequester = c.in_ok-asker.asker in
    let pushed = added {A = AddressedRequester} c.push.result c.loop-q.askers.items (x ∷ []) c.push.new.self.items c.push.ensures.items c.if-is_err.ensures.value in
    let more = askers_more c.args.responder.number c.args.seed.now c.args.boot i ((c.loop-q.number + 1) % 256) qs q c.loop-q.askers.items x inside c.q-item.is number inv.all c.in_ok-asker.ensures.stands in
    record {
      number = number;
      all = rw pushed more;
      sound = sound_more c.args.responder.number i qs q inside c.q-item.is inv.sound c.in_ok-asker.ensures.sound;
    }
