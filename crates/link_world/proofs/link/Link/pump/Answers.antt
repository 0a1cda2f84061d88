use Rattle.std.proofs.Common.{rules, refl, ◌≡◌, ◌∙◌, ◌<◌, ◌≤◌, ◌+◌, ◌-◌, suc, Some, ap, sym, subst, arith}
use Rattle.std.specs.Prelude.{Result, Err}
use Rattle.link_world.proofs.Stepped.{midway_fault, midway_first, midway_idle, midway_last, midway_next, same_link, same_whole}
use Rattle.link_world.specs.Standing.{IsStepped}
use Rattle.link_world.specs.declared.link.Link.{Link}
use Rattle.link_world.specs.declared.sent.SendFault.{SendFault}
use Rattle.world_machine.specs.World.{first_waiting, pumps}
use Rattle.link_world.proofs.link.Link.pump.Goals as goal

pub loop-turn-init : goal.loop-turn-init
loop-turn-init c = record { midway = λ w l. midway_first c.args.count (c.args.count - 0) w c.args.text.now c.args.self.now (omega arith) l }

pub returns-in_default : goal.returns-in_default
returns-in_default c = λ w l.
    let m = c.loop-turn.invariant.midway w l in
    let seen : Link = record c.loop-turn.self { sent = c.first_waiting.new.self } in
    same_whole (pumps c.args.count w) c.args.text.now c.loop-turn.text c.loop-turn.self seen refl c.in_default.ensures.same
    (midway_idle c.args.count (c.args.count - c.loop-turn.turn) w c.args.text.now c.loop-turn.text c.loop-turn.self m (ap first_waiting (sym m.stands.sent) ∙ sym c.in_default.ensures.first))

pub returns-in_err-deliver : goal.returns-in_err-deliver
returns-in_err-deliver c = λ w l.
    let inside : c.loop-turn.turn < c.args.count = search rules in
    let m = c.loop-turn.invariant.midway w l in
    let seen : Link = record c.loop-turn.self { sent = c.first_waiting.new.self } in
    let link = same_link m.now c.loop-turn.self seen refl c.in-Some.ensures.same m.stands in
    let waits : first_waiting m.now.sent ≡ Some c.in-Some.number = ap first_waiting (sym m.stands.sent) ∙ sym c.in-Some.ensures.first in
    let left : c.args.count - c.loop-turn.turn ≡ suc (c.args.count - (c.loop-turn.turn + 1)) = omega (arith, inside) in
    let is : c.from_residual.result ≡ Err c.in_err-deliver.field-0.0 = search rules in
    subst (λ (r : Result Unit SendFault). IsStepped (pumps c.args.count w) r c.args.text.now c.deliver.new.text c.deliver.new.self) (sym is)
    (midway_fault c.args.count (c.args.count - c.loop-turn.turn) w c.args.text.now c.loop-turn.text c.loop-turn.self m (c.args.count - (c.loop-turn.turn + 1)) c.in-Some.number left waits c.in_err-deliver.field-0.0
    c.deliver.new.text c.deliver.new.self (c.in_err-deliver.ensures m.now link))

pub loop-turn-preserved : goal.loop-turn-preserved
loop-turn-preserved c = record {
  midway = λ w l.
      let inside : c.loop-turn.turn < c.args.count = search rules in
      let m = c.loop-turn.invariant.midway w l in
      let seen : Link = record c.loop-turn.self { sent = c.first_waiting.new.self } in
      let link = same_link m.now c.loop-turn.self seen refl c.in-Some.ensures.same m.stands in
      let waits : first_waiting m.now.sent ≡ Some c.in-Some.number = ap first_waiting (sym m.stands.sent) ∙ sym c.in-Some.ensures.first in
      let left : c.args.count - c.loop-turn.turn ≡ suc (c.args.count - (c.loop-turn.turn + 1)) = omega (arith, inside) in
      midway_next c.args.count (c.args.count - c.loop-turn.turn) w c.args.text.now c.loop-turn.text c.loop-turn.self m (c.args.count - (c.loop-turn.turn + 1)) c.in-Some.number left waits
      c.deliver.new.text c.deliver.new.self (c.in_ok-deliver.ensures m.now link);
}

pub returns : goal.returns
returns c = λ w l.
    let outside : c.args.count ≤ c.loop-turn.turn = search rules in
    midway_last c.args.count (c.args.count - c.loop-turn.turn) w c.args.text.now c.loop-turn.text c.loop-turn.self (c.loop-turn.invariant.midway w l) (omega (arith, outside))
