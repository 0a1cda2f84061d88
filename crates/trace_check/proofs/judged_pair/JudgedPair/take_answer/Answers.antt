use Rattle.std.proofs.Common.{◌≤◌, ◌∙◌, refl, subst, length, ℕ}
use Rattle.mctp_framing.specs.Cutting.{route_of}
use Rattle.mctp_framing.specs.Packet.{view_of}
use Rattle.spdm_machine.specs.Packets.{fields_in}
use Rattle.trace_check.proofs.Answers.{answer_dropped, answer_given, answer_is, answer_waits}
use Rattle.trace_check.proofs.judged_pair.JudgedPair.take_answer.Goals as goal

pub takes_answer-requires : goal.takes_answer-requires
takes_answer-requires c = subst (λ (n : ℕ). length c.in-Whole.answer.now ≤ n) c.args.self.now.limit c.in-Whole.ensures.fits

pub returns-in-Whole : goal.returns-in-Whole
returns-in-Whole c = λ w q older rows packet before is answers s entries.
    let seen = c.args.self.now in
    let p = view_of c.args.view in
    let shown = c.walks_show.ensures in
    let set_up = c.towards-setup.ensures w.responder q answers before.sound.responder (c.as_slice.ensures ∙ s.hint) s.psk in
    let gives = c.in-Whole.ensures.fed (fields_in older) s.order.answers in
    answer_given w q older rows packet p before is seen s shown _ c.takes_answer.new.table c.take.follows.holds-at-none refl refl refl refl
    (route_of c.in-Whole.route) c.in-Whole.answer.now c.takes_answer.result gives c.takes_answer.ensures.round
    (c.takes_answer.ensures.told w q older rows packet (answer_is w q older rows packet p before is seen s shown (route_of c.in-Whole.route) c.in-Whole.answer.now gives) before.few before.sound.responder.beat s.order.round set_up s.talk entries)

pub returns-in-More : goal.returns-in-More
returns-in-More c = λ w q older rows packet before is answers s entries.
    answer_waits w q older rows packet (view_of c.args.view) before is c.args.self.now s c.walks_show.ensures _ c.args.table.now c.take.follows.holds-at-none refl refl refl refl
    (c.in-More.ensures.fed (fields_in older) s.order.answers) refl refl entries

pub returns-in-Dropped : goal.returns-in-Dropped
returns-in-Dropped c = λ w q older rows packet before is answers s entries.
    answer_dropped w q older rows packet (view_of c.args.view) before is c.args.self.now s c.walks_show.ensures c.in-Dropped.field-0 (c.in-Dropped.ensures.fed (fields_in older) s.order.answers)
