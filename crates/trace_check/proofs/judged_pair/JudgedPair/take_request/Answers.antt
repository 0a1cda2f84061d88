use Rattle.std.proofs.Common.{◌≤◌, ◌<◌, ◌-◌, ◌^◌, refl, sym, subst, length, Option, arith}
use Rattle.mctp_framing.specs.Cutting.{route_of}
use Rattle.mctp_framing.specs.Gathering.{Receiver}
use Rattle.mctp_framing.specs.Packet.{view_of}
use Rattle.spdm_machine.specs.Packets.{fields_in}
use Rattle.check_laws.proofs.Kept.{few_waiting}
use Rattle.check_laws.specs.Judged.{waiting_in}
use Rattle.trace_check.proofs.Requests.{request_dropped, request_is, request_told, request_waits}
use Rattle.trace_check.proofs.judged_pair.JudgedPair.take_request.Goals as goal
use Rattle.capture_machine.specs.Rounds.{Round}

pub returns-in-Whole : goal.returns-in-Whole
returns-in-Whole c = λ w q older rows packet before is s entries.
    let seen = c.args.self.now in
    let p = view_of c.args.view in
    let shown = c.walks_show.ensures in
    let waiting = few_waiting w.responder.eid q.eid older in
    let few = before.few in
    let less : waiting_in seen.round < 2 ^ 64 - 1 = subst (λ (o : Option Round). waiting_in o < 2 ^ 64 - 1) (sym s.order.round) (omega (arith, waiting, few)) in
    let fits : length c.in-Whole.body.now ≤ 4161 = subst (λ (r : Receiver). length c.in-Whole.body.now ≤ r.limit) s.order.asks_of c.in-Whole.ensures.fits in
    let gives = c.in-Whole.ensures.fed (fields_in older) s.order.asks in
    request_told w q older rows packet p before is seen s shown _ c.takes_request.new.table c.take.follows.holds-at-none refl refl refl refl
    (route_of c.in-Whole.route) c.in-Whole.body.now c.takes_request.result gives (c.takes_request.ensures.round less fits)
    (c.takes_request.ensures.told w q older rows packet (request_is w q older rows packet p before is seen s shown (route_of c.in-Whole.route) c.in-Whole.body.now gives) few fits s.order.round s.talk entries)

pub returns-in-More : goal.returns-in-More
returns-in-More c = λ w q older rows packet before is s entries.
    request_waits w q older rows packet (view_of c.args.view) before is c.args.self.now s c.walks_show.ensures _ c.args.table.now c.take.follows.holds-at-none refl refl refl refl
    (c.in-More.ensures.fed (fields_in older) s.order.asks) refl refl entries

pub returns-in-Dropped : goal.returns-in-Dropped
returns-in-Dropped c = λ w q older rows packet before is s entries.
    request_dropped w q older rows packet (view_of c.args.view) before is c.args.self.now s c.walks_show.ensures c.in-Dropped.field-0 (c.in-Dropped.ensures.fed (fields_in older) s.order.asks)
