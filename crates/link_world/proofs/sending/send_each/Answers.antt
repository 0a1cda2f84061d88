use Rattle.std.proofs.Common.{rules, ◌≡◌, ◌<◌, ◌++◌, ◌∷◌, [], ℕ, List, Some, length, subst, sym, arith}
use Rattle.std.specs.List.{slice_get}
use Rattle.std.specs.Prelude.{Result, Err}
use Rattle.link_world.proofs.Packets.{IsUnderWay, goes_on, next_packet, not_sent}
use Rattle.link_world.specs.Sending.{IsSent}
use Rattle.link_world.specs.declared.sent.SendFault.{SendFault}
use Rattle.trace_text.specs.TraceLines.{line_text}
use Rattle.spdm_grammar.specs.Lines.Line.{Packet}
use Rattle.world_machine.specs.Trace.{packets_max}
use Rattle.world_machine.specs.World.{waiting}
use Rattle.link_world.proofs.sending.send_each.Goals as goal

pub returns-in_err-push : goal.returns-in_err-push
returns-in_err-push c = λ within.
    let at : slice_get c.args.packets.now c.loop-index.index ≡ Some c.in-Some.packet.now = search rules in
    let w = subst (λ (l : List (List ℕ)). IsUnderWay c.args.sent.now c.args.packets.now c.args.text.now c.loop-index.sent l c.loop-index.text) (next_packet c.loop-index.index c.args.packets.now c.in-Some.packet.now at) (c.loop-index.invariant.way within) in
    let is : c.from_residual.result ≡ Err c.in_err-push.field-0.0 = search rules in
    subst (λ (r : Result Unit SendFault). IsSent c.args.sent.now c.args.packets.now c.args.text.now c.push.new.self c.loop-index.text r) (sym is)
    (not_sent _ _ _ _ _ _ _ w c.push.new.self c.in_err-push.field-0.0 (search rules))

pub loop-index-preserved : goal.loop-index-preserved
loop-index-preserved c =
    let at : slice_get c.args.packets.now c.loop-index.index ≡ Some c.in-Some.packet.now = search rules in
    let sent : c.push.new.self ≡ c.loop-index.sent ++ waiting c.in-Some.packet.now ∷ [] = search rules in
    let room : length c.loop-index.sent < packets_max = search rules in
    let more : c.push_packet.new.text ≡ c.loop-index.text ++ line_text (Packet (length c.push.new.self) c.in-Some.packet.now) = search rules in
    record {
      way = λ within.
          let w = subst (λ (l : List (List ℕ)). IsUnderWay c.args.sent.now c.args.packets.now c.args.text.now c.loop-index.sent l c.loop-index.text) (next_packet c.loop-index.index c.args.packets.now c.in-Some.packet.now at) (c.loop-index.invariant.way within) in
          goes_on _ _ _ _ _ _ _ w c.push.new.self c.push_packet.new.text sent (omega (arith, room)) more;
    }
