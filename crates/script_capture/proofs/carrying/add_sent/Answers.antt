use Rattle.std.proofs.Common.{◌≡◌, ◌∙◌, ◌≤◌, ◌<◌, ◌+◌, ◌-◌, ◌++◌, ◌∷◌, [], ℕ, List, Some, ap, arith, length, subst, sym, take, append_assoc}
use Rattle.std.specs.Option.{option_map}
use Rattle.script_capture.proofs.Behind.{one_behind, there}
use Rattle.script_capture.specs.Carried.{sent_behind}
use Rattle.world_machine.specs.World.{packet_of}
use Rattle.script_capture.proofs.carrying.add_sent.Goals as goal

pub unreachable-requires : goal.unreachable-requires
unreachable-requires c =
    let sent = c.args.sent.now in
    let inside : c.loop-index.index < length sent = subst (λ (n : ℕ). c.loop-index.index < n) c.count-index-end.ensures c.loop-index-test.true in
    there c.loop-index.index sent inside (sym (ap (option_map (λ packet. packet.now)) c.in_default.is) ∙ c.get.ensures)

pub loop-index-preserved : goal.loop-index-preserved
loop-index-preserved c =
    let sent = c.args.sent.now in
    let index = c.loop-index.index in
    let before = c.args.before in
    let packet = c.in-Some.packet.now in
    let from : before ≤ index = c.loop-index.invariant.from in
    let is : packet_of (index + 1) sent ≡ Some packet = sym c.get.ensures ∙ ap (option_map (λ packet. packet.now)) c.in-Some.is in
    record {
      from = omega (arith, from);
      are = c.in_ok-add.ensures
          ∙ ap (λ (l : List (List ℕ)). l ++ packet ∷ []) c.loop-index.invariant.are
          ∙ append_assoc c.args.packets.now (take (index - before) (sent_behind before sent)) (packet ∷ [])
          ∙ ap (λ (l : List (List ℕ)). c.args.packets.now ++ l) (sym (one_behind before index sent packet from is));
    }
