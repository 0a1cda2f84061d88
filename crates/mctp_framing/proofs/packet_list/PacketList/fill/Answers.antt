use Rattle.std.proofs.Common.{◌∙◌, ◌<◌, ◌≤◌, ◌+◌, ◌++◌, ◌∷◌, ℕ, List, length, ap, sym, subst}
use Rattle.mctp_framing.specs.Cutting.{route_of}
use Rattle.mctp_framing.specs.Spans.{total_len}
use Rattle.mctp_framing.proofs.Room.{room}
use Rattle.mctp_framing.proofs.packet_list.PacketList.fill.Goals as goal

-- the packet taken stands among those of the body
fits : (c : goal.After-as_slice) → (length c.loop-packet.self < 72) × (total_len c.loop-packet.self + length c.in-Some.packet ≤ 8192)
fits c =
    let l = c.loop-packet in
    let here = ap (λ (xs : List (List ℕ)). xs ++ c.in-Some.packet ∷ c.next.new.self) l.invariant.taken
    ∙ ap (λ (xs : List (List ℕ)). l.yielded ++ xs) (sym c.in-Some.ensures.steps)
    ∙ l.invariant.left in
    room (route_of c.args.route) c.args.unit c.args.body.now l.self c.next.new.self c.in-Some.packet c.requires.fits c.requires.low c.requires.high here

pub push-requires-clause-packets : goal.push-requires-clause-packets
push-requires-clause-packets c = (fits c).0

pub push-requires-clause-bytes : goal.push-requires-clause-bytes
push-requires-clause-bytes c =
    let P : List ℕ → Type 0 = λ packet. total_len c.loop-packet.self + length packet ≤ 8192 in
    subst P (sym c.as_slice.ensures.value) (fits c).1
