use Rattle.std.proofs.Common.{subst, sym, arith}
use Rattle.requester_core.proofs.Started.{connect_done}
use Rattle.requester_core.specs.ClearState.{Counts, Seen}
use Rattle.requester_core.proofs.clear.clear_state.ClearState.connect.Goals as goal

pub returns : goal.returns
returns c = λ q h f d counts.
    let before : Seen = record { negotiating = c.self.inside.negotiating; outgoing = c.self.inside.outgoing; brought = c.self.inside.brought } in
    let counted = subst (λ (s : Seen). Counts s h) (sym c.self.view_is) counts in
    connect_done q h f d c.send.result before c.begin.new.self c.keep.new.self c.send.new.self c.send.new.out counted c.begin.ensures (c.keep.ensures tt (omega arith)) c.send.ensures.tag c.send.ensures.new (c.send.ensures.out tt)
