use Rattle.std.proofs.Common.{subst, sym, Some}
use Rattle.requester_core.proofs.Brought.{brought_short}
use Rattle.requester_core.proofs.InSession.{settled}
use Rattle.requester_core.proofs.Leading.{extended}
use Rattle.requester_core.specs.ClearState.{Seen, StandsFor}
use Rattle.requester_core.proofs.clear.clear_state.ClearState.bring.Goals as goal

pub returns : goal.returns
returns c = λ q h owner tag body f d entry sizes stands settles some.
    let before : Seen = record { negotiating = c.self.inside.negotiating; outgoing = c.self.inside.outgoing; brought = c.self.inside.brought } in
    let stood = subst (λ (s : Seen). StandsFor s q h) (sym c.self.view_is) stands in
    let short = brought_short q h owner tag body f d entry c.args.bytes.now sizes stands.holds settles.outcome settles.sealed some in
    let brings = extended c.extend.result c.clear.new.self c.extend.new.self c.args.bytes.now c.clear.ensures c.extend.ensures.ok c.extend.ensures.full short in
    settled q h owner tag body f d entry before c.clear_outstanding.new.self c.extend.new.self (Some c.args.bytes.now) stood settles some c.clear_outstanding.ensures brings
