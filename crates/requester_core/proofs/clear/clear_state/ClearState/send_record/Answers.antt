use Rattle.std.proofs.Common.{subst, sym}
use Rattle.requester_core.proofs.InSession.{heard_record_sent, told_record_sent}
use Rattle.requester_core.specs.ClearState.{Seen, StandsFor}
use Rattle.requester_core.proofs.clear.clear_state.ClearState.send_record.Goals as goal

pub returns-clause-told : goal.returns-clause-told
returns-clause-told c = λ q h command f d sent ask stands told aims.
    let before : Seen = record { negotiating = c.self.inside.negotiating; outgoing = c.self.inside.outgoing; brought = c.self.inside.brought } in
    let stood = subst (λ (s : Seen). StandsFor s q h) (sym c.self.view_is) stands in
    told_record_sent q h command f d sent c.args.id ask c.send_record.result before c.send_record.new.self stood told aims c.send_record.ensures.tag c.send_record.ensures.new

pub returns-clause-heard : goal.returns-clause-heard
returns-clause-heard c = λ q h owner its_tag body f d entry sent ask stands is next aims.
    let before : Seen = record { negotiating = c.self.inside.negotiating; outgoing = c.self.inside.outgoing; brought = c.self.inside.brought } in
    let stood = subst (λ (s : Seen). StandsFor s q h) (sym c.self.view_is) stands in
    heard_record_sent q h owner its_tag body f d entry sent c.args.id ask c.send_record.result before c.send_record.new.self stood is next aims c.send_record.ensures.tag c.send_record.ensures.new
