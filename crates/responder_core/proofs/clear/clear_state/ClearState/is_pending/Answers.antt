use Rattle.std.proofs.Common.{◌≡◌, ℕ, sym, subst}
use Rattle.responder_core.proofs.Passing.{large_at}
use Rattle.responder_core.proofs.clear.clear_state.ClearState.is_pending.Goals as goal
use Rattle.responder_core.specs.ClearState.{Seen, place_at}
use Rattle.responder_rules.specs.LargeAnswer as large_answer
use Rattle.responder_machine.specs.Place.{place_terms}

pub returns : goal.returns
returns c = λ at turns held stands.
    let transfer : ℕ = (place_terms (place_at at turns held)).common.to_requester.transfer in
    let same : c.args.self.now ≡ record { negotiating = c.self.inside.negotiating; large = c.self.inside.large } = sym c.self.view_is in
    c.is_pending.ensures transfer turns (subst (λ (s : Seen). large_answer.StandsFor s.large transfer turns) same (large_at c.args.self.now at turns held stands))
