use Rattle.std.proofs.Common.{subst, sym}
use Rattle.responder_core.proofs.UnseenRequests.{standing_passes}
use Rattle.responder_core.specs.ClearState.{Seen, StandsFor}
use Rattle.responder_core.proofs.clear.clear_state.ClearState.skip_large_response.Goals as goal

pub returns : goal.returns
returns c = λ t older u stands.
    let before : Seen = record { negotiating = c.self.inside.negotiating; large = c.self.inside.large } in
    let stood = subst (λ (s : Seen). StandsFor s older) (sym c.self.view_is) stands in
    standing_passes t u before c.clear.new.self older stood (c.clear.ensures before.negotiating.common.to_requester.transfer older t stood.large u.taken u.no_get u.no_handle)
