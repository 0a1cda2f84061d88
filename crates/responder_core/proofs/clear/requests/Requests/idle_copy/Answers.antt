-- Where it is not copied, a large response is pending.
use Rattle.std.proofs.Common.{◌∙◌, ap, sym, subst, is_some}
use Rattle.std.proofs.lemmas.Bool.{false≢true}
use Rattle.responder_core.specs.Coming as coming
use Rattle.responder_core.specs.ClearState as standings
use Rattle.responder_core.proofs.clear.requests.Requests.idle_copy.Goals as goal

pub returns-in_err-standing-clause-idle : goal.returns-in_err-standing-clause-idle
returns-in_err-standing-clause-idle c = λ at turns held stands none.
    let here = subst (λ (x : coming.Seen). standings.StandsFor x.standing turns) (sym c.self.view_is) stands in
    absurd (false≢true (sym (ap is_some c.in_err-standing.was) ∙ c.idle_copy.ensures.idle at turns held here none))
