use Rattle.std.proofs.Common.{◌∙◌, subst, sym}
use Rattle.responder_core.specs.ClearPart.{Seen, StandsFor}
use Rattle.responder_core.proofs.clear.clear_place.ClearPlace.idle_copy.Goals as goal

pub returns-clause-idle : goal.returns-clause-idle
returns-clause-idle c = λ r h stands none.
    c.idle_copy.ensures.idle r h (subst (λ (s : Seen). StandsFor s r h) (sym (c.deref.ensures ∙ c.self.view_is)) stands) none
