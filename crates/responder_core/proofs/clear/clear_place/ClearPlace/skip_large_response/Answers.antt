use Rattle.std.proofs.Common.{◌∙◌, subst, sym}
use Rattle.responder_core.specs.ClearPart.{Seen, StandsFor}
use Rattle.responder_core.proofs.clear.clear_place.ClearPlace.skip_large_response.Goals as goal

pub returns : goal.returns
returns c = λ r h t d exchange few brief u is stands.
    c.skip_large_response.ensures r h t d exchange few brief u is (subst (λ (s : Seen). StandsFor s r h) (sym (c.deref_mut.ensures.value ∙ c.self.view_is)) stands)
