-- Where it is not copied, a large response is pending.
use Rattle.std.proofs.Common.{◌∙◌, ap, sym, subst, is_some}
use Rattle.std.proofs.lemmas.Bool.{false≢true}
use Rattle.responder_machine.specs.History.{clear_turns}
use Rattle.responder_machine.specs.Place.{held_of}
use Rattle.responder_machine.specs.Place.Where.{InClear}
use Rattle.responder_core.specs.ClearPart as clear_parts
use Rattle.responder_core.proofs.clear.clear_part.ClearPart.idle_copy.Goals as goal

pub returns-in_err-requests-clause-idle : goal.returns-in_err-requests-clause-idle
returns-in_err-requests-clause-idle c = λ r h stands none.
    let here = subst (λ (x : clear_parts.Seen). clear_parts.StandsFor x r h) (sym c.self.view_is) stands in
    absurd (false≢true (sym (ap is_some c.in_err-requests.was) ∙ c.idle_copy.ensures.idle InClear (clear_turns h) (held_of h) here.requests.standing none))
