-- A session that is shown is the list of it.
use Rattle.std.proofs.Common.{◌≡◌, ◌∷◌, [], Option, Some, None, ap, sym}
use Rattle.std.proofs.lemmas.Bool.{false≢true}
use Rattle.std.specs.Prelude.{option_to_list}
use Rattle.responder_core.specs.Sessions.{IsViewOf}
use Rattle.responder_machine.specs.Heard.{view_if_live}
use Rattle.responder_machine.specs.Session.{Events}
use Rattle.spdm_grammar.specs.declared.told.session_view.SessionView.{SessionView}

pub view_listed : (view : Option SessionView) (s : Events) → IsViewOf view s → option_to_list view ≡ view_if_live s
view_listed None s is = ap view_if_live (sym is)
view_listed (Some view) [] is = absurd (false≢true is.0)
view_listed (Some view) (e ∷ s) is = ap (λ (v : SessionView). v ∷ []) is.1
