use Rattle.std.proofs.Common.{◌≡◌, ◌∷◌, [], Option, Some, None, sym, ap}
use Rattle.std.proofs.lemmas.Bool.{false≢true}
use Rattle.check_laws.specs.Changes.{shown}
use Rattle.responder_core.specs.Sessions.{IsViewOf}
use Rattle.responder_machine.specs.Session.{Events, session_of}
use Rattle.spdm_grammar.specs.declared.told.session_view.SessionView.{SessionView}
use Rattle.check_responder.proofs.judged_responder.JudgedResponder.views.Goals as goal

view_is : (v : Option SessionView) (s : Events) → IsViewOf v s → v ≡ shown s
view_is None s none = sym (ap shown none)
view_is (Some view) [] live = absurd (false≢true live.0)
view_is (Some view) (e ∷ s) live = ap (λ (x : SessionView). Some x) live.1

four : (a b c d e f g h : Option SessionView) → a ≡ e → b ≡ f → c ≡ g → d ≡ h → a ∷ b ∷ c ∷ d ∷ [] ≡ e ∷ f ∷ g ∷ h ∷ []
four a b c d e f g h one two three last = cc

pub returns : goal.returns
returns c = λ r h stands few.
    four _ _ _ _ (shown (session_of 1 h)) (shown (session_of 2 h)) (shown (session_of 3 h)) (shown (session_of 4 h))
    (view_is c.view.result (session_of 1 h) (c.view.ensures r h stands few)) (view_is c.view-2.result (session_of 2 h) (c.view-2.ensures r h stands few))
    (view_is c.view-3.result (session_of 3 h) (c.view-3.ensures r h stands few)) (view_is c.view-4.result (session_of 4 h) (c.view-4.ensures r h stands few))
