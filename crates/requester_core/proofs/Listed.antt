-- A session that is shown is the list of it.
use Rattle.std.proofs.Common.{refl, ◌≡◌, ◌∷◌, [], true, false, Bool, Some, None}
use Rattle.std.specs.Prelude.{if◌then◌else◌, option_to_list}
use Rattle.requester_core.specs.Slot.{shown_of}
use Rattle.requester_machine.specs.Session.{Steps, is_accepted}
use Rattle.requester_machine.specs.Shown.{view_if_accepted, view_of}
use Rattle.spdm_grammar.specs.declared.told.session_view.SessionView.{SessionView}

listed_by : (b : Bool) (view : SessionView) → option_to_list (if b then Some view else None) ≡ (if b then view ∷ [] else [])
listed_by true view = refl
listed_by false view = refl

pub shown_listed : (s : Steps) → option_to_list (shown_of s) ≡ view_if_accepted s
shown_listed s = listed_by (is_accepted s) (view_of s)
