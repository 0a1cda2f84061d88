-- What a history shows that the responder made.
use Rattle.std.proofs.Common.{◌≡◌, ℕ, List, ◌∷◌, true, false, Bool, Option, Some, None, ap}
use Rattle.std.proofs.lemmas.Option.{none-some, same_Some}
use Rattle.std.specs.Prelude.{if◌then◌else◌}
use Rattle.responder_machine.specs.Does.{IsMade, clear_chosen}
use Rattle.responder_machine.specs.Handling.{turn_of}
use Rattle.responder_machine.specs.History.{History, kept_of}
use Rattle.responder_machine.specs.History.Entry.{Clear}
use Rattle.spdm_machine.specs.Keys.{Draw}
use Rattle.responder_machine.specs.Place.{clear_place}
use Rattle.responder_machine.specs.Responder.{Outcome, on_clear, is_repeat, kept_reply}
use Rattle.spdm_machine.specs.Bodies.{clear_body}
use Rattle.responder_machine.specs.Responder.Outcome.{Same, Adds}
use Rattle.responder_machine.specs.Setup.{RspSetup}
use Rattle.responder_machine.specs.Turn.{Turn}

abbrev clear_turn_in : Outcome → Option Turn
clear_turn_in (Adds (Clear tag t d)) = Some t
clear_turn_in _ = None

added : (b : Bool) (body : List ℕ) (tag : ℕ) (t u : Turn) (d : Draw) → (if b then Same body else Adds (Clear tag u d)) ≡ Adds (Clear tag t d) → u ≡ t
added true body tag t u d is = absurd (none-some t (ap clear_turn_in is))
added false body tag t u d is = same_Some u t (ap clear_turn_in is)

-- A clear turn of a made history is the turn of its message at the older history.
pub made_clear : (r : RspSetup) (older : History) (tag : ℕ) (t : Turn) (d : Draw) → IsMade r (Clear tag t d ∷ older) → turn_of r (clear_place older) t.message (clear_chosen r older d) ≡ t
unfolding on_clear
made_clear r older tag t d made =
    added (is_repeat (kept_of older) tag t.message) (clear_body (kept_reply (kept_of older))) tag t (turn_of r (clear_place older) t.message (clear_chosen r older d)) d made.0
