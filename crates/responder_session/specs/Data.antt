-- The application data that a session took last.
use Rattle.std.specs.Prelude.{ℕ, List, [], ◌∷◌}
use Rattle.responder_machine.specs.Session.{Events}
use Rattle.responder_machine.specs.Session.Event.{Heard}
use Rattle.responder_machine.specs.Turn.{Effect}
use Rattle.responder_machine.specs.Turn.Effect.{TookData}

-- What took effect, if it is application data, and else what was taken before.
abbrev pub data_in : Effect → (before : List ℕ) → List ℕ
data_in (TookData bytes answer) before = bytes
data_in _ before = before

-- The application data last taken; empty before the first.
abbrev pub data_of : Events → List ℕ
data_of [] = []
data_of (Heard m t reply ∷ older) = data_in t.effect (data_of older)
data_of (_ ∷ older) = data_of older
