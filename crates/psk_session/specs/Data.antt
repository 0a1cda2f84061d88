-- What the last answer brought.
use Rattle.std.specs.Prelude.{ℕ, List, [], ◌∷◌, unwrap_or}
use Rattle.std.specs.Option.{option_or}
use Rattle.requester_machine.specs.History.{Effect}
use Rattle.requester_machine.specs.Session.{Steps}
use Rattle.requester_machine.specs.Session.Step.{Took}
use Rattle.requester_machine.specs.Shown.{bytes_in, blocks_in}

-- The application data or the measurement record that was brought; empty where none was.
abbrev pub data_in : Effect → List ℕ
data_in effect = unwrap_or (option_or (bytes_in effect) (blocks_in effect)) []

-- That of the last record that was taken.
abbrev pub data_of : Steps → List ℕ
data_of [] = []
data_of (Took sealed inner effect ∷ older) = data_in effect
data_of (_ ∷ older) = data_of older
