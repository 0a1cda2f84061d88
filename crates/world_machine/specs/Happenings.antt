-- The events of a script (this project's own).
use Rattle.std.specs.Prelude.{ℕ, List}
use Rattle.requester_machine.specs.Message.{Command}

-- Requester n, counted from 1, is told a command; application data is queued for it at the responder; the packet of a
-- number is given to its end, or no longer waits; bytes are given to the end that they name; up to so many waiting
-- packets are given, in order; seconds pass at the responder; the ends are shown.
pub data Happening : Type 0 where
  Told : (n : ℕ) → (command : Command) → Happening
  Reply : (n : ℕ) → (bytes : List ℕ) → Happening
  Deliver : (number : ℕ) → Happening
  Lose : (number : ℕ) → Happening
  Inject : (bytes : List ℕ) → Happening
  Pump : (count : ℕ) → Happening
  Tick : (seconds : ℕ) → Happening
  Show : Happening

-- An event with the number of its line in the script.
pub record Entry : Type 0 where
  pub line : ℕ
  pub happening : Happening
