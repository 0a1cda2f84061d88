-- The lines by which a requester is shown. This project's own.
use Rattle.std.specs.Prelude.{ℕ, List, ◌∷◌}
use Rattle.requester_machine.specs.History.{phase_of}
use Rattle.requester_machine.specs.Requesting.{Requesting}
use Rattle.requester_machine.specs.Shown.{views_of}
use Rattle.spdm_grammar.specs.Lines.{Line, Whose}
use Rattle.spdm_grammar.specs.Lines.Line.{State}
use Rattle.world_machine.specs.World.{session_lines}

-- The phase and the sessions of requester n.
abbrev pub asker_lines : ℕ → Requesting → List Line
asker_lines n a = State (Whose.Requester n) (phase_of a.history) ∷ session_lines (Whose.Requester n) (views_of a.history)
