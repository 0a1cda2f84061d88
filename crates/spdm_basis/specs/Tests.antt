-- A list of tests in order, of which the first that holds decides.
use Rattle.std.specs.Prelude.{Bool, List, [], ◌∷◌, Option, Some, None, if◌then◌else◌}

-- What the first test that holds gives; nothing where none holds.
abbrev pub first_of_tests : {F : Type 0} → List (Bool × F) → Option F
first_of_tests [] = None
first_of_tests (t ∷ ts) = if t.0 then Some t.1 else first_of_tests ts
