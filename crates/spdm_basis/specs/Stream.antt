-- What a source and seeds give and a sink takes, and when they fail. This project's own.
use Rattle.std.specs.Prelude.{◌≡◌, ◌-◌, ◌<◌, ◌^◌, ◌⊎◌, ◌++◌, ◌∷◌, ℕ, List, [], Option, Some, None}

-- A source that tells what it has left gave these bytes, the first of them, and has the others left.
abbrev pub Gives : Option (List ℕ) → List ℕ → Option (List ℕ) → Type 0
Gives old bytes new = (left : List ℕ) → old ≡ Some left → (rest : List ℕ) × (new ≡ Some rest) × (left ≡ bytes ++ rest)

-- It gave some bytes, the first of what it had left.
abbrev pub GivesSome : Option (List ℕ) → Option (List ℕ) → Type 0
GivesSome old new = (bytes : List ℕ) × Gives old bytes new

-- A source that tells what it has left has nothing left.
abbrev pub IsAtEnd : Option (List ℕ) → Type 0
IsAtEnd now = (left : List ℕ) → now ≡ Some left → left ≡ []

-- A sink that tells what it holds took these bytes after what it held.
abbrev pub Takes : Option (List ℕ) → List ℕ → Option (List ℕ) → Type 0
Takes old bytes new = (held : List ℕ) → old ≡ Some held → new ≡ Some (held ++ bytes)

-- It took a prefix of these bytes.
abbrev pub TakesPrefix : Option (List ℕ) → List ℕ → Option (List ℕ) → Type 0
TakesPrefix old bytes new = (written : List ℕ) × (rest : List ℕ) × (bytes ≡ written ++ rest) × Takes old written new

-- Seeds that tell what they have left gave this one, the first of them, and have the others left.
abbrev pub GivesSeed : Option (List (List ℕ)) → List ℕ → Option (List (List ℕ)) → Type 0
GivesSeed old seed new = (left : List (List ℕ)) → old ≡ Some left → (rest : List (List ℕ)) × (new ≡ Some rest) × (left ≡ seed ∷ rest)

-- Seeds that tell nothing of what they have left.
abbrev pub untold : Option (List (List ℕ))
untold = None

-- A count of faults shows one in a call: it rose, or it stands at the last number of 64 bits.
abbrev pub HasFault : ℕ → ℕ → Type 0
HasFault before after = (before < after) ⊎ (before ≡ 2 ^ 64 - 1)

-- A count of faults shows none in a call: it stands where it stood, below the last number.
abbrev pub IsQuiet : ℕ → ℕ → Type 0
IsQuiet before after = (after ≡ before) × (before < 2 ^ 64 - 1)
