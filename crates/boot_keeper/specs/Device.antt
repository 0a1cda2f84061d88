-- A device of bytes that keeps what is written to it, also over a crash. This project's own.
use Rattle.std.specs.Prelude.{◌≡◌, ◌<◌, ◌≤◌, ◌+◌, ◌⊎◌, ◌++◌, ℕ, List, [], ◌∷◌, Option, Some, None, length, take, drop, slice_index}

-- The device after bytes were written from a place on.
abbrev pub written : ℕ → List ℕ → List ℕ → List ℕ
written at bytes old = take at old ++ (bytes ++ drop (at + length bytes) old)

-- So many bytes from a place on may be any, and all others are as they were. So is what a write of them leaves that failed,
-- and one during which a crash came.
pub record IsTorn (at count : ℕ) (old new : List ℕ) : Type 0 where
  pub long : length new ≡ length old
  pub before : (i : ℕ) → i < at → slice_index new i ≡ slice_index old i
  pub behind : (i : ℕ) → at + count ≤ i → slice_index new i ≡ slice_index old i

-- Bytes that are to be written from a place on.
pub record Write : Type 0 where
  pub at : ℕ
  pub bytes : List ℕ

-- The device after all of these writes, in their order.
abbrev pub after_writes : List Write → List ℕ → List ℕ
after_writes [] old = old
after_writes (w ∷ ws) old = after_writes ws (written w.at w.bytes old)

-- The device may be this after a failure or a crash during these writes: the first of them were done, the next is torn, and
-- the others never came. A crash before the first or behind the last is among them.
abbrev pub MayLeave : List Write → List ℕ → List ℕ → Type 0
MayLeave [] old new = new ≡ old
MayLeave (w ∷ ws) old new = IsTorn w.at (length w.bytes) old new ⊎ MayLeave ws (written w.at w.bytes old) new

-- A device of 18 bytes that tells them gave those from a place on.
abbrev pub GivesBytes : Option (List ℕ) → ℕ → List ℕ → Type 0
GivesBytes held at bytes = (old : List ℕ) → held ≡ Some old → (length old ≡ 18) × (bytes ≡ take (length bytes) (drop at old))

-- A device that tells its bytes took these from a place on.
abbrev pub TakesBytes : Option (List ℕ) → ℕ → List ℕ → Option (List ℕ) → Type 0
TakesBytes held at bytes left = (old : List ℕ) → held ≡ Some old → left ≡ Some (written at bytes old)

-- A device that tells its bytes was torn where these were to be written.
abbrev pub TearsBytes : Option (List ℕ) → ℕ → ℕ → Option (List ℕ) → Type 0
TearsBytes held at count left = (old : List ℕ) → held ≡ Some old → (new : List ℕ) × (left ≡ Some new) × IsTorn at count old new

-- A device that tells its bytes took all of these writes.
abbrev pub TakesAll : Option (List ℕ) → List Write → Option (List ℕ) → Type 0
TakesAll held writes left = (old : List ℕ) → held ≡ Some old → left ≡ Some (after_writes writes old)

-- A device that tells its bytes was left during these writes.
abbrev pub TakesSome : Option (List ℕ) → List Write → Option (List ℕ) → Type 0
TakesSome held writes left = (old : List ℕ) → held ≡ Some old → (new : List ℕ) × (left ≡ Some new) × MayLeave writes old new

-- A device that tells nothing of its bytes.
abbrev pub untold : Option (List ℕ)
untold = None
