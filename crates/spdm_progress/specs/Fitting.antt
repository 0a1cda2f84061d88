-- Which messages can go to an end. This project's own.
use Rattle.std.specs.Prelude.{◌≡◌, ◌≤◌, ℕ, false}
use Rattle.negotiate.specs.declared.shared.Common.{Common}
use Rattle.negotiate.specs.declared.shared.Sizes.{Sizes}

-- A message of this size can go to an end with these sizes: it is at most its max size, and at most its transfer size
-- where chunks are not in common.
abbrev pub CanGo : Common → Sizes → (size : ℕ) → Type 0
CanGo common to size = (size ≤ to.max) × (common.chunk ≡ false → size ≤ to.transfer)
