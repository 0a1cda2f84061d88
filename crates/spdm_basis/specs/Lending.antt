-- What a buffer is once it lent its bytes for writing. This project's own.
use Rattle.std.specs.Prelude.{ℕ, List, length}
use Rattle.std.specs.List.{refill}
use Rattle.std.specs.Borrow.{Lends, Fml, RattleType, MutBor, Array, u8}
use Rattle.spdm_basis.specs.contracts.values.buffer.Buffer.{the_row}

-- A buffer of a capacity ends as the bytes that are left where it lent them, which are as many as before.
abbrev pub LendsAll : RattleType → MutBor (List ℕ) → MutBor (List ℕ) → Fml
LendsAll N buffer bytes = Lends (the_row N) (Array u8 0) buffer bytes (λ left. refill (length buffer.now) buffer.now left)
