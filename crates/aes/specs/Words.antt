-- Blocks as numbers, and states as four numbers, one for each column (FIPS 197, section 3.5).
use Rattle.std.specs.Prelude.{ℕ, List, ◌++◌}
use Rattle.byteorder.specs.Endian.{big_bytes}
use Rattle.aes.specs.declared.columns.Columns.{Columns}

-- The 16 bytes of a block that is given as a number, the highest first.
unfoldable pub block_bytes : ℕ → List ℕ
block_bytes x = big_bytes 16 x

-- The bytes of a state, column after column, that of the first row first.
unfoldable pub bytes_of : Columns → List ℕ
bytes_of s = big_bytes 4 s.first ++ big_bytes 4 s.second ++ big_bytes 4 s.third ++ big_bytes 4 s.fourth
