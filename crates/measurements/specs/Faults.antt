-- Why blocks make no inventory. This project's own limits.
use Rattle.std.specs.Prelude.{◌≡◌, ℕ, Bool, false, ◌==◌, ◌||◌, nat_lt, if◌then◌else◌, List, [], ◌∷◌, Option, Some, None}
use Rattle.std.specs.List.{list_any}
use Rattle.spdm_grammar.specs.declared.told.block_spec.BlockSpec.{BlockSpec}
use Rattle.measurements.specs.declared.fault.InventoryFault.{InventoryFault}
use Rattle.measurements.specs.declared.fault.InventoryFault.TheVariants.{IndexOutOfRange, IndexTaken, TooLong, OutOfMemory}
use Rattle.measurements.specs.Blocks.{record_len}

-- An index is 0 or above 254: 255, which names all blocks.
abbrev pub has_bad_index : List BlockSpec → Bool
has_bad_index blocks = list_any (λ block. block.index == 0 || nat_lt 254 block.index) blocks

-- Some block has this index.
abbrev pub has_index : ℕ → List BlockSpec → Bool
has_index index blocks = list_any (λ block. block.index == index) blocks

-- Two blocks have one index.
abbrev pub has_twice : List BlockSpec → Bool
has_twice [] = false
has_twice (block ∷ others) = has_index block.index others || has_twice others

-- The first reason in this order why blocks make no inventory: an index is out of range, an index is taken twice, or the blocks together have more than 4,054 bytes, so that a message of 4,096 bytes does not hold them.
abbrev pub inventory_fault : List BlockSpec → Option InventoryFault
inventory_fault blocks =
    if has_bad_index blocks then Some IndexOutOfRange
    else (if has_twice blocks then Some IndexTaken
    else (if nat_lt 4054 (record_len blocks) then Some TooLong
    else None))

-- The cause of a fault: allocation failure comes only where there is no other.
abbrev pub IsCause : List BlockSpec → InventoryFault → Type 0
IsCause blocks IndexOutOfRange = inventory_fault blocks ≡ Some IndexOutOfRange
IsCause blocks IndexTaken = inventory_fault blocks ≡ Some IndexTaken
IsCause blocks TooLong = inventory_fault blocks ≡ Some TooLong
IsCause blocks OutOfMemory = inventory_fault blocks ≡ None
