-- What a handle owns: the box of its attestor, or nothing.
use Rattle.std.specs.Prelude.{Option, Some, None}
use Rattle.std.specs.Coded.{coded_option}
use base.Fml.{Fml, ftrue}
use base.Stored.{Coded}
use denote.RawPtr.{Ptr}
use Rattle.std.specs.Box.Ownership.{box_owns}
use Rattle.std.specs.Global.{Global}
use Rattle.std_heap.specs.contracts.GlobalAllocator.TheImpl.{ghosts}
use Rattle.c_attestor.specs.contracts.open_attestor.OpenAttestor as attestor

-- An attestor and the right to free its block.
abbrev pub attestor_owns : Option attestor.the_row.Denot → Global → Ptr → Fml
attestor_owns (Some x) alloc p = box_owns (ghosts.dealloc_token alloc) attestor.the_row p x
attestor_owns None alloc p = ftrue

abbrev pub attestor_coded : Coded (Option attestor.the_row.Denot)
attestor_coded = coded_option attestor.the_row.coded
