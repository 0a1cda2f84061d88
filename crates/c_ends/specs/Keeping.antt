-- What a handle owns: the box of its end, or nothing.
use Rattle.std.specs.Prelude.{Option, Some, None}
use Rattle.std.specs.Coded.{coded_option}
use base.Fml.{Fml, ftrue}
use base.Stored.{Coded}
use denote.RawPtr.{Ptr}
use Rattle.std.specs.Box.Ownership.{box_owns}
use Rattle.std.specs.Global.{Global}
use Rattle.std_heap.specs.contracts.GlobalAllocator.TheImpl.{ghosts}
use Rattle.c_ends.specs.contracts.open_requester.OpenRequester as requester
use Rattle.c_ends.specs.contracts.open_responder.OpenResponder as responder

-- A responder and the right to free its block.
abbrev pub responder_owns : Option responder.the_row.Denot → Global → Ptr → Fml
responder_owns (Some x) alloc p = box_owns (ghosts.dealloc_token alloc) responder.the_row p x
responder_owns None alloc p = ftrue

abbrev pub responder_coded : Coded (Option responder.the_row.Denot)
responder_coded = coded_option responder.the_row.coded

-- The same of a requester.
abbrev pub requester_owns : Option requester.the_row.Denot → Global → Ptr → Fml
requester_owns (Some x) alloc p = box_owns (ghosts.dealloc_token alloc) requester.the_row p x
requester_owns None alloc p = ftrue

abbrev pub requester_coded : Coded (Option requester.the_row.Denot)
requester_coded = coded_option requester.the_row.coded
