-- A slot of a requester that is lent, to be changed in its place.
use Rattle.std.specs.Borrow.{Fml, Lends, MutBor}
use Rattle.requester_core.specs.contracts.in_sessions.slot.Slot.{the_row as slot_row}
use Rattle.requester_core.specs.contracts.in_sessions.slot_place.SlotPlace.{the_row as place_row}
use Rattle.requester_core.specs.declared.in_sessions.slot.Slot.{Slot}

-- The place ends with the last slot behind r.
abbrev pub LendsSlot : MutBor Slot → MutBor Slot → Fml
LendsSlot p r = Lends place_row slot_row p r (λ (s : Slot). s)
