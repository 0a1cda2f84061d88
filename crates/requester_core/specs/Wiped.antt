-- Sessions of a requester whose keys and plaintexts are overwritten.
use Rattle.psk_session.specs.Wiped as wiped
use Rattle.requester_core.specs.Sessions.{slot_of}
use Rattle.requester_core.specs.declared.in_sessions.sessions.Sessions.{Sessions}
use Rattle.requester_core.specs.declared.in_sessions.slot.Slot.{Slot}
use Rattle.requester_core.specs.declared.in_sessions.slot.Slot.TheVariants as slot

-- What the slot holds, as far as its session has come, is overwritten.
abbrev pub IsWipedSlot : Slot → Type 0
IsWipedSlot slot.Empty = Unit {0}
IsWipedSlot (slot.Opening seen) = wiped.IsWipedOpening seen
IsWipedSlot (slot.Finishing seen) = wiped.IsWipedFinishing seen
IsWipedSlot (slot.Live seen) = wiped.IsWiped seen

-- So is each of the four slots.
pub record IsWiped (seen : Sessions) : Type 0 where
  pub first : IsWipedSlot (slot_of seen 1)
  pub second : IsWipedSlot (slot_of seen 2)
  pub third : IsWipedSlot (slot_of seen 3)
  pub fourth : IsWipedSlot (slot_of seen 4)
