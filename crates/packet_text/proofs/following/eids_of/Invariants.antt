use Rattle.std.proofs.Common.{◌≡◌, take}
use Rattle.std.specs.Prelude.{map}
use Rattle.capture_bodies.specs.Keeping.{number_of}
use Rattle.capture_records.specs.Ends.{eid_of}
use Rattle.packet_text.proofs.following.eids_of.Given as goal

-- The endpoints of the requesters so far.
abbrev pub invariant-loop-q : goal.invariant-loop-q
invariant-loop-q l = map number_of l.eids.items ≡ map eid_of (take l.q-index l.requesters)
