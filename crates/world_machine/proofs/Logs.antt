-- What an event does to the log: it adds acts in front.
use Rattle.std.proofs.Common.{◌≡◌, ℕ, zero, suc, List, [], ◌∷◌, ◌++◌, Bool, true, false, Option, Some, None, refl, sym, ap, ◌∙◌, subst, append_assoc, if◌then◌else◌, slice_index, nat_lt, length, ◌==◌, find}
use Rattle.requester_machine.specs.Message.{Command}
use Rattle.spdm_machine.specs.TagLog.{Log}
use Rattle.spdm_machine.specs.TagLog.Act.{Made, Checked}
use Rattle.world_machine.specs.Chance.{NoChance, HasChance}
use Rattle.world_machine.specs.Happenings.{Happening}
use Rattle.world_machine.specs.Happenings.Happening.{Told, Reply, Deliver, Lose, Inject, Pump, Tick, Show}
use Rattle.world_machine.specs.Laws.{ChanceStays}
use Rattle.requester_machine.specs.Requesting.{Requesting, requester_told, requester_given}
use Rattle.responder_machine.specs.Responding.{responder_hears}
use Rattle.world_machine.specs.World.{World, WorldStep, told, given, given_to, delivers, loses, without_waiting, packet_of, turn, pumps, first_waiting, replied, requester_of, is_at, happens}

-- A log with more acts in front.
abbrev pub Extends : Log → Log → Type 0
Extends old new = (newer : Log) × (new ≡ newer ++ old)

-- Nothing agreed by chance before.
pub no_chance_before : (newer log : Log) → NoChance (newer ++ log) → NoChance log
no_chance_before [] log n = n
no_chance_before (Made p i v ∷ newer) log n = no_chance_before newer log n.1
no_chance_before (Checked p i v r ∷ newer) log n = no_chance_before newer log n.2

pub chance_later : (old new : Log) → Extends old new → HasChance old → HasChance new
chance_later old new e has n = has (no_chance_before e.0 old (subst NoChance e.1 n))

pub extends_more : (old middle new : Log) → Extends old middle → Extends middle new → Extends old new
extends_more old middle new a b = (b.0 ++ a.0, b.1 ∙ ap (λ (x : Log). b.0 ++ x) a.1 ∙ sym (append_assoc b.0 a.0 old))

either : (b : Bool) (old : Log) (x y : WorldStep) → Extends old x.after.log → Extends old y.after.log → Extends old (if b then x else y).after.log
either true old x y a b = a
either false old x y a b = b

told_extends : (world : World) (n : ℕ) (command : Command) (a : Option Requesting) → Extends world.log (told world n command a).after.log
told_extends world n command None = ([], refl)
told_extends world n command (Some a) = ((requester_told a command).acts, refl)

given_to_extends : (world : World) (packet : List ℕ) (a : Option Requesting) → Extends world.log (given_to world packet a).after.log
given_to_extends world packet None = ([], refl)
given_to_extends world packet (Some a) = ((requester_given a packet).acts, refl)

pub given_extends : (world : World) (packet : List ℕ) → Extends world.log (given world packet).after.log
given_extends world packet =
    either (nat_lt (length packet) 2) world.log _ _ (given_to_extends world packet None)
    (either (slice_index packet 1 == world.responder.part.eid) world.log _ _ ((responder_hears world.responder packet).acts, refl)
    (given_to_extends world packet (find (is_at (slice_index packet 1)) world.requesters)))

delivers_extends : (world : World) (number : ℕ) (packet : Option (List ℕ)) → Extends world.log (delivers world number packet).after.log
delivers_extends world number None = ([], refl)
delivers_extends world number (Some packet) = given_extends (without_waiting number world) packet

loses_extends : (world : World) (number : ℕ) (packet : Option (List ℕ)) → Extends world.log (loses world number packet).after.log
loses_extends world number None = ([], refl)
loses_extends world number (Some packet) = ([], refl)

turn_extends : (world : World) (next : World → WorldStep) (number : Option ℕ) → ((later : World) → Extends later.log (next later).after.log)
    → Extends world.log (turn world next number).after.log
turn_extends world next None all = ([], refl)
turn_extends world next (Some number) all =
    extends_more world.log (delivers world number (packet_of number world.sent)).after.log _
    (delivers_extends world number (packet_of number world.sent))
    (all (delivers world number (packet_of number world.sent)).after)

pub pumps_extends : (count : ℕ) (world : World) → Extends world.log (pumps count world).after.log
unfolding pumps
pumps_extends zero world = ([], refl)
pumps_extends (suc count) world = turn_extends world (pumps count) (first_waiting world.sent) (pumps_extends count)

replied_extends : (world : World) (bytes : List ℕ) (a : Option Requesting) → Extends world.log (replied world bytes a).after.log
replied_extends world bytes None = ([], refl)
replied_extends world bytes (Some a) = ([], refl)

pub happens_extends : (world : World) (event : Happening) → Extends world.log (happens world event).after.log
unfolding happens
happens_extends world (Told n command) = told_extends world n command (requester_of n world)
happens_extends world (Reply n bytes) = replied_extends world bytes (requester_of n world)
happens_extends world (Deliver number) = delivers_extends world number (packet_of number world.sent)
happens_extends world (Lose number) = loses_extends world number (packet_of number world.sent)
happens_extends world (Inject bytes) = given_extends world bytes
happens_extends world (Pump count) = pumps_extends count world
happens_extends world (Tick seconds) = ([], refl)
happens_extends world Show = ([], refl)

pub chance : ChanceStays
chance world event has = chance_later world.log _ (happens_extends world event) has
