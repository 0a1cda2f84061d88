-- What is shown of a record of a requester that is not there.
use Rattle.std.proofs.Common.{◌≡◌, [], ◌∷◌, refl}
use Rattle.capture_bodies.specs.Completing.{Completed}
use Rattle.capture_bodies.specs.Completing.Completed.{Body, Dropped, More}
use Rattle.capture_records.specs.Hearing.{nobody, seen_by, unheard}
use Rattle.capture_records.specs.Showing.{seen_of}
use Rattle.key_schedule.specs.declared.direction.Direction.{Direction}

pub seen_by_nobody : (direction : Direction) (done : Completed) → seen_by nobody direction done ≡ unheard done
unfolding seen_by seen_of
seen_by_nobody direction (Body owner []) = refl
seen_by_nobody direction (Body owner (type ∷ message)) = refl
seen_by_nobody direction More = refl
seen_by_nobody direction (Dropped cause) = refl
