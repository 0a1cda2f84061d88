-- What comes of a record at an ended session.
use Rattle.std.specs.Prelude.{◌≡◌, ℕ, List, true, false, bytes_eq}
use Rattle.responder_machine.specs.Records.{ended_fault}
use Rattle.responder_session.specs.Ended.{StandsFor}
use Rattle.responder_session.specs.Session.{IsEnded}
use Rattle.responder_session.specs.declared.session.RspSession.{RspSession}
use Rattle.responder_session.specs.declared.told.RspTold.{RspTold}
use Rattle.responder_session.specs.declared.told.RspTold.TheVariants as told
use Rattle.responder_session.specs.declared.took.RspState.{RspState}
use Rattle.responder_session.specs.declared.took.RspState.TheVariants as state
use Rattle.responder_session.specs.declared.took.RspTook.{RspTook}
use Rattle.responder_session.specs.declared.took.RspTook.TheVariants.{Moved, Same, Unopened}

-- The record is the last one; or it has this fault. No record moves an ended session.
abbrev pub IsEndedTold : (id old answer sealed : List ℕ) → RspSession → RspTold → Type 0
IsEndedTold id old answer sealed after (told.Moved act) = ⊥
IsEndedTold id old answer sealed after told.Same =
    (bytes_eq old sealed ≡ true) × IsEnded after id old answer
IsEndedTold id old answer sealed after (told.Unopened fault) =
    (bytes_eq old sealed ≡ false) × (fault ≡ ended_fault id sealed) × IsEnded after id old answer

-- It is still the ended session.
abbrev pub IsEndedStill : (id old answer : List ℕ) → RspState → Type 0
IsEndedStill id old answer (state.Ended e) = StandsFor e id old answer
IsEndedStill id old answer _ = ⊥

-- The same, by the state that is given back.
abbrev pub IsEndedTook : (id old answer sealed : List ℕ) → RspTook → Type 0
IsEndedTook id old answer sealed (Moved after act) = ⊥
IsEndedTook id old answer sealed (Same same) =
    (bytes_eq old sealed ≡ true) × IsEndedStill id old answer same
IsEndedTook id old answer sealed (Unopened same fault) =
    (bytes_eq old sealed ≡ false) × (fault ≡ ended_fault id sealed)
    × IsEndedStill id old answer same
