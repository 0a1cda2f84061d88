-- LargeResponse again in a session: the record that is repeated is the newest event of its session, however long ago it
-- came. This project's own.
use Rattle.std.specs.Prelude.{◌≡◌, ◌≢◌, ℕ, List, ◌∷◌, true, Some, is_some}
use Rattle.check_laws.specs.Walks.{Walks}
use Rattle.requester_machine.specs.Setup.{ReqSetup}
use Rattle.responder_machine.specs.History.{clear_turns}
use Rattle.responder_machine.specs.Session.{Events, last_of, session_of}
use Rattle.responder_machine.specs.Session.Event.{Heard}
use Rattle.capture_machine.specs.LargeAnswers.{repeats_large, seen_turn, with_large}
use Rattle.capture_machine.specs.Rounds.{Dialogue}
use Rattle.world_machine.specs.Setup.{Configuration}

-- The session, with these bytes as the large response to its newest record.
abbrev pub newest_with : List ℕ → Events → Events
newest_with whole (Heard m t reply ∷ older) = Heard m (seen_turn whole t) reply ∷ older
newest_with whole s = s

-- In a walk, where the newest record for a session that has one went by LargeResponse and its answer was not seen, the
-- history with bytes as that answer has them in the newest event of this session.
abbrev pub AgainIsNewest : Type 0
AgainIsNewest = (w : Configuration) (q : ReqSetup) (older : List (List ℕ)) (d : Dialogue) (id : ℕ) (whole : List ℕ) → Walks w q older d
    → repeats_large (Some id) d.responder ≡ true → is_some (last_of (session_of id d.responder)) ≡ true
    → session_of id (with_large (Some id) whole d.responder) ≡ newest_with whole (session_of id d.responder)

-- The other sessions, and what came in the clear, are the same.
abbrev pub AgainLeavesOthers : Type 0
AgainLeavesOthers = (d : Dialogue) (id other : ℕ) (whole : List ℕ) → other ≢ id
    → (session_of other (with_large (Some id) whole d.responder) ≡ session_of other d.responder)
    × (clear_turns (with_large (Some id) whole d.responder) ≡ clear_turns d.responder)
