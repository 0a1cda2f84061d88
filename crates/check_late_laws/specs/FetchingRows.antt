-- The rows of the table of sessions that a capture shows while a large response is fetched. This project's own.
use Rattle.std.specs.Prelude.{◌≡◌, ◌⊎◌, ℕ, List, ◌∷◌, true, false, Ok}
use Rattle.mctp_framing.specs.Packet.{PacketFields, parsed}
use Rattle.requester_machine.specs.Setup.{ReqSetup}
use Rattle.check_laws.specs.Judged.{AreApart}
use Rattle.check_laws.specs.KeptRows.{Show}
use Rattle.check_laws.specs.Keeping.{Keeps, Kept, restored}
use Rattle.check_laws.specs.Order.{is_answer, is_request}
use Rattle.check_laws.specs.ReasonsEach.{IsOneOf}
use Rattle.capture_machine.specs.SessionTable.{Row, rows_between}
use Rattle.world_machine.specs.Setup.{Configuration}
use Rattle.check_late_laws.specs.Fetching.{Fetching, IsFetchingOf}

-- This is kept of the packets, the newest first, while no large message is in progress, or while a large response is
-- fetched.
abbrev pub IsKeptOf : Configuration → ReqSetup → List (List ℕ) → Kept → Type 0
IsKeptOf w q older k = Keeps w q older k ⊎ ((f : Fetching) × IsFetchingOf w q older f × (f.kept ≡ k))

-- After a packet of a requester, or for it, the rows are those that it makes by what was kept before and is kept after
-- it, whether a large response is fetched or not.
abbrev pub FetchingShows : Type 0
FetchingShows = (w : Configuration) (q : ReqSetup) (older : List (List ℕ)) (packet : List ℕ) (p : PacketFields) (k next : Kept) (rows : List Row)
    → AreApart w.responder.eid w.requesters → IsOneOf w q → parsed packet ≡ Ok p
    → (is_request w.responder.eid q.eid p ≡ true) ⊎ ((is_request w.responder.eid q.eid p ≡ false) × (is_answer w.responder.eid q.eid p ≡ true))
    → IsKeptOf w q older k → IsKeptOf w q (packet ∷ older) next
    → Show w older rows → Show w (packet ∷ older) (rows_between (restored k) (restored next) rows)
