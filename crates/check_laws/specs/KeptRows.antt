-- The rows of the table of sessions that a capture shows, by what is kept of each of its requesters. This project's own.
use Rattle.std.specs.Prelude.{◌≡◌, ◌≤◌, ◌+◌, ◌++◌, ℕ, List, [], ◌∷◌, length, map, reverse, false, true, Ok}
use Rattle.mctp_framing.specs.Packet.{PacketFields, parsed}
use Rattle.requester_machine.specs.Setup.{ReqSetup}
use Rattle.spdm_machine.specs.Packets.{gathered_from}
use Rattle.check_laws.specs.Judged.{AreApart}
use Rattle.check_laws.specs.Keeping.{AsksKept, Keeps, Kept, RepliesKept, restored}
use Rattle.check_laws.specs.Order.{is_answer, is_request}
use Rattle.check_laws.specs.ReasonsEach.{IsOneOf}
use Rattle.check_laws.specs.Rows.{HaveAllPlaces, StandsForRows}
use Rattle.check_laws.specs.Verdict.{seen_of}
use Rattle.check_laws.specs.declared.verdict.Seen.{Seen}
use Rattle.capture_machine.specs.Rounds.{Dialogue}
use Rattle.capture_machine.specs.SessionTable.{HasTable, LeadsShowing, Row, number_from, rows_between}
use Rattle.world_machine.specs.Setup.{Configuration}

-- Packets, the newest first, conform and show these rows.
abbrev pub Show : Configuration → List (List ℕ) → List Row → Type 0
Show w older rows = (ds : List Dialogue) × LeadsShowing w older ds rows

-- Before the first packet there are none.
abbrev pub ShowBegins : Type 0
ShowBegins = (w : Configuration) → Show w [] []

-- What is shown has places of each requester.
abbrev pub ShownHavePlaces : Type 0
ShownHavePlaces = (w : Configuration) (older : List (List ℕ)) (ds : List Dialogue) (rows : List Row)
    → AreApart w.responder.eid w.requesters → LeadsShowing w older ds rows → HaveAllPlaces ds rows

-- ---- A packet.

-- After a packet from a requester the rows are those that it makes by what was kept before and is kept after it.
abbrev pub AsksShow : Type 0
AsksShow = (w : Configuration) (q : ReqSetup) (older : List (List ℕ)) (packet : List ℕ) (p : PacketFields) (k next : Kept) (rows : List Row)
    → AreApart w.responder.eid w.requesters → IsOneOf w q
    → parsed packet ≡ Ok p → is_request w.responder.eid q.eid p ≡ true
    → Keeps w q older k → AsksKept k (gathered_from w.responder.eid q.eid older p) next
    → Show w older rows → Show w (packet ∷ older) (rows_between (restored k) (restored next) rows)

-- Likewise after a packet for it, where no large response is fetched then.
abbrev pub RepliesShow : Type 0
RepliesShow = (w : Configuration) (q : ReqSetup) (older : List (List ℕ)) (packet : List ℕ) (p : PacketFields) (k next : Kept) (rows : List Row)
    → AreApart w.responder.eid w.requesters → IsOneOf w q
    → parsed packet ≡ Ok p → is_request w.responder.eid q.eid p ≡ false → is_answer w.responder.eid q.eid p ≡ true
    → Keeps w q older k → RepliesKept w k (gathered_from q.eid w.responder.eid older p) next
    → Show w older rows → Show w (packet ∷ older) (rows_between (restored k) (restored next) rows)

-- ---- The table.

-- A table stands for the rows after more packets too, where they change none.
abbrev pub MorePackets : Type 0
MorePackets = (table : List Seen) (w : Configuration) (n m : ℕ) (rows : List Row) → n ≤ m → StandsForRows table w n rows → StandsForRows table w m rows

-- One that stands for the rows that a capture shows is its table.
abbrev pub ShownIsTable : Type 0
ShownIsTable = (w : Configuration) (packets : List (List ℕ)) (rows : List Row) (n : ℕ) (table : List Seen)
    → Show w (reverse packets) rows → StandsForRows table w n rows → HasTable w packets (map seen_of table)

-- Each requester is the first with its endpoint, and has its number in the configuration, counted from 1.
abbrev pub NumbersAreOrder : Type 0
NumbersAreOrder = (w : Configuration) (q : ReqSetup) (earlier later : List ReqSetup)
    → AreApart w.responder.eid w.requesters → w.requesters ≡ earlier ++ q ∷ later
    → IsOneOf w q × (number_from 1 q.eid w.requesters ≡ length earlier + 1)
