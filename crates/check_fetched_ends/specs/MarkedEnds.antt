-- What is kept of a requester and the responder at any place, with the marks of the sessions that were touched since
-- the newest request in the clear that was taken; and what is reported of a request and of an answer there. This
-- project's own.
use Rattle.std.specs.Prelude.{◌≡◌, ◌≢◌, ◌<◌, ◌==◌, ◌&&◌, ◌⊎◌, ℕ, List, ◌∷◌, drop, slice_index, Bool, true, false, if◌then◌else◌, Result, Ok, Err}
use Rattle.check_ends.specs.Conversation.{NoneGoesOn}
use Rattle.check_ends.specs.declared.continuation.Continuation.{Continuation}
use Rattle.check_ends.specs.declared.continuation.Continuation.TheVariants as onward
use Rattle.check_laws.specs.Judged.{why_of}
use Rattle.check_laws.specs.Keeping.{Keeps, Kept}
use Rattle.check_laws.specs.Order.{is_answer, is_request}
use Rattle.check_laws.specs.ReasonsEach.{IsAnsweredReason}
use Rattle.check_laws.specs.declared.verdict.Seen.{Seen}
use Rattle.check_fetched_ends.specs.JudgedEnds as judged
use Rattle.check_fetched_ends.specs.LateBegins.{is_free_body, is_large_body}
use Rattle.check_fetched_ends.specs.Marked.{MarksStand}
use Rattle.check_fetched_ends.specs.declared.marked.MarkedEnds.{MarkedEnds}
use Rattle.mctp_framing.specs.Cutting.{RouteFields}
use Rattle.mctp_framing.specs.Gathering.{Gathered}
use Rattle.mctp_framing.specs.Gathering.Gathered.{More, Whole}
use Rattle.mctp_framing.specs.Packet.{PacketFields, parsed}
use Rattle.requester_machine.specs.Setup.{ReqSetup}
use Rattle.responder_machine.specs.History.{History}
use Rattle.responder_machine.specs.Responder.{repeats}
use Rattle.responder_machine.specs.Session.{id_in_record, last_of, session_of}
use Rattle.spdm_grammar.specs.declared.told.why.Why as declared
use Rattle.spdm_machine.specs.Packets.{gathered_from}
use Rattle.capture_machine.specs.Rounds.{Dialogue}
use Rattle.capture_machine.specs.SessionTable.{Row, rows_between}
use Rattle.world_machine.specs.Setup.{Configuration}
use Rattle.spdm_grammar.specs.declared.names.message_type.TheConstants.{SPDM}

-- ---- What is kept.

abbrev pub StandsFor : MarkedEnds → Configuration → ReqSetup → (older : List (List ℕ)) → List Row → Type 0
StandsFor seen w q older rows = judged.StandsFor seen.ends w q older rows × MarksStand seen.marks w q older

-- The packet goes on in a walk, and this is kept of the packets with it in front.
abbrev pub StandsBehind : MarkedEnds → (table : List Seen) → Configuration → ReqSetup → (older : List (List ℕ)) → List Row → (packet : List ℕ) → Type 0
StandsBehind new table w q older rows packet = judged.StandsBehind new.ends table w q older rows packet × MarksStand new.marks w q (packet ∷ older)

-- ---- What is told: as without the marks, and they stand on.

abbrev pub IsAskedOf : Configuration → ReqSetup → List (List ℕ) → List Row → (packet : List ℕ) → Gathered
    → Result Unit declared.Why → (new : MarkedEnds) → (table : List Seen) → Type 0
IsAskedOf w q older rows packet g (Ok u) new table = StandsBehind new table w q older rows packet
IsAskedOf w q older rows packet g (Err why) new table = judged.IsAskedOf w q older rows packet g (Err why) new.ends table

-- Of an answer, as it is told without asking whether a fetch begins late by it.
abbrev pub IsMovedAnswer : Configuration → ReqSetup → List (List ℕ) → List Row → (packet : List ℕ) → RouteFields → (answer : List ℕ)
    → Result Continuation declared.Why → (new : MarkedEnds) → (table : List Seen) → Type 0
IsMovedAnswer w q older rows packet route answer (Ok onward.Kept) new table = StandsBehind new table w q older rows packet
IsMovedAnswer w q older rows packet route answer told new table = judged.IsJudgedAnswer w q older rows packet route answer told new.ends table

-- No walk goes on with an answer that is left so.
abbrev pub NoneAsked : Configuration → ReqSetup → List (List ℕ) → (packet : List ℕ) → ℕ → (answer : List ℕ) → Type 0
NoneAsked w q older packet tag answer = (k : Kept) → Keeps w q older k → judged.IsLeft w k tag answer → NoneGoesOn w q older packet

-- An answer may be LargeResponse again: to GET_MEASUREMENTS or PSK_EXCHANGE in the clear, or to the last record of its session.
abbrev pub may_come_again : History → (body answer : List ℕ) → Bool
may_come_again h body answer =
    if slice_index body 0 == SPDM then is_free_body body && is_large_body answer
    else repeats (last_of (session_of (id_in_record (drop 1 body)) h)) (drop 1 body)

-- Of an answer: it goes on; or no walk goes on with it, and then why.
abbrev pub IsJudgedAnswer : Configuration → ReqSetup → List (List ℕ) → List Row → (packet : List ℕ) → RouteFields → (answer : List ℕ)
    → Result Unit declared.Why → (new : MarkedEnds) → (table : List Seen) → Type 0
IsJudgedAnswer w q older rows packet route answer (Ok u) new table = StandsBehind new table w q older rows packet
IsJudgedAnswer w q older rows packet route answer (Err why) new table =
    NoneGoesOn w q older packet × IsAnsweredReason w q older (Whole route answer) (why_of why)

-- ---- What leaves it.

-- A packet between the responder and another requester leaves it, among the rows that it makes.
abbrev pub OtherMarkedStay : Type 0
OtherMarkedStay = (seen : MarkedEnds) (w : Configuration) (q : ReqSetup) (older : List (List ℕ)) (packet : List ℕ) (p : PacketFields) (before after : Dialogue) (rows : List Row)
    → q.eid ≢ after.setup.eid → parsed packet ≡ Ok p
    → is_request w.responder.eid q.eid p ≡ false → is_answer w.responder.eid q.eid p ≡ false
    → StandsFor seen w q older rows → StandsFor seen w q (packet ∷ older) (rows_between before after rows)

-- A packet of this requester, or for it, after which more of a body is awaited, leaves it, and the rows too. The
-- heartbeat period is a byte.
abbrev pub AwaitingMarkedStay : Type 0
AwaitingMarkedStay = (seen : MarkedEnds) (w : Configuration) (q : ReqSetup) (older : List (List ℕ)) (packet : List ℕ) (p : PacketFields) (rows : List Row)
    → w.responder.beat < 256 → parsed packet ≡ Ok p
    → ((is_request w.responder.eid q.eid p ≡ true) × (gathered_from w.responder.eid q.eid older p ≡ More))
    ⊎ ((is_request w.responder.eid q.eid p ≡ false) × (is_answer w.responder.eid q.eid p ≡ true) × (gathered_from q.eid w.responder.eid older p ≡ More))
    → StandsFor seen w q older rows → StandsFor seen w q (packet ∷ older) rows
