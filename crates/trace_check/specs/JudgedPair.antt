-- One requester of a capture and the responder, as the program gathers and judges what goes between them: what it stands
-- for after some packets, and what it tells of the next one. This project's own.
use Rattle.std.specs.Prelude.{◌≡◌, ◌≢◌, ◌<◌, ◌+◌, ◌-◌, ◌^◌, ℕ, List, ◌∷◌, length, Result, Ok, Err}
use Rattle.mctp_framing.specs.Packet.{PacketFields, parsed}
use Rattle.requester_machine.specs.Setup.{ReqSetup}
use Rattle.spdm_grammar.specs.declared.told.why.Why as declared
use Rattle.check_laws.specs.Judged.{IsPair, Pair, why_of}
use Rattle.check_laws.specs.KeptRows.{Show}
use Rattle.check_laws.specs.ReasonsEach.{IsOneOf}
use Rattle.check_laws.specs.Rows.{StandsForRows}
use Rattle.check_laws.specs.declared.verdict.Seen.{Seen}
use Rattle.check_fetched_ends.specs.MarkedEnds as marked_ends
use Rattle.trace_check.specs.Limits.{AreSound}
use Rattle.trace_check.specs.declared.judged_pair.JudgedPair.{JudgedPair}
use Rattle.capture_machine.specs.Capture.{Leads}
use Rattle.capture_machine.specs.Difference.{IsReason, Why}
use Rattle.capture_machine.specs.Rounds.{Dialogue}
use Rattle.capture_machine.specs.SessionTable.{Row}
use Rattle.world_machine.specs.Setup.{Configuration}

-- ---- What is kept.

-- The bodies that are gathered in both directions, and the round in progress.
abbrev pub pair_of : JudgedPair → Pair
pair_of seen = record { eid = seen.eid; requests = seen.requests; answers = seen.answers; round = seen.round }

-- It stands for this requester and the responder after these packets, the newest first, among the rows that they show: the
-- bodies and the round are those of the packets; the two ends stand for these; and the responder knows this of the
-- requester.
pub record StandsFor (seen : JudgedPair) (w : Configuration) (q : ReqSetup) (older : List (List ℕ)) (rows : List Row) : Type 0 where
  pub order : IsPair (pair_of seen) w.responder.eid q.eid older
  pub talk : marked_ends.StandsFor seen.ends w q older rows
  pub hint : seen.hint ≡ q.hint
  pub psk : seen.psk ≡ q.psk

-- ---- A packet.

-- A packet with these fields comes after packets that conform and show these rows. The requester is one of those that
-- are set up.
pub record ComesBehind (w : Configuration) (q : ReqSetup) (older : List (List ℕ)) (rows : List Row) (packet : List ℕ) (p : PacketFields) : Type 0 where
  pub sound : AreSound w
  pub known : IsOneOf w q
  pub few : length older < 2 ^ 64 - 2
  pub shows : Show w older rows
  pub parses : parsed packet ≡ Ok p

-- It goes on: the packets with it conform and show these rows; the two ends are kept after it among them, and so is
-- what is kept of each other requester; and the table stands for them.
pub record GoesOn (new : JudgedPair) (table : List Seen) (w : Configuration) (q : ReqSetup) (older : List (List ℕ)) (packet : List ℕ) (rows : List Row) : Type 0 where
  pub behind : List Row
  pub shows : Show w (packet ∷ older) behind
  pub stands : StandsFor new w q (packet ∷ older) behind
  pub others : (seen : JudgedPair) (other : ReqSetup) → other.eid ≢ q.eid → other.eid ≢ w.responder.eid
      → StandsFor seen w other older rows → StandsFor seen w other (packet ∷ older) behind
  pub entries : StandsForRows table w (length older + 1) behind

-- It does not conform after those before it, for this reason.
abbrev pub IsRefused : Configuration → List (List ℕ) → (packet : List ℕ) → Why → Type 0
IsRefused w older packet why = ((after : List Dialogue) → Leads w (packet ∷ older) after → ⊥) × IsReason w older packet why

-- ---- What is told of it.

-- It goes on; or it is refused, and then why.
abbrev pub IsTaken : Configuration → ReqSetup → List (List ℕ) → (packet : List ℕ) → List Row
    → Result Unit declared.Why → (new : JudgedPair) → (table : List Seen) → Type 0
IsTaken w q older packet rows (Ok u) new table = GoesOn new table w q older packet rows
IsTaken w q older packet rows (Err why) new table = IsRefused w older packet (why_of why)
