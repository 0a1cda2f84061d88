-- Whole runs of a responder: what it sends to an endpoint is a function of what concerns that endpoint alone, its
-- packets with the draws that stood next, the data queued for it and time. This project's own.
use Rattle.std.specs.Prelude.{⊤, ◌≡◌, ◌≢◌, ◌≤◌, ◌==◌, ◌&&◌, ◌++◌, not, ℕ, List, [], ◌∷◌, length, if◌then◌else◌}
use Rattle.std.specs.List.{AllByRecursion}
use Rattle.std.specs.Option.{option_to_list}
use Rattle.mctp_framing.specs.Packet.{parsed}
use Rattle.responder_machine.specs.BoundLaws.{messages_of}
use Rattle.responder_machine.specs.Does.{IsMade}
use Rattle.responder_machine.specs.EndLaws.{AreAlike, source_of}
use Rattle.responder_machine.specs.Responding.{Connection, Responding, over_all, connection_of, new_responding, hears_packet, is_worn, next_draw, responder_hears, reply_fault_of, queues, ticks}
use Rattle.responder_machine.specs.Setup.{RspEnd, Known}
use Rattle.spdm_machine.specs.Keys.{Draw}
use Rattle.spdm_machine.specs.Packets.{wear_limit}

-- ---- A run.

-- What a responder is given: a packet, application data to be queued for an endpoint, seconds that pass.
pub data Given : Type 0 where
  Packet : (bytes : List ℕ) → Given
  Reply : (eid : ℕ) → (bytes : List ℕ) → Given
  Seconds : (seconds : ℕ) → Given

-- Application data are queued for an endpoint, unless they have a fault.
abbrev pub after_reply : ℕ → List ℕ → Responding → Responding
after_reply eid bytes r = queues (reply_fault_of (connection_of eid r.connections) bytes) r eid bytes

-- The responder after it was given something.
abbrev pub after_given : Given → Responding → Responding
after_given (Packet bytes) r = (responder_hears r bytes).after
after_given (Reply eid bytes) r = after_reply eid bytes r
after_given (Seconds seconds) r = ticks r seconds

-- The responder after all that it was given, the newest first.
abbrev pub run_of : RspEnd → List Given → Responding
run_of e [] = new_responding e
run_of e (g ∷ older) = after_given g (run_of e older)

-- The packets that answer a packet from this endpoint: they go back to it.
abbrev pub answer_to : (eid : ℕ) → Given → Responding → List (List ℕ)
answer_to eid (Packet bytes) r = if source_of bytes == eid then (responder_hears r bytes).sent else []
answer_to eid (Reply other bytes) r = []
answer_to eid (Seconds seconds) r = []

-- All packets that were sent to an endpoint, in order.
abbrev pub sent_to : RspEnd → (eid : ℕ) → List Given → List (List ℕ)
sent_to e eid [] = []
sent_to e eid (g ∷ older) = sent_to e eid older ++ answer_to eid g (run_of e older)

-- ---- What of it concerns one end point.

-- A packet from it, with the draw that stood next; data queued for it; seconds that pass.
pub data Own : Type 0 where
  Came : (packet : List ℕ) → (draw : Draw) → Own
  Waits : (bytes : List ℕ) → Own
  Passed : (seconds : ℕ) → Own

-- What concerns it of something given. To a worn responder no packet comes.
abbrev pub concerns : (eid : ℕ) → Given → Responding → List Own
concerns eid (Packet bytes) r = if source_of bytes == eid && not (is_worn r) then Came bytes (next_draw r) ∷ [] else []
concerns eid (Reply other bytes) r = if other == eid then Waits bytes ∷ [] else []
concerns eid (Seconds seconds) r = Passed seconds ∷ []

-- What concerns it of a run, the newest first.
abbrev pub own_of : RspEnd → (eid : ℕ) → List Given → List Own
own_of e eid [] = []
own_of e eid (g ∷ older) = concerns eid g (run_of e older) ++ own_of e eid older

-- ---- A responder that knows this end point alone, and is handed the draws.

-- Its one connection is that of the whole responder, if there is one.
abbrev pub alone_at_first : RspEnd → (eid : ℕ) → Responding
alone_at_first e eid = record { part = e.part; seed = []; first = 0; given = []; taken = []; connections = option_to_list (connection_of eid (new_responding e).connections) }

abbrev pub after_own : (eid : ℕ) → Own → Responding → Responding
after_own eid (Came packet d) r = (hears_packet r d packet (parsed packet)).after
after_own eid (Waits bytes) r = after_reply eid bytes r
after_own eid (Passed seconds) r = ticks r seconds

-- It after what concerns the endpoint, the newest first.
abbrev pub alone : RspEnd → (eid : ℕ) → List Own → Responding
alone e eid [] = alone_at_first e eid
alone e eid (x ∷ older) = after_own eid x (alone e eid older)

abbrev pub own_answer : Own → Responding → List (List ℕ)
own_answer (Came packet d) r = (hears_packet r d packet (parsed packet)).sent
own_answer (Waits bytes) r = []
own_answer (Passed seconds) r = []

-- What it sends, in order: a function of what concerns the endpoint, and of nothing else.
abbrev pub alone_sends : RspEnd → (eid : ℕ) → List Own → List (List ℕ)
alone_sends e eid [] = []
alone_sends e eid (x ∷ older) = alone_sends e eid older ++ own_answer x (alone e eid older)

-- ---- The laws.

-- What a whole responder sends to an endpoint, and what it is towards it, is that of the responder that knows it alone.
abbrev pub ConnectionsAreIndependent : Type 0
ConnectionsAreIndependent = (e : RspEnd) (eid : ℕ) (given : List Given)
    → (sent_to e eid given ≡ alone_sends e eid (own_of e eid given)) × AreAlike eid (run_of e given) (alone e eid (own_of e eid given))

-- Data queued for an endpoint, and seconds, leave two responders alike towards it that were alike; data queued for
-- another one change nothing of what a responder is towards it.
abbrev pub GivenStandsAlike : Type 0
GivenStandsAlike = (eid : ℕ) (r s : Responding)
    → (AreAlike eid r s → (bytes : List ℕ) → AreAlike eid (after_reply eid bytes r) (after_reply eid bytes s))
    × (AreAlike eid r s → (seconds : ℕ) → AreAlike eid (ticks r seconds) (ticks s seconds))
    × ((other : ℕ) (bytes : List ℕ) → other ≢ eid → AreAlike eid (after_reply other bytes r) r)

-- ---- What every run keeps.

-- No two requesters that a responder knows have one endpoint.
abbrev pub AreKnownApart : List Known → Type 0
AreKnownApart [] = ⊤
AreKnownApart (q ∷ others) = AllByRecursion (λ (other : Known). other.eid ≢ q.eid) others × AreKnownApart others

-- Each history is one that the responder made; in all of them there are at most as many messages as it took packets,
-- and of those it takes no more than its limit; its set-up stays.
pub record IsRun (e : RspEnd) (r : Responding) : Type 0 where
  pub part : r.part ≡ e.part
  pub seed : r.seed ≡ e.seed
  pub first : r.first ≡ e.first
  pub made : AllByRecursion (λ (c : Connection). IsMade c.setup c.history) r.connections
  pub messages : over_all messages_of r.connections ≤ length r.given
  pub limit : length r.given ≤ wear_limit

-- So it is after every run.
abbrev pub RunsAreBounded : Type 0
RunsAreBounded = (e : RspEnd) (given : List Given) → AreKnownApart e.known → IsRun e (run_of e given)
