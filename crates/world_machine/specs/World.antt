-- A responder, its requesters and the packets between them; and what one event of a script does: the lines that it
-- writes, and the world after it. This project's own.
use Rattle.std.specs.Prelude.{◌+◌, ◌==◌, nat_lt, ℕ, zero, suc, List, [], ◌∷◌, ◌++◌, length, map, find, slice_index, if◌then◌else◌, Bool, true, false, Option, Some, None}
use Rattle.requester_machine.specs.Message.{Command}
use Rattle.requester_machine.specs.Shown as requester_shown
use Rattle.requester_machine.specs.History as requester_history
use Rattle.spdm_basis.specs.declared.values.session_id.SessionId.{SessionId}
use Rattle.spdm_grammar.specs.declared.told.event.Event.{Event}
use Rattle.spdm_grammar.specs.declared.told.event.Event.TheVariants as event
use Rattle.spdm_grammar.specs.declared.told.event.Finished.{Finished}
use Rattle.spdm_grammar.specs.declared.told.event.Finished.TheVariants as finished
use Rattle.spdm_grammar.specs.declared.told.session_view.SessionView.{SessionView}
use Rattle.responder_machine.specs.Heard.{views_of, no_id}
use Rattle.responder_machine.specs.History.{clear_turns, phase_of}
use Rattle.spdm_machine.specs.TagLog.{Log}
use Rattle.world_machine.specs.Happenings.{Happening, Entry}
use Rattle.world_machine.specs.Happenings.Happening.{Told, Reply, Deliver, Lose, Inject, Pump, Tick, Show}
use Rattle.spdm_grammar.specs.Lines.{Line, Whose}
use Rattle.requester_machine.specs.Requesting.{Requesting, CommandStep, PacketStep, new_requesting, requester_told, requester_given}
use Rattle.responder_machine.specs.Responding.{Responding, Connection, RspStep, new_responding, connection_of, responder_hears, reply_fault_of, queues, ticks}
use Rattle.world_machine.specs.Setup.{WorldSetup}

-- A packet that was sent, and whether it waits to be given to its end. Its number is its place among all packets sent,
-- counted from 1.
pub record SentPacket : Type 0 where
  pub bytes : List ℕ
  pub waits : Bool

-- The requesters in order, the responder, the packets sent, in order, and the tags that all ends computed and compared,
-- the newest first.
pub record World : Type 0 where
  pub requesters : List Requesting
  pub responder : Responding
  pub sent : List SentPacket
  pub log : Log

-- Nothing has happened yet.
abbrev pub new_world : WorldSetup → World
new_world w = record { requesters = map new_requesting w.requesters; responder = new_responding w.responder; sent = []; log = [] }

-- The lines that something writes, and the world after it.
pub record WorldStep : Type 0 where
  pub lines : List Line
  pub after : World

-- Nothing happens.
abbrev pub rests : World → WorldStep
rests world = record { lines = []; after = world }

-- One step after another.
abbrev pub behind : WorldStep → (World → WorldStep) → WorldStep
behind first second = record { lines = first.lines ++ (second first.after).lines; after = (second first.after).after }

-- ---- Packets sent.

-- They wait.
abbrev pub waiting : List ℕ → SentPacket
waiting bytes = record { bytes = bytes; waits = true }

-- The packets sent, with new ones after them that wait.
abbrev pub with_sent : List SentPacket → List (List ℕ) → List SentPacket
with_sent sent packets = sent ++ map waiting packets

-- Their lines, after so many that were sent before.
abbrev pub packet_lines : ℕ → List (List ℕ) → List Line
packet_lines count [] = []
packet_lines count (bytes ∷ others) = Line.Packet (count + 1) bytes ∷ packet_lines (count + 1) others

-- ---- Requesters.

-- The requester at a place, counted from 0, if there is one.
abbrev pub requester_at : ℕ → List Requesting → Option Requesting
requester_at place [] = None
requester_at zero (a ∷ others) = Some a
requester_at (suc place) (a ∷ others) = requester_at place others

-- The requester of this number, counted from 1, if there is one.
abbrev pub requester_of : ℕ → World → Option Requesting
requester_of zero world = None
requester_of (suc place) world = requester_at place world.requesters

-- The number of the requester with this endpoint, where the first of these has number n; 0 where none has it.
abbrev pub number_from : ℕ → ℕ → List Requesting → ℕ
number_from n eid [] = 0
number_from n eid (a ∷ others) = if a.setup.eid == eid then n else number_from (n + 1) eid others

-- The number of the requester with this endpoint, and 0 where there is none.
abbrev pub number_at : ℕ → World → ℕ
number_at eid world = number_from 1 eid world.requesters

-- The new requester in place of the old one, where they have one endpoint.
abbrev pub replaced : Requesting → Requesting → Requesting
replaced new old = if old.setup.eid == new.setup.eid then new else old

-- The requesters with the new one in place of the one with its endpoint.
abbrev pub with_requester : Requesting → List Requesting → List Requesting
with_requester new requesters = map (replaced new) requesters

-- Requester n was told a command.
abbrev pub told_by : World → ℕ → CommandStep → WorldStep
told_by world n step = record {
  lines = Line.Command n step.fault ∷ packet_lines (length world.sent) step.sent;
  after = record { requesters = with_requester step.after world.requesters; responder = world.responder; sent = with_sent world.sent step.sent; log = step.acts ++ world.log };
}

-- A command for a requester that is not set up does nothing.
abbrev pub told : World → ℕ → Command → Option Requesting → WorldStep
told world n command None = rests world
told world n command (Some a) = told_by world n (requester_told a command)

-- ---- A packet is given to a requester.

-- The session whose application data was answered; none for any other command that is done.
abbrev pub id_in_finished : Finished → SessionId
id_in_finished (finished.Answered id) = id
id_in_finished _ = no_id

-- The session of an event: that of a command that is done, else none.
abbrev pub id_in_event : Event → SessionId
id_in_event (event.Done what) = id_in_finished what
id_in_event _ = no_id

-- The line of application data that was just taken, if any was.
abbrev pub data_lines : Whose → SessionId → Option (List ℕ) → List Line
data_lines who id None = []
data_lines who id (Some bytes) = Line.Data who id bytes ∷ []

-- The line of a measurement record that requester n just took, if it took one.
abbrev pub record_lines : ℕ → Option (List ℕ) → List Line
record_lines n None = []
record_lines n (Some bytes) = Line.Record n bytes ∷ []

-- What comes of it: lines of what is told, of data, of measurements and of the packets sent; and the requester as it is
-- after it.
abbrev pub given_to_requester : World → ℕ → PacketStep → WorldStep
given_to_requester world n step = record {
  lines = Line.ToRequester n step.event
      ∷ data_lines (Whose.Requester n) (id_in_event step.event) step.taken
      ++ record_lines n step.measured
      ++ packet_lines (length world.sent) step.sent;
  after = record { requesters = with_requester step.after world.requesters; responder = world.responder; sent = with_sent world.sent step.sent; log = step.acts ++ world.log };
}

-- ---- A packet is given to the responder.

-- The requester with an endpoint.
abbrev pub is_at : ℕ → Requesting → Bool
is_at eid a = a.setup.eid == eid

-- The line of application data that the responder just took from requester n, if it took any.
abbrev pub taken_lines : ℕ → Option (SessionId × List ℕ) → List Line
taken_lines n None = []
taken_lines n (Some taken) = Line.Data (Whose.Responder n) taken.0 taken.1 ∷ []

-- Byte 2 of the packet names the requester.
abbrev pub given_to_responder : World → List ℕ → RspStep → WorldStep
given_to_responder world packet step = record {
  lines = Line.ToResponder step.heard
      ∷ taken_lines (number_at (slice_index packet 2) world) step.taken
      ++ packet_lines (length world.sent) step.sent;
  after = record { requesters = world.requesters; responder = step.after; sent = with_sent world.sent step.sent; log = step.acts ++ world.log };
}

-- ---- A packet is given to the end that its byte 1 names; one of fewer than two bytes, and one for no end, to
-- nobody.

-- A packet is given to a requester, or to nobody where there is none.
abbrev pub given_to : World → List ℕ → Option Requesting → WorldStep
given_to world packet None = record { lines = Line.ToNobody ∷ []; after = world }
given_to world packet (Some a) = given_to_requester world (number_at a.setup.eid world) (requester_given a packet)

-- A packet is given by its byte 1: to the responder, to a requester, or to nobody.
abbrev pub given : World → List ℕ → WorldStep
given world packet =
    if nat_lt (length packet) 2 then given_to world packet None
    else (if slice_index packet 1 == world.responder.part.eid then given_to_responder world packet (responder_hears world.responder packet)
    else given_to world packet (find (is_at (slice_index packet 1)) world.requesters))

-- ---- Packets by number.

-- The packet at a place, counted from 0, if one was sent there.
abbrev pub packet_at : ℕ → List SentPacket → Option (List ℕ)
packet_at place [] = None
packet_at zero (packet ∷ others) = Some packet.bytes
packet_at (suc place) (packet ∷ others) = packet_at place others

-- Packet number 0 was never sent.
abbrev pub packet_of : ℕ → List SentPacket → Option (List ℕ)
packet_of zero sent = None
packet_of (suc place) sent = packet_at place sent

-- The packet at a place waits no longer.
abbrev pub stopped_at : ℕ → List SentPacket → List SentPacket
stopped_at place [] = []
stopped_at zero (packet ∷ others) = record packet { waits = false } ∷ others
stopped_at (suc place) (packet ∷ others) = packet ∷ stopped_at place others

-- The packet of a number waits no longer. There is none of number 0.
abbrev pub stopped_of : ℕ → List SentPacket → List SentPacket
stopped_of zero sent = sent
stopped_of (suc place) sent = stopped_at place sent

-- The world in which the packet of this number waits no longer.
abbrev pub without_waiting : ℕ → World → World
without_waiting number world = record world { sent = stopped_of number world.sent }

-- A packet is given by its number, also one that no longer waits. From then on it waits no longer.
abbrev pub delivers : World → ℕ → Option (List ℕ) → WorldStep
delivers world number None = record { lines = Line.NoPacket number ∷ []; after = world }
delivers world number (Some packet) = given (without_waiting number world) packet

-- A packet is lost by its number: it waits no longer. A line is written only where there is none of the number.
abbrev pub loses : World → ℕ → Option (List ℕ) → WorldStep
loses world number None = record { lines = Line.NoPacket number ∷ []; after = world }
loses world number (Some packet) = rests (without_waiting number world)

-- The number after this one, if there is one.
abbrev pub next_number : Option ℕ → Option ℕ
next_number None = None
next_number (Some number) = Some (number + 1)

-- The least number of a waiting packet, if one waits.
abbrev pub first_waiting : List SentPacket → Option ℕ
first_waiting [] = None
first_waiting (packet ∷ others) = if packet.waits then Some 1 else next_number (first_waiting others)

-- A turn: where a packet waits it is given, and what follows goes on from there.
abbrev pub turn : World → (World → WorldStep) → Option ℕ → WorldStep
turn world next None = rests world
turn world next (Some number) = behind (delivers world number (packet_of number world.sent)) next

-- The waiting packet of least number is given, so often at most.
unfoldable pub pumps : ℕ → World → WorldStep
pumps zero world = rests world
pumps (suc count) world = turn world (pumps count) (first_waiting world.sent)

-- ---- Queued data.

-- Application data is queued for an endpoint, or its fault stands in the line.
abbrev pub replied_by : World → ℕ → List ℕ → Option Connection → WorldStep
replied_by world eid bytes connection = record {
  lines = Line.Reply (reply_fault_of connection bytes) ∷ [];
  after = record world { responder = queues (reply_fault_of connection bytes) world.responder eid bytes };
}

-- Application data is queued for a requester; for one that is not set up nothing happens.
abbrev pub replied : World → List ℕ → Option Requesting → WorldStep
replied world bytes None = rests world
replied world bytes (Some a) = replied_by world a.setup.eid bytes (connection_of a.setup.eid world.responder.connections)

-- ---- The ends as they are shown: by requester, its phase and sessions, and those of the responder towards it.

-- A line for each session.
abbrev pub session_lines : Whose → List SessionView → List Line
session_lines who [] = []
session_lines who (view ∷ others) = Line.Session who view ∷ session_lines who others

-- The responder towards requester n: its phase, and then its sessions.
abbrev pub connection_lines : ℕ → Option Connection → List Line
connection_lines n None = []
connection_lines n (Some c) = Line.State (Whose.Responder n) (phase_of (clear_turns c.history)) ∷ session_lines (Whose.Responder n) (views_of c.history)

-- The phase and sessions of requester n, and then those of the responder towards it.
abbrev pub end_lines : Responding → ℕ → Requesting → List Line
end_lines r n a =
    Line.State (Whose.Requester n) (requester_history.phase_of a.history)
    ∷ session_lines (Whose.Requester n) (requester_shown.views_of a.history)
    ++ connection_lines n (connection_of a.setup.eid r.connections)

-- The lines of all requesters, in order, of which the first has number n.
abbrev pub all_end_lines : Responding → ℕ → List Requesting → List Line
all_end_lines r n [] = []
all_end_lines r n (a ∷ others) = end_lines r n a ++ all_end_lines r (n + 1) others

-- The lines by which a world is shown: those of all its ends.
abbrev pub shown_lines : World → List Line
shown_lines world = all_end_lines world.responder 1 world.requesters

-- ---- One event.

-- What each event of a script writes, and the world that it leaves.
unfoldable pub happens : World → Happening → WorldStep
happens world (Told n command) = told world n command (requester_of n world)
happens world (Reply n bytes) = replied world bytes (requester_of n world)
happens world (Deliver number) = delivers world number (packet_of number world.sent)
happens world (Lose number) = loses world number (packet_of number world.sent)
happens world (Inject bytes) = given world bytes
happens world (Pump count) = pumps count world
happens world (Tick seconds) = rests (record world { responder = ticks world.responder seconds })
happens world Show = record { lines = shown_lines world; after = world }

-- An event with its line in front.
abbrev pub entry_step : World → Entry → WorldStep
entry_step world entry = record { lines = Line.At entry.line ∷ (happens world entry.happening).lines; after = (happens world entry.happening).after }
