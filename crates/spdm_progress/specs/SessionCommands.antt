-- What is asked of an open session where its messages are delivered honestly: each command comes to its result. This
-- project's own.
use Rattle.std.specs.Prelude.{◌≡◌, ◌<◌, ◌≤◌, ◌+◌, ◌∷◌, ◌++◌, ℕ, List, [], length, Bool, true, false, Some, None, Contains}
use Rattle.measurements.specs.Records.{is_missing}
use Rattle.requester_machine.specs.Message.{Command}
use Rattle.requester_machine.specs.Message.Command.{Beat, Connect, End, Measure, Open, Retry, Send, Update}
use Rattle.requester_machine.specs.Requesting.{Requesting, requester_told}
use Rattle.requester_machine.specs.Commands.{session_in}
use Rattle.requester_machine.specs.Session.{Steps, is_live, session_id, session_of, session_terms}
use Rattle.requester_machine.specs.Setup.{ReqSetup}
use Rattle.responder_machine.specs.Responding.{Connection, Responding, connection_of}
use Rattle.requester_machine.specs.Shown.{last_data}
use Rattle.responder_machine.specs.Does.{first_queued}
use Rattle.responder_machine.specs.History as served
use Rattle.responder_machine.specs.History.Entry.{Queued, Sealed, Ticked}
use Rattle.responder_machine.specs.Turn.{Turn}
use Rattle.responder_machine.specs.Turn.Effect.{TookData}
use Rattle.spdm_machine.specs.Keys.{Draw}
use Rattle.responder_machine.specs.Session as serving
use Rattle.responder_machine.specs.Setup.{RspSetup, inventory_of}
use Rattle.spdm_agreement.specs.Configured.{IsConfigured}
use Rattle.spdm_grammar.specs.Lines.{Line}
use Rattle.spdm_grammar.specs.declared.told.event.Event.TheVariants as event
use Rattle.spdm_grammar.specs.declared.told.event.Finished.{Finished}
use Rattle.spdm_grammar.specs.declared.told.event.Finished.TheVariants as finished
use Rattle.spdm_machine.specs.Packets.{wear_limit}
use Rattle.world_machine.specs.Chance.{NoChance}
use Rattle.world_machine.specs.Happenings.{Entry}
use Rattle.world_machine.specs.Happenings.Happening.{Told}
use Rattle.world_machine.specs.Setup.{WorldSetup}
use Rattle.world_machine.specs.Trace.{lines_from, world_after, world_from}
use Rattle.world_machine.specs.World.{World, entry_step, requester_of}
use Rattle.spdm_progress.specs.Fitting.{CanGo}
use Rattle.spdm_progress.specs.Honest.{AreHonest, HaveNoCommand, NothingWaits}
use Rattle.spdm_progress.specs.InStep.{AreQuiet, rsp_id}
use Rattle.spdm_progress.specs.Measuring.{measurements_size, number_for}

-- The session with this ReqSessionID of a requester.
abbrev pub session_at : Requesting → ℕ → Steps
session_at a id = session_of id a.history

-- What a command asks of a session needs no more than that it is answered `ok`; but for measurements a block that the
-- operation, a byte, names has to be configured, and the answer has to be one that can go to the requester, in chunks
-- too.
abbrev pub CanAsk : Requesting → Connection → Command → Type 0
CanAsk a c (Send id bytes) = Unit {0}
CanAsk a c (Beat id) = Unit {0}
CanAsk a c (Update id all) = Unit {0}
CanAsk a c (Measure (Some id) op) =
    (op < 256) × (is_missing op (inventory_of c.setup) ≡ false)
    × CanGo (session_terms (session_at a id)).common
    (session_terms (session_at a id)).common.to_requester (measurements_size c.setup op)
CanAsk a c (End id) = Unit {0}
CanAsk a c (Measure None op) = ⊥
CanAsk a c Connect = ⊥
CanAsk a c (Open summary) = ⊥
CanAsk a c Retry = ⊥

-- What it comes to: application data was answered, the session is alive, its keys are updated, so many measurements
-- came, or the session is ended.
abbrev pub result_of : Requesting → Connection → Command → Finished
result_of a c (Send id bytes) = finished.Answered (session_id (session_at a id))
result_of a c (Beat id) = finished.Alive (session_id (session_at a id))
result_of a c (Update id all) = finished.Updated (session_id (session_at a id))
result_of a c (Measure id op) = finished.Measured (number_for c.setup op)
result_of a c (End id) = finished.Ended (session_id (session_at a id))
result_of a c Connect = finished.Connected
result_of a c (Open summary) = finished.Connected
result_of a c Retry = finished.Connected

-- The most that a command leads to: the requester takes it and 276 packets, the responder takes 198 packets, and there
-- are 414 packets in all.
abbrev pub most_asked : ℕ
most_asked = 277

abbrev pub most_served : ℕ
most_served = 198

abbrev pub most_packets : ℕ
most_packets = 414

-- Neither end is worn out before it is over.
pub record LivesToAnswer (a : Requesting) (r : Responding) : Type 0 where
  pub requester : length a.given + a.commands + most_asked ≤ wear_limit
  pub responder : length r.given + most_served ≤ wear_limit

-- Requester n, of a world that a set-up and any events lead to, is told a command where no packet waits. The responder
-- has this connection with it.
pub record IsTold (w : WorldSetup) (before : List Entry) (n : ℕ) (a : Requesting)
    (c : Connection) : Type 0 where
  pub configured : IsConfigured w
  pub idle : NothingWaits (world_after w before)
  pub is_requester : requester_of n (world_after w before) ≡ Some a
  pub is_connection : connection_of a.setup.eid (world_after w before).responder.connections
      ≡ Some c
  pub life : LivesToAnswer a (world_after w before).responder

-- The command is answered `ok` where the requester and the responder's connection with it are quiet.
pub record IsToldQuietly (w : WorldSetup) (before : List Entry) (n : ℕ) (a : Requesting)
    (c : Connection) (command : Command) : Type 0 where
  pub now : IsTold w before n a c
  pub quiet : AreQuiet a.setup c.setup a.first (world_after w before).log a.history c.history
  pub accepted : (requester_told a command).fault ≡ None

-- The session that a command names goes on after it, unless it is ended.
abbrev pub goes_on : Command → Bool
goes_on (End id) = false
goes_on _ = true

-- The command of requester n is done: it is told this result in these lines; it is quiet again with the responder's
-- connection; and this session goes on, open at both ends, or is ended.
pub record IsDoneQuietly (n : ℕ) (q : ReqSetup) (r : RspSetup) (result : Finished) (id : ℕ)
    (open_still : Bool) (world : World) (lines : List Line) : Type 0 where
  pub told : Contains lines (Line.ToRequester n (event.Done result))
  pub requester : Requesting
  pub is_requester : requester_of n world ≡ Some requester
  pub connection : Connection
  pub is_connection : connection_of q.eid world.responder.connections ≡ Some connection
  pub requester_setup : requester.setup ≡ q
  pub responder_setup : connection.setup ≡ r
  pub quiet : AreQuiet q r requester.first world.log requester.history connection.history
  pub session : is_live (session_at requester id) ≡ open_still

-- The world in which requester n was told a command.
abbrev pub commanding : World → (line n : ℕ) → Command → World
commanding world line n command =
    (entry_step world (record { line = line; happening = Told n command })).after

-- Whatever stands between this command and the next one of an honest script: once no packet waits any more, and nothing
-- agreed by chance until then, the command is done.
abbrev pub CompletesQuietly : WorldSetup → List Entry → (n : ℕ) → Requesting → Connection → Command
    → Finished → (id : ℕ) → (open_still : Bool) → Type 0
CompletesQuietly w before n a c command result id open_still =
    (line : ℕ) (behind : List Entry) → HaveNoCommand behind
    → AreHonest (commanding (world_after w before) line n command) behind
    → NothingWaits (world_from (commanding (world_after w before) line n command) behind)
    → NoChance (world_from (commanding (world_after w before) line n command) behind).log
    → IsDoneQuietly n a.setup c.setup result id open_still
    (world_from (commanding (world_after w before) line n command) behind)
    (lines_from (commanding (world_after w before) line n command) behind)

-- Each command that asks something of an open session comes to its result.
abbrev pub SessionCommandsComplete : Type 0
SessionCommandsComplete =
    (w : WorldSetup) (before : List Entry) (n : ℕ) (a : Requesting) (c : Connection)
    (command : Command) (id : ℕ) → IsToldQuietly w before n a c command → CanAsk a c command
    → session_in command ≡ Some id
    → CompletesQuietly w before n a c command (result_of a c command) id (goes_on command)

-- The responder's connection with this requester holds no session with this RspSessionID.
pub record IsGoneThere (q : ReqSetup) (rsp : ℕ) (world : World) : Type 0 where
  pub connection : Connection
  pub is_connection : connection_of q.eid world.responder.connections ≡ Some connection
  pub gone : serving.is_live (serving.session_of rsp connection.history) ≡ false

-- After an end of a session among them, the responder does not hold it either.
abbrev pub EndedAtBothEnds : Type 0
EndedAtBothEnds =
    (w : WorldSetup) (before : List Entry) (n : ℕ) (a : Requesting) (c : Connection) (id : ℕ)
    → IsToldQuietly w before n a c (End id)
    → (line : ℕ) (behind : List Entry) → HaveNoCommand behind
    → AreHonest (commanding (world_after w before) line n (End id)) behind
    → NothingWaits (world_from (commanding (world_after w before) line n (End id)) behind)
    → NoChance (world_from (commanding (world_after w before) line n (End id)) behind).log
    → IsGoneThere a.setup (rsp_id (session_at a id))
    (world_from (commanding (world_after w before) line n (End id)) behind)

-- Queued data and time alone.
abbrev pub OnlyWaits : List served.Entry → Type 0
OnlyWaits [] = Unit {0}
OnlyWaits (Queued bytes ∷ entries) = OnlyWaits entries
OnlyWaits (Ticked seconds ∷ entries) = OnlyWaits entries
OnlyWaits (_ ∷ entries) = ⊥

-- Nothing else came to a connection between these two histories.
abbrev pub OnlyWaited : (before now : served.History) → Type 0
OnlyWaited before now =
    (entries : List served.Entry) × (now ≡ entries ++ before) × OnlyWaits entries

-- One record came to the connection of a requester since, and beside it nothing but queued data and time. It brought
-- these bytes, and took what was first in the queue before it: the first data that waited, and empty where none did.
-- This is what requester n took last.
pub record TookQueued (n : ℕ) (q : ReqSetup) (c : Connection) (bytes : List ℕ)
    (world : World) : Type 0 where
  pub requester : Requesting
  pub is_requester : requester_of n world ≡ Some requester
  pub connection : Connection
  pub is_connection : connection_of q.eid world.responder.connections ≡ Some connection
  pub until : served.History
  pub between : OnlyWaited c.history until
  pub tag : ℕ
  pub sealed : List ℕ
  pub turn : Turn
  pub reply : List ℕ
  pub draw : Draw
  pub since : OnlyWaited (Sealed tag sealed turn reply draw ∷ until) connection.history
  pub brought : turn.effect ≡ TookData bytes (first_queued (served.queue_of until))
  pub taken : last_data requester.history ≡ first_queued (served.queue_of until)

-- So it is after a send among them.
abbrev pub AnswersAreQueued : Type 0
AnswersAreQueued =
    (w : WorldSetup) (before : List Entry) (n : ℕ) (a : Requesting) (c : Connection) (id : ℕ)
    (bytes : List ℕ) → IsToldQuietly w before n a c (Send id bytes)
    → (line : ℕ) (behind : List Entry) → HaveNoCommand behind
    → AreHonest (commanding (world_after w before) line n (Send id bytes)) behind
    → NothingWaits (world_from (commanding (world_after w before) line n (Send id bytes)) behind)
    → NoChance (world_from (commanding (world_after w before) line n (Send id bytes)) behind).log
    → TookQueued n a.setup c bytes
    (world_from (commanding (world_after w before) line n (Send id bytes)) behind)

-- Requester n took these data last.
pub record TookLast (n : ℕ) (bytes : List ℕ) (world : World) : Type 0 where
  pub requester : Requesting
  pub is_requester : requester_of n world ≡ Some requester
  pub taken : last_data requester.history ≡ bytes

-- Where data waited already when it was told, these are the first of them.
abbrev pub AnswersWaitFirst : Type 0
AnswersWaitFirst =
    (w : WorldSetup) (before : List Entry) (n : ℕ) (a : Requesting) (c : Connection) (id : ℕ)
    (bytes : List ℕ) → IsToldQuietly w before n a c (Send id bytes)
    → (first : List ℕ) (others : List (List ℕ)) → served.queue_of c.history ≡ first ∷ others
    → (line : ℕ) (behind : List Entry) → HaveNoCommand behind
    → AreHonest (commanding (world_after w before) line n (Send id bytes)) behind
    → NothingWaits (world_from (commanding (world_after w before) line n (Send id bytes)) behind)
    → NoChance (world_from (commanding (world_after w before) line n (Send id bytes)) behind).log
    → TookLast n first
    (world_from (commanding (world_after w before) line n (Send id bytes)) behind)
