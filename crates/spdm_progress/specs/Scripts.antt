-- Each command of an honest script comes to its result. This project's own.
use Rattle.std.specs.Prelude.{◌≡◌, ◌<◌, ◌≤◌, ◌+◌, ◌*◌, ◌^◌, ℕ, List, [], ◌∷◌, length, if◌then◌else◌, false, true, Option, Some, None, Contains, Bool}
use Rattle.measurements.specs.Records.{is_missing}
use Rattle.negotiate.specs.Capabilities.{shared}
use Rattle.requester_machine.specs.History as asked
use Rattle.requester_machine.specs.Message.{Command}
use Rattle.requester_machine.specs.Message.Command.{Beat, Connect, End, Measure, Open, Retry, Send, Update}
use Rattle.requester_machine.specs.Requesting.{Requesting, requester_told}
use Rattle.requester_machine.specs.Session.{is_live}
use Rattle.requester_machine.specs.Setup.{ReqSetup, requester_caps}
use Rattle.responder_machine.specs.Responding.{Connection, connection_of}
use Rattle.responder_machine.specs.Setup.{RspSetup, inventory_of, responder_caps}
use Rattle.spdm_agreement.specs.Configured.{IsConfigured, IsRequester, IsResponder}
use Rattle.spdm_grammar.specs.Lines.{Line}
use Rattle.spdm_grammar.specs.declared.messages.choice.Choice.{Choice}
use Rattle.spdm_grammar.specs.declared.told.event.Event.TheVariants as event
use Rattle.spdm_grammar.specs.declared.told.event.Finished.{Finished}
use Rattle.spdm_grammar.specs.declared.told.event.Finished.TheVariants as finished
use Rattle.spdm_machine.specs.Packets.{wear_limit}
use Rattle.world_machine.specs.Chance.{NoChance}
use Rattle.world_machine.specs.Happenings.{Entry, Happening}
use Rattle.world_machine.specs.Happenings.Happening.{Pump, Told}
use Rattle.world_machine.specs.Setup.{WorldSetup}
use Rattle.world_machine.specs.Trace.{lines_from, world_after, world_from}
use Rattle.world_machine.specs.World.{World, entry_step, happens, new_world, requester_of}
use Rattle.spdm_progress.specs.Connecting.{CanConnect, IsConnected}
use Rattle.spdm_progress.specs.Fitting.{CanGo}
use Rattle.spdm_progress.specs.Honest.{AreHonest, HaveNoCommand, NothingWaits, is_command}
use Rattle.spdm_progress.specs.InStep.{AreQuiet, rsp_id}
use Rattle.spdm_progress.specs.Measuring.{CanMeasure, IsMeasured, measurements_size}
use Rattle.spdm_progress.specs.Opening.{CanOpen, opened_id, terms_now}
use Rattle.spdm_progress.specs.SessionCommands.{CanAsk, CompletesQuietly, IsGoneThere, IsTold, IsToldQuietly, TookQueued, commanding, most_packets, result_of, session_at}

-- No request of requester n is outstanding.
abbrev pub HasNone : ℕ → World → Type 0
HasNone n world =
    (a : Requesting) → requester_of n world ≡ Some a → asked.outstanding a.history ≡ None

-- ---- Each command.

-- Whatever came before, a connect leaves two quiet ends, and no session at the requester; and both hold one
-- negotiation, with the choice of the responder and the common capabilities of the two set-ups.
abbrev pub ConnectsQuietly : Type 0
ConnectsQuietly =
    (w : WorldSetup) (before : List Entry) (n : ℕ) (a : Requesting) (c : Connection)
    → IsTold w before n a c → (can : CanConnect a c)
    → ((id : ℕ) → CompletesQuietly w before n a c Connect finished.Connected id false)
    × ((line : ℕ) (behind : List Entry) → HaveNoCommand behind
    → AreHonest (commanding (world_after w before) line n Connect) behind
    → NothingWaits (world_from (commanding (world_after w before) line n Connect) behind)
    → NoChance (world_from (commanding (world_after w before) line n Connect) behind).log
    → IsConnected n a.setup c.setup can.choice
    (world_from (commanding (world_after w before) line n Connect) behind)
    (lines_from (commanding (world_after w before) line n Connect) behind))

-- What a command needs beside that it is answered `ok`, so that none of its messages is refused: what a connect and an
-- open need; of measurements that a block which the operation, a byte, names is configured, and that the answer can go
-- to the requester, in chunks too.
abbrev pub CanDo : Requesting → Connection → Command → Type 0
CanDo a c Connect = CanConnect a c
CanDo a c (Open summary) = CanOpen a c summary
CanDo a c (Send id bytes) = CanAsk a c (Send id bytes)
CanDo a c (Beat id) = CanAsk a c (Beat id)
CanDo a c (Update id all) = CanAsk a c (Update id all)
CanDo a c (Measure None op) = (op < 256) × (is_missing op (inventory_of c.setup) ≡ false)
    × CanGo (terms_now a).common (terms_now a).common.to_requester (measurements_size c.setup op)
CanDo a c (Measure (Some id) op) = CanAsk a c (Measure (Some id) op)
CanDo a c (End id) = CanAsk a c (End id)
CanDo a c Retry = Unit {0}

-- Right after a connect that chose measurements, a clear measure needs no more than that a block which it names is
-- configured, and that the answer can go to the requester by what the two set-ups have in common. Where the answer fits
-- the transfer size with which the requester is set up, it needs no chunks.
abbrev pub ConnectedCanMeasure : Type 0
ConnectedCanMeasure =
    (q : ReqSetup) (r : RspSetup) → IsRequester q → IsResponder r
    → (n : ℕ) (choice : Choice) (world : World) (lines : List Line)
    → (is : IsConnected n q r choice world lines) → choice.measure ≡ true
    → (op : ℕ) → op < 256 → is_missing op (inventory_of r) ≡ false
    → (CanGo (shared (requester_caps q) (responder_caps r))
    (shared (requester_caps q) (responder_caps r)).to_requester (measurements_size r op)
    → CanDo is.requester is.connection (Measure None op))
    × (measurements_size r op ≤ q.transfer → CanMeasure is.requester is.connection op)

-- What it comes to.
abbrev pub result_for : Requesting → Connection → Command → Finished
result_for a c Connect = finished.Connected
result_for a c (Open summary) = finished.Opened (opened_id a c)
result_for a c (Send id bytes) = result_of a c (Send id bytes)
result_for a c (Beat id) = result_of a c (Beat id)
result_for a c (Update id all) = result_of a c (Update id all)
result_for a c (Measure id op) = result_of a c (Measure id op)
result_for a c (End id) = result_of a c (End id)
result_for a c Retry = finished.Connected

-- The command of requester n is done: it is told this result in these lines, and is quiet again with the responder's
-- connection.
pub record IsDone (n : ℕ) (q : ReqSetup) (r : RspSetup) (result : Finished) (world : World)
    (lines : List Line) : Type 0 where
  pub told : Contains lines (Line.ToRequester n (event.Done result))
  pub requester : Requesting
  pub is_requester : requester_of n world ≡ Some requester
  pub connection : Connection
  pub is_connection : connection_of q.eid world.responder.connections ≡ Some connection
  pub requester_setup : requester.setup ≡ q
  pub responder_setup : connection.setup ≡ r
  pub quiet : AreQuiet q r requester.first world.log requester.history connection.history

-- Requester n holds a session with this ReqSessionID, or holds none.
pub record Holds (n id : ℕ) (live : Bool) (world : World) : Type 0 where
  pub requester : Requesting
  pub is_requester : requester_of n world ≡ Some requester
  pub session : is_live (session_at requester id) ≡ live

-- What a result means, beside that the two ends are quiet, so that each session of the requester is open at both ends
-- and in step. After a connect both hold one negotiation; after an open the requester holds the session, as it does
-- after a heartbeat and an update; a send brought its bytes and took what was first in the queue; the record that was
-- taken is the one configured; and a session that was ended is held by neither end.
abbrev pub Means : (n : ℕ) → Requesting → Connection → Command → World → List Line → Type 0
Means n a c Connect world lines =
    (choice : Choice) × IsConnected n a.setup c.setup choice world lines
Means n a c (Open summary) world lines = Holds n (opened_id a c).req true world
Means n a c (Send id bytes) world lines =
    Holds n id true world × TookQueued n a.setup c bytes world
Means n a c (Beat id) world lines = Holds n id true world
Means n a c (Update id all) world lines = Holds n id true world
Means n a c (Measure None op) world lines = IsMeasured n c.setup op world lines
Means n a c (Measure (Some id) op) world lines =
    Holds n id true world × IsMeasured n c.setup op world lines
Means n a c (End id) world lines =
    Holds n id false world × IsGoneThere a.setup (rsp_id (session_at a id)) world
Means n a c Retry world lines = Unit {0}

-- Each command that quiet ends answer `ok` comes to its result, with what it means. No retry is among them, since
-- nothing is outstanding.
abbrev pub QuietCommandsComplete : Type 0
QuietCommandsComplete =
    (w : WorldSetup) (before : List Entry) (n : ℕ) (a : Requesting) (c : Connection)
    (command : Command) → IsToldQuietly w before n a c command → CanDo a c command
    → (line : ℕ) (behind : List Entry) → HaveNoCommand behind
    → AreHonest (commanding (world_after w before) line n command) behind
    → NothingWaits (world_from (commanding (world_after w before) line n command) behind)
    → NoChance (world_from (commanding (world_after w before) line n command) behind).log
    → IsDone n a.setup c.setup (result_for a c command)
    (world_from (commanding (world_after w before) line n command) behind)
    (lines_from (commanding (world_after w before) line n command) behind)
    × Means n a c command (world_from (commanding (world_after w before) line n command) behind)
    (lines_from (commanding (world_after w before) line n command) behind)

-- After a measure among them, in the clear or in a session, in chunks too, the record that the requester took last is
-- the one that the responder is set up with.
abbrev pub QuietMeasuresComplete : Type 0
QuietMeasuresComplete =
    (w : WorldSetup) (before : List Entry) (n : ℕ) (a : Requesting) (c : Connection)
    (id : Option ℕ) (op : ℕ)
    → IsToldQuietly w before n a c (Measure id op) → CanDo a c (Measure id op)
    → (line : ℕ) (behind : List Entry) → HaveNoCommand behind
    → AreHonest (commanding (world_after w before) line n (Measure id op)) behind
    → NothingWaits (world_from (commanding (world_after w before) line n (Measure id op)) behind)
    → NoChance (world_from (commanding (world_after w before) line n (Measure id op)) behind).log
    → IsMeasured n c.setup op
    (world_from (commanding (world_after w before) line n (Measure id op)) behind)
    (lines_from (commanding (world_after w before) line n (Measure id op)) behind)

-- A pump of so many packets or more after such a command leaves none that waits, so an honest script can always go on.
abbrev pub PumpsAreEnough : Type 0
PumpsAreEnough =
    (w : WorldSetup) (before : List Entry) (n : ℕ) (a : Requesting) (c : Connection)
    (command : Command) → IsToldQuietly w before n a c command → CanDo a c command
    → (line count : ℕ) → most_packets ≤ count
    → NoChance (happens (commanding (world_after w before) line n command) (Pump count)).after.log
    → NothingWaits (happens (commanding (world_after w before) line n command) (Pump count)).after

-- Its result comes with the last packet: where no request of the requester is outstanding any more, no packet waits.
abbrev pub ResultsComeLast : Type 0
ResultsComeLast =
    (w : WorldSetup) (before : List Entry) (n : ℕ) (a : Requesting) (c : Connection)
    (command : Command) → IsToldQuietly w before n a c command → CanDo a c command
    → (line : ℕ) (behind : List Entry) → HaveNoCommand behind
    → AreHonest (commanding (world_after w before) line n command) behind
    → HasNone n (world_from (commanding (world_after w before) line n command) behind)
    → NoChance (world_from (commanding (world_after w before) line n command) behind).log
    → NothingWaits (world_from (commanding (world_after w before) line n command) behind)

-- ---- Whole scripts.

-- A world is quiet: no packet waits, and each requester is quiet with the responder's connection with it.
pub record IsQuietWorld (world : World) : Type 0 where
  pub idle : NothingWaits world
  pub quiet : (n : ℕ) (a : Requesting) (c : Connection) → requester_of n world ≡ Some a
      → connection_of a.setup.eid world.responder.connections ≡ Some c
      → AreQuiet a.setup c.setup a.first world.log a.history c.history

-- The entries up to the next command.
abbrev pub up_to_command : List Entry → List Entry
up_to_command [] = []
up_to_command (entry ∷ entries) =
    if is_command entry.happening then [] else entry ∷ up_to_command entries

-- What holds of each command in the world in which it stands, with what follows it.
abbrev pub OfEachCommand : (World → (line n : ℕ) → Command → (behind : List Entry) → Type 0) → World
    → List Entry → Type 0
OfEachCommand Holds world [] = Unit {0}
OfEachCommand Holds world (entry ∷ entries) =
    OfCommand Holds world entry.line entry.happening entries
    × OfEachCommand Holds (entry_step world entry).after entries
  where
    OfCommand : (World → (line n : ℕ) → Command → (behind : List Entry) → Type 0)
        → World → (line : ℕ) → Happening → List Entry → Type 0
    OfCommand Holds world line (Told n command) entries =
        Holds world line n command (up_to_command entries)
    OfCommand Holds world line _ entries = Unit {0}

-- A command that is answered `ok` has what it needs.
abbrev pub CanBeDone : World → (line n : ℕ) → Command → List Entry → Type 0
CanBeDone world line n command behind =
    (a : Requesting) (c : Connection) → requester_of n world ≡ Some a
    → connection_of a.setup.eid world.responder.connections ≡ Some c
    → (requester_told a command).fault ≡ None
    → CanDo a c command

-- A command that is answered `ok` is done before the next one, with what it means.
abbrev pub WillBeDone : World → (line n : ℕ) → Command → List Entry → Type 0
WillBeDone world line n command behind =
    (a : Requesting) (c : Connection) → requester_of n world ≡ Some a
    → connection_of a.setup.eid world.responder.connections ≡ Some c
    → (requester_told a command).fault ≡ None
    → IsDone n a.setup c.setup (result_for a c command)
    (world_from (commanding world line n command) behind)
    (lines_from (commanding world line n command) behind)
    × Means n a c command (world_from (commanding world line n command) behind)
    (lines_from (commanding world line n command) behind)

-- Each end has taken so many packets and commands at most. It takes 2^40.
pub record HaveTaken (most : ℕ) (world : World) : Type 0 where
  pub requesters : (n : ℕ) (a : Requesting) → requester_of n world ≡ Some a
      → length a.given + a.commands ≤ most
  pub responder : length world.responder.given ≤ most

-- From any quiet world on, whatever led to it: where nothing agrees by chance, each command that is answered `ok` has
-- what it needs, no packet waits at the end, and neither end can be worn out by then, each of these commands is done
-- before the next one, and the world is quiet.
abbrev pub QuietWorldsComplete : Type 0
QuietWorldsComplete =
    (w : WorldSetup) → IsConfigured w → (before : List Entry) → IsQuietWorld (world_after w before)
    → (most : ℕ) → HaveTaken most (world_after w before)
    → (entries : List Entry) → most + 199 * length entries ≤ wear_limit
    → AreHonest (world_after w before) entries
    → NothingWaits (world_from (world_after w before) entries)
    → NoChance (world_from (world_after w before) entries).log
    → OfEachCommand CanBeDone (world_after w before) entries
    → OfEachCommand WillBeDone (world_after w before) entries
    × IsQuietWorld (world_from (world_after w before) entries)

-- So it is with each honest script of at most 2^32 events, since a new world is quiet.
abbrev pub HonestScriptsComplete : Type 0
HonestScriptsComplete =
    (w : WorldSetup) → IsConfigured w → (entries : List Entry) → length entries ≤ 2 ^ 32
    → AreHonest (new_world w) entries → NothingWaits (world_after w entries)
    → NoChance (world_after w entries).log
    → OfEachCommand CanBeDone (new_world w) entries → OfEachCommand WillBeDone (new_world w) entries
    × IsQuietWorld (world_after w entries)

-- ---- Scripts that are honest by their form.

-- A command for requester n, and a pump after it, each with the number of its line.
pub record Order : Type 0 where
  pub line : ℕ
  pub n : ℕ
  pub command : Command
  pub pump_line : ℕ

-- Each command has a pump of so many packets after it.
abbrev pub with_pumps : List Order → List Entry
with_pumps [] = []
with_pumps (o ∷ orders) =
    record { line = o.line; happening = Told o.n o.command }
    ∷ record { line = o.pump_line; happening = Pump most_packets } ∷ with_pumps orders

-- Such a script is honest, and no packet waits at its end, where nothing agrees by chance and each command that is
-- answered `ok` has what it needs. So there is an honest script for any such commands.
abbrev pub PumpedScriptsAreHonest : Type 0
PumpedScriptsAreHonest =
    (w : WorldSetup) → IsConfigured w → (orders : List Order) → length orders ≤ 2 ^ 31
    → NoChance (world_after w (with_pumps orders)).log
    → OfEachCommand CanBeDone (new_world w) (with_pumps orders)
    → AreHonest (new_world w) (with_pumps orders) × NothingWaits (world_after w (with_pumps orders))
