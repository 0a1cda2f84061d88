-- What a clear measure comes to where its messages are delivered honestly. This project's own.
use Rattle.std.specs.Prelude.{◌≡◌, ◌<◌, ◌≤◌, ◌+◌, ◌==◌, ℕ, List, length, if◌then◌else◌, true, false, Some, None, Contains}
use Rattle.measurements.specs.Blocks.{record_of}
use Rattle.measurements.specs.Records.{asked as blocks_asked, is_missing}
use Rattle.requester_machine.specs.History as asked
use Rattle.requester_machine.specs.Message.Command.{Measure}
use Rattle.requester_machine.specs.Requesting.{Requesting, requester_told}
use Rattle.requester_machine.specs.Shown.{last_data}
use Rattle.responder_machine.specs.History as served
use Rattle.responder_machine.specs.Responding.{Connection, Responding, connection_of}
use Rattle.responder_machine.specs.Setup.{RspSetup, inventory_of}
use Rattle.spdm_agreement.specs.Configured.{IsConfigured}
use Rattle.spdm_grammar.specs.Lines.{Line}
use Rattle.spdm_grammar.specs.declared.told.event.Event.TheVariants as event
use Rattle.spdm_grammar.specs.declared.told.event.Finished.TheVariants as finished
use Rattle.spdm_grammar.specs.declared.names.TheConstants.{MEASUREMENTS_FIELDS_LEN}
use Rattle.spdm_grammar.specs.declared.told.phase.Phase.TheVariants.{Negotiated}
use Rattle.spdm_machine.specs.Packets.{wear_limit}
use Rattle.world_machine.specs.Chance.{NoChance}
use Rattle.world_machine.specs.Happenings.{Entry}
use Rattle.world_machine.specs.Happenings.Happening.{Told}
use Rattle.world_machine.specs.Setup.{WorldSetup}
use Rattle.world_machine.specs.Trace.{world_from, world_after, lines_from}
use Rattle.world_machine.specs.World.{World, requester_of, entry_step}
use Rattle.spdm_progress.specs.Honest.{NothingWaits, AreHonest, HaveNoCommand}

-- The measurement record of an operation: the blocks of the responder that it asks for.
abbrev pub record_for : RspSetup → (op : ℕ) → List ℕ
record_for r op = record_of (blocks_asked op (inventory_of r))

-- How many measurements are told: those that the responder has for operation 0, else those in the record.
abbrev pub number_for : RspSetup → (op : ℕ) → ℕ
number_for r op =
    if op == 0 then length (inventory_of r) else length (blocks_asked op (inventory_of r))

-- MEASUREMENTS has 42 bytes beside the record: its fields before the record, the nonce and the length of no opaque
-- data.
abbrev pub measurements_size : RspSetup → (op : ℕ) → ℕ
measurements_size r op = MEASUREMENTS_FIELDS_LEN + length (record_for r op)

-- What a clear measure needs. Both ends are negotiated, with one negotiation, as a connect leaves them, and it chose
-- measurements. The operation is a byte, and a block that it names is configured. The request, of 4 bytes, and the
-- answer fit the transfer sizes of their receivers as they were negotiated, and the answer that of the requester as it
-- is set up.
pub record CanMeasure (a : Requesting) (c : Connection) (op : ℕ) : Type 0 where
  pub requester_phase : asked.phase_of a.history ≡ Negotiated
  pub responder_phase : served.phase_of (served.clear_turns c.history) ≡ Negotiated
  pub same : asked.negotiation_of a.history ≡ served.negotiation_of (served.clear_turns c.history)
  pub chosen : (asked.connection_terms a.history).choice.measure ≡ true
  pub byte : op < 256
  pub block : is_missing op (inventory_of c.setup) ≡ false
  pub request_fits : 4 ≤ (asked.connection_terms a.history).common.to_responder.transfer
  pub answer_fits : measurements_size c.setup op
      ≤ (asked.connection_terms a.history).common.to_requester.transfer
  pub answer_fits_max : measurements_size c.setup op
      ≤ (asked.connection_terms a.history).common.to_requester.max
  pub answer_fits_own : measurements_size c.setup op ≤ a.setup.transfer

-- Neither end is worn out before it is over: the requester takes the command and up to 66 packets,
-- the responder one.
pub record LivesToMeasure (a : Requesting) (r : Responding) : Type 0 where
  pub requester : length a.given + a.commands + 67 ≤ wear_limit
  pub responder : length r.given + 1 ≤ wear_limit

-- A clear measure is told to requester n, and answered `ok`, where no packet waits and nothing agrees by chance.
pub record MeasureIsTold (w : WorldSetup) (before : List Entry) (n : ℕ) (a : Requesting)
    (c : Connection) (op : ℕ) : Type 0 where
  pub configured : IsConfigured w
  pub no_chance : NoChance (world_after w before).log
  pub idle : NothingWaits (world_after w before)
  pub is_requester : requester_of n (world_after w before) ≡ Some a
  pub is_connection : connection_of a.setup.eid (world_after w before).responder.connections
      ≡ Some c
  pub accepted : (requester_told a (Measure None op)).fault ≡ None
  pub can : CanMeasure a c op
  pub life : LivesToMeasure a (world_after w before).responder

-- The measure of requester n is done: it is told how many measurements there are, nothing is outstanding, and the
-- record that it took last is the one that the responder is set up with.
pub record IsMeasured (n : ℕ) (r : RspSetup) (op : ℕ) (world : World)
    (lines : List Line) : Type 0 where
  pub told : Contains lines (Line.ToRequester n (event.Done (finished.Measured (number_for r op))))
  pub requester : Requesting
  pub is_requester : requester_of n world ≡ Some requester
  pub none : asked.outstanding requester.history ≡ None
  pub taken : last_data requester.history ≡ record_for r op

-- The world in which requester n was told to measure.
abbrev pub measuring : World → (line n op : ℕ) → World
measuring world line n op =
    (entry_step world (record { line = line; happening = Told n (Measure None op) })).after

-- Whatever stands between this command and the next one of an honest script: once no packet waits any more, the measure
-- is done.
abbrev pub MeasureCompletes : Type 0
MeasureCompletes =
    (w : WorldSetup) (before : List Entry) (n : ℕ) (a : Requesting) (c : Connection) (op : ℕ)
    → MeasureIsTold w before n a c op
    → (line : ℕ) (behind : List Entry) → HaveNoCommand behind
    → AreHonest (measuring (world_after w before) line n op) behind
    → NothingWaits (world_from (measuring (world_after w before) line n op) behind)
    → IsMeasured n c.setup op (world_from (measuring (world_after w before) line n op) behind)
    (lines_from (measuring (world_after w before) line n op) behind)
