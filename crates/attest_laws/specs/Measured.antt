-- What a requester measures in a session is what the responder is set up with. This project's own.
use Rattle.std.specs.Prelude.{◌≡◌, ◌==◌, ℕ, List, [], ◌∷◌, length, if◌then◌else◌, Option, Some, None, Contains}
use Rattle.measurements.specs.Blocks.{by_index, record_of}
use Rattle.measurements.specs.Records.{asked as blocks_asked}
use Rattle.requester_machine.specs.History.{History, Effect}
use Rattle.requester_machine.specs.History.Entry.{Told, TookClear, TookRecord}
use Rattle.requester_machine.specs.Message.{Command}
use Rattle.requester_machine.specs.Message.Command.{Measure}
use Rattle.requester_machine.specs.Requesting.{Requesting}
use Rattle.requester_machine.specs.Shown.{blocks_in, last_data}
use Rattle.responder_machine.specs.Setup.{RspPart}
use Rattle.spdm_agreement.specs.Worlds.{InEachWorld}
use Rattle.spdm_grammar.specs.declared.told.event.Event.TheVariants.{Done}
use Rattle.spdm_grammar.specs.declared.told.event.Finished.TheVariants.{Measured}
use Rattle.world_machine.specs.World.{World}

-- ---- What a responder is set up with.

-- The measurement record of an operation: the blocks that it asks for, by rising index (DSP0274, "GET_MEASUREMENTS
-- request message format").
abbrev pub configured_record : RspPart → (op : ℕ) → List ℕ
configured_record part op = record_of (blocks_asked op (by_index part.blocks))

-- How many measurements are told for it: for operation 0, which asks for no block, how many there are, and else how many
-- are in the record.
abbrev pub configured_number : RspPart → (op : ℕ) → ℕ
configured_number part op =
    if op == 0 then length (by_index part.blocks) else length (blocks_asked op (by_index part.blocks))

-- ---- What a requester measured.

-- The command that was told last.
abbrev pub last_command : History → Option Command
last_command [] = None
last_command (Told command sent d ∷ older) = Some command
last_command (_ ∷ older) = last_command older

-- With the newest entry of a history, which brought this about, so many measurements are told in the session with this
-- ReqSessionID. The command behind it asked that session for the measurements of an operation; the record that came,
-- and which is then the last that was taken, is the one that the responder is set up with for this operation; and so is
-- the number.
pub record IsAsConfigured (part : RspPart) (id number : ℕ) (brought : Effect) (now : History) : Type 0 where
  pub op : ℕ
  pub asked : last_command now ≡ Some (Measure (Some id) op)
  pub came : blocks_in brought ≡ Some (configured_record part op)
  pub taken : last_data now ≡ configured_record part op
  pub told : number ≡ configured_number part op

-- So it is with each entry that tells measurements in a session: a record that was taken, and with which the command is
-- done. The answer may have come whole, or with this record the last of its chunks. Of measurements in the clear
-- nothing is said: nothing protects them.
abbrev pub MeasuresAsConfigured : RspPart → History → Type 0
MeasuresAsConfigured part [] = Unit {0}
MeasuresAsConfigured part (Told command sent d ∷ older) = MeasuresAsConfigured part older
MeasuresAsConfigured part (TookClear tag m led d ∷ older) = MeasuresAsConfigured part older
MeasuresAsConfigured part (TookRecord tag id sealed inner led d ∷ older) =
    ((number : ℕ) → led.event ≡ Done (Measured number)
    → IsAsConfigured part id number led.effect (TookRecord tag id sealed inner led d ∷ older))
    × MeasuresAsConfigured part older

-- ---- In every world.

-- Each requester of a world measures in its sessions what the responder of the world is set up with.
abbrev pub AllMeasureAsConfigured : World → Type 0
AllMeasureAsConfigured world =
    (a : Requesting) → Contains world.requesters a → MeasuresAsConfigured world.responder.part a.history

-- So it is in every configured world, after any events, where nothing agrees by chance.
abbrev pub WorldsMeasureAsConfigured : Type 0
WorldsMeasureAsConfigured = InEachWorld AllMeasureAsConfigured
