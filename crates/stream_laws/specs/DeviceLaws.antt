-- What a requester and a device do on streams of frames is what the ends of a world do, into which the replies of the
-- device's application are put where they are given. This project's own.
use Rattle.std.specs.Prelude.{◌≡◌, ◌++◌, ℕ, List, Some}
use Rattle.device_serve.specs.Devised.{Device, after_frames, device_of, devised_from}
use Rattle.frame_stream.specs.Frames.{GivenFrame}
use Rattle.requester_drive.specs.First.{first_requester}
use Rattle.requester_machine.specs.Requesting.{Requesting}
use Rattle.script_ends.specs.Configured.{configuration_in}
use Rattle.script_text.specs.declared.configuration.config.ScriptConfig.{ScriptConfig}
use Rattle.spdm_agreement.specs.Configured.{IsConfiguration}
use Rattle.spdm_agreement.specs.Worlds.{HoldsTogether}
use Rattle.stream_laws.specs.Devices.{DeviceCarried, MayCarryAllTo, all_asked, device_events, device_frames, device_lines, only_data, waiting_data, told_and_sent}
use Rattle.stream_laws.specs.Laws.{IsDrivenAs}
use Rattle.stream_laws.specs.Worlds.{world_of}
use Rattle.world_machine.specs.Chance.{NoChance}
use Rattle.world_machine.specs.Happenings.{Entry}
use Rattle.world_machine.specs.Setup.{WorldSetup}
use Rattle.world_machine.specs.Trace.{trace_lines, world_after}

-- A device writes what is of the responder in the trace, in the order of the trace but for the lines of data, and beside
-- lines of what became of sessions; of the lines of data it writes the ones of the trace in their order, and behind them
-- the one of the packet that still waits. Its responder stands at the end as the responder of the world does.
pub record IsDevisedAs (c : ScriptConfig) (d : Device) (w : WorldSetup) (entries : List Entry) (frames : List GivenFrame) : Type 0 where
  pub written : told_and_sent (devised_from c d frames) ≡ told_and_sent (device_lines c.responder.eid.number (trace_lines w entries))
  pub brought : only_data (devised_from c d frames) ≡ only_data (device_lines c.responder.eid.number (trace_lines w entries)) ++ waiting_data c (after_frames c d frames).responder (after_frames c d frames).waits
  pub after : (world_after w entries).responder ≡ (after_frames c d frames).responder

-- Whatever is carried to the two, in whatever order, and whatever the application answers, they do together what the
-- ends of one world do. So where nothing agrees by chance, all that holds of worlds holds of them.
pub record AreOfOneDeviceWorld (c : ScriptConfig) (seeds : ℕ → List ℕ) (a : Requesting) (carried : List DeviceCarried) : Type 0 where
  pub driven : IsDrivenAs c a (world_of c seeds) (device_events c (device_of c (seeds 0)) carried) (all_asked carried)
  pub devised : IsDevisedAs c (device_of c (seeds 0)) (world_of c seeds) (device_events c (device_of c (seeds 0)) carried) (device_frames carried)
  pub holds : NoChance (world_after (world_of c seeds) (device_events c (device_of c (seeds 0)) carried)).log → HoldsTogether (world_after (world_of c seeds) (device_events c (device_of c (seeds 0)) carried))

abbrev pub EveryDeviceCarriageIsAWorld : Type 0
EveryDeviceCarriageIsAWorld = (c : ScriptConfig) (seeds : ℕ → List ℕ) (a : Requesting) → IsConfiguration (configuration_in c) → first_requester c (seeds 1) ≡ Some a
    → (carried : List DeviceCarried) → MayCarryAllTo c a.setup.eid c.responder.eid.number carried → AreOfOneDeviceWorld c seeds a carried
