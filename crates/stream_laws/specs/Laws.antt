-- What a requester and a responder do on streams of frames is what the requester and the responder of a world do, so
-- what holds of worlds holds of the two. This project's own.
use Rattle.std.specs.Prelude.{◌≡◌, ℕ, List, [], ◌∷◌, Some, Ok, filter}
use Rattle.script_ends.specs.Configured.{configuration_in}
use Rattle.frame_stream.specs.Frames.{GivenFrame}
use Rattle.requester_drive.specs.Driven as driving
use Rattle.requester_drive.specs.Driven.{driven_from}
use Rattle.requester_drive.specs.First.{first_requester}
use Rattle.requester_machine.specs.Requesting.{Requesting}
use Rattle.responder_serve.specs.Served as serving
use Rattle.responder_serve.specs.Served.{responder_of, served_from}
use Rattle.script_text.specs.ConfigText.{config_in}
use Rattle.script_text.specs.declared.configuration.config.ScriptConfig.{ScriptConfig}
use Rattle.spdm_agreement.specs.Configured.{IsConfiguration}
use Rattle.spdm_agreement.specs.Worlds.{HoldsTogether}
use Rattle.stream_laws.specs.Carriage.{Carried, MayCarryAll, asked_frames, carried_events, served_frames}
use Rattle.stream_laws.specs.Coming.{comes_from, is_for_first, is_for_responder}
use Rattle.stream_laws.specs.Frames.{bring_first, bring_responder}
use Rattle.stream_laws.specs.Traces.{first_frames, responder_frames}
use Rattle.stream_laws.specs.Worlds.{script_seeds, world_of}
use Rattle.world_machine.specs.Chance.{NoChance}
use Rattle.world_machine.specs.Happenings.{Entry, Happening}
use Rattle.world_machine.specs.Happenings.Happening.{Reply}
use Rattle.world_machine.specs.Setup.{WorldSetup, script_world}
use Rattle.world_machine.specs.Trace.{trace_lines, world_after}
use Rattle.world_machine.specs.World.{new_world, requester_of}

-- ---- The world.

-- What a text configures keeps all limits that the laws below ask for.
abbrev pub ReadConfigurationKeepsLimits : Type 0
ReadConfigurationKeepsLimits = (text : List ℕ) (c : ScriptConfig) → config_in text ≡ Ok c → IsConfiguration (configuration_in c)

-- With the seeds of a script it is the world that the script sets up, so its trace is the trace of that script.
abbrev pub ScriptWorldsAreSuch : Type 0
ScriptWorldsAreSuch = (c : ScriptConfig) (seed : List ℕ) → script_world (configuration_in c) seed 0 ≡ world_of c (script_seeds seed)

-- ---- The requester.

-- On frames that bring what comes to requester 1 of a world by these events, a driven requester writes what is of
-- requester 1 in the trace, and comes to what requester 1 comes to.
pub record IsDrivenAs (c : ScriptConfig) (a : Requesting) (w : WorldSetup) (entries : List Entry) (frames : List GivenFrame) : Type 0 where
  pub written : driven_from c a frames ≡ first_frames a.setup.eid (trace_lines w entries)
  pub after : requester_of 1 (world_after w entries) ≡ Some (driving.after_frames c a frames)

abbrev pub FirstIsDriven : Type 0
FirstIsDriven = (c : ScriptConfig) (seeds : ℕ → List ℕ) (a : Requesting) → IsConfiguration (configuration_in c) → first_requester c (seeds 1) ≡ Some a
    → (entries : List Entry) (frames : List GivenFrame) → bring_first c frames ≡ filter (is_for_first a.setup.eid) (comes_from (new_world (world_of c seeds)) entries)
    → IsDrivenAs c a (world_of c seeds) entries frames

-- ---- The responder.

-- No data are queued: no frame does that.
abbrev pub QueuesNothing : Happening → Type 0
QueuesNothing (Reply n bytes) = ⊥
QueuesNothing happening = Unit {0}

abbrev pub QueueNothing : List Entry → Type 0
QueueNothing [] = Unit {0}
QueueNothing (entry ∷ entries) = QueuesNothing entry.happening × QueueNothing entries

-- The same of a responder that is served frames.
pub record IsServedAs (c : ScriptConfig) (seed : List ℕ) (w : WorldSetup) (entries : List Entry) (frames : List GivenFrame) : Type 0 where
  pub written : served_from (responder_of c seed) frames ≡ responder_frames c.responder.eid.number (trace_lines w entries)
  pub after : (world_after w entries).responder ≡ serving.after_frames (responder_of c seed) frames

abbrev pub ResponderIsServed : Type 0
ResponderIsServed = (c : ScriptConfig) (seeds : ℕ → List ℕ) → IsConfiguration (configuration_in c)
    → (entries : List Entry) (frames : List GivenFrame) → QueueNothing entries
    → bring_responder frames ≡ filter (is_for_responder c.responder.eid.number) (comes_from (new_world (world_of c seeds)) entries)
    → IsServedAs c (seeds 0) (world_of c seeds) entries frames

-- ---- What holds of the two.

-- Agreement, data prefix, matched sessions, equal hashes and single use of numbers, whatever the seeds are.
abbrev pub StreamsHold : Type 0
StreamsHold = (c : ScriptConfig) (seeds : ℕ → List ℕ) → IsConfiguration (configuration_in c)
    → (entries : List Entry) → NoChance (world_after (world_of c seeds) entries).log → HoldsTogether (world_after (world_of c seeds) entries)

-- Whatever is carried to the two, in whatever order, they do together what the ends of one world do: each on its own
-- frames alone. So where nothing agrees by chance, all of that holds of them.
pub record AreOfOneWorld (c : ScriptConfig) (seeds : ℕ → List ℕ) (a : Requesting) (carried : List Carried) : Type 0 where
  pub driven : IsDrivenAs c a (world_of c seeds) (carried_events c carried) (asked_frames carried)
  pub served : IsServedAs c (seeds 0) (world_of c seeds) (carried_events c carried) (served_frames carried)
  pub holds : NoChance (world_after (world_of c seeds) (carried_events c carried)).log → HoldsTogether (world_after (world_of c seeds) (carried_events c carried))

abbrev pub EveryCarriageIsAWorld : Type 0
EveryCarriageIsAWorld = (c : ScriptConfig) (seeds : ℕ → List ℕ) (a : Requesting) → IsConfiguration (configuration_in c) → first_requester c (seeds 1) ≡ Some a
    → (carried : List Carried) → MayCarryAll c a.setup.eid c.responder.eid.number carried → AreOfOneWorld c seeds a carried
