-- What is carried to a requester and a device comes to the ends of a world by its events.
use Rattle.std.proofs.Common.{◌≡◌, ◌≢◌, ◌∙◌, ◌+◌, ℕ, List, [], ◌∷◌, ◌++◌, map, filter, true, false, Option, Some, None, refl, sym, ap, subst}
use Rattle.std.proofs.lemmas.List.{append-nil}
use Rattle.device_serve.specs.Devised.{Device, Writing, after_frames, device_of, devised_by, devised_from, shown_by}
use Rattle.device_serve.specs.Replies.{Answer, answer_in}
use Rattle.device_serve.specs.Replies.Answer.{WithData, WithoutData}
use Rattle.frame_stream.specs.Frames.{GivenFrame}
use Rattle.frame_stream.specs.Frames.GivenFrame.{PacketOf, TicksOf, CommandOf}
use Rattle.requester_drive.specs.Commands.{command_line}
use Rattle.requester_machine.specs.Message.{Command}
use Rattle.requester_machine.specs.Requesting.{new_requesting}
use Rattle.responder_machine.specs.Responding.{Connection, Responding, new_connection}
use Rattle.responder_machine.specs.Setup.{Known}
use Rattle.responder_serve.specs.Served.{responder_of}
use Rattle.script_ends.specs.Configured.{configuration_in, known_in, requester_in, responder_in}
use Rattle.script_text.specs.declared.configuration.config.ReqPart.{ReqPart}
use Rattle.script_text.specs.declared.configuration.config.ScriptConfig.{ScriptConfig}
use Rattle.spdm_agreement.specs.Configured.{IsConfiguration}
use Rattle.spdm_basis.specs.declared.values.session_id.SessionId.{SessionId}
use Rattle.spdm_machine.proofs.Members.{IsIn, in_map, map_in}
use Rattle.requester_machine.specs.Setup.{ReqSetup}
use Rattle.stream_laws.proofs.Addressed.{for_one, kept}
use Rattle.stream_laws.proofs.Configurations.{hold}
use Rattle.stream_laws.proofs.DeviceDoes.{Does, Done, FrameMay, WaitsWell, does_both, does_shown, frame_done}
use Rattle.stream_laws.proofs.DeviceRuns.{none_run, other_runs, told_runs}
use Rattle.stream_laws.proofs.DeviceShown.{trace_begins}
use Rattle.stream_laws.proofs.DeviceSteps.{InWorld}
use Rattle.stream_laws.proofs.Driving.{first_is_driven}
use Rattle.stream_laws.proofs.Numbers.{own_eid, part_eid}
use Rattle.stream_laws.proofs.Peers.{ArePeers}
use Rattle.stream_laws.proofs.Starts.{first_differs, responder_starts}
use Rattle.stream_laws.specs.Carriage.{event_of, tells_first}
use Rattle.stream_laws.specs.Carriage.Carried.{Says, ToRequester, ToResponder, Waits}
use Rattle.stream_laws.specs.Coming.{Coming, comes, comes_from, is_for_first, is_packet_for}
use Rattle.stream_laws.specs.Coming.Coming.{Gives, Tells}
use Rattle.stream_laws.specs.DeviceLaws.{EveryDeviceCarriageIsAWorld}
use Rattle.stream_laws.specs.Devices.{DeviceCarried, MayCarryAllTo, all_asked, device_events, device_frames, device_lines, frame_events, gives_answered, gives_arriving, gives_waiting, only_data, waiting_data, told_and_sent}
use Rattle.stream_laws.specs.Devices.DeviceCarried.{Answers, Carries}
use Rattle.stream_laws.specs.Frames.{bring_first, told_first}
use Rattle.stream_laws.specs.Worlds.{ends_from, world_of}
use Rattle.world_machine.specs.Happenings.{Entry, Happening}
use Rattle.world_machine.specs.Happenings.Happening.{Told, Reply, Deliver, Lose, Inject, Pump, Tick, Show}
use Rattle.world_machine.specs.Setup.{known_of}
use Rattle.world_machine.specs.Trace.{trace_lines, world_from}
use Rattle.world_machine.specs.World.{World, entry_step, new_world}

-- ---- Events that bring nothing to requester 1.

abbrev IsQuiet : (asks : ℕ) → Happening → Type 0
IsQuiet asks (Inject packet) = is_packet_for asks packet ≡ false
IsQuiet asks (Tick seconds) = Unit {0}
IsQuiet asks (Reply n bytes) = Unit {0}
IsQuiet asks happening = ⊥

abbrev AreQuiet : (asks : ℕ) → List Entry → Type 0
AreQuiet asks [] = Unit {0}
AreQuiet asks (entry ∷ entries) = IsQuiet asks entry.happening × AreQuiet asks entries

one_quiet : (asks : ℕ) (world : World) (happening : Happening) (rest : List Coming) → IsQuiet asks happening → filter (is_for_first asks) (comes world happening ++ rest) ≡ filter (is_for_first asks) rest
one_quiet asks world (Told n command) rest quiet = absurd quiet
one_quiet asks world (Reply n bytes) rest quiet = refl
one_quiet asks world (Deliver number) rest quiet = absurd quiet
one_quiet asks world (Lose number) rest quiet = absurd quiet
one_quiet asks world (Inject packet) rest quiet = kept (is_for_first asks) (Gives packet) rest false quiet
one_quiet asks world (Pump count) rest quiet = absurd quiet
one_quiet asks world (Tick seconds) rest quiet = refl
one_quiet asks world Show rest quiet = absurd quiet

all_quiet : (asks : ℕ) (world : World) (xs ys : List Entry) → AreQuiet asks xs → filter (is_for_first asks) (comes_from world (xs ++ ys)) ≡ filter (is_for_first asks) (comes_from (world_from world xs) ys)
all_quiet asks world [] ys quiet = refl
all_quiet asks world (x ∷ xs) ys quiet =
    let later = (entry_step world x).after in
    one_quiet asks world x.happening (comes_from later (xs ++ ys)) quiet.0 ∙ all_quiet asks later xs ys quiet.1

both_quiet : (asks : ℕ) (xs ys : List Entry) → AreQuiet asks xs → AreQuiet asks ys → AreQuiet asks (xs ++ ys)
both_quiet asks [] ys p q = q
both_quiet asks (x ∷ xs) ys p q = (p.0, both_quiet asks xs ys p.1 q)

module _ (c : ScriptConfig) (asks : ℕ) (differ : asks ≢ c.responder.eid.number) where
  abbrev serves : ℕ
  serves = c.responder.eid.number

  not_asked : (packet : List ℕ) → is_packet_for serves packet ≡ true → is_packet_for asks packet ≡ false
  not_asked packet mine = for_one serves asks packet (λ e. differ (sym e)) mine

  waiting_quiet : (r : Responding) (waits : Option (List ℕ)) → WaitsWell serves r waits → AreQuiet asks (gives_waiting waits)
  waiting_quiet r None well = tt
  waiting_quiet r (Some packet) well = (not_asked packet well.0, tt)

  arriving_quiet : (packet : List ℕ) (taken : Option (SessionId × List ℕ)) → is_packet_for serves packet ≡ true → AreQuiet asks (gives_arriving packet taken)
  arriving_quiet packet None mine = (not_asked packet mine, tt)
  arriving_quiet packet (Some taken) mine = tt

  answered_quiet : (r : Responding) (waits : Option (List ℕ)) (answer : Option Answer) → WaitsWell serves r waits → AreQuiet asks (gives_answered c waits answer)
  answered_quiet r waits None well = tt
  answered_quiet r None (Some answer) well = tt
  answered_quiet r (Some packet) (Some WithoutData) well = (not_asked packet well.0, tt)
  answered_quiet r (Some packet) (Some (WithData bytes)) well = (tt, (not_asked packet well.0, tt))

  frame_quiet : (d : Device) → WaitsWell serves d.responder d.waits → (frame : GivenFrame) → FrameMay serves frame → AreQuiet asks (frame_events c d frame)
  frame_quiet d well (PacketOf packet) may =
      both_quiet asks (gives_waiting d.waits) _ (waiting_quiet d.responder d.waits well) (arriving_quiet packet _ may)
  frame_quiet d well (TicksOf seconds) may = both_quiet asks (gives_waiting d.waits) (event_of (Tick seconds) ∷ []) (waiting_quiet d.responder d.waits well) (tt, tt)
  frame_quiet d well (CommandOf line) may = answered_quiet d.responder d.waits (answer_in line) well

  -- ---- All that is carried.

  -- What it brings to requester 1 comes to it by the events, and the device does what the events lead to.
  record Goes (d : Device) (world : World) (entries : List Entry) (brings : List Coming) (written : List Writing) (after : Device) : Type 0 where
    does : Does c d world entries written after
    same : brings ≡ filter (is_for_first asks) (comes_from world entries)

  -- Something that is none of the device, before others.
  aside : (d : Device) (world : World) (entry : Entry) (entries : List Entry) (brings : List Coming) (written : List Writing) (after : Device)
      → Does c d world (entry ∷ []) [] d → Does c d (entry_step world entry).after entries written after
      → brings ≡ filter (is_for_first asks) (comes_from world (entry ∷ entries)) → Goes d world (entry ∷ entries) brings written after
  aside d world entry entries brings written after one others same = record {
    does = does_both c d d after world (entry ∷ []) entries [] written one others;
    same = same;
  }

  told_does : (d : Device) (world : World) → InWorld c d.responder world → (command : Command) → Does c d world (event_of (Told 1 command) ∷ []) [] d
  told_does d world h command = record { own = []; runs = told_runs c d.responder world h command; told = refl; brought = append-nil _ }

  other_does : (d : Device) (world : World) → InWorld c d.responder world → (packet : List ℕ) → is_packet_for serves packet ≡ false → Does c d world (event_of (Inject packet) ∷ []) [] d
  other_does d world h packet other = record { own = []; runs = other_runs c d.responder world h packet other; told = refl; brought = append-nil _ }

  -- A frame of the device, before others.
  frame_goes : (d : Device) (world : World) (frame : GivenFrame) (entries : List Entry) (brings : List Coming) (written : List Writing) (after : Device)
      → WaitsWell serves d.responder d.waits → FrameMay serves frame
      → Done c d world (frame_events c d frame) (devised_by c d frame).written (devised_by c d frame).after
      → Goes (devised_by c d frame).after (world_from world (frame_events c d frame)) entries brings written after
      → Goes d world (frame_events c d frame ++ entries) brings (shown_by c d frame ++ written) after
  frame_goes d world frame entries brings written after well may done others = record {
    does = does_both c d (devised_by c d frame).after after world (frame_events c d frame) entries (shown_by c d frame) written
        (does_shown c d (devised_by c d frame).after world (frame_events c d frame) (devised_by c d frame).written d.responder (devised_by c d frame).after.responder done.does) others.does;
    same = others.same ∙ sym (all_quiet asks world (frame_events c d frame) entries (frame_quiet d well frame may));
  }

  carried_go : (d : Device) (world : World) → InWorld c d.responder world → WaitsWell serves d.responder d.waits → (carried : List DeviceCarried) → MayCarryAllTo c asks serves carried
      → Goes d world (device_events c d carried) (bring_first c (all_asked carried)) (devised_from c d (device_frames carried)) (after_frames c d (device_frames carried))
  carried_go d world h well [] may = record { does = record { own = []; runs = none_run c d.responder world h; told = refl; brought = append-nil _ }; same = refl }
  carried_go d world h well (Carries (Says line) ∷ others) may =
      by_line (command_line c line) (carried_go d world h well others may.1)
      (λ command. (let one = told_does d world h command in carried_go d (entry_step world (event_of (Told 1 command))).after one.runs.stands well others may.1))
    where
      by_line : (o : Option Command)
          → Goes d world (device_events c d others) (bring_first c (all_asked others)) (devised_from c d (device_frames others)) (after_frames c d (device_frames others))
          → ((command : Command) → Goes d (entry_step world (event_of (Told 1 command))).after (device_events c d others) (bring_first c (all_asked others)) (devised_from c d (device_frames others)) (after_frames c d (device_frames others)))
          → Goes d world (tells_first o ++ device_events c d others) (told_first o ++ bring_first c (all_asked others)) (devised_from c d (device_frames others)) (after_frames c d (device_frames others))
      by_line None none some = none
      by_line (Some command) none some =
          aside d world (event_of (Told 1 command)) (device_events c d others) (Tells 1 command ∷ bring_first c (all_asked others)) (devised_from c d (device_frames others)) (after_frames c d (device_frames others))
          (told_does d world h command) (some command).does (ap (λ (rest : List Coming). Tells 1 command ∷ rest) (some command).same)
  carried_go d world h well (Carries (ToRequester packet) ∷ others) may =
      let one = other_does d world h packet (for_one asks serves packet differ may.0) in
      let later = (entry_step world (event_of (Inject packet))).after in
      let rest = carried_go d later one.runs.stands well others may.1 in
      aside d world (event_of (Inject packet)) (device_events c d others) (Gives packet ∷ bring_first c (all_asked others)) (devised_from c d (device_frames others)) (after_frames c d (device_frames others))
      one rest.does
      (ap (λ (later : List Coming). Gives packet ∷ later) rest.same
      ∙ sym (kept (is_for_first asks) (Gives packet) (comes_from later (device_events c d others)) true may.0))
  carried_go d world h well (Carries (ToResponder packet) ∷ others) may =
      let done = frame_done c d world h well (PacketOf packet) may.0 in
      let next = (devised_by c d (PacketOf packet)).after in
      frame_goes d world (PacketOf packet) (device_events c next others) (bring_first c (all_asked others)) (devised_from c next (device_frames others)) (after_frames c next (device_frames others)) well may.0 done
      (carried_go next (world_from world (frame_events c d (PacketOf packet))) done.does.runs.stands done.well others may.1)
  carried_go d world h well (Carries (Waits seconds) ∷ others) may =
      let done = frame_done c d world h well (TicksOf seconds) tt in
      let next = (devised_by c d (TicksOf seconds)).after in
      frame_goes d world (TicksOf seconds) (device_events c next others) (bring_first c (all_asked others)) (devised_from c next (device_frames others)) (after_frames c next (device_frames others)) well tt done
      (carried_go next (world_from world (frame_events c d (TicksOf seconds))) done.does.runs.stands done.well others may.1)
  carried_go d world h well (Answers line ∷ others) may =
      let done = frame_done c d world h well (CommandOf line) tt in
      let next = (devised_by c d (CommandOf line)).after in
      frame_goes d world (CommandOf line) (device_events c next others) (bring_first c (all_asked others)) (devised_from c next (device_frames others)) (after_frames c next (device_frames others)) well tt done
      (carried_go next (world_from world (frame_events c d (CommandOf line))) done.does.runs.stands done.well others may.1)

-- ---- The world in which nothing has happened yet.

eids_told : (responder n : ℕ) (seeds : ℕ → List ℕ) (qs : List ReqPart) → map own_eid (map new_requesting (ends_from responder n seeds qs)) ≡ map part_eid qs
eids_told responder n seeds [] = refl
eids_told responder n seeds (q ∷ others) = ap (λ (rest : List ℕ). part_eid q ∷ rest) (eids_told responder (n + 1) seeds others)

peers_told : (c : ScriptConfig) (seed : List ℕ) → ArePeers (IsIn (map part_eid c.requesters)) (responder_of c seed)
peers_told c seed x m =
    let P : ℕ → Type 0 = IsIn (map part_eid c.requesters) in
    let part = responder_in c in
    let responder = c.responder.eid.number in
    let known = in_map (new_connection part) (known_in responder c.requesters) x m in
    let setup = in_map known_of (map (requester_in responder) c.requesters) known.0 known.1 in
    let q = in_map (requester_in responder) c.requesters setup.0 setup.1 in
    subst (λ (y : Connection). P y.setup.peer) (sym known.2)
    (subst (λ (k : Known). P (new_connection part k).setup.peer) (sym setup.2)
    (subst (λ (s : ReqSetup). P (new_connection part (known_of s)).setup.peer) (sym q.2) (map_in part_eid c.requesters q.0 q.1)))

device_starts : (c : ScriptConfig) (seeds : ℕ → List ℕ) → IsConfiguration (configuration_in c) → InWorld c (responder_of c (seeds 0)) (new_world (world_of c seeds))
device_starts c seeds is = record {
  serving = responder_starts c seeds is;
  eids = eids_told c.responder.eid.number 1 seeds c.requesters;
  peers = peers_told c (seeds 0);
}

-- ---- The law.

pub every_device_carriage : EveryDeviceCarriageIsAWorld
every_device_carriage c seeds a is front carried may =
    let w = world_of c seeds in
    let world = new_world w in
    let d = device_of c (seeds 0) in
    let entries = device_events c d carried in
    let frames = device_frames carried in
    let eid = c.responder.eid.number in
    let begins = trace_begins eid w entries in
    let goes = carried_go c a.setup.eid (first_differs c (seeds 1) a is front) d world (device_starts c seeds is) tt carried may in
    let told : device_lines eid (trace_lines w entries) ≡ goes.does.own = begins ∙ goes.does.runs.lines in record {
      driven = first_is_driven c seeds a is front entries (all_asked carried) goes.same;
      devised = record {
        written = goes.does.told ∙ ap told_and_sent (sym told);
        brought = goes.does.brought ∙ ap (λ (own : List Writing). only_data own ++ waiting_data c (after_frames c d frames).responder (after_frames c d frames).waits) (sym told);
        after = goes.does.runs.stands.serving.is;
      };
      holds = λ chance. hold c seeds is entries chance;
    }
