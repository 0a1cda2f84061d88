-- A driven requester and a responder that is served do what requester 1 and the responder of a world do.
use Rattle.std.proofs.Common.{◌≡◌, ◌∙◌, ℕ, List, [], ◌∷◌, ◌++◌, flat_map, Some, sym, ap}
use Rattle.std.proofs.lemmas.Grind.{flat_map-append}
use Rattle.requester_machine.specs.Requesting.{Requesting}
use Rattle.responder_serve.specs.Served.{responder_of}
use Rattle.spdm_grammar.specs.Lines.{Line}
use Rattle.stream_laws.proofs.Brought.{driven_after, driven_written, served_after, served_written}
use Rattle.stream_laws.proofs.Events.{MayAll, events_go}
use Rattle.stream_laws.proofs.FirstGoes.{Any, first, first_keeps}
use Rattle.stream_laws.proofs.Following.{after_all, written_by}
use Rattle.stream_laws.proofs.Lines.{ShowsEnd, ends_none, first_shows, responder_shows}
use Rattle.stream_laws.proofs.ResponderGoes.{answering, responder_keeps}
use Rattle.stream_laws.proofs.Starts.{first_starts, responder_starts}
use Rattle.stream_laws.specs.Laws.{FirstIsDriven, QueueNothing, QueuesNothing, ResponderIsServed}
use Rattle.stream_laws.specs.Traces.{first_frame, responder_frame}
use Rattle.stream_laws.specs.Worlds.{world_of}
use Rattle.world_machine.specs.Happenings.{Entry}
use Rattle.world_machine.specs.Setup.{WorldSetup}
use Rattle.world_machine.specs.Trace.{lines_from, trace_lines}
use Rattle.world_machine.specs.World.{new_world, requester_at, shown_lines}

-- Of the ends as they are at first nothing is written.
trace_begins : (eid : ℕ) (own : Line → List ℕ) → ShowsEnd eid own → (w : WorldSetup) (entries : List Entry) → flat_map own (trace_lines w entries) ≡ flat_map own (lines_from (new_world w) entries)
trace_begins eid own shows w entries =
    let world = new_world w in
    flat_map-append own (shown_lines world) (lines_from world entries)
    ∙ ap (λ (front : List ℕ). front ++ flat_map own (lines_from world entries)) (ends_none eid own shows world.responder 1 world.requesters)

any_may : (entries : List Entry) → MayAll Any entries
any_may [] = tt
any_may (entry ∷ entries) = (tt, any_may entries)

none_queues : (entries : List Entry) → QueueNothing entries → MayAll QueuesNothing entries
none_queues [] may = tt
none_queues (entry ∷ entries) may = (may.0, none_queues entries may.1)

pub first_is_driven : FirstIsDriven
first_is_driven c seeds a is front entries frames same =
    let w = world_of c seeds in
    let eid = a.setup.eid in
    let goes = events_go (first eid) Any (first_keeps eid) a (new_world w) entries (any_may entries) (first_starts c seeds a is front) in record {
      written = driven_written eid c a frames ∙ ap (written_by (first eid) a) same ∙ sym goes.lines ∙ sym (trace_begins eid (first_frame eid) (first_shows eid) w entries);
      after = ap (requester_at 0) goes.after.is ∙ ap (λ (x : Requesting). Some x) (sym (driven_after eid c a frames ∙ ap (after_all (first eid) a) same));
    }

pub responder_is_served : ResponderIsServed
responder_is_served c seeds is entries frames may same =
    let w = world_of c seeds in
    let eid = c.responder.eid.number in
    let r = responder_of c (seeds 0) in
    let goes = events_go (answering eid) QueuesNothing (responder_keeps eid) r (new_world w) entries (none_queues entries may) (responder_starts c seeds is) in record {
      written = served_written eid r frames ∙ ap (written_by (answering eid) r) same ∙ sym goes.lines ∙ sym (trace_begins eid (responder_frame eid) (responder_shows eid) w entries);
      after = goes.after.is ∙ sym (served_after eid r frames ∙ ap (after_all (answering eid) r) same);
    }
