-- What a device does on a frame is what the world of its responder does by the events of that frame.
use Rattle.std.proofs.Common.{◌≡◌, ◌∙◌, ◌+◌, ◌||◌, ℕ, List, [], ◌∷◌, ◌++◌, map, not, Bool, true, Option, Some, None, refl, sym, ap, subst}
use Rattle.std.proofs.lemmas.List.{append-nil, append_assoc}
use Rattle.std.proofs.lemmas.List.Elements.{filter-append}
use Rattle.device_serve.specs.Devised.{Device, Writing, answers, arrives_with, at_rest, changes_from, changes_at, devised_by, hears, number_in, replies, settles, told_changes}
use Rattle.device_serve.specs.Devised.Writing.{Sends, Tells}
use Rattle.device_serve.specs.Replies.{Answer, answer_in}
use Rattle.device_serve.specs.Replies.Answer.{WithData, WithoutData}
use Rattle.frame_stream.specs.Frames.{GivenFrame}
use Rattle.frame_stream.specs.Frames.GivenFrame.{PacketOf, TicksOf, CommandOf}
use Rattle.responder_machine.proofs.Brought.{brought_answered, brought_taken}
use Rattle.responder_machine.proofs.QueuedBrings.{queued_alike}
use Rattle.responder_machine.specs.EndLaws.{source_of}
use Rattle.responder_machine.specs.Responding.{Connection, Responding, connection_of, queues, reply_fault_of, responder_hears, ticks}
use Rattle.responder.specs.declared.changes.SessionChange.{SessionChange}
use Rattle.script_text.specs.declared.configuration.config.ReqPart.{ReqPart}
use Rattle.script_text.specs.declared.configuration.config.ScriptConfig.{ScriptConfig}
use Rattle.spdm_basis.specs.declared.values.session_id.SessionId.{SessionId}
use Rattle.spdm_grammar.specs.Lines.{Line}
use Rattle.spdm_machine.proofs.Members.{IsIn, found_in}
use Rattle.std.proofs.Common.{◌==◌, eqb-true}
use Rattle.stream_laws.proofs.DeviceRuns.{Runs, both_run, none_run, own_runs, passed_runs, replied_runs}
use Rattle.stream_laws.proofs.DeviceSteps.{InWorld, heard_own}
use Rattle.stream_laws.proofs.Numbers.{part_eid}
use Rattle.stream_laws.specs.Carriage.{event_of}
use Rattle.stream_laws.specs.Coming.{is_packet_for}
use Rattle.stream_laws.specs.Devices.{data_brought, frame_events, gives_answered, gives_arriving, gives_waiting, is_change, is_data, only_data, waiting_data, told_and_sent}
use Rattle.world_machine.specs.Happenings.{Entry}
use Rattle.world_machine.specs.Happenings.Happening.{Inject, Reply, Tick}
use Rattle.world_machine.specs.Trace.{world_from}
use Rattle.world_machine.specs.World.{World}

-- The device writes this and comes to that, and the events lead to the same in the world: the lines of data apart, of
-- which the one of a packet that waits is written before its event.
pub record Does (c : ScriptConfig) (d : Device) (world : World) (entries : List Entry) (written : List Writing) (after : Device) : Type 0 where
  pub own : List Writing
  pub runs : Runs c world entries own after.responder
  pub told : told_and_sent written ≡ told_and_sent own
  pub brought : waiting_data c d.responder d.waits ++ only_data written ≡ only_data own ++ waiting_data c after.responder after.waits

-- A packet that waits is for the responder, and brings data.
abbrev pub WaitsWell : (eid : ℕ) → Responding → Option (List ℕ) → Type 0
WaitsWell eid r None = Unit {0}
WaitsWell eid r (Some packet) = (is_packet_for eid packet ≡ true) × ((m : SessionId × List ℕ) × ((responder_hears r packet).taken ≡ Some m))

-- ---- Lines of data.

sends_none : (packets : List (List ℕ)) → only_data (map Sends packets) ≡ []
sends_none [] = refl
sends_none (packet ∷ others) = sends_none others

data_only : (n : ℕ) (taken : Option (SessionId × List ℕ)) (packets : List (List ℕ)) → only_data (data_brought n taken ++ map Sends packets) ≡ data_brought n taken
data_only n None packets = sends_none packets
data_only n (Some taken) packets = ap (λ (rest : List Writing). data_brought n (Some taken) ++ rest) (sends_none packets)

data_left : (n : ℕ) (taken : Option (SessionId × List ℕ)) (rest : List Writing) → told_and_sent (data_brought n taken ++ rest) ≡ told_and_sent rest
data_left n None rest = refl
data_left n (Some taken) rest = refl

pub does_both : (c : ScriptConfig) (d between after : Device) (world : World) (xs ys : List Entry) (one two : List Writing)
    → Does c d world xs one between → Does c between (world_from world xs) ys two after → Does c d world (xs ++ ys) (one ++ two) after
does_both c d between after world xs ys one two p q =
    let but_data : Writing → Bool = λ one. not (is_data one || is_change one) in
    let start = waiting_data c d.responder d.waits in
    let middle = waiting_data c between.responder between.waits in
    let end = waiting_data c after.responder after.waits in record {
      own = p.own ++ q.own;
      runs = both_run c world xs ys p.own q.own between.responder after.responder p.runs q.runs;
      told = filter-append but_data one two
          ∙ ap (λ (front : List Writing). front ++ told_and_sent two) p.told
          ∙ ap (λ (rest : List Writing). told_and_sent p.own ++ rest) q.told
          ∙ sym (filter-append but_data p.own q.own);
      brought = ap (λ (rest : List Writing). start ++ rest) (filter-append is_data one two)
          ∙ sym (append_assoc start (only_data one) (only_data two))
          ∙ ap (λ (front : List Writing). front ++ only_data two) p.brought
          ∙ append_assoc (only_data p.own) middle (only_data two)
          ∙ ap (λ (rest : List Writing). only_data p.own ++ rest) q.brought
          ∙ sym (append_assoc (only_data p.own) (only_data q.own) end)
          ∙ ap (λ (front : List Writing). front ++ end) (sym (filter-append is_data p.own q.own));
    }

-- ---- Lines of what became of sessions.

change_apart : (n : ℕ) (changes : List (Option SessionChange)) → told_and_sent (told_changes n changes) ≡ []
change_apart n [] = refl
change_apart n (None ∷ others) = change_apart n others
change_apart n (Some change ∷ others) = change_apart n others

change_no_data : (n : ℕ) (changes : List (Option SessionChange)) → only_data (told_changes n changes) ≡ []
change_no_data n [] = refl
change_no_data n (None ∷ others) = change_no_data n others
change_no_data n (Some change ∷ others) = change_no_data n others

module _ (r s : Responding) where
  changes_apart : (n : ℕ) (qs : List ReqPart) → told_and_sent (changes_from n qs r s) ≡ []
  changes_apart n [] = refl
  changes_apart n (q ∷ others) =
      let own = told_changes n (changes_at q.eid.number r s) in
      filter-append (λ (one : Writing). not (is_data one || is_change one)) own (changes_from (n + 1) others r s)
      ∙ ap (λ (front : List Writing). front ++ told_and_sent (changes_from (n + 1) others r s)) (change_apart n (changes_at q.eid.number r s))
      ∙ changes_apart (n + 1) others

  changes_no_data : (n : ℕ) (qs : List ReqPart) → only_data (changes_from n qs r s) ≡ []
  changes_no_data n [] = refl
  changes_no_data n (q ∷ others) =
      let own = told_changes n (changes_at q.eid.number r s) in
      filter-append is_data own (changes_from (n + 1) others r s)
      ∙ ap (λ (front : List Writing). front ++ only_data (changes_from (n + 1) others r s)) (change_no_data n (changes_at q.eid.number r s))
      ∙ changes_no_data (n + 1) others

-- They stand beside what the events lead to.
pub does_shown : (c : ScriptConfig) (d after : Device) (world : World) (entries : List Entry) (written : List Writing) (r s : Responding) → Does c d world entries written after
    → Does c d world entries (written ++ changes_from 1 c.requesters r s) after
does_shown c d after world entries written r s p =
    let changes = changes_from 1 c.requesters r s in
    let start = waiting_data c d.responder d.waits in record {
      own = p.own;
      runs = p.runs;
      told = filter-append (λ (one : Writing). not (is_data one || is_change one)) written changes
          ∙ ap (λ (rest : List Writing). told_and_sent written ++ rest) (changes_apart r s 1 c.requesters)
          ∙ append-nil (told_and_sent written)
          ∙ p.told;
      brought = ap (λ (rest : List Writing). start ++ rest)
          (filter-append is_data written changes ∙ ap (λ (rest : List Writing). only_data written ++ rest) (changes_no_data r s 1 c.requesters) ∙ append-nil (only_data written))
          ∙ p.brought;
    }

module _ (c : ScriptConfig) (r : Responding) (world : World) (h : InWorld c r world) where
  abbrev eid : ℕ
  eid = c.responder.eid.number

  abbrev brought_by : List ℕ → List Writing
  brought_by packet = data_brought (number_in c (source_of packet)) (responder_hears r packet).taken

  pub rests_does : Does c (at_rest r) world [] [] (at_rest r)
  rests_does = record { own = []; runs = none_run c r world h; told = refl; brought = refl }

  -- ---- A packet is given to the responder.

  hears_told : (packet : List ℕ) → told_and_sent (hears r packet).written ≡ told_and_sent (heard_own c r packet)
  hears_told packet =
      let step = responder_hears r packet in
      let told = Tells (Line.ToResponder step.heard) in
      ap (λ (rest : List Writing). told ∷ rest) (sym (data_left (number_in c (source_of packet)) step.taken (map Sends step.sent)))

  hears_brought : (packet : List ℕ) → only_data (heard_own c r packet) ≡ brought_by packet
  hears_brought packet = data_only (number_in c (source_of packet)) (responder_hears r packet).taken (responder_hears r packet).sent

  -- The one that waits.
  waiting_does : (packet : List ℕ) → is_packet_for eid packet ≡ true
      → Does c (record { responder = r; waits = Some packet }) world (event_of (Inject packet) ∷ []) (hears r packet).written (hears r packet).after
  waiting_does packet mine = record {
    own = heard_own c r packet;
    runs = own_runs c r world h packet mine;
    told = hears_told packet;
    brought = ap (λ (rest : List Writing). brought_by packet ++ rest) (sends_none (responder_hears r packet).sent)
        ∙ ap (λ (front : List Writing). front ++ []) (sym (hears_brought packet));
  }

  -- One that arrives.
  pub arriving_does : (packet : List ℕ) → is_packet_for eid packet ≡ true → (taken : Option (SessionId × List ℕ)) → (responder_hears r packet).taken ≡ taken
      → Does c (at_rest r) world (gives_arriving packet taken) (arrives_with c r packet taken).written (arrives_with c r packet taken).after
      × WaitsWell eid (arrives_with c r packet taken).after.responder (arrives_with c r packet taken).after.waits
  arriving_does packet mine None e = (
    record {
      own = heard_own c r packet;
      runs = own_runs c r world h packet mine;
      told = hears_told packet;
      brought = sends_none (responder_hears r packet).sent
          ∙ ap (λ (front : List Writing). front ++ []) (sym (hears_brought packet ∙ ap (data_brought (number_in c (source_of packet))) e));
    },
    tt,
  )
  arriving_does packet mine (Some taken) e = (
    record {
      own = [];
      runs = none_run c r world h;
      told = refl;
      brought = ap (data_brought (number_in c (source_of packet))) (sym e);
    },
    (mine, (taken, e)),
  )

  pub settling_does : (waits : Option (List ℕ)) → WaitsWell eid r waits
      → Does c (record { responder = r; waits = waits }) world (gives_waiting waits) (settles (record { responder = r; waits = waits })).written (settles (record { responder = r; waits = waits })).after
  settling_does None well = rests_does
  settling_does (Some packet) well = waiting_does packet well.0

  pub passing_does : (seconds : ℕ) → Does c (at_rest r) world (event_of (Tick seconds) ∷ []) [] (at_rest (ticks r seconds))
  passing_does seconds = record { own = []; runs = passed_runs c r world h seconds; told = refl; brought = refl }

  -- ---- Queued data.

  is_peer : (packet : List ℕ) (m : SessionId × List ℕ) → (responder_hears r packet).taken ≡ Some m → IsIn (map part_eid c.requesters) (source_of packet)
  is_peer packet m taken =
      let answered = brought_answered r packet m (sym (brought_taken r packet) ∙ taken) in
      let found = found_in (λ (x : Connection). x.setup.peer == source_of packet) r.connections answered.0 answered.1 in
      subst (IsIn (map part_eid c.requesters)) (eqb-true answered.0.setup.peer (source_of packet) found.1) (h.peers answered.0 found.0)

  replying_does : (packet bytes : List ℕ) → WaitsWell eid r (Some packet)
      → Does c (record { responder = r; waits = Some packet }) world (event_of (Reply (number_in c (source_of packet)) bytes) ∷ []) (Tells (Line.Reply (reply_fault_of (connection_of (source_of packet) r.connections) bytes)) ∷ [])
      (record { responder = queues (reply_fault_of (connection_of (source_of packet) r.connections) bytes) r (source_of packet) bytes; waits = Some packet })
  replying_does packet bytes well =
      let peer = source_of packet in
      let n = number_in c peer in
      let fault = reply_fault_of (connection_of peer r.connections) bytes in
      let queued = queues fault r peer bytes in record {
        own = Tells (Line.Reply fault) ∷ [];
        runs = replied_runs c r world h peer bytes (is_peer packet well.1.0 well.1.1);
        told = refl;
        brought = append-nil (brought_by packet) ∙ ap (data_brought n) (brought_taken r packet ∙ sym (queued_alike r peer bytes packet) ∙ sym (brought_taken queued packet));
      }

-- The packet that waits is given once its answer is queued.
replies_does : (c : ScriptConfig) (r : Responding) (world : World) (h : InWorld c r world) (packet bytes : List ℕ) → WaitsWell c.responder.eid.number r (Some packet)
    → Does c (record { responder = r; waits = Some packet }) world (event_of (Reply (number_in c (source_of packet)) bytes) ∷ event_of (Inject packet) ∷ []) (replies r packet bytes).written (replies r packet bytes).after
replies_does c r world h packet bytes well =
    let peer = source_of packet in
    let fault = reply_fault_of (connection_of peer r.connections) bytes in
    let queued = queues fault r peer bytes in
    let first = replying_does c r world h packet bytes well in
    let entries = event_of (Reply (number_in c peer) bytes) ∷ [] in
    does_both c (record { responder = r; waits = Some packet }) (record { responder = queued; waits = Some packet }) (hears queued packet).after world entries (event_of (Inject packet) ∷ [])
    (Tells (Line.Reply fault) ∷ []) (hears queued packet).written first (waiting_does c queued (world_from world entries) first.runs.stands packet well.0)

-- ---- A frame.

-- A packet is for the responder.
abbrev pub FrameMay : (eid : ℕ) → GivenFrame → Type 0
FrameMay eid (PacketOf packet) = is_packet_for eid packet ≡ true
FrameMay _ (TicksOf seconds) = Unit {0}
FrameMay _ (CommandOf line) = Unit {0}

pub record Done (c : ScriptConfig) (d : Device) (world : World) (entries : List Entry) (written : List Writing) (after : Device) : Type 0 where
  pub does : Does c d world entries written after
  pub well : WaitsWell c.responder.eid.number after.responder after.waits

answered_done : (c : ScriptConfig) (r : Responding) (waits : Option (List ℕ)) (world : World) → InWorld c r world → WaitsWell c.responder.eid.number r waits → (answer : Option Answer)
    → Done c (record { responder = r; waits = waits }) world (gives_answered c waits answer) (answers (record { responder = r; waits = waits }) answer).written (answers (record { responder = r; waits = waits }) answer).after
answered_done c r waits world h well None = record {
  does = record { own = []; runs = none_run c r world h; told = refl; brought = append-nil (waiting_data c r waits) };
  well = well;
}
answered_done c r None world h well (Some answer) = record { does = rests_does c r world h; well = tt }
answered_done c r (Some packet) world h well (Some WithoutData) = record { does = waiting_does c r world h packet well.0; well = tt }
answered_done c r (Some packet) world h well (Some (WithData bytes)) = record { does = replies_does c r world h packet bytes well; well = tt }

by_frame : (c : ScriptConfig) (r : Responding) (waits : Option (List ℕ)) (world : World) → InWorld c r world → WaitsWell c.responder.eid.number r waits → (frame : GivenFrame) → FrameMay c.responder.eid.number frame
    → Done c (record { responder = r; waits = waits }) world (frame_events c (record { responder = r; waits = waits }) frame) (devised_by c (record { responder = r; waits = waits }) frame).written (devised_by c (record { responder = r; waits = waits }) frame).after
by_frame c r None world h well (PacketOf packet) may =
    let arriving = arriving_does c r world h packet may (responder_hears r packet).taken refl in
    record { does = arriving.0; well = arriving.1 }
by_frame c r (Some waiting) world h well (PacketOf packet) may =
    let first = waiting_does c r world h waiting well.0 in
    let entries = event_of (Inject waiting) ∷ [] in
    let later = (responder_hears r waiting).after in
    let taken = (responder_hears later packet).taken in
    let arriving = arriving_does c later (world_from world entries) first.runs.stands packet may taken refl in record {
      does = does_both c (record { responder = r; waits = Some waiting }) (at_rest later) (arrives_with c later packet taken).after world entries (gives_arriving packet taken)
          (hears r waiting).written (arrives_with c later packet taken).written first arriving.0;
      well = arriving.1;
    }
by_frame c r None world h well (TicksOf seconds) may = record { does = passing_does c r world h seconds; well = tt }
by_frame c r (Some waiting) world h well (TicksOf seconds) may =
    let first = waiting_does c r world h waiting well.0 in
    let entries = event_of (Inject waiting) ∷ [] in
    let later = (responder_hears r waiting).after in record {
      does = does_both c (record { responder = r; waits = Some waiting }) (at_rest later) (at_rest (ticks later seconds)) world entries (event_of (Tick seconds) ∷ [])
          (hears r waiting).written [] first (passing_does c later (world_from world entries) first.runs.stands seconds);
      well = tt;
    }
by_frame c r waits world h well (CommandOf line) may = answered_done c r waits world h well (answer_in line)

pub frame_done : (c : ScriptConfig) (d : Device) (world : World) → InWorld c d.responder world → WaitsWell c.responder.eid.number d.responder d.waits → (frame : GivenFrame) → FrameMay c.responder.eid.number frame
    → Done c d world (frame_events c d frame) (devised_by c d frame).written (devised_by c d frame).after
frame_done c d world h well frame may = by_frame c d.responder d.waits world h well frame may
