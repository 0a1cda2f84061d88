-- What one step of an end adds to the application messages that it ever took.
use Rattle.std.proofs.Common.{refl, ◌≡◌, ◌∙◌, ◌+◌, ◌∷◌, [], ℕ, List, Bool, true, false, Option, Some, None, ap, arith, map}
use Rattle.std.specs.Prelude.{◌==◌, if◌then◌else◌, is_some, not, unwrap_or, Result, Ok, Err}
use Rattle.script_ends.proofs.Brings.{EntryAgrees, entry_agrees}
use Rattle.link_world.proofs.Changing.{whole_either}
use Rattle.link_world.specs.Standing.{peers_of}
use Rattle.script_ends.specs.Told.{is_answered}
use Rattle.mctp_framing.specs.Cutting.{RouteFields}
use Rattle.mctp_framing.specs.Gathering.{Gathered}
use Rattle.mctp_framing.specs.Gathering.Gathered.{Dropped, More, Whole}
use Rattle.mctp_framing.specs.Packet.{PacketFields, parsed}
use Rattle.requester_machine.specs.Asking.{Outcome, asks, asks_by, done, resent}
use Rattle.requester_machine.specs.Asking.{Outcome as asked}
use Rattle.requester_machine.specs.Commands.{Free, command_fault}
use Rattle.requester_machine.specs.Does.{body_chosen, command_chosen, requester_asks, requester_hears}
use Rattle.requester_machine.specs.History as asking
use Rattle.requester_machine.specs.History.Entry.{Told, TookClear, TookRecord}
use Rattle.requester_machine.specs.Message.{Command, Sent}
use Rattle.requester_machine.specs.Message.{Command as tell}
use Rattle.requester_machine.specs.Requesting as requesting
use Rattle.requester_machine.specs.Requesting.{CommandStep, PacketStep, Requesting, requester_given, requester_told}
use Rattle.requester_machine.specs.Setup.{ReqSetup}
use Rattle.requester_machine.specs.Shown as shown
use Rattle.responder_machine.proofs.Connected.{KeepsSetup, PeersDiffer, changed_keeps, count_changed}
use Rattle.responder_machine.specs.Does.{responder_does}
use Rattle.responder_machine.specs.History as served
use Rattle.responder_machine.specs.History.{Entry as entry}
use Rattle.responder_machine.specs.Responder as answering
use Rattle.responder_machine.specs.Responder.{Outcome as outcome}
use Rattle.responder_machine.specs.Responding as responding
use Rattle.responder_machine.specs.Responding.{Connection, Responding, RspStep, changed, changed_if, connection_of, data_in, data_of, over_all, responder_hears, with_history}
use Rattle.responder_machine.specs.Setup.{RspSetup}
use Rattle.responder_machine.specs.Turn.{Effect, is_data}
use Rattle.responder_machine.specs.Turn.{Effect as effect}
use Rattle.spdm_basis.specs.declared.PacketFault.{PacketFault}
use Rattle.spdm_basis.specs.declared.causes.drop_cause.DropCause.TheVariants.{NotOurs}
use Rattle.spdm_grammar.specs.declared.told.command_fault.CommandFault.{CommandFault}
use Rattle.spdm_grammar.specs.declared.told.event.Event.TheVariants as event
use Rattle.spdm_grammar.specs.declared.told.heard.Heard.{Heard}
use Rattle.spdm_grammar.specs.declared.told.heard.Heard.TheVariants as heard
use Rattle.spdm_grammar.specs.declared.told.heard.RspIgnored.TheVariants as ignored
use Rattle.spdm_machine.proofs.Members.{IsIn, found_in}
use Rattle.spdm_machine.specs.Keys.{Draw}
use Rattle.spdm_machine.specs.Packets.{gathered_from}
use Rattle.spdm_machine.specs.Sessions.{one_if}

none_more : (n : ℕ) → n ≡ n + 0
none_more n = omega arith

one_more : (b : Bool) (n : ℕ) → (if b then n + 1 else n) ≡ n + one_if b
one_more true n = refl
one_more false n = none_more n

-- ---- The responder.

effect_counts : (g : Effect) (sealed : List ℕ) (n : ℕ) → (if is_data g then n + 1 else n) ≡ n + one_if (is_some (data_in sealed g))
effect_counts (effect.NoEffect) sealed n = none_more n
effect_counts (effect.Took asked request answer large) sealed n = none_more n
effect_counts (effect.TookData bytes answer) sealed n = refl

outcome_counts : (h : served.History) (o : answering.Outcome) → served.all_taken (answering.after h o) ≡ served.all_taken h + one_if (is_some (data_of o))
outcome_counts h (outcome.Same body) = none_more (served.all_taken h)
outcome_counts h (outcome.Unopened body) = none_more (served.all_taken h)
outcome_counts h (outcome.Adds (entry.Clear tag t d)) = none_more (served.all_taken h)
outcome_counts h (outcome.Adds (entry.Sealed tag sealed t reply d)) = effect_counts t.effect sealed (served.all_taken h)
outcome_counts h (outcome.Adds (entry.Queued bytes)) = none_more (served.all_taken h)
outcome_counts h (outcome.Adds (entry.Ticked seconds)) = none_more (served.all_taken h)
outcome_counts h (outcome.Adds (entry.Dropped id)) = none_more (served.all_taken h)

-- Connections that keep their set-up are with the same requesters.
pub same_peers : (f : Connection → Connection) (cs : List Connection) → KeepsSetup f → peers_of (map f cs) ≡ peers_of cs
same_peers f [] keeps = refl
same_peers f (c ∷ cs) keeps =
    ap (λ (s : RspSetup). s.peer ∷ peers_of (map f cs)) (keeps c) ∙ ap (λ (l : List ℕ). c.setup.peer ∷ l) (same_peers f cs keeps)

-- A packet changes no endpoint of a connection, and counts one message more where it brought one.
pub record Counts (r : Responding) (step : RspStep) : Type 0 where
  pub peers : peers_of step.after.connections ≡ peers_of r.connections
  pub taken : over_all served.all_taken step.after.connections ≡ over_all served.all_taken r.connections + one_if (is_some step.taken)

ignored_counts : (r : Responding) (packet : List ℕ) (told : Heard) → Counts r (responding.ignores r packet told)
ignored_counts r packet told = record { peers = refl; taken = none_more (over_all served.all_taken r.connections) }

module _ (r : Responding) (apart : PeersDiffer r.connections) (d : Draw) (packet : List ℕ) where
  answer_counts : (c : Connection) (route : RouteFields) (body : List ℕ) (o : answering.Outcome) → IsIn r.connections c → Counts r (responding.answers r c packet route body o)
  answer_counts c route body o is =
      let more = count_changed served.all_taken (λ h. answering.after h o) r.connections c apart is in
      let own = outcome_counts c.history o in
      record {
        peers = same_peers (changed_if c.setup.peer (λ h. answering.after h o)) r.connections (changed_keeps c.setup.peer (λ h. answering.after h o));
        taken = omega (arith, more, own);
      }

  either_counts : (b : Bool) (x y : RspStep) → Counts r x → Counts r y → Counts r (if b then x else y)
  either_counts true x y a b = a
  either_counts false x y a b = b

  gathered_counts : (c : Connection) (gathered : Gathered) → IsIn r.connections c → Counts r (responding.hears_gathered r d c packet gathered)
  gathered_counts c (Whole route body) is =
      whole_either (Counts r) r d c packet route body (ignored_counts r packet _) (ignored_counts r packet _)
      (answer_counts c route body (responder_does c.setup c.history route.tag body d) is)
  gathered_counts c More is = ignored_counts r packet _
  gathered_counts c (Dropped cause) is = ignored_counts r packet _

  from_counts : (fields : PacketFields) (c : Option Connection) → connection_of fields.from r.connections ≡ c → Counts r (responding.hears_from r d packet fields c)
  from_counts fields None is = ignored_counts r packet _
  from_counts fields (Some c) is =
      gathered_counts c (gathered_from c.setup.eid c.setup.peer r.given fields) (found_in (λ (x : Connection). x.setup.peer == fields.from) r.connections c is).0

  packet_counts : (fields : Result PacketFields PacketFault) → Counts r (responding.hears_packet r d packet fields)
  packet_counts (Err fault) = ignored_counts r packet _
  packet_counts (Ok fields) =
      either_counts (not (fields.to == r.part.eid)) (responding.ignores r packet (heard.Ignored (ignored.Dropped NotOurs)))
      (responding.hears_from r d packet fields (connection_of fields.from r.connections)) (ignored_counts r packet _)
      (from_counts fields (connection_of fields.from r.connections) refl)

pub responder_counts : (r : Responding) (packet : List ℕ) → PeersDiffer r.connections → Counts r (responder_hears r packet)
unfolding responder_hears
responder_counts r packet apart =
    either_counts r apart (responding.next_draw r) packet (responding.is_worn r) _ _ (record { peers = refl; taken = none_more (over_all served.all_taken r.connections) })
    (packet_counts r apart (responding.next_draw r) packet (parsed packet))

-- ---- Queued data and time bring nothing.

abbrev queued : List ℕ → served.History → served.History
queued bytes h = entry.Queued bytes ∷ h

one_queued : (bytes : List ℕ) (b : Bool) (c : Connection) → served.all_taken (if b then changed (queued bytes) c else c).history ≡ served.all_taken c.history
one_queued bytes true c = refl
one_queued bytes false c = refl

pub queued_counts : (eid : ℕ) (bytes : List ℕ) (cs : List Connection) → over_all served.all_taken (with_history eid (λ h. entry.Queued bytes ∷ h) cs) ≡ over_all served.all_taken cs
queued_counts eid bytes [] = refl
queued_counts eid bytes (c ∷ cs) =
    ap (λ (n : ℕ). n + over_all served.all_taken (with_history eid (queued bytes) cs)) (one_queued bytes (c.setup.peer == eid) c)
    ∙ ap (λ (n : ℕ). served.all_taken c.history + n) (queued_counts eid bytes cs)

pub ticked_counts : (seconds : ℕ) (cs : List Connection) → over_all served.all_taken (map (changed (λ h. entry.Ticked seconds ∷ h)) cs) ≡ over_all served.all_taken cs
ticked_counts seconds [] = refl
ticked_counts seconds (c ∷ cs) = ap (λ (n : ℕ). served.all_taken c.history + n) (ticked_counts seconds cs)

-- ---- A requester.

entry_counts : (h : asking.History) (e : asking.Entry) → EntryAgrees e → shown.all_taken (e ∷ h) ≡ shown.all_taken h + one_if (is_answered (unwrap_or (shown.event_in e) event.More))
entry_counts h (Told command sent d) agrees = none_more (shown.all_taken h)
entry_counts h (TookClear tag m led d) agrees =
    one_more (is_some (shown.bytes_in led.effect)) (shown.all_taken h) ∙ ap (λ (b : Bool). shown.all_taken h + one_if b) agrees.bytes
entry_counts h (TookRecord tag id sealed inner led d) agrees =
    one_more (is_some (shown.bytes_in led.effect)) (shown.all_taken h) ∙ ap (λ (b : Bool). shown.all_taken h + one_if b) agrees.bytes

asked_counts : (h : asking.History) (o : Outcome) → ((e : asking.Entry) → o ≡ asked.Adds e → EntryAgrees e)
    → shown.all_taken (shown.after h o) ≡ shown.all_taken h + one_if (is_answered (unwrap_or (shown.event_of o) event.More))
asked_counts h (asked.Fails fault) agrees = none_more (shown.all_taken h)
asked_counts h (asked.Ignores cause) agrees = none_more (shown.all_taken h)
asked_counts h (asked.Warns code) agrees = none_more (shown.all_taken h)
asked_counts h (asked.Resends sent) agrees = none_more (shown.all_taken h)
asked_counts h (asked.Adds e) agrees = entry_counts h e (agrees e refl)

-- A packet counts one message more exactly when application data of the requester were answered.
abbrev pub GivenCounts : Requesting → PacketStep → Type 0
GivenCounts a step = shown.all_taken step.after.history ≡ shown.all_taken a.history + one_if (is_answered step.event)

either_given : (a : Requesting) (b : Bool) (x y : PacketStep) → GivenCounts a x → GivenCounts a y → GivenCounts a (if b then x else y)
either_given a true x y p q = p
either_given a false x y p q = q

gathered_given : (a : Requesting) (packet : List ℕ) (gathered : Gathered) → GivenCounts a (requesting.hears_gathered a packet gathered)
gathered_given a packet (Whole route body) =
    asked_counts a.history (requester_hears a.setup a.history route.owner route.tag body (requesting.next_draw a))
    (λ e is. entry_agrees a.setup a.history route.owner route.tag body (body_chosen a.setup a.history (requesting.next_draw a)) (requesting.next_draw a) e is)
gathered_given a packet More = none_more (shown.all_taken a.history)
gathered_given a packet (Dropped cause) = none_more (shown.all_taken a.history)

packet_given : (a : Requesting) (packet : List ℕ) (fields : Result PacketFields PacketFault) → GivenCounts a (requesting.hears_packet a packet fields)
packet_given a packet (Err fault) = none_more (shown.all_taken a.history)
packet_given a packet (Ok fields) = gathered_given a packet _

pub requester_counts : (a : Requesting) (packet : List ℕ) → GivenCounts a (requester_given a packet)
unfolding requester_given
requester_counts a packet = either_given a (requesting.is_worn a) _ _ (none_more (shown.all_taken a.history)) (packet_given a packet (parsed packet))

-- ---- A command brings nothing.

resent_counts : (h : asking.History) (waiting : Option Sent) → shown.all_taken (shown.after h (resent waiting)) ≡ shown.all_taken h
resent_counts h None = refl
resent_counts h (Some sent) = refl

done_counts : (q : ReqSetup) (h : asking.History) (command : Command) (f : Free) (d : Draw) → shown.all_taken (shown.after h (done q h command f d)) ≡ shown.all_taken h
done_counts q h tell.Connect f d = refl
done_counts q h (tell.Open summary) f d = refl
done_counts q h (tell.Send id bytes) f d = refl
done_counts q h (tell.Beat id) f d = refl
done_counts q h (tell.Update id all) f d = refl
done_counts q h (tell.Measure None op) f d = refl
done_counts q h (tell.Measure (Some id) op) f d = refl
done_counts q h (tell.End id) f d = refl
done_counts q h tell.Retry f d = resent_counts h (asking.outstanding h)

by_fault : (q : ReqSetup) (h : asking.History) (command : Command) (f : Free) (d : Draw) (fault : Option CommandFault)
    → shown.all_taken (shown.after h (asks_by q h command f d fault)) ≡ shown.all_taken h
by_fault q h command f d (Some fault) = refl
by_fault q h command f d None = done_counts q h command f d

asks_counts : (worn : Bool) (q : ReqSetup) (h : asking.History) (command : Command) (d : Draw) → shown.all_taken (shown.after h (requester_asks worn q h command d)) ≡ shown.all_taken h
unfolding asks
asks_counts worn q h command d = by_fault q h command (command_chosen q h d) d (command_fault worn q h command (command_chosen q h d))

either_told : (a : Requesting) (b : Bool) (x y : CommandStep) → shown.all_taken x.after.history ≡ shown.all_taken a.history → shown.all_taken y.after.history ≡ shown.all_taken a.history
    → shown.all_taken (if b then x else y).after.history ≡ shown.all_taken a.history
either_told a true x y p q = p
either_told a false x y p q = q

pub told_counts : (a : Requesting) (command : Command) → shown.all_taken (requester_told a command).after.history ≡ shown.all_taken a.history
unfolding requester_told
told_counts a command = either_told a (requesting.is_worn a) _ _ refl (asks_counts false a.setup a.history command (requesting.next_draw a))
