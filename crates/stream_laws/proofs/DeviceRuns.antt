-- What events of a world lead to at a device, one after another.
use Rattle.std.proofs.Common.{◌≡◌, ◌∙◌, ℕ, List, [], ◌∷◌, ◌++◌, refl, sym, ap, subst}
use Rattle.std.proofs.lemmas.Grind.{flat_map-append}
use Rattle.std.proofs.lemmas.List.{append-nil, append_assoc}
use Rattle.device_serve.specs.Devised.{Writing, number_in}
use Rattle.device_serve.specs.Devised.Writing.{Tells}
use Rattle.requester_machine.specs.Message.{Command}
use Rattle.responder_machine.specs.Responding.{Responding, connection_of, queues, reply_fault_of, responder_hears, ticks}
use Rattle.script_text.specs.declared.configuration.config.ScriptConfig.{ScriptConfig}
use Rattle.spdm_grammar.specs.Lines.{Line}
use Rattle.spdm_machine.proofs.Members.{IsIn}
use Rattle.std.specs.Prelude.{map, true, false}
use Rattle.stream_laws.proofs.DeviceSteps.{InWorld, Leads, heard_own, other_leads, own_leads, passed_leads, replied_leads, told_leads}
use Rattle.stream_laws.proofs.Numbers.{part_eid}
use Rattle.stream_laws.specs.Carriage.{event_of}
use Rattle.stream_laws.specs.Coming.{is_packet_for}
use Rattle.stream_laws.specs.Devices.{device_line, device_lines}
use Rattle.world_machine.specs.Happenings.{Entry, Happening}
use Rattle.world_machine.specs.Happenings.Happening.{Inject, Reply, Tick, Told}
use Rattle.world_machine.specs.Trace.{lines_from, world_from}
use Rattle.world_machine.specs.World.{World, entry_step, happens}

-- ---- Events behind others.

pub lines_append : (world : World) (xs ys : List Entry) → lines_from world (xs ++ ys) ≡ lines_from world xs ++ lines_from (world_from world xs) ys
lines_append world [] ys = refl
lines_append world (x ∷ xs) ys =
    let step = entry_step world x in
    ap (λ (rest : List Line). step.lines ++ rest) (lines_append step.after xs ys)
    ∙ sym (append_assoc step.lines (lines_from step.after xs) (lines_from (world_from step.after xs) ys))

pub world_append : (world : World) (xs ys : List Entry) → world_from world (xs ++ ys) ≡ world_from (world_from world xs) ys
world_append world [] ys = refl
world_append world (x ∷ xs) ys = world_append (entry_step world x).after xs ys

-- ---- Runs.

-- These are the lines of the events that are of the device, and so the responder stands behind them.
pub record Runs (c : ScriptConfig) (world : World) (entries : List Entry) (own : List Writing) (after : Responding) : Type 0 where
  pub lines : device_lines c.responder.eid.number (lines_from world entries) ≡ own
  pub stands : InWorld c after (world_from world entries)

pub none_run : (c : ScriptConfig) (r : Responding) (world : World) → InWorld c r world → Runs c world [] [] r
none_run c r world h = record { lines = refl; stands = h }

pub both_run : (c : ScriptConfig) (world : World) (xs ys : List Entry) (one two : List Writing) (between after : Responding)
    → Runs c world xs one between → Runs c (world_from world xs) ys two after → Runs c world (xs ++ ys) (one ++ two) after
both_run c world xs ys one two between after p q =
    let eid = c.responder.eid.number in
    let first = lines_from world xs in
    let later = lines_from (world_from world xs) ys in record {
      lines = ap (device_lines eid) (lines_append world xs ys) ∙ flat_map-append (device_line eid) first later
          ∙ ap (λ (front : List Writing). front ++ device_lines eid later) p.lines ∙ ap (λ (rest : List Writing). one ++ rest) q.lines;
      stands = subst (λ (w : World). InWorld c after w) (sym (world_append world xs ys)) q.stands;
    }

one_runs : (c : ScriptConfig) (world : World) (happening : Happening) (own : List Writing) (after : Responding) → Leads c (happens world happening) own after → Runs c world (event_of happening ∷ []) own after
one_runs c world happening own after p = record {
  lines = ap (device_lines c.responder.eid.number) (append-nil (happens world happening).lines) ∙ p.lines;
  stands = p.stands;
}

module _ (c : ScriptConfig) (r : Responding) (world : World) (h : InWorld c r world) where
  pub told_runs : (command : Command) → Runs c world (event_of (Told 1 command) ∷ []) [] r
  unfolding happens
  told_runs command = one_runs c world (Told 1 command) [] r (told_leads c r world h 1 command)

  pub other_runs : (packet : List ℕ) → is_packet_for c.responder.eid.number packet ≡ false → Runs c world (event_of (Inject packet) ∷ []) [] r
  unfolding happens
  other_runs packet other = one_runs c world (Inject packet) [] r (other_leads c r world h packet other)

  pub own_runs : (packet : List ℕ) → is_packet_for c.responder.eid.number packet ≡ true → Runs c world (event_of (Inject packet) ∷ []) (heard_own c r packet) (responder_hears r packet).after
  unfolding happens
  own_runs packet mine = one_runs c world (Inject packet) (heard_own c r packet) (responder_hears r packet).after (own_leads c r world h packet mine)

  pub passed_runs : (seconds : ℕ) → Runs c world (event_of (Tick seconds) ∷ []) [] (ticks r seconds)
  unfolding happens
  passed_runs seconds = one_runs c world (Tick seconds) [] (ticks r seconds) (passed_leads c r world h seconds)

  pub replied_runs : (peer : ℕ) (bytes : List ℕ) → IsIn (map part_eid c.requesters) peer
      → Runs c world (event_of (Reply (number_in c peer) bytes) ∷ []) (Tells (Line.Reply (reply_fault_of (connection_of peer r.connections) bytes)) ∷ []) (queues (reply_fault_of (connection_of peer r.connections) bytes) r peer bytes)
  unfolding happens
  replied_runs peer bytes is =
      let fault = reply_fault_of (connection_of peer r.connections) bytes in
      one_runs c world (Reply (number_in c peer) bytes) (Tells (Line.Reply fault) ∷ []) (queues fault r peer bytes) (replied_leads c r world h peer bytes is)
