-- The lines of a packet that was given to the responder, by what is told and the data that came last.
use Rattle.std.proofs.Common.{refl, ◌≡◌, ◌∙◌, ◌∷◌, ℕ, List, [], Bool, true, false, Option, Some, None, ap, sym}
use Rattle.std.specs.Prelude.{◌==◌, if◌then◌else◌, is_some, not, Result, Ok, Err}
use Rattle.link_world.proofs.Changing.{whole_either}
use Rattle.link_world.specs.Told.{heard_data, heard_lines, is_taken}
use Rattle.mctp_framing.specs.Cutting.{RouteFields}
use Rattle.mctp_framing.specs.Gathering.{Gathered}
use Rattle.mctp_framing.specs.Gathering.Gathered.{Dropped, More, Whole}
use Rattle.mctp_framing.specs.Packet.{PacketFields, parsed}
use Rattle.requester_machine.specs.Asking.{Outcome as asked}
use Rattle.responder.proofs.Data.{TellsData, body_data}
use Rattle.responder.specs.Came.{data_or, last_for}
use Rattle.responder_machine.specs.Does.{responder_does}
use Rattle.responder_machine.specs.Heard.{heard_of}
use Rattle.responder_machine.specs.History as served
use Rattle.responder_machine.specs.History.{Entry as entry}
use Rattle.responder_machine.specs.Responder as answering
use Rattle.responder_machine.specs.Responder.{Outcome as outcome}
use Rattle.responder_machine.specs.Responding as responding
use Rattle.responder_machine.specs.Responding.{Connection, Responding, RspStep, connection_of, data_of, last_data, responder_hears, with_taken}
use Rattle.responder_machine.specs.Turn.{Effect}
use Rattle.responder_machine.specs.Turn.{Effect as effect}
use Rattle.spdm_basis.specs.declared.PacketFault.{PacketFault}
use Rattle.spdm_basis.specs.declared.causes.drop_cause.DropCause.TheVariants.{NotOurs}
use Rattle.spdm_basis.specs.declared.values.session_id.SessionId.{SessionId}
use Rattle.spdm_grammar.specs.Lines.{Line}
use Rattle.spdm_grammar.specs.Lines.Line.{ToResponder}
use Rattle.spdm_grammar.specs.Message.{ChunkMessage}
use Rattle.spdm_grammar.specs.declared.messages.error_code.ErrorCode.{ErrorCode}
use Rattle.spdm_grammar.specs.declared.told.heard.Heard.{Heard}
use Rattle.spdm_grammar.specs.declared.told.heard.Heard.TheVariants as heard
use Rattle.spdm_grammar.specs.declared.told.heard.RspIgnored.TheVariants as ignored
use Rattle.spdm_machine.specs.Keys.{Draw}
use Rattle.spdm_machine.specs.Packets.{gathered_from}
use Rattle.world_machine.specs.World.{taken_lines}

-- The lines are those of what is told and of the data.
abbrev pub HeardAs : ℕ → Heard → (last : List ℕ) → Option (SessionId × List ℕ) → Type 0
HeardAs n told last taken = heard_lines n told last ≡ ToResponder told ∷ taken_lines n taken

-- The first of them, where there is one.
abbrev last_of : Responding → (taken : List (List ℕ)) → List ℕ
last_of r taken = last_data (record r { taken = taken })

-- What is reported of a turn in which data do not come: no data would be told.
not_both : (x : List ℕ) → x ≡ [] → x ≡ 0 ∷ [] → ⊥
not_both x a b = cc (a, b)

-- An entry in the clear, of which no data are kept.
clear_entry : (n : ℕ) (last : List ℕ) (tag : ℕ) (m : List ℕ) (x : Option ErrorCode) (chunk : Option ChunkMessage) (g : Effect) (reply : List ℕ) (d : Draw) (h : served.History)
    → ((before : List ℕ) → last_for (heard_of (outcome.Adds (entry.Clear tag (record { message = m; refused = x; chunk = chunk; effect = g; reply = reply }) d))) h before ≡ before)
    → heard_data n (heard_of (outcome.Adds (entry.Clear tag (record { message = m; refused = x; chunk = chunk; effect = g; reply = reply }) d))) last ≡ []
clear_entry n last tag m (Some e) chunk g reply d h none = refl
clear_entry n last tag m None chunk (effect.NoEffect) reply d h none = refl
clear_entry n last tag m None chunk (effect.Took asked request whole large) reply d h none = refl
clear_entry n last tag m None chunk (effect.TookData bytes sent) reply d h none = absurd (not_both _ (none []) (none (0 ∷ [])))

-- A record, whose data are the last.
record_entry : (n : ℕ) (r : Responding) (tag : ℕ) (sealed m : List ℕ) (x : Option ErrorCode) (chunk : Option ChunkMessage) (g : Effect) (answer reply : List ℕ) (d : Draw) (h : served.History)
    → ((before : List ℕ) → last_for (heard_of (outcome.Adds (entry.Sealed tag sealed (record { message = m; refused = x; chunk = chunk; effect = g; reply = answer }) reply d))) h before
    ≡ data_or before (responding.data_in sealed g))
    → HeardAs n (heard_of (outcome.Adds (entry.Sealed tag sealed (record { message = m; refused = x; chunk = chunk; effect = g; reply = answer }) reply d))) (last_of r (with_taken (responding.data_in sealed g) r.taken)) (responding.data_in sealed g)
record_entry n r tag sealed m (Some e) chunk (effect.NoEffect) answer reply d h same = refl
record_entry n r tag sealed m (Some e) chunk (effect.Took asked request whole large) answer reply d h same = refl
record_entry n r tag sealed m (Some e) chunk (effect.TookData bytes sent) answer reply d h same = absurd (not_both bytes (sym (same [])) (sym (same (0 ∷ []))))
record_entry n r tag sealed m None chunk (effect.NoEffect) answer reply d h same = refl
record_entry n r tag sealed m None chunk (effect.Took asked request whole large) answer reply d h same = refl
record_entry n r tag sealed m None chunk (effect.TookData bytes sent) answer reply d h same = refl

outcome_tells : (n : ℕ) (r : Responding) (h : served.History) (o : answering.Outcome) → ((before : List ℕ) → TellsData h before o) → HeardAs n (heard_of o) (last_of r (with_taken (data_of o) r.taken)) (data_of o)
outcome_tells n r h (outcome.Same body) tells = refl
outcome_tells n r h (outcome.Unopened body) tells = refl
outcome_tells n r h (outcome.Adds (entry.Clear tag t d)) tells =
    ap (λ (l : List Line). ToResponder (heard_of (outcome.Adds (entry.Clear tag t d))) ∷ l)
    (clear_entry n (last_of r r.taken) tag t.message t.refused t.chunk t.effect t.reply d (answering.after h (outcome.Adds (entry.Clear tag t d))) (λ before. (tells before).same))
outcome_tells n r h (outcome.Adds (entry.Sealed tag sealed t reply d)) tells =
    record_entry n r tag sealed t.message t.refused t.chunk t.effect t.reply reply d (answering.after h (outcome.Adds (entry.Sealed tag sealed t reply d))) (λ before. (tells before).same)
outcome_tells n r h (outcome.Adds (entry.Queued bytes)) tells = refl
outcome_tells n r h (outcome.Adds (entry.Ticked seconds)) tells = refl
outcome_tells n r h (outcome.Adds _) tells = refl

-- The step of a packet tells its data.
abbrev pub StepTells : ℕ → RspStep → Type 0
StepTells n step = HeardAs n step.heard (last_data step.after) step.taken

either_step : (n : ℕ) (b : Bool) (x y : RspStep) → StepTells n x → StepTells n y → StepTells n (if b then x else y)
either_step n true x y a b = a
either_step n false x y a b = b

whole_tells : (n : ℕ) (r : Responding) (d : Draw) (c : Connection) (packet : List ℕ) (route : RouteFields) (body : List ℕ) → StepTells n (responding.hears_whole r d c packet route body)
whole_tells n r d c packet route body =
    whole_either (StepTells n) r d c packet route body refl refl (outcome_tells n r c.history (responder_does c.setup c.history route.tag body d) (body_data c.setup c.history route.tag body d))

gathered_tells : (n : ℕ) (r : Responding) (d : Draw) (c : Connection) (packet : List ℕ) (gathered : Gathered) → StepTells n (responding.hears_gathered r d c packet gathered)
gathered_tells n r d c packet (Whole route body) = whole_tells n r d c packet route body
gathered_tells n r d c packet More = refl
gathered_tells n r d c packet (Dropped cause) = refl

from_tells : (n : ℕ) (r : Responding) (d : Draw) (packet : List ℕ) (fields : PacketFields) (c : Option Connection) → StepTells n (responding.hears_from r d packet fields c)
from_tells n r d packet fields None = refl
from_tells n r d packet fields (Some c) = gathered_tells n r d c packet (gathered_from c.setup.eid c.setup.peer r.given fields)

packet_tells : (n : ℕ) (r : Responding) (d : Draw) (packet : List ℕ) (fields : Result PacketFields PacketFault) → StepTells n (responding.hears_packet r d packet fields)
packet_tells n r d packet (Err fault) = refl
packet_tells n r d packet (Ok fields) = either_step n (not (fields.to == r.part.eid)) (responding.ignores r packet (heard.Ignored (ignored.Dropped NotOurs))) (responding.hears_from r d packet fields (connection_of fields.from r.connections)) refl (from_tells n r d packet fields (connection_of fields.from r.connections))

pub responder_tells : (n : ℕ) (r : Responding) (packet : List ℕ) → StepTells n (responder_hears r packet)
unfolding responder_hears
responder_tells n r packet = either_step n (responding.is_worn r) _ _ refl (packet_tells n r (responding.next_draw r) packet (parsed packet))

-- Data were taken where that is told, and nowhere else.
abbrev has_second : List Line → Bool
has_second [] = false
has_second (first ∷ []) = false
has_second (first ∷ (second ∷ others)) = true

taken_second : (n : ℕ) (told : Heard) (taken : Option (SessionId × List ℕ)) → has_second (ToResponder told ∷ taken_lines n taken) ≡ is_some taken
taken_second n told None = refl
taken_second n told (Some taken) = refl

heard_second : (n : ℕ) (told : Heard) (last : List ℕ) → has_second (heard_lines n told last) ≡ is_taken told
heard_second n (heard.Taken id) last = refl
heard_second n (heard.Answered code) last = refl
heard_second n (heard.Refused code) last = refl
heard_second n heard.Unopened last = refl
heard_second n heard.Same last = refl
heard_second n heard.More last = refl
heard_second n (heard.Ignored cause) last = refl

pub tells_taken : (r : Responding) (packet : List ℕ) → is_some (responder_hears r packet).taken ≡ is_taken (responder_hears r packet).heard
tells_taken r packet =
    let step = responder_hears r packet in
    sym (taken_second 0 step.heard step.taken) ∙ sym (ap has_second (responder_tells 0 r packet)) ∙ heard_second 0 step.heard (last_data step.after)
