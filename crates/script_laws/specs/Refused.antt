-- What the responder refuses, what such a request gets, and what it changes, at every event of every script. This
-- project's own.
use Rattle.std.specs.Prelude.{◌≡◌, ◌≢◌, ◌==◌, ◌||◌, ◌++◌, ℕ, List, [], ◌∷◌, drop, slice_index, if◌then◌else◌, Bool, true, false, Option, Some, None, Ok, MatchBool}
use Rattle.std.specs.Option.{option_or}
use Rattle.mctp_framing.specs.Cutting.{RouteFields}
use Rattle.mctp_framing.specs.Gathering.Gathered.{Whole}
use Rattle.mctp_framing.specs.Packet.{PacketFields, parsed}
use Rattle.responder.specs.Unharmed.{IsHarmless}
use Rattle.responder_machine.specs.Answer.{Free, request_at}
use Rattle.responder_machine.specs.Does.{clear_chosen, record_chosen, responder_does}
use Rattle.responder_machine.specs.Handling.{error_bytes}
use Rattle.responder_machine.specs.Heard.{heard_of}
use Rattle.responder_machine.specs.History.{History, ended_of, kept_of}
use Rattle.responder_machine.specs.Laws.{completed_at}
use Rattle.responder_machine.specs.Place.{clear_place, inside, session_place}
use Rattle.responder_machine.specs.Records.{opened, opening_fault, response_purpose}
use Rattle.responder_machine.specs.Refusal.{refusal}
use Rattle.responder_machine.specs.RefusalLaws.{IsSameBesideChunks}
use Rattle.responder_machine.specs.Responder.{after, body_of, inner_refusal, is_repeat, repeats}
use Rattle.responder_machine.specs.Responding.{Connection, Responding, connection_of, is_worn, next_draw, responder_hears, with_history}
use Rattle.responder_machine.specs.SameSession.{IsSameConnection, IsSameSession}
use Rattle.responder_machine.specs.Session.{Events, id_bytes, id_in_record, last_of, response_next, session_of, session_terms, stage_of}
use Rattle.responder_machine.specs.Setup.{RspSetup}
use Rattle.script_text.specs.ScriptText.{script_in}
use Rattle.script_text.specs.declared.events.event.Entry.{Entry}
use Rattle.script_text.specs.declared.texts.script.Script.{Script}
use Rattle.link_world.specs.Events.{happening_of}
use Rattle.script_laws.specs.Given.{IsGivenIn}
use Rattle.script_laws.specs.Scripts.{world_in}
use Rattle.spdm_grammar.specs.ErrorNumber.{error_number}
use Rattle.spdm_grammar.specs.Message.{ChunkMessage}
use Rattle.spdm_grammar.specs.Message.RequestMessage.{ChunkSend}
use Rattle.spdm_grammar.specs.declared.messages.error_code.ErrorCode.{ErrorCode}
use Rattle.spdm_grammar.specs.declared.told.heard.Heard.TheVariants as heard
use Rattle.spdm_machine.specs.Bodies.{clear_body, record_body}
use Rattle.spdm_machine.specs.Keys.{Draw, sealed_of}
use Rattle.spdm_machine.specs.Packets.{body_type, gathered_from, packets_to}
use Rattle.world_machine.specs.World.{World}
use Rattle.spdm_grammar.specs.declared.names.message_type.TheConstants.{SECURED, SPDM}

-- No event of a session.
abbrev pub is_empty : Events → Bool
is_empty [] = true
is_empty (event ∷ others) = false

-- ---- What the table refuses.

-- Why the table refuses an inner message: before it is read as a request, or as a request.
abbrev pub inner_code : RspSetup → Events → List ℕ → Free → Option ErrorCode
inner_code r s inner f =
    option_or (inner_refusal (stage_of s) inner) (if slice_index inner 0 == SPDM then refusal r (session_place s) (drop 1 inner) f else None)

-- A clear message that is no repeat, and that the table refuses.
pub record IsRefusedMessage (r : RspSetup) (h : History) (tag : ℕ) (m : List ℕ) (d : Draw) (e : ErrorCode) : Type 0 where
  pub anew : is_repeat (kept_of h) tag m ≡ false
  pub refused : refusal r (clear_place h) m (clear_chosen r h d) ≡ Some e

-- A record that comes anew, names this session, opens in it, and holds a message that the table refuses.
pub record IsRefusedRecord (r : RspSetup) (h : History) (sealed : List ℕ) (d : Draw) (e : ErrorCode) : Type 0 where
  pub not_ended : repeats (ended_of h) sealed ≡ false
  pub some : is_empty (session_of (id_in_record sealed) h) ≡ false
  pub not_last : repeats (last_of (session_of (id_in_record sealed) h)) sealed ≡ false
  pub opens : opening_fault r.psk (session_of (id_in_record sealed) h) sealed ≡ None
  pub refused : inner_code r (session_of (id_in_record sealed) h) (opened r.psk (session_of (id_in_record sealed) h) sealed) (record_chosen r h sealed d) ≡ Some e

-- The request of a body is refused with this code.
abbrev pub IsRefusedBody : RspSetup → History → (tag : ℕ) → (body : List ℕ) → Draw → ErrorCode → Type 0
IsRefusedBody r h tag body d e =
    MatchBool (slice_index body 0 == SPDM) (IsRefusedMessage r h tag (drop 1 body) d e) (IsRefusedRecord r h (drop 1 body) d e)

-- ---- The ERROR that it gets.

-- The record of an ERROR that answers a record: under the key of responses, with the next number, with the padding that
-- is chosen.
abbrev pub error_record : RspSetup → Events → (inner : List ℕ) → Free → ErrorCode → List ℕ
error_record r s inner f e =
    sealed_of (session_terms s).choice (response_purpose r.psk s) (response_next s) (id_bytes s) (SPDM ∷ error_bytes r (session_place s) (drop 1 inner) f e) f.pad

-- The body with the ERROR of a code: in the clear upon a clear request, and in a record of its session upon a record.
abbrev pub error_body : RspSetup → History → (body : List ℕ) → Draw → ErrorCode → List ℕ
error_body r h body d e =
    if slice_index body 0 == SPDM then clear_body (error_bytes r (clear_place h) (drop 1 body) (clear_chosen r h d) e)
    else record_body (error_record r (session_of (id_in_record (drop 1 body)) h) (opened r.psk (session_of (id_in_record (drop 1 body)) h) (drop 1 body)) (record_chosen r h (drop 1 body) d) e)

-- A body whose request is refused is told so, and gets its ERROR.
abbrev pub TableRefuses : Type 0
TableRefuses = (r : RspSetup) (h : History) (tag : ℕ) (body : List ℕ) (d : Draw) (e : ErrorCode) → IsRefusedBody r h tag body d e
    → (heard_of (responder_does r h tag body d) ≡ heard.Refused (error_number e)) × (body_of (responder_does r h tag body d) ≡ error_body r h body d e)

-- And no other body is told as refused.
abbrev pub RefusedByTable : Type 0
RefusedByTable = (r : RspSetup) (h : History) (tag : ℕ) (body : List ℕ) (d : Draw) (code : ℕ) → heard_of (responder_does r h tag body d) ≡ heard.Refused code
    → (e : ErrorCode) × IsRefusedBody r h tag body d e × (code ≡ error_number e)

-- ---- What it leaves.

-- Upon a clear body every session is exactly what it was, and upon a record each but the one that it names. That one is
-- what it was but for the counts of records, the stored reply and the clock. So is the rest of the connection.
pub record IsLeftBy (body : List ℕ) (old new : History) : Type 0 where
  pub clear : (slice_index body 0 == SPDM) ≡ true → (id : ℕ) → session_of id new ≡ session_of id old
  pub others : (slice_index body 0 == SPDM) ≡ false → (id : ℕ) → id_in_record (drop 1 body) ≢ id → session_of id new ≡ session_of id old
  pub named : (id : ℕ) → IsSameSession (session_of id old) (session_of id new)
  pub connection : IsSameConnection old new

-- ---- A packet.

-- A packet completes this body, a request, at the connection with its source.
pub record Completes (r : Responding) (packet : List ℕ) (c : Connection) (route : RouteFields) (body : List ℕ) : Type 0 where
  pub fields : PacketFields
  pub takes : is_worn r ≡ false
  pub is : parsed packet ≡ Ok fields
  pub to : (fields.to == r.part.eid) ≡ true
  pub found : connection_of fields.from r.connections ≡ Some c
  pub whole : gathered_from c.setup.eid c.setup.peer r.given fields ≡ Whole route body
  pub request : route.owner ≡ true
  pub known : (body_type body == SPDM || body_type body == SECURED) ≡ true

-- What a packet leads to whose request is refused with this code: it is told so, the ERROR goes back to the end point
-- and with the tag of the request, and the history of its connection is left as it was; no other connection changes.
pub record IsAnsweredByError (r : Responding) (packet : List ℕ) (c : Connection) (route : RouteFields) (body : List ℕ) (e : ErrorCode) : Type 0 where
  pub told : (responder_hears r packet).heard ≡ heard.Refused (error_number e)
  pub sent : (responder_hears r packet).sent ≡ packets_to c.setup.peer c.setup.eid false route.tag c.setup.unit (error_body c.setup c.history body (next_draw r) e)
  pub connections : (responder_hears r packet).after.connections ≡ with_history c.setup.peer (λ h. after h (responder_does c.setup c.history route.tag body (next_draw r))) r.connections
  pub left : IsLeftBy body c.history (after c.history (responder_does c.setup c.history route.tag body (next_draw r)))

-- The request of a packet is refused with this code.
pub record IsRefused (r : Responding) (packet : List ℕ) (code : ℕ) : Type 0 where
  pub c : Connection
  pub route : RouteFields
  pub body : List ℕ
  pub error : ErrorCode
  pub completes : Completes r packet c route body
  pub refused : IsRefusedBody c.setup c.history route.tag body (next_draw r) error
  pub code_is : code ≡ error_number error

-- A clear chunk by which a large request is completed that the table refuses.
pub record IsRefusedInChunks (r : RspSetup) (h : History) (body : List ℕ) (d : Draw) (k : ChunkMessage) (e : ErrorCode) : Type 0 where
  pub clear : (slice_index body 0 == SPDM) ≡ true
  pub chunk : request_at (clear_place h) (drop 1 body) ≡ Some (ChunkSend k)
  pub refused : refusal r (inside (clear_place h)) (completed_at (clear_place h) k) (clear_chosen r h d) ≡ Some e

-- What it leaves, be the chunk a repeat, itself refused or taken: every session as it was, and all of the connection
-- but the stored reply, the pending large response and the chunks; no other connection changes.
pub record IsLeftByChunk (r : Responding) (packet : List ℕ) (c : Connection) (route : RouteFields) (body : List ℕ) : Type 0 where
  pub connections : (responder_hears r packet).after.connections ≡ with_history c.setup.peer (λ h. after h (responder_does c.setup c.history route.tag body (next_draw r))) r.connections
  pub sessions : (id : ℕ) → session_of id (after c.history (responder_does c.setup c.history route.tag body (next_draw r))) ≡ session_of id c.history
  pub connection : IsSameBesideChunks c.history (after c.history (responder_does c.setup c.history route.tag body (next_draw r)))

-- ---- At every event of every script.

-- Of a packet that is given to the responder: it is told as refused exactly where the table refuses the request that it
-- completes; this gets its ERROR and leaves what it has to leave, also where chunks carried it; a record, refused or
-- not, moves the session that it names alone; and a packet of which nothing is taken changes no connection.
pub record IsRefusedHarmlessly (r : Responding) (packet : List ℕ) : Type 0 where
  pub only : (code : ℕ) → (responder_hears r packet).heard ≡ heard.Refused code → IsRefused r packet code
  pub all : (c : Connection) (route : RouteFields) (body : List ℕ) (e : ErrorCode) → Completes r packet c route body
      → IsRefusedBody c.setup c.history route.tag body (next_draw r) e → IsAnsweredByError r packet c route body e
  pub in_chunks : (c : Connection) (route : RouteFields) (body : List ℕ) (k : ChunkMessage) (e : ErrorCode) → Completes r packet c route body
      → IsRefusedInChunks c.setup c.history body (next_draw r) k e → IsLeftByChunk r packet c route body
  pub apart : (c : Connection) (route : RouteFields) (body : List ℕ) → Completes r packet c route body
      → (slice_index body 0 == SPDM) ≡ false → (id : ℕ) → id_in_record (drop 1 body) ≢ id
      → session_of id (after c.history (responder_does c.setup c.history route.tag body (next_draw r))) ≡ session_of id c.history
  pub harmless : IsHarmless r packet (responder_hears r packet).heard

-- Each packet that an event of a script gives to the responder.
abbrev pub Refuses : Script → Type 0
Refuses script = (before : List Entry) (entry : Entry) (behind : List Entry) → script.events ≡ before ++ entry ∷ behind
    → (between : World) (packet : List ℕ) → IsGivenIn (world_in script before) (happening_of entry.event) between packet
    → IsRefusedHarmlessly between.responder packet

-- Of the script that a text is.
abbrev pub RefusesIn : List ℕ → Type 0
RefusesIn text = (script : Script) → script_in text ≡ Ok script → Refuses script
