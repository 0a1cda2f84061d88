-- What is told as refused is what the table refuses, and such a request gets its ERROR and leaves what it has to leave.
use Rattle.std.proofs.Common.{◌≡◌, ◌∙◌, ◌==◌, ◌||◌, ℕ, List, [], ◌∷◌, drop, refl, sym, ap, subst, Bool, true, false, not, Option, Some, None, Result, Ok, Err}
use Rattle.std.specs.Option.{option_or}
use Rattle.std.specs.Prelude.{◌≢◌, if◌then◌else◌, slice_index, MatchBool}
use Rattle.std.proofs.lemmas.Bool.{true≢false, false≢true}
use Rattle.std.proofs.lemmas.Option.{none-some, same_Some}
use Rattle.mctp_framing.specs.Cutting.{RouteFields}
use Rattle.mctp_framing.specs.Gathering.{Gathered}
use Rattle.mctp_framing.specs.Gathering.Gathered.{Dropped, More, Whole}
use Rattle.mctp_framing.specs.Packet.{PacketFields, parsed}
use Rattle.responder.proofs.Harmless.{harmless}
use Rattle.responder_core.proofs.Outcomes.{by_record}
use Rattle.responder_machine.proofs.Connection.{refused_connection}
use Rattle.responder_machine.proofs.Entries.{others_kept}
use Rattle.responder_machine.proofs.KeptRest.{refused_chunk_rest, refused_record_rest}
use Rattle.responder_machine.proofs.Refused.{refused_clear, refused_in_chunks, refused_record}
use Rattle.responder_machine.proofs.Turns.{carried-refused, either-refused}
use Rattle.responder_machine.specs.Answer.{Free, request_at}
use Rattle.responder_machine.specs.Does.{clear_chosen, clear_does, record_chosen, record_does, responder_does}
use Rattle.responder_machine.specs.Handling.{chunk_in, error_bytes, last_chunk_turn, refused_turn, taken_chunk, turn_by, turn_of}
use Rattle.responder_machine.specs.Heard.{heard_in, heard_of, no_id, record_id}
use Rattle.responder_machine.specs.History.{History, clear_turns, ended_of, kept_of, phase_of}
use Rattle.responder_machine.specs.History.Entry.{Clear, Sealed}
use Rattle.responder_machine.specs.Laws.{completed_at}
use Rattle.responder_machine.specs.Place.{Place, clear_place, inside, session_place}
use Rattle.responder_machine.specs.Records.{opened, opening_fault, reply_record}
use Rattle.responder_machine.specs.Refusal.{code_of, refusal}
use Rattle.responder_machine.specs.RefusalLaws.{IsSameBesideChunks}
use Rattle.responder_machine.specs.Responder.{Outcome, after, body_of, data_turn, in_session, in_session_by, inner_refusal, inner_reply, is_repeat, kept_record, kept_reply, on_clear, on_record, repeats, sealed_entry, session_turn, session_turn_by, to_session}
use Rattle.responder_machine.specs.Responder.Outcome.{Adds, Same}
use Rattle.responder_machine.specs.Responding.{Connection, Responding, RspStep, answers, connection_of, hears_from, hears_gathered, hears_packet, hears_whole, ignores, is_worn, next_draw, responder_hears, worn_step}
use Rattle.responder_machine.specs.Session.{Events, id_in_record, last_of, session_of, stage_of}
use Rattle.responder_machine.specs.SameSession.{IsSameConnection, IsSameSession}
use Rattle.responder_machine.specs.Setup.{RspSetup}
use Rattle.responder_machine.specs.Turn.{Turn, is_data}
use Rattle.responder_machine.specs.Turn.Effect.{NoEffect}
use Rattle.script_text.specs.declared.texts.script.Script.{Script}
use Rattle.script_laws.specs.Refused.{Completes, IsAnsweredByError, IsLeftBy, IsLeftByChunk, IsRefused, IsRefusedBody, IsRefusedHarmlessly, IsRefusedInChunks, IsRefusedMessage, IsRefusedRecord, RefusedByTable, Refuses, RefusesIn, TableRefuses, error_body, error_record, inner_code, is_empty}
use Rattle.spdm_basis.specs.declared.DropCause.TheVariants.{NotOurs}
use Rattle.spdm_basis.specs.declared.PacketFault.{PacketFault}
use Rattle.spdm_basis.specs.declared.causes.record_fault.RecordFault.{RecordFault}
use Rattle.spdm_basis.specs.declared.values.session_id.SessionId.{SessionId}
use Rattle.spdm_grammar.specs.ErrorNumber.{error_number}
use Rattle.spdm_grammar.specs.Message.{ChunkMessage}
use Rattle.spdm_grammar.specs.Message.RequestMessage.{ChunkSend}
use Rattle.spdm_grammar.specs.declared.messages.error_code.ErrorCode.{ErrorCode}
use Rattle.spdm_grammar.specs.declared.told.heard.Heard.{Heard}
use Rattle.spdm_grammar.specs.declared.told.heard.Heard.TheVariants as heard
use Rattle.spdm_grammar.specs.declared.told.heard.RspIgnored.TheVariants as ignored
use Rattle.spdm_grammar.specs.declared.told.phase.Phase.{Phase}
use Rattle.spdm_grammar.specs.declared.names.message_type.TheConstants.{SECURED, SPDM}
use Rattle.spdm_machine.specs.Bodies.{clear_body, record_body}
use Rattle.spdm_machine.specs.Keys.{Draw}
use Rattle.spdm_machine.specs.Packets.{body_type, gathered_from, packets_to}

-- ---- What is told as refused.

abbrev refused_code : Heard → Option ℕ
refused_code (heard.Refused code) = Some code
refused_code _ = None

-- What is told otherwise is no refusal.
not_refused : {T : Type 0} (told : Heard) (code : ℕ) → refused_code told ≡ None → told ≡ heard.Refused code → T
not_refused told code other is = absurd (none-some code (sym other ∙ ap refused_code is))

taken_code : (b : Bool) (id : SessionId) (code : ℕ) → refused_code (if b then heard.Taken id else heard.Answered code) ≡ None
taken_code true id code = refl
taken_code false id code = refl

-- A turn that is told as refused was refused with this code.
abbrev HasCode : Option ErrorCode → ℕ → Type 0
HasCode x code = (e : ErrorCode) × (x ≡ Some e) × (code ≡ error_number e)

told_refused : (t : Turn) (id : SessionId) (code : ℕ) (x : Option ErrorCode) → heard_in t id x ≡ heard.Refused code → HasCode x code
told_refused t id code (Some e) is = (e, refl, same_Some code (error_number e) (sym (ap refused_code is)))
told_refused t id code None is = not_refused _ code (taken_code (is_data t.effect) id (code_of t.message)) is

-- ---- Turns: refused exactly where the table refuses.

turn_is_refused : (r : RspSetup) (p : Place) (m : List ℕ) (f : Free) (e : ErrorCode) → refusal r p m f ≡ Some e → turn_of r p m f ≡ refused_turn r p m f e
unfolding turn_of
turn_is_refused r p m f e is = rw is refl

by_refusal : (r : RspSetup) (p : Place) (m : List ℕ) (f : Free) (e : ErrorCode) (x : Option ErrorCode) (c : Option ChunkMessage) → (turn_by r p m f x c).refused ≡ Some e → x ≡ Some e
by_refusal r p m f e (Some g) c is = is
by_refusal r p m f e None None is = absurd (none-some e is)
by_refusal r p m f e None (Some c) is =
    absurd (none-some e (sym (either-refused c.last (last_chunk_turn r (inside p) m f c (completed_at p c)) (taken_chunk m c NoEffect []) (carried-refused r (inside p) m f c (completed_at p c) (refusal r (inside p) (completed_at p c) f)) refl) ∙ is))

turn_refused : (r : RspSetup) (p : Place) (m : List ℕ) (f : Free) (e : ErrorCode) → (turn_of r p m f).refused ≡ Some e → refusal r p m f ≡ Some e
unfolding turn_of
turn_refused r p m f e is = by_refusal r p m f e (refusal r p m f) (chunk_in (request_at p m)) is

-- The turn of an inner message, and why it is refused.
by_type : (b : Bool) (r : RspSetup) (p : Place) (m : List ℕ) (f : Free) (other : Turn) (e : ErrorCode) → (if b then refusal r p m f else None) ≡ Some e → (if b then turn_of r p m f else other) ≡ refused_turn r p m f e
by_type true r p m f other e is = turn_is_refused r p m f e is
by_type false r p m f other e is = absurd (none-some e is)

inner_turn_by : (r : RspSetup) (s : Events) (inner : List ℕ) (f : Free) (e : ErrorCode) (x : Option ErrorCode) →
    option_or x (if slice_index inner 0 == SPDM then refusal r (session_place s) (drop 1 inner) f else None) ≡ Some e → session_turn_by r s inner f x ≡ refused_turn r (session_place s) (drop 1 inner) f e
inner_turn_by r s inner f e (Some x) is = ap (λ (g : ErrorCode). refused_turn r (session_place s) (drop 1 inner) f g) (same_Some x e is)
inner_turn_by r s inner f e None is = by_type (slice_index inner 0 == SPDM) r (session_place s) (drop 1 inner) f (data_turn f (drop 1 inner)) e is

inner_turn : (r : RspSetup) (s : Events) (inner : List ℕ) (f : Free) (e : ErrorCode) → inner_code r s inner f ≡ Some e → session_turn r s inner f ≡ refused_turn r (session_place s) (drop 1 inner) f e
unfolding session_turn
inner_turn r s inner f e is = inner_turn_by r s inner f e (inner_refusal (stage_of s) inner) is

type_refused : (b : Bool) (r : RspSetup) (p : Place) (m : List ℕ) (f : Free) (other : Turn) (e : ErrorCode) → other.refused ≡ None → (if b then turn_of r p m f else other).refused ≡ Some e → (if b then refusal r p m f else None) ≡ Some e
type_refused true r p m f other e plain is = turn_refused r p m f e is
type_refused false r p m f other e plain is = absurd (none-some e (sym plain ∙ is))

inner_refused_by : (r : RspSetup) (s : Events) (inner : List ℕ) (f : Free) (e : ErrorCode) (x : Option ErrorCode) → (session_turn_by r s inner f x).refused ≡ Some e →
    option_or x (if slice_index inner 0 == SPDM then refusal r (session_place s) (drop 1 inner) f else None) ≡ Some e
inner_refused_by r s inner f e (Some x) is = is
inner_refused_by r s inner f e None is = type_refused (slice_index inner 0 == SPDM) r (session_place s) (drop 1 inner) f (data_turn f (drop 1 inner)) e refl is

inner_refused : (r : RspSetup) (s : Events) (inner : List ℕ) (f : Free) (e : ErrorCode) → (session_turn r s inner f).refused ≡ Some e → inner_code r s inner f ≡ Some e
unfolding session_turn
inner_refused r s inner f e is = inner_refused_by r s inner f e (inner_refusal (stage_of s) inner) is

-- ---- Only what the table refuses.

clear_only_by : (r : RspSetup) (h : History) (tag : ℕ) (m : List ℕ) (d : Draw) (code : ℕ) (b : Bool) → is_repeat (kept_of h) tag m ≡ b
    → heard_of (if b then Same (clear_body (kept_reply (kept_of h))) else Adds (Clear tag (turn_of r (clear_place h) m (clear_chosen r h d)) d)) ≡ heard.Refused code
    → (e : ErrorCode) × IsRefusedMessage r h tag m d e × (code ≡ error_number e)
clear_only_by r h tag m d code true again is = not_refused heard.Same code refl is
clear_only_by r h tag m d code false again is =
    let t : Turn = turn_of r (clear_place h) m (clear_chosen r h d) in
    let found = told_refused t no_id code t.refused is in
    (found.0, record { anew = again; refused = turn_refused r (clear_place h) m (clear_chosen r h d) found.0 found.1 }, found.2)

clear_only : (r : RspSetup) (h : History) (tag : ℕ) (m : List ℕ) (d : Draw) (code : ℕ) → heard_of (clear_does r h tag m d) ≡ heard.Refused code → (e : ErrorCode) × IsRefusedMessage r h tag m d e × (code ≡ error_number e)
unfolding on_clear
clear_only r h tag m d code is = clear_only_by r h tag m d code (is_repeat (kept_of h) tag m) refl is

-- What is known of a record in its session.
record IsRefusedIn (r : RspSetup) (s : Events) (f : Free) (sealed : List ℕ) (e : ErrorCode) : Type 0 where
  some : is_empty s ≡ false
  not_last : repeats (last_of s) sealed ≡ false
  opens : opening_fault r.psk s sealed ≡ None
  refused : inner_code r s (opened r.psk s sealed) f ≡ Some e

opened_only : (r : RspSetup) (phase : Phase) (s : Events) (f : Free) (tag : ℕ) (sealed : List ℕ) (d : Draw) (code : ℕ) (x : Option RecordFault) → opening_fault r.psk s sealed ≡ x → is_empty s ≡ false → repeats (last_of s) sealed ≡ false
    → heard_of (in_session_by r phase s f tag sealed d x) ≡ heard.Refused code → (e : ErrorCode) × IsRefusedIn r s f sealed e × (code ≡ error_number e)
opened_only r phase s f tag sealed d code (Some fault) opens some anew is = not_refused heard.Unopened code refl is
opened_only r phase s f tag sealed d code None opens some anew is =
    let t : Turn = session_turn r s (opened r.psk s sealed) f in
    let found = told_refused t (record_id sealed) code t.refused is in
    (found.0, record { some = some; not_last = anew; opens = opens; refused = inner_refused r s (opened r.psk s sealed) f found.0 found.1 }, found.2)

kept_only : (r : RspSetup) (phase : Phase) (x : _) (s : Events) (f : Free) (tag : ℕ) (sealed : List ℕ) (d : Draw) (code : ℕ) (b : Bool) → repeats (last_of (x ∷ s)) sealed ≡ b
    → heard_of (if b then Same (record_body (kept_record (last_of (x ∷ s)))) else in_session r phase (x ∷ s) f tag sealed d) ≡ heard.Refused code → (e : ErrorCode) × IsRefusedIn r (x ∷ s) f sealed e × (code ≡ error_number e)
unfolding in_session
kept_only r phase x s f tag sealed d code true again is = not_refused heard.Same code refl is
kept_only r phase x s f tag sealed d code false again is = opened_only r phase (x ∷ s) f tag sealed d code (opening_fault r.psk (x ∷ s) sealed) refl refl again is

session_only : (r : RspSetup) (phase : Phase) (s : Events) (f : Free) (tag : ℕ) (sealed : List ℕ) (d : Draw) (code : ℕ) → heard_of (to_session r phase s f tag sealed d) ≡ heard.Refused code
    → (e : ErrorCode) × IsRefusedIn r s f sealed e × (code ≡ error_number e)
session_only r phase [] f tag sealed d code is = not_refused heard.Unopened code refl is
session_only r phase (x ∷ s) f tag sealed d code is = kept_only r phase x s f tag sealed d code (repeats (last_of (x ∷ s)) sealed) refl is

record_only_by : (r : RspSetup) (h : History) (tag : ℕ) (sealed : List ℕ) (d : Draw) (code : ℕ) (b : Bool) → repeats (ended_of h) sealed ≡ b
    → heard_of (if b then Same (record_body (kept_record (ended_of h))) else to_session r (phase_of (clear_turns h)) (session_of (id_in_record sealed) h) (record_chosen r h sealed d) tag sealed d) ≡ heard.Refused code
    → (e : ErrorCode) × IsRefusedRecord r h sealed d e × (code ≡ error_number e)
record_only_by r h tag sealed d code true again is = not_refused heard.Same code refl is
record_only_by r h tag sealed d code false again is =
    let found = session_only r (phase_of (clear_turns h)) (session_of (id_in_record sealed) h) (record_chosen r h sealed d) tag sealed d code is in
    let here = found.1 in
    (found.0, record { not_ended = again; some = here.some; not_last = here.not_last; opens = here.opens; refused = here.refused }, found.2)

record_only : (r : RspSetup) (h : History) (tag : ℕ) (sealed : List ℕ) (d : Draw) (code : ℕ) → heard_of (record_does r h tag sealed d) ≡ heard.Refused code → (e : ErrorCode) × IsRefusedRecord r h sealed d e × (code ≡ error_number e)
unfolding on_record
record_only r h tag sealed d code is = record_only_by r h tag sealed d code (repeats (ended_of h) sealed) refl is

body_only_by : (r : RspSetup) (h : History) (tag : ℕ) (body : List ℕ) (d : Draw) (code : ℕ) (b : Bool) → heard_of (if b then clear_does r h tag (drop 1 body) d else record_does r h tag (drop 1 body) d) ≡ heard.Refused code
    → (e : ErrorCode) × MatchBool b (IsRefusedMessage r h tag (drop 1 body) d e) (IsRefusedRecord r h (drop 1 body) d e) × (code ≡ error_number e)
body_only_by r h tag body d code true is = clear_only r h tag (drop 1 body) d code is
body_only_by r h tag body d code false is = record_only r h tag (drop 1 body) d code is

pub body_only : RefusedByTable
body_only r h tag body d code is = body_only_by r h tag body d code (slice_index body 0 == SPDM) is

-- ---- All that the table refuses.

-- What a refused body comes to.
record Facts (old new : History) (told : Heard) (sent : List ℕ) (e : ErrorCode) (error : List ℕ) (body : List ℕ) (b : Bool) : Type 0 where
  told_is : told ≡ heard.Refused (error_number e)
  sent_is : sent ≡ error
  clear : b ≡ true → (id : ℕ) → session_of id new ≡ session_of id old
  others : b ≡ false → (id : ℕ) → id_in_record (drop 1 body) ≢ id → session_of id new ≡ session_of id old
  named : (id : ℕ) → IsSameSession (session_of id old) (session_of id new)
  connection : IsSameConnection old new

same_session : (old new : Events) → new ≡ old → IsSameSession old new
same_session old new is = subst (IsSameSession old) (sym is) (record {
  live = refl;
  stage = refl;
  id = refl;
  period = refl;
  handshake = refl;
  transcript = refl;
  requests = λ psk. refl;
  responses = λ psk. refl;
  request_updates = refl;
  response_updates = refl;
  negotiation = refl;
  terms = refl;
  taken = refl;
  pending = λ transfer. refl;
  handle = refl;
  given = refl;
  larges = refl;
  chunks = refl;
})

clear_is : (r : RspSetup) (h : History) (tag : ℕ) (m : List ℕ) (d : Draw) (e : ErrorCode) → IsRefusedMessage r h tag m d e → clear_does r h tag m d ≡ Adds (Clear tag (refused_turn r (clear_place h) m (clear_chosen r h d) e) d)
unfolding on_clear
clear_is r h tag m d e here =
    rw here.anew (ap (λ (t : Turn). Adds (Clear tag t d)) (turn_is_refused r (clear_place h) m (clear_chosen r h d) e here.refused))

-- The body with the ERROR, by the type of the request's.
abbrev error_in : Bool → RspSetup → History → List ℕ → Draw → ErrorCode → List ℕ
error_in b r h body d e =
    if b then clear_body (error_bytes r (clear_place h) (drop 1 body) (clear_chosen r h d) e)
    else record_body (error_record r (session_of (id_in_record (drop 1 body)) h) (opened r.psk (session_of (id_in_record (drop 1 body)) h) (drop 1 body)) (record_chosen r h (drop 1 body) d) e)

abbrev FactsOf : RspSetup → History → List ℕ → Draw → ErrorCode → Bool → Outcome → Type 0
FactsOf r h body d e b o = Facts h (after h o) (heard_of o) (body_of o) e (error_in b r h body d e) body b

clear_all : (r : RspSetup) (h : History) (tag : ℕ) (body : List ℕ) (d : Draw) (e : ErrorCode) → IsRefusedMessage r h tag (drop 1 body) d e → FactsOf r h body d e true (clear_does r h tag (drop 1 body) d)
clear_all r h tag body d e here =
    let m : List ℕ = drop 1 body in
    let f : Free = clear_chosen r h d in
    let is = clear_is r h tag m d e here in
    let sessions = refused_clear r h tag m f d e here.refused in
    record {
      told_is = ap heard_of is;
      sent_is = ap body_of is;
      clear = λ b. sessions;
      others = λ b. absurd (true≢false b);
      named = λ id. same_session (session_of id h) _ (sessions id);
      connection = refused_connection r h tag m f d e here.refused;
    }

-- The turn of a refused record, and the outcome.
abbrev refused_in : RspSetup → Events → Free → List ℕ → ErrorCode → Turn
refused_in r s f sealed e = refused_turn r (session_place s) (drop 1 (opened r.psk s sealed)) f e

session_is : (r : RspSetup) (phase : Phase) (s : Events) (f : Free) (tag : ℕ) (sealed : List ℕ) (d : Draw) (e : ErrorCode) → is_empty s ≡ false → repeats (last_of s) sealed ≡ false
    → opening_fault r.psk s sealed ≡ None → inner_code r s (opened r.psk s sealed) f ≡ Some e → to_session r phase s f tag sealed d ≡ Adds (sealed_entry r s f tag sealed d (refused_in r s f sealed e))
unfolding in_session
session_is r phase [] f tag sealed d e some anew opens code = absurd (true≢false some)
session_is r phase (x ∷ s) f tag sealed d e some anew opens code =
    rw (anew, opens) (ap (λ (t : Turn). Adds (sealed_entry r (x ∷ s) f tag sealed d t)) (inner_turn r (x ∷ s) (opened r.psk (x ∷ s) sealed) f e code))

record_is : (r : RspSetup) (h : History) (tag : ℕ) (sealed : List ℕ) (d : Draw) (e : ErrorCode) → IsRefusedRecord r h sealed d e
    → record_does r h tag sealed d ≡ Adds (sealed_entry r (session_of (id_in_record sealed) h) (record_chosen r h sealed d) tag sealed d (refused_in r (session_of (id_in_record sealed) h) (record_chosen r h sealed d) sealed e))
unfolding on_record
record_is r h tag sealed d e here =
    rw here.not_ended (session_is r (phase_of (clear_turns h)) (session_of (id_in_record sealed) h) (record_chosen r h sealed d) tag sealed d e here.some here.not_last here.opens here.refused)

-- A refused turn updates no key, and its reply is no application data.
reply_is : (r : RspSetup) (s : Events) (f : Free) (sealed : List ℕ) (e : ErrorCode) → reply_record r.psk s (refused_in r s f sealed e) (inner_reply (refused_in r s f sealed e)) f.pad ≡ error_record r s (opened r.psk s sealed) f e
unfolding reply_record
reply_is r s f sealed e = refl

record_all : (r : RspSetup) (h : History) (tag : ℕ) (body : List ℕ) (d : Draw) (e : ErrorCode) → IsRefusedRecord r h (drop 1 body) d e → FactsOf r h body d e false (record_does r h tag (drop 1 body) d)
record_all r h tag body d e here =
    let sealed : List ℕ = drop 1 body in
    let s : Events = session_of (id_in_record sealed) h in
    let f : Free = record_chosen r h sealed d in
    let t : Turn = refused_in r s f sealed e in
    let is = record_is r h tag sealed d e here in
    let reply : List ℕ = reply_record r.psk s t (inner_reply t) f.pad in
    record {
      told_is = ap heard_of is;
      sent_is = ap body_of is ∙ ap record_body (reply_is r s f sealed e);
      clear = λ b. absurd (false≢true b);
      others = λ b id differs. subst (λ (o : Outcome). session_of id (after h o) ≡ session_of id h) (sym is) (others_kept h tag sealed t reply d id differs);
      named = λ id. subst (λ (o : Outcome). IsSameSession (session_of id h) (session_of id (after h o))) (sym is) (refused_record r h tag sealed f d t reply e is refl id);
      connection = subst (λ (o : Outcome). IsSameConnection h (after h o)) (sym is) (refused_record_rest r h tag sealed f d t reply e is refl);
    }

body_all_by : (r : RspSetup) (h : History) (tag : ℕ) (body : List ℕ) (d : Draw) (e : ErrorCode) (b : Bool) → MatchBool b (IsRefusedMessage r h tag (drop 1 body) d e) (IsRefusedRecord r h (drop 1 body) d e)
    → FactsOf r h body d e b (if b then clear_does r h tag (drop 1 body) d else record_does r h tag (drop 1 body) d)
body_all_by r h tag body d e true here = clear_all r h tag body d e here
body_all_by r h tag body d e false here = record_all r h tag body d e here

body_all : (r : RspSetup) (h : History) (tag : ℕ) (body : List ℕ) (d : Draw) (e : ErrorCode) → IsRefusedBody r h tag body d e → FactsOf r h body d e (slice_index body 0 == SPDM) (responder_does r h tag body d)
body_all r h tag body d e here = body_all_by r h tag body d e (slice_index body 0 == SPDM) here

pub table_refuses : TableRefuses
table_refuses r h tag body d e here = let facts = body_all r h tag body d e here in (facts.told_is, facts.sent_is)

-- ---- A packet that completes a request.

-- The step is that of the request.
completed_step : (r : Responding) (packet : List ℕ) (c : Connection) (route : RouteFields) (body : List ℕ) → Completes r packet c route body
    → responder_hears r packet ≡ answers r c packet route body (responder_does c.setup c.history route.tag body (next_draw r))
unfolding responder_hears
completed_step r packet c route body x = rw (x.takes, x.is, x.to, x.found, x.whole, x.request, x.known) refl

refused_all : (r : Responding) (packet : List ℕ) (c : Connection) (route : RouteFields) (body : List ℕ) (e : ErrorCode) → Completes r packet c route body → IsRefusedBody c.setup c.history route.tag body (next_draw r) e
    → IsAnsweredByError r packet c route body e
refused_all r packet c route body e completes refused =
    let step = completed_step r packet c route body completes in
    let facts = body_all c.setup c.history route.tag body (next_draw r) e refused in
    record {
      told = ap (λ (s : RspStep). s.heard) step ∙ facts.told_is;
      sent = ap (λ (s : RspStep). s.sent) step ∙ ap (λ (b : List ℕ). packets_to c.setup.peer c.setup.eid false route.tag c.setup.unit b) facts.sent_is;
      connections = ap (λ (s : RspStep). s.after.connections) step;
      left = record { clear = facts.clear; others = facts.others; named = facts.named; connection = facts.connection };
    }

refused_chunk_by : (r : RspSetup) (h : History) (tag : ℕ) (body : List ℕ) (d : Draw) (k : ChunkMessage) (e : ErrorCode) (b : Bool) → b ≡ true
    → request_at (clear_place h) (drop 1 body) ≡ Some (ChunkSend k) → refusal r (inside (clear_place h)) (completed_at (clear_place h) k) (clear_chosen r h d) ≡ Some e
    → ((id : ℕ) → session_of id (after h (if b then clear_does r h tag (drop 1 body) d else record_does r h tag (drop 1 body) d)) ≡ session_of id h)
    × IsSameBesideChunks h (after h (if b then clear_does r h tag (drop 1 body) d else record_does r h tag (drop 1 body) d))
refused_chunk_by r h tag body d k e true is chunk refused =
    (refused_in_chunks r h tag (drop 1 body) (clear_chosen r h d) d k e chunk refused, refused_chunk_rest r h tag (drop 1 body) (clear_chosen r h d) d k e chunk refused)
refused_chunk_by r h tag body d k e false is chunk refused = absurd (false≢true is)

refused_chunks : (r : Responding) (packet : List ℕ) (c : Connection) (route : RouteFields) (body : List ℕ) (k : ChunkMessage) (e : ErrorCode) → Completes r packet c route body
    → IsRefusedInChunks c.setup c.history body (next_draw r) k e → IsLeftByChunk r packet c route body
refused_chunks r packet c route body k e completes here =
    let facts = refused_chunk_by c.setup c.history route.tag body (next_draw r) k e (slice_index body 0 == SPDM) here.clear here.chunk here.refused in
    record { connections = ap (λ (s : RspStep). s.after.connections) (completed_step r packet c route body completes); sessions = facts.0; connection = facts.1 }

-- A record moves the session that it names alone.
record_apart : (r : RspSetup) (h : History) (tag : ℕ) (sealed : List ℕ) (d : Draw) (id : ℕ) → id_in_record sealed ≢ id → session_of id (after h (record_does r h tag sealed d)) ≡ session_of id h
record_apart r h tag sealed d id differs =
    by_record r h tag sealed (record_chosen r h sealed d) d (λ (o : Outcome). session_of id (after h o) ≡ session_of id h) (λ body. refl) (λ body. refl)
    (λ s inner reply. others_kept h tag sealed (session_turn r s inner (record_chosen r h sealed d)) reply d id differs)

body_apart : (r : RspSetup) (h : History) (tag : ℕ) (body : List ℕ) (d : Draw) (id : ℕ) (b : Bool) → b ≡ false → id_in_record (drop 1 body) ≢ id
    → session_of id (after h (if b then clear_does r h tag (drop 1 body) d else record_does r h tag (drop 1 body) d)) ≡ session_of id h
body_apart r h tag body d id true is differs = absurd (true≢false is)
body_apart r h tag body d id false is differs = record_apart r h tag (drop 1 body) d id differs

-- ---- A packet that is told as refused.

module _ (r : Responding) (packet : List ℕ) (code : ℕ) (takes : is_worn r ≡ false) (fields : PacketFields) (parses : parsed packet ≡ Ok fields) (to : (fields.to == r.part.eid) ≡ true) (c : Connection)
    (found : connection_of fields.from r.connections ≡ Some c) where
  by_known : (route : RouteFields) (body : List ℕ) → gathered_from c.setup.eid c.setup.peer r.given fields ≡ Whole route body → route.owner ≡ true → (b : Bool) → (body_type body == SPDM || body_type body == SECURED) ≡ b
      → (if not b then ignores r packet (heard.Ignored ignored.OtherType) else answers r c packet route body (responder_does c.setup c.history route.tag body (next_draw r))).heard ≡ heard.Refused code → IsRefused r packet code
  by_known route body whole owner false known is = not_refused (heard.Ignored ignored.OtherType) code refl is
  by_known route body whole owner true known is =
      let refused = body_only c.setup c.history route.tag body (next_draw r) code is in
      record {
        c = c;
        route = route;
        body = body;
        error = refused.0;
        completes = record { fields = fields; takes = takes; is = parses; to = to; found = found; whole = whole; request = owner; known = known };
        refused = refused.1;
        code_is = refused.2;
      }

  by_owner : (route : RouteFields) (body : List ℕ) → gathered_from c.setup.eid c.setup.peer r.given fields ≡ Whole route body → (b : Bool) → route.owner ≡ b
      → (if not b then ignores r packet (heard.Ignored ignored.NotRequest)
      else (if not (body_type body == SPDM || body_type body == SECURED) then ignores r packet (heard.Ignored ignored.OtherType)
      else answers r c packet route body (responder_does c.setup c.history route.tag body (next_draw r)))).heard ≡ heard.Refused code → IsRefused r packet code
  by_owner route body whole false owner is = not_refused (heard.Ignored ignored.NotRequest) code refl is
  by_owner route body whole true owner is = by_known route body whole owner (body_type body == SPDM || body_type body == SECURED) refl is

  by_gathered : (g : Gathered) → gathered_from c.setup.eid c.setup.peer r.given fields ≡ g → (hears_gathered r (next_draw r) c packet g).heard ≡ heard.Refused code → IsRefused r packet code
  by_gathered (Whole route body) whole is = by_owner route body whole route.owner refl is
  by_gathered More whole is = not_refused heard.More code refl is
  by_gathered (Dropped cause) whole is = not_refused (heard.Ignored (ignored.Dropped cause)) code refl is

module _ (r : Responding) (packet : List ℕ) (code : ℕ) where
  by_found : is_worn r ≡ false → (fields : PacketFields) → parsed packet ≡ Ok fields → (fields.to == r.part.eid) ≡ true → (o : Option Connection) → connection_of fields.from r.connections ≡ o
      → (hears_from r (next_draw r) packet fields o).heard ≡ heard.Refused code → IsRefused r packet code
  by_found takes fields parses to None found is = not_refused (heard.Ignored ignored.UnknownPeer) code refl is
  by_found takes fields parses to (Some c) found is = by_gathered r packet code takes fields parses to c found (gathered_from c.setup.eid c.setup.peer r.given fields) refl is

  by_to : is_worn r ≡ false → (fields : PacketFields) → parsed packet ≡ Ok fields → (b : Bool) → (fields.to == r.part.eid) ≡ b
      → (if not b then ignores r packet (heard.Ignored (ignored.Dropped NotOurs)) else hears_from r (next_draw r) packet fields (connection_of fields.from r.connections)).heard ≡ heard.Refused code → IsRefused r packet code
  by_to takes fields parses false to is = not_refused (heard.Ignored (ignored.Dropped NotOurs)) code refl is
  by_to takes fields parses true to is = by_found takes fields parses to (connection_of fields.from r.connections) refl is

  by_parsed : is_worn r ≡ false → (x : Result PacketFields PacketFault) → parsed packet ≡ x → (hears_packet r (next_draw r) packet x).heard ≡ heard.Refused code → IsRefused r packet code
  by_parsed takes (Err fault) parses is = not_refused (heard.Ignored (ignored.Packet fault)) code refl is
  by_parsed takes (Ok fields) parses is = by_to takes fields parses (fields.to == r.part.eid) refl is

  by_worn : (b : Bool) → is_worn r ≡ b → (if b then worn_step r else hears_packet r (next_draw r) packet (parsed packet)).heard ≡ heard.Refused code → IsRefused r packet code
  by_worn true worn is = not_refused (heard.Ignored ignored.Worn) code refl is
  by_worn false takes is = by_parsed takes (parsed packet) refl is

  refused_only : (responder_hears r packet).heard ≡ heard.Refused code → IsRefused r packet code
  unfolding responder_hears
  refused_only is = by_worn (is_worn r) refl is

-- ---- Of every packet.

pub refused_harmlessly : (r : Responding) (packet : List ℕ) → IsRefusedHarmlessly r packet
refused_harmlessly r packet = record { only = refused_only r packet; all = refused_all r packet; in_chunks = refused_chunks r packet; apart = λ c route body completes sealed id differs. body_apart c.setup c.history route.tag body (next_draw r) id (slice_index body 0 == SPDM) sealed differs; harmless = harmless r packet }

pub script_refuses : (script : Script) → Refuses script
script_refuses script before entry behind is between packet given = refused_harmlessly between.responder packet

pub refuses : (text : List ℕ) → RefusesIn text
refuses text script read = script_refuses script
