-- Histories of a requester that differ in nothing that counts for what it does next, and what keeps them so.
use Rattle.std.proofs.Common.{◌≡◌, ◌≤◌, ◌+◌, ◌==◌, ℕ, List, [], ◌∷◌, refl, ap, ◌∙◌, length, Bool, true, false, Option, Some, None, is_some, cond, arith, suc, eqb-true}
use Rattle.std.proofs.lemmas.Bool.{false≢true}
use Rattle.spdm_grammar.specs.Message.{RequestMessage, ExchangeMessage}
use Rattle.spdm_grammar.specs.Message.RequestMessage.{GetVersion, GetCapabilities, NegotiateAlgorithms, GetMeasurements, PskExchange, PskFinish, Heartbeat, KeyUpdate, EndSession, ChunkSend, ChunkGet}
use Rattle.spdm_grammar.specs.Requests.{canonical_request}
use Rattle.spdm_grammar.specs.declared.told.phase.Phase.TheVariants.{Fresh}
use Rattle.spdm_machine.specs.Keys.{Draw}
use Rattle.spdm_machine.specs.Terms.{no_negotiation}
use Rattle.spdm_machine.specs.Sessions.{id_in_exchange}
use Rattle.transcript.specs.Transcripts.{Negotiation}
use Rattle.requester_machine.specs.History.{History, Entry, Effect, sent_in, sent_count, larges_of, is_first_chunk, phase_of, phase_after, negotiation_of, negotiation_after, outstanding, is_connect}
use Rattle.requester_machine.specs.History.Effect.{Answers, Refuses}
use Rattle.requester_machine.specs.History.Entry.{Told, TookClear, TookRecord}
use Rattle.requester_machine.specs.Message.{Command, Ask, Aim, Content, Sent, asked_in}
use Rattle.requester_machine.specs.Message.Aim.{Plain, ByChunks, ForChunk, InSession}
use Rattle.requester_machine.specs.Message.Command.{Connect, Open, Send, Beat, Update, Measure, End, Retry}
use Rattle.requester_machine.specs.Message.Content.{Clear, Sealed}
use Rattle.requester_machine.specs.Session.{Steps, session_of, is_live, exchange_of, when_live, with_content, with_aim, with_sent, begun, after_command, after_clear, after_record, ends}
use Rattle.requester_machine.specs.Session.Step.{Started, Accepted, Asked, Took}
use Rattle.capture_machine.specs.SessionTable.{accepted_in}

-- ---- The ids of sessions.

-- A live session has the id in its PSK_EXCHANGE.
abbrev pub HasId : ℕ → Steps → Type 0
HasId id s = is_live s ≡ true → id_in_exchange (exchange_of s) ≡ id

abbrev pub HaveIds : History → Type 0
HaveIds h = (id : ℕ) → HasId id (session_of id h)

-- PSK_EXCHANGE that a command sends has a small id.
abbrev pub IsSmallIn : Entry → Type 0
IsSmallIn (Told command sent d) = (x : ExchangeMessage) → asked_in sent.aim ≡ Some (PskExchange x) → x.req_id ≤ 4
IsSmallIn (TookClear tag m led d) = Unit {0}
IsSmallIn (TookRecord tag id sealed inner led d) = Unit {0}

either_id : (id : ℕ) (b : Bool) (s t : Steps) → HasId id s → HasId id t → HasId id (cond b s t)
either_id id true s t p q = p
either_id id false s t p q = q

live_asked : (id : ℕ) (s : Steps) (ask : Ask) (inner sealed : List ℕ) → HasId id s → HasId id (when_live s (Asked ask inner sealed))
live_asked id [] ask inner sealed p = p
live_asked id (x ∷ s) ask inner sealed p = p

live_accepted : (id : ℕ) (s : Steps) (answer : List ℕ) → HasId id s → HasId id (when_live s (Accepted answer))
live_accepted id [] answer p = p
live_accepted id (x ∷ s) answer p = p

live_took : (id : ℕ) (s : Steps) (sealed inner : List ℕ) (effect : Effect) → HasId id s → HasId id (when_live s (Took sealed inner effect))
live_took id [] sealed inner effect p = p
live_took id (x ∷ s) sealed inner effect p = p

content_id : (id : ℕ) (ask : Ask) (content : Content) (s : Steps) → HasId id s → HasId id (with_content ask content s)
content_id id ask (Clear message) s p = p
content_id id ask (Sealed sealed inner pad) s p = live_asked id s ask inner sealed p

aim_id : (id : ℕ) (aim : Aim) (content : Content) (s : Steps) → HasId id s → HasId id (with_aim id aim content s)
aim_id id (Plain asked) content s p = p
aim_id id (ByChunks asked handle number) content s p = p
aim_id id (ForChunk asked handle number before) content s p = p
aim_id id (InSession of ask) content s p = either_id id (of == id) _ s (content_id id ask content s p) p

sent_id : (id : ℕ) (o : Option Sent) (s : Steps) → HasId id s → HasId id (with_sent id o s)
sent_id id None s p = p
sent_id id (Some sent) s p = aim_id id sent.aim sent.content s p

no_id : (id : ℕ) → HasId id []
no_id id live = absurd (false≢true live)

own_id : (id : ℕ) (n : Negotiation) (x : ExchangeMessage) → x.req_id ≤ 4 → (x.req_id == id) ≡ true → HasId id (Started n (canonical_request (PskExchange x)) ∷ [])
own_id id n x small is live = let same : x.req_id ≡ id = eqb-true x.req_id id is in omega arith

exchange_id : (id : ℕ) (n : Negotiation) (x : ExchangeMessage) (s : Steps) → x.req_id ≤ 4 → HasId id s → HasId id (begun id n (Some (PskExchange x)) s)
exchange_id id n x s small p = by_id (x.req_id == id) refl
  where
    by_id : (b : Bool) → (x.req_id == id) ≡ b → HasId id (cond b (Started n (canonical_request (PskExchange x)) ∷ []) s)
    by_id true is = own_id id n x small is
    by_id false is = p

begun_id : (id : ℕ) (n : Negotiation) (o : Option RequestMessage) (s : Steps) → ((x : ExchangeMessage) → o ≡ Some (PskExchange x) → x.req_id ≤ 4) → HasId id s → HasId id (begun id n o s)
begun_id id n None s small p = p
begun_id id n (Some (PskExchange x)) s small p = exchange_id id n x s (small x refl) p
begun_id id n (Some GetVersion) s small p = p
begun_id id n (Some (GetCapabilities caps)) s small p = p
begun_id id n (Some (NegotiateAlgorithms offer)) s small p = p
begun_id id n (Some (GetMeasurements op)) s small p = p
begun_id id n (Some (PskFinish verify)) s small p = p
begun_id id n (Some Heartbeat) s small p = p
begun_id id n (Some (KeyUpdate op tag)) s small p = p
begun_id id n (Some EndSession) s small p = p
begun_id id n (Some (ChunkSend chunk)) s small p = p
begun_id id n (Some (ChunkGet handle number)) s small p = p

command_id : (id : ℕ) (n : Negotiation) (command : Command) (sent : Sent) (s : Steps) → ((x : ExchangeMessage) → asked_in sent.aim ≡ Some (PskExchange x) → x.req_id ≤ 4) → HasId id s → HasId id (after_command id n command sent s)
command_id id n Connect sent s small p = no_id id
command_id id n (Open summary) sent s small p = begun_id id n (asked_in sent.aim) s small p
command_id id n (Send of bytes) sent s small p = sent_id id (Some sent) s p
command_id id n (Beat of) sent s small p = sent_id id (Some sent) s p
command_id id n (Update of all) sent s small p = sent_id id (Some sent) s p
command_id id n (Measure of op) sent s small p = sent_id id (Some sent) s p
command_id id n (End of) sent s small p = sent_id id (Some sent) s p
command_id id n Retry sent s small p = sent_id id (Some sent) s p

clear_id : (id : ℕ) (effect : Effect) (s : Steps) → HasId id s → HasId id (after_clear id effect s)
clear_id id (Answers (PskExchange x) answer) s p = either_id id (x.req_id == id) _ s (live_accepted id s answer p) p
clear_id id (Refuses (PskExchange x)) s p = either_id id (x.req_id == id) [] s (no_id id) p
clear_id id _ s p = p

record_id : (id : ℕ) (sealed inner : List ℕ) (effect : Effect) (s : Steps) → HasId id s → HasId id (after_record sealed inner effect s)
record_id id sealed inner effect s p = either_id id (ends effect) [] _ (no_id id) (live_took id s sealed inner effect p)

pub ids_with : (e : Entry) (h : History) → IsSmallIn e → HaveIds h → HaveIds (e ∷ h)
unfolding session_of
ids_with (Told command sent d) h small ids id = command_id id (negotiation_of h) command sent (session_of id h) small (ids id)
ids_with (TookClear tag m led d) h small ids id = sent_id id led.next _ (clear_id id led.effect (session_of id h) (ids id))
ids_with (TookRecord tag of sealed inner led d) h small ids id =
    either_id id (of == id) _ _ (sent_id id led.next _ (record_id id sealed inner led.effect (session_of id h) (ids id))) (ids id)

-- ---- What counts.

-- Both have as many entries, messages sent and large requests.
pub record Counted (h g : History) : Type 0 where
  pub sent : sent_count h ≡ sent_count g
  pub larges : larges_of h ≡ larges_of g
  pub size : length h ≡ length g

-- All that a requester goes by is the same.
pub record Agree (h g : History) : Type 0 where
  pub counted : Counted h g
  pub phase : phase_of h ≡ phase_of g
  pub negotiation : negotiation_of h ≡ negotiation_of g
  pub sessions : (id : ℕ) → session_of id h ≡ session_of id g
  pub waiting : outstanding h ≡ outstanding g
  pub accepted : accepted_in h ≡ accepted_in g
  pub ids : HaveIds h

pub agree_empty : Agree [] []
unfolding session_of
agree_empty = record {
  counted = record { sent = refl; larges = refl; size = refl };
  phase = refl;
  negotiation = refl;
  sessions = λ id. refl;
  waiting = refl;
  accepted = refl;
  ids = λ id. no_id id;
}

-- One more entry that sends as much.
pub counted_with : (e f : Entry) (h g : History) → is_some (sent_in e) ≡ is_some (sent_in f) → is_first_chunk (sent_in e) ≡ is_first_chunk (sent_in f) → Counted h g → Counted (e ∷ h) (f ∷ g)
counted_with e f h g sends begins c = record {
  sent = ap (λ (b : Bool). cond b (sent_count h + 1) (sent_count h)) sends ∙ ap (λ (n : ℕ). cond (is_some (sent_in f)) (n + 1) n) c.sent;
  larges = ap (λ (b : Bool). cond b (larges_of h + 1) (larges_of h)) begins ∙ ap (λ (n : ℕ). cond (is_first_chunk (sent_in f)) (n + 1) n) c.larges;
  size = ap suc c.size;
}

-- The same entry more.
pub agree_with : (e : Entry) (h g : History) → IsSmallIn e → Agree h g → Agree (e ∷ h) (e ∷ g)
unfolding session_of
agree_with (Told command sent d) h g small a = record {
  counted = counted_with (Told command sent d) (Told command sent d) h g refl refl a.counted;
  phase = ap (cond (is_connect command) Fresh) a.phase;
  negotiation = ap (cond (is_connect command) no_negotiation) a.negotiation;
  sessions = λ id. ap (λ n. after_command id n command sent (session_of id h)) a.negotiation ∙ ap (after_command id (negotiation_of g) command sent) (a.sessions id);
  waiting = refl;
  accepted = refl;
  ids = ids_with (Told command sent d) h small a.ids;
}
agree_with (TookClear tag m led d) h g small a = record {
  counted = counted_with (TookClear tag m led d) (TookClear tag m led d) h g refl refl a.counted;
  phase = ap (phase_after led.effect) a.phase;
  negotiation = ap (negotiation_after led.effect) a.negotiation;
  sessions = λ id. ap (λ s. with_sent id led.next (after_clear id led.effect s)) (a.sessions id);
  waiting = refl;
  accepted = refl;
  ids = ids_with (TookClear tag m led d) h small a.ids;
}
agree_with (TookRecord tag of sealed inner led d) h g small a = record {
  counted = counted_with (TookRecord tag of sealed inner led d) (TookRecord tag of sealed inner led d) h g refl refl a.counted;
  phase = a.phase;
  negotiation = a.negotiation;
  sessions = λ id. ap (λ s. cond (of == id) (with_sent id led.next (after_record sealed inner led.effect s)) s) (a.sessions id);
  waiting = refl;
  accepted = refl;
  ids = ids_with (TookRecord tag of sealed inner led d) h small a.ids;
}

-- Connect starts over, whatever was before.
pub agree_anew : (sent : Sent) (d : Draw) (h g : History) → Counted h g → Agree (Told Connect sent d ∷ h) (Told Connect sent d ∷ g)
unfolding session_of
agree_anew sent d h g c = record {
  counted = counted_with (Told Connect sent d) (Told Connect sent d) h g refl refl c;
  phase = refl;
  negotiation = refl;
  sessions = λ id. refl;
  waiting = refl;
  accepted = refl;
  ids = λ id. no_id id;
}
