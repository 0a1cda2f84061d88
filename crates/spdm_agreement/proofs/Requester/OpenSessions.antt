-- The sessions that a requester holds open are those that its marks tell.
use Rattle.std.proofs.Common.{◌≡◌, ℕ, List, [], ◌∷◌, ◌++◌, Bool, true, false, Option, Some, None, ◌==◌, ◌&&◌, refl, sym, ap, ◌∙◌, subst, eqb-true, eq-eqb, cond, true≢false}
use Rattle.spdm_grammar.specs.Message.{RequestMessage}
use Rattle.spdm_grammar.specs.Message.RequestMessage.{PskExchange}
use Rattle.spdm_grammar.specs.Requests.{canonical_request}
use Rattle.spdm_grammar.specs.declared.told.phase.Stage.{Stage}
use Rattle.spdm_grammar.specs.declared.told.phase.Stage.TheVariants as stage
use Rattle.spdm_machine.specs.Sessions.{is_past_handshake, id_in_exchange}
use Rattle.requester_machine.specs.Setup.{ReqSetup}
use Rattle.requester_machine.specs.History.{History, Effect, Led, outstanding, negotiation_of}
use Rattle.requester_machine.specs.History.Effect.{Answers, Refuses}
use Rattle.requester_machine.specs.History.Entry.{Told, TookClear, TookRecord}
use Rattle.requester_machine.specs.Message.{Ask, Aim, Command, Content, Sent, asked_in}
use Rattle.requester_machine.specs.Message.Aim.{Plain, ByChunks, ForChunk, InSession}
use Rattle.requester_machine.specs.Message.Ask.{AskFinish, AskData, AskBeat, AskUpdate, AskVerify, AskMeasure, AskChunk, AskEnd}
use Rattle.requester_machine.specs.Message.Content.{Clear, Sealed}
use Rattle.requester_machine.specs.RequesterLog.{steps_at}
use Rattle.spdm_machine.specs.Keys.{Draw}
use Rattle.requester_machine.specs.Message.Command.{Connect, Open}
use Rattle.requester_machine.specs.Session.{Step, Steps, session_of, is_live, stage_of, exchange_of, exchange_answer, finish_of, finish_answer, session_vca, t2_of, finishes, ends, answer_in, when_live, with_sent, with_aim, with_content, begun, after_command, after_clear, after_record}
use Rattle.requester_machine.specs.Session.Step.{Started, Accepted, Asked, Took}
use Rattle.transcript.specs.Transcripts as transcript
use Rattle.transcript.specs.Transcripts.{Negotiation}
use Rattle.spdm_agreement.specs.Marks.{asked_open}
use Rattle.spdm_agreement.specs.Marks as marks
use Rattle.spdm_agreement.specs.Reading.{First}
use Rattle.spdm_agreement.specs.Story.{Past, asked_from, asked_first, content_marks, next_marks, command_marks, clear_marks, taken_marks, request_text, ask_in, answer_text}
use Rattle.spdm_agreement.proofs.Messages.Beginnings.{reading_of}
use Rattle.spdm_basis.proofs.Bools.{and_second}

-- What is known of the session of an id and the marks.
pub record AskedAt (psk : List ℕ) (id : ℕ) (s : Steps) (m : List marks.Asked) : Type 0 where
  pub own : is_live s ≡ true → id_in_exchange (exchange_of s) ≡ id
  pub told : (is_live s && is_past_handshake (stage_of s)) ≡ true → asked_open (reading_of psk) id m ≡ Some (asked_first s, t2_of s)

gone : (psk : List ℕ) (id : ℕ) (m : List marks.Asked) → AskedAt psk id [] m
gone psk id m = record { own = λ e. absurd (true≢false (sym e)); told = λ e. absurd (true≢false (sym e)) }

past : (psk : List ℕ) (id : ℕ) (s : Steps) (m m' : List marks.Asked) → asked_open (reading_of psk) id m' ≡ asked_open (reading_of psk) id m → AskedAt psk id s m → AskedAt psk id s m'
past psk id s m m' same i = record { own = i.own; told = λ e. same ∙ i.told e }

-- ---- A message that is sent.

-- It is no PSK_FINISH.
abbrev pub NoFinishAim : Aim → Type 0
NoFinishAim (InSession id AskFinish) = ⊥
NoFinishAim _ = Unit {0}

abbrev pub NoFinish : Option Sent → Type 0
NoFinish None = Unit {0}
NoFinish (Some sent) = NoFinishAim sent.aim

-- It does not go to an established session as PSK_FINISH.
asked : (psk : List ℕ) (id : ℕ) (ask : Ask) (inner sealed : List ℕ) (s : Steps) (m : List marks.Asked) → NoFinishAim (InSession id ask) → AskedAt psk id s m → AskedAt psk id (when_live s (Asked ask inner sealed)) m
asked psk id ask inner sealed [] m n i = gone psk id m
asked psk id AskFinish inner sealed (x ∷ s) m n i = absurd n
asked psk id ask inner sealed (x ∷ s) m n i = record { own = i.own; told = i.told }

with_a_content : (psk : List ℕ) (id : ℕ) (ask : Ask) (c : Content) (s : Steps) (m : List marks.Asked) → NoFinishAim (InSession id ask) → AskedAt psk id s m → AskedAt psk id (with_content ask c s) m
with_a_content psk id ask (Clear message) s m n i = i
with_a_content psk id ask (Sealed sealed inner pad) s m n i = asked psk id ask inner sealed s m n i

with_if : (psk : List ℕ) (id : ℕ) (ask : Ask) (c : Content) (s : Steps) (m : List marks.Asked) (b : Bool) → NoFinishAim (InSession id ask) → AskedAt psk id s m → AskedAt psk id (cond b (with_content ask c s) s) m
with_if psk id ask c s m true n i = with_a_content psk id ask c s m n i
with_if psk id ask c s m false n i = i

plain_ask : (of id : ℕ) (ask : Ask) → NoFinishAim (InSession of ask) → NoFinishAim (InSession id ask)
plain_ask of id AskFinish n = n
plain_ask of id AskData n = tt
plain_ask of id AskBeat n = tt
plain_ask of id (AskUpdate all) n = tt
plain_ask of id AskVerify n = tt
plain_ask of id (AskMeasure op) n = tt
plain_ask of id (AskChunk op handle number before) n = tt
plain_ask of id AskEnd n = tt

with_an_aim : (psk : List ℕ) (id : ℕ) (aim : Aim) (c : Content) (s : Steps) (m : List marks.Asked) → NoFinishAim aim → AskedAt psk id s m → AskedAt psk id (with_aim id aim c s) m
with_an_aim psk id (Plain request) c s m n i = i
with_an_aim psk id (ByChunks request handle number) c s m n i = i
with_an_aim psk id (ForChunk request handle number before) c s m n i = i
with_an_aim psk id (InSession of ask) c s m n i = with_if psk id ask c s m (of == id) (plain_ask of id ask n) i

sent : (psk : List ℕ) (id : ℕ) (o : Option Sent) (s : Steps) (m : List marks.Asked) → NoFinish o → AskedAt psk id s m → AskedAt psk id (with_sent id o s) m
sent psk id None s m n i = i
sent psk id (Some x) s m n i = with_an_aim psk id x.aim x.content s m n i

-- ---- A session in its handshake, whatever is sent.

pub record Shakes (id : ℕ) (s : Steps) : Type 0 where
  pub own : is_live s ≡ true → id_in_exchange (exchange_of s) ≡ id
  pub closed : is_past_handshake (stage_of s) ≡ false

shaking : (psk : List ℕ) (id : ℕ) (s : Steps) (m : List marks.Asked) → Shakes id s → AskedAt psk id s m
shaking psk id s m k = record { own = k.own; told = λ e. absurd (true≢false (sym (and_second _ _ e) ∙ k.closed)) }

shakes_content : (id : ℕ) (ask : Ask) (c : Content) (s : Steps) → Shakes id s → Shakes id (with_content ask c s)
shakes_content id ask (Clear message) s k = k
shakes_content id ask (Sealed sealed inner pad) [] k = record { own = λ e. absurd (true≢false (sym e)); closed = refl }
shakes_content id ask (Sealed sealed inner pad) (x ∷ s) k = record { own = k.own; closed = k.closed }

shakes_if : (id : ℕ) (ask : Ask) (c : Content) (s : Steps) (b : Bool) → Shakes id s → Shakes id (cond b (with_content ask c s) s)
shakes_if id ask c s true k = shakes_content id ask c s k
shakes_if id ask c s false k = k

shakes_aim : (id : ℕ) (aim : Aim) (c : Content) (s : Steps) → Shakes id s → Shakes id (with_aim id aim c s)
shakes_aim id (Plain request) c s k = k
shakes_aim id (ByChunks request handle number) c s k = k
shakes_aim id (ForChunk request handle number before) c s k = k
shakes_aim id (InSession of ask) c s k = shakes_if id ask c s (of == id) k

shakes_sent : (id : ℕ) (o : Option Sent) (s : Steps) → Shakes id s → Shakes id (with_sent id o s)
shakes_sent id None s k = k
shakes_sent id (Some x) s k = shakes_aim id x.aim x.content s k

-- ---- Marks that do not bear on open sessions.

content_past : (psk : List ℕ) (id : ℕ) (s : Steps) (c : Content) (m : List marks.Asked) → asked_open (reading_of psk) id (content_marks s c ++ m) ≡ asked_open (reading_of psk) id m
content_past psk id s (Clear message) m = refl
content_past psk id s (Sealed sealed inner pad) m = refl

next_content : (psk : List ℕ) (id : ℕ) (s : Steps) (c : Content) (x : marks.Asked) (m : List marks.Asked) → asked_open (reading_of psk) id (x ∷ m) ≡ asked_open (reading_of psk) id m
    → asked_open (reading_of psk) id ((content_marks s c ++ x ∷ []) ++ m) ≡ asked_open (reading_of psk) id m
next_content psk id s (Clear message) x m e = e
next_content psk id s (Sealed sealed inner pad) x m e = e

next_past : (psk : List ℕ) (id : ℕ) (s : Steps) (o : Option Sent) (x : marks.Asked) (m : List marks.Asked) → asked_open (reading_of psk) id (x ∷ m) ≡ asked_open (reading_of psk) id m
    → asked_open (reading_of psk) id ((next_marks s o ++ x ∷ []) ++ m) ≡ asked_open (reading_of psk) id m
next_past psk id s None x m e = e
next_past psk id s (Some y) x m e = next_content psk id s y.content x m e

-- ---- Commands.

-- PSK_EXCHANGE tells its ReqSessionID.
abbrev pub TellsId : Option RequestMessage → Type 0
TellsId (Some (PskExchange exchange)) = id_in_exchange (canonical_request (PskExchange exchange)) ≡ exchange.req_id
TellsId _ = Unit {0}

abbrev pub CommandSteady : Command → Sent → Type 0
CommandSteady Connect x = Unit {0}
CommandSteady (Open summary) x = TellsId (asked_in x.aim)
CommandSteady _ x = NoFinishAim x.aim

begins_if : (psk : List ℕ) (id : ℕ) (n : Negotiation) (bytes : List ℕ) (of : ℕ) (s : Steps) (m : List marks.Asked) (b : Bool) → (of == id) ≡ b → id_in_exchange bytes ≡ of → AskedAt psk id s m → AskedAt psk id (cond b (Started n bytes ∷ []) s) m
begins_if psk id n bytes of s m true is tells i = shaking psk id (Started n bytes ∷ []) m (record { own = λ e. tells ∙ eqb-true of id is; closed = refl })
begins_if psk id n bytes of s m false is tells i = i

begins : (psk : List ℕ) (id : ℕ) (n : Negotiation) (o : Option RequestMessage) (s : Steps) (m : List marks.Asked) → TellsId o → AskedAt psk id s m → AskedAt psk id (begun id n o s) m
begins psk id n (Some (PskExchange exchange)) s m tells i = begins_if psk id n (canonical_request (PskExchange exchange)) exchange.req_id s m (exchange.req_id == id) refl tells i
begins psk id n _ s m tells i = i

commanded : (psk : List ℕ) (id : ℕ) (n : Negotiation) (h : History) (c : Command) (x : Sent) (d : Draw) (s : Steps) (m : List marks.Asked) → CommandSteady c x → AskedAt psk id s m → AskedAt psk id (after_command id n c x s) (command_marks h c x d ++ m)
commanded psk id n h Connect x d s m steady i = gone psk id _
commanded psk id n h (Open summary) x d s m steady i = past psk id _ m _ refl (begins psk id n (asked_in x.aim) s m steady i)
commanded psk id n h c x d s m steady i = past psk id _ m _ (content_past psk id (steps_at h x.aim) x.content m) (sent psk id (Some x) s m steady i)

-- ---- In the clear.

abbrev pub GoesTo : ℕ → Aim → Type 0
GoesTo id (InSession of ask) = of ≡ id
GoesTo id _ = Unit {0}

abbrev pub NextGoesTo : ℕ → Option Sent → Type 0
NextGoesTo id None = Unit {0}
NextGoesTo id (Some x) = GoesTo id x.aim

-- The answer to PSK_EXCHANGE comes to its session, which is in the handshake, and so does what is sent then.
abbrev pub ClearSteady : History → Effect → Option Sent → Type 0
ClearSteady h (Answers (PskExchange exchange) answer) next =
    (is_live (session_of exchange.req_id h) ≡ true) × (is_past_handshake (stage_of (session_of exchange.req_id h)) ≡ false) × NextGoesTo exchange.req_id next
ClearSteady h _ next = NoFinish next

elsewhere_if : (of id : ℕ) (ask : Ask) (c : Content) (s : Steps) (b : Bool) → (of == id) ≡ b → b ≡ false → cond b (with_content ask c s) s ≡ s
elsewhere_if of id ask c s true is other = absurd (true≢false other)
elsewhere_if of id ask c s false is other = refl

elsewhere_aim : (req id : ℕ) (aim : Aim) (c : Content) (s : Steps) → GoesTo req aim → (req == id) ≡ false → with_aim id aim c s ≡ s
elsewhere_aim req id (Plain request) c s g other = refl
elsewhere_aim req id (ByChunks request handle number) c s g other = refl
elsewhere_aim req id (ForChunk request handle number before) c s g other = refl
elsewhere_aim req id (InSession of ask) c s g other = elsewhere_if of id ask c s (of == id) refl (ap (λ (n : ℕ). n == id) g ∙ other)

elsewhere_sent : (req id : ℕ) (o : Option Sent) (s : Steps) → NextGoesTo req o → (req == id) ≡ false → with_sent id o s ≡ s
elsewhere_sent req id None s g other = refl
elsewhere_sent req id (Some x) s g other = elsewhere_aim req id x.aim x.content s g other

accepted_live : (id : ℕ) (s : Steps) (answer : List ℕ) → is_live s ≡ true → (is_live s ≡ true → id_in_exchange (exchange_of s) ≡ id) → is_past_handshake (stage_of s) ≡ false → Shakes id (when_live s (Accepted answer))
accepted_live id [] answer l own closed = absurd (true≢false (sym l))
accepted_live id (x ∷ s) answer l own closed = record { own = own; closed = closed }

accepted_id : (id : ℕ) (s : Steps) (answer : List ℕ) → is_live s ≡ true → (is_live s ≡ true → id_in_exchange (exchange_of s) ≡ id) → id_in_exchange (exchange_of (when_live s (Accepted answer))) ≡ id
accepted_id id [] answer l own = absurd (true≢false (sym l))
accepted_id id (x ∷ s) answer l own = own refl

-- own is the session of the exchange, s that of the id.
accepts_by : (psk : List ℕ) (req id : ℕ) (own s : Steps) (answer : List ℕ) (next : Option Sent) (m : List marks.Asked) (b : Bool) → (req == id) ≡ b → (req ≡ id → own ≡ s)
    → is_live own ≡ true → is_past_handshake (stage_of own) ≡ false → NextGoesTo req next → AskedAt psk req own m → AskedAt psk id s m
    → AskedAt psk id (with_sent id next (cond b (when_live s (Accepted answer)) s)) (marks.Asked.Accepted (asked_first (when_live own (Accepted answer))) ∷ m)
accepts_by psk req id own s answer next m true is same l closed g o i =
    let e : own ≡ s = same (eqb-true req id is) in
    let live : is_live s ≡ true = subst (λ (x : Steps). is_live x ≡ true) e l in
    let shut : is_past_handshake (stage_of s) ≡ false = subst (λ (x : Steps). is_past_handshake (stage_of x) ≡ false) e closed in
    shaking psk id _ _ (shakes_sent id next (when_live s (Accepted answer)) (accepted_live id s answer live i.own shut))
accepts_by psk req id own s answer next m false is same l closed g o i =
    let other : id_in_exchange (exchange_of (when_live own (Accepted answer))) ≡ req = accepted_id req own answer l o.own in
    subst (λ (x : Steps). AskedAt psk id x (marks.Asked.Accepted (asked_first (when_live own (Accepted answer))) ∷ m)) (sym (elsewhere_sent req id next s g is))
    (past psk id s m _ (ap (λ (b : Bool). cond b None (asked_open (reading_of psk) id m)) (ap (λ (n : ℕ). n == id) other ∙ is)) i)

refused_if : (psk : List ℕ) (id : ℕ) (s : Steps) (m : List marks.Asked) (b : Bool) → AskedAt psk id s m → AskedAt psk id (cond b [] s) m
refused_if psk id s m true i = gone psk id m
refused_if psk id s m false i = i

-- The older history has the sessions, of which that of the id is s.
cleared : (psk : List ℕ) (id : ℕ) (h : History) (effect : Effect) (next : Option Sent) (m : List marks.Asked) → ClearSteady h effect next → ((of : ℕ) → AskedAt psk of (session_of of h) m)
    → AskedAt psk id (with_sent id next (after_clear id effect (session_of id h))) (clear_marks h effect ++ m)
cleared psk id h (Answers (PskExchange exchange) answer) next m steady all =
    accepts_by psk exchange.req_id id (session_of exchange.req_id h) (session_of id h) answer next m (exchange.req_id == id) refl (λ e. ap (λ (n : ℕ). session_of n h) e) steady.0 steady.1 steady.2 (all exchange.req_id) (all id)
cleared psk id h (Answers _ answer) next m steady all = sent psk id next (session_of id h) m steady (all id)
cleared psk id h (Refuses (PskExchange exchange)) next m steady all = sent psk id next _ m steady (refused_if psk id (session_of id h) m (exchange.req_id == id) (all id))
cleared psk id h (Refuses _) next m steady all = sent psk id next (session_of id h) m steady (all id)
cleared psk id h _ next m steady all = sent psk id next (session_of id h) m steady (all id)

-- ---- In a session.

-- A record in the handshake ends it only where it is PSK_FINISH_RSP, and after it there is none.
abbrev pub EndsByAnswer : Stage → Steps → (sealed inner : List ℕ) → Effect → Type 0
EndsByAnswer stage.Handshake s sealed inner effect = is_past_handshake (stage_of (Took sealed inner effect ∷ s)) ≡ true → finishes effect ≡ true
EndsByAnswer stage.Open s sealed inner effect = finishes effect ≡ false
EndsByAnswer stage.Verifying s sealed inner effect = finishes effect ≡ false

abbrev pub RecordSteady : Steps → (sealed inner : List ℕ) → Effect → Option Sent → Type 0
RecordSteady s sealed inner effect next = (is_live s ≡ true) × EndsByAnswer (stage_of s) s sealed inner effect × NoFinish next

opened_by : (psk : List ℕ) (id : ℕ) (x : Step) (s : Steps) (sealed inner : List ℕ) (effect : Effect) (m : List marks.Asked) (b : Bool) → id_in_exchange (exchange_of (x ∷ s)) ≡ id → (is_past_handshake (stage_of (Took sealed inner effect ∷ x ∷ s)) ≡ true → b ≡ true)
    → AskedAt psk id (Took sealed inner effect ∷ x ∷ s) (cond b (marks.Asked.Opened (asked_first (x ∷ s)) (t2_of (Took sealed inner effect ∷ x ∷ s)) ∷ []) [] ++ m)
opened_by psk id x s sealed inner effect m true own only = record {
  own = λ l. own;
  told = λ l. ap (λ (b : Bool). cond b (Some (asked_first (x ∷ s), t2_of (Took sealed inner effect ∷ x ∷ s))) (asked_open (reading_of psk) id m)) (eq-eqb _ _ own);
}
opened_by psk id x s sealed inner effect m false own only = record { own = λ l. own; told = λ l. absurd (true≢false (sym (only l))) }

pub same_second : (s : Steps) (sealed inner : List ℕ) (effect : Effect) → finishes effect ≡ false → t2_of s ≡ t2_of (Took sealed inner effect ∷ s)
same_second s sealed inner effect other =
    sym (ap (λ (b : Bool). transcript.t2_of (session_vca s) (exchange_of s) (exchange_answer s) (finish_of s) (cond b (answer_in effect) (finish_answer s))) other)

replied_by : (psk : List ℕ) (id : ℕ) (x : Step) (s : Steps) (sealed inner : List ℕ) (effect : Effect) (m m' : List marks.Asked) → is_past_handshake (stage_of (x ∷ s)) ≡ true → finishes effect ≡ false
    → asked_open (reading_of psk) id m' ≡ asked_open (reading_of psk) id m → AskedAt psk id (x ∷ s) m → AskedAt psk id (Took sealed inner effect ∷ x ∷ s) m'
replied_by psk id x s sealed inner effect m m' past_it other same i = record {
  own = λ l. i.own refl;
  told = λ l. same ∙ i.told past_it ∙ ap (λ (u : List ℕ). Some (asked_first (x ∷ s), u)) (same_second (x ∷ s) sealed inner effect other);
}

took_stage : (psk : List ℕ) (q : ReqSetup) (id : ℕ) (g : Stage) (x : Step) (s : Steps) (waiting : Option Sent) (sealed inner : List ℕ) (led : Led) (m : List marks.Asked) → stage_of (x ∷ s) ≡ g → EndsByAnswer g (x ∷ s) sealed inner led.effect
    → AskedAt psk id (x ∷ s) m → AskedAt psk id (Took sealed inner led.effect ∷ x ∷ s) (taken_marks g q (x ∷ s) waiting sealed inner led ++ m)
took_stage psk q id stage.Handshake x s waiting sealed inner led m is steady i = opened_by psk id x s sealed inner led.effect m (finishes led.effect) (i.own refl) steady
took_stage psk q id stage.Open x s waiting sealed inner led m is steady i =
    replied_by psk id x s sealed inner led.effect m _ (ap is_past_handshake is) steady (next_past psk id (Took sealed inner led.effect ∷ x ∷ s) led.next (marks.Asked.Heard (t2_of (x ∷ s)) (request_text waiting) (answer_text q.psk (x ∷ s) (ask_in waiting) sealed)) m refl) i
took_stage psk q id stage.Verifying x s waiting sealed inner led m is steady i =
    replied_by psk id x s sealed inner led.effect m _ (ap is_past_handshake is) steady (next_past psk id (Took sealed inner led.effect ∷ x ∷ s) led.next (marks.Asked.Heard (t2_of (x ∷ s)) (request_text waiting) (answer_text q.psk (x ∷ s) (ask_in waiting) sealed)) m refl) i

took : (psk : List ℕ) (q : ReqSetup) (id : ℕ) (s : Steps) (waiting : Option Sent) (sealed inner : List ℕ) (led : Led) (m : List marks.Asked) → RecordSteady s sealed inner led.effect led.next
    → AskedAt psk id s m → AskedAt psk id (with_sent id led.next (after_record sealed inner led.effect s)) (taken_marks (stage_of s) q s waiting sealed inner led ++ m)
took psk q id [] waiting sealed inner led m steady i = absurd (true≢false (sym steady.0))
took psk q id (x ∷ s) waiting sealed inner led m steady i =
    sent psk id led.next _ _ steady.2
    (refused_if psk id (Took sealed inner led.effect ∷ x ∷ s) _ (ends led.effect) (took_stage psk q id (stage_of (x ∷ s)) x s waiting sealed inner led m refl steady.1 i))

-- Marks of the session of another id.
opened_past : (psk : List ℕ) (id : ℕ) (x : First) (u : List ℕ) (m : List marks.Asked) (b : Bool) → (id_in_exchange x.exchange == id) ≡ false → asked_open (reading_of psk) id (cond b (marks.Asked.Opened x u ∷ []) [] ++ m) ≡ asked_open (reading_of psk) id m
opened_past psk id x u m true other = ap (λ (b : Bool). cond b (Some (x, u)) (asked_open (reading_of psk) id m)) other
opened_past psk id x u m false other = refl

taken_past : (psk : List ℕ) (q : ReqSetup) (id : ℕ) (g : Stage) (s : Steps) (waiting : Option Sent) (sealed inner : List ℕ) (led : Led) (m : List marks.Asked) → (id_in_exchange (exchange_of s) == id) ≡ false
    → asked_open (reading_of psk) id (taken_marks g q s waiting sealed inner led ++ m) ≡ asked_open (reading_of psk) id m
taken_past psk q id stage.Handshake s waiting sealed inner led m other = opened_past psk id (asked_first s) (t2_of (Took sealed inner led.effect ∷ s)) m (finishes led.effect) other
taken_past psk q id stage.Open s waiting sealed inner led m other = next_past psk id (Took sealed inner led.effect ∷ s) led.next (marks.Asked.Heard (t2_of s) (request_text waiting) (answer_text q.psk s (ask_in waiting) sealed)) m refl
taken_past psk q id stage.Verifying s waiting sealed inner led m other = next_past psk id (Took sealed inner led.effect ∷ s) led.next (marks.Asked.Heard (t2_of s) (request_text waiting) (answer_text q.psk s (ask_in waiting) sealed)) m refl

recorded : (psk : List ℕ) (q : ReqSetup) (of id : ℕ) (own s : Steps) (waiting : Option Sent) (sealed inner : List ℕ) (led : Led) (m : List marks.Asked) (b : Bool) → (of == id) ≡ b → (of ≡ id → own ≡ s) → RecordSteady own sealed inner led.effect led.next
    → AskedAt psk of own m → AskedAt psk id s m → AskedAt psk id (cond b (with_sent id led.next (after_record sealed inner led.effect s)) s) (taken_marks (stage_of own) q own waiting sealed inner led ++ m)
recorded psk q of id own s waiting sealed inner led m true is same steady o i =
    let e : own ≡ s = same (eqb-true of id is) in
    subst (λ (x : Steps). AskedAt psk id (with_sent id led.next (after_record sealed inner led.effect x)) (taken_marks (stage_of own) q own waiting sealed inner led ++ m)) e
    (took psk q id own waiting sealed inner led m steady (subst (λ (x : Steps). AskedAt psk id x m) (sym e) i))
recorded psk q of id own s waiting sealed inner led m false is same steady o i =
    past psk id s m _ (taken_past psk q id (stage_of own) own waiting sealed inner led m (ap (λ (n : ℕ). n == id) (o.own steady.0) ∙ is)) i

-- ---- All sessions.

abbrev pub IsSteady : History → Type 0
IsSteady [] = Unit {0}
IsSteady (Told command x d ∷ older) = CommandSteady command x × IsSteady older
IsSteady (TookClear tag m led d ∷ older) = ClearSteady older led.effect led.next × IsSteady older
IsSteady (TookRecord tag of sealed inner led d ∷ older) = RecordSteady (session_of of older) sealed inner led.effect led.next × IsSteady older

pub asked_stands : (prior : Past) → (psk : List ℕ) (q : ReqSetup) (h : History) → IsSteady h → (id : ℕ) → AskedAt psk id (session_of id h) (asked_from prior q h)
unfolding session_of
asked_stands prior psk q [] steady id = gone psk id (prior.asked q)
asked_stands prior psk q (Told command x d ∷ older) steady id = commanded psk id (negotiation_of older) older command x d (session_of id older) (asked_from prior q older) steady.0 (asked_stands prior psk q older steady.1 id)
asked_stands prior psk q (TookClear tag m led d ∷ older) steady id = cleared psk id older led.effect led.next (asked_from prior q older) steady.0 (λ of. asked_stands prior psk q older steady.1 of)
asked_stands prior psk q (TookRecord tag of sealed inner led d ∷ older) steady id =
    recorded psk q of id (session_of of older) (session_of id older) (outstanding older) sealed inner led (asked_from prior q older) (of == id) refl (λ e. ap (λ (n : ℕ). session_of n older) e) steady.0 (asked_stands prior psk q older steady.1 of) (asked_stands prior psk q older steady.1 id)
