-- The sessions of a requester began with what its commands told, and each that was accepted has a mark of it. No premise
-- of chance is needed.
use Rattle.std.proofs.Common.{◌≡◌, ◌⊎◌, ℕ, List, [], ◌∷◌, ◌++◌, Bool, true, false, cond, Option, Some, None, ◌==◌, refl, sym, ap, ◌∙◌, subst, inl, inr, eqb-true, true≢false}
use Rattle.requester_machine.proofs.MadeOrder.{in_order}
use Rattle.requester_machine.specs.Answers.{with_answer}
use Rattle.requester_machine.specs.Does.{IsMade, command_chosen, body_chosen}
use Rattle.requester_machine.specs.Commands.{Free, exchange_for}
use Rattle.requester_machine.specs.RequesterLog.{steps_at}
use Rattle.requester_machine.specs.History.{History, Effect, Led, outstanding, negotiation_of}
use Rattle.requester_machine.specs.History.Effect.{Answers}
use Rattle.requester_machine.specs.History.Entry.{Told, TookClear, TookRecord}
use Rattle.requester_machine.specs.Message.{Ask, Aim, Command, Content, Sent}
use Rattle.requester_machine.specs.Message.Aim.{Plain, ByChunks, ForChunk, InSession}
use Rattle.requester_machine.specs.Message.Command.{Connect, Open, Send, Beat, Update, Measure, End, Retry}
use Rattle.requester_machine.specs.Message.Content.{Clear, Sealed}
use Rattle.requester_machine.specs.Order.{IsOrdered, waiting_ask}
use Rattle.requester_machine.specs.Sending.{finish_sent}
use Rattle.requester_machine.specs.Session.{Steps, session_of, is_live, is_accepted, stage_of, t2_of, finishes, ends, when_live, with_sent, with_aim, with_content, begun, after_command, after_clear, after_record}
use Rattle.requester_machine.specs.Session.Step.{Started, Accepted, Asked, Took}
use Rattle.requester_machine.specs.Setup.{ReqSetup}
use Rattle.spdm_agreement.proofs.Requester.ClearLeads.{IsPlain}
use Rattle.spdm_agreement.proofs.Requester.Entries.{CommandShape, IsTookClear, IsTookRecord, told_shape, clear_entry, record_entry}
use Rattle.spdm_agreement.proofs.Requester.Waiting.{waited_for}
use Rattle.spdm_agreement.proofs.Worlds.Behind.{accepted_old}
use Rattle.spdm_agreement.specs.Marks as marks
use Rattle.spdm_agreement.specs.Marks.{IsAccepted, IsOpened}
use Rattle.spdm_agreement.specs.Reading.{First}
use Rattle.spdm_agreement.specs.Story.{asked_marks, asked_first, clear_marks, command_marks, exchange_id, taken_marks, next_marks, content_marks, request_text, answer_text, ask_in}
use Rattle.spdm_grammar.specs.Message.{RequestMessage}
use Rattle.spdm_grammar.specs.Message.RequestMessage.{PskExchange}
use Rattle.spdm_grammar.specs.Requests.{canonical_request}
use Rattle.spdm_grammar.specs.declared.told.phase.Stage.{Stage}
use Rattle.spdm_grammar.specs.declared.told.phase.Stage.TheVariants as stage
use Rattle.spdm_machine.specs.Keys.{Draw}
use Rattle.spdm_machine.specs.Bodies.{clear_body, record_body}
use Rattle.transcript.specs.Transcripts.{Negotiation}

-- ---- A session that goes on.

-- The later session began as the earlier one, and was accepted only if that was.
pub record Follows (s later : Steps) : Type 0 where
  pub live : is_live later ≡ true → is_live s ≡ true
  pub first : is_live later ≡ true → asked_first later ≡ asked_first s
  pub accepted : is_accepted later ≡ true → is_accepted s ≡ true

stays : (s : Steps) → Follows s s
stays s = record { live = λ l. l; first = λ l. refl; accepted = λ a. a }

gone : (s : Steps) → Follows s []
gone s = record { live = λ l. absurd (true≢false (sym l)); first = λ l. absurd (true≢false (sym l)); accepted = λ a. absurd (true≢false (sym a)) }

chain : (s y z : Steps) → Follows s y → Follows y z → Follows s z
chain s y z a b = record { live = λ l. a.live (b.live l); first = λ l. b.first l ∙ a.first (b.live l); accepted = λ k. a.accepted (b.accepted k) }

asked : (ask : Ask) (inner sealed : List ℕ) (s : Steps) → Follows s (when_live s (Asked ask inner sealed))
asked ask inner sealed [] = stays []
asked ask inner sealed (x ∷ s) = record { live = λ l. refl; first = λ l. refl; accepted = λ a. a }

took : (sealed inner : List ℕ) (effect : Effect) (s : Steps) → Follows s (when_live s (Took sealed inner effect))
took sealed inner effect [] = stays []
took sealed inner effect (x ∷ s) = record { live = λ l. refl; first = λ l. refl; accepted = λ a. a }

content_follows : (ask : Ask) (c : Content) (s : Steps) → Follows s (with_content ask c s)
content_follows ask (Clear message) s = stays s
content_follows ask (Sealed sealed inner pad) s = asked ask inner sealed s

if_follows : (b : Bool) (s x : Steps) → Follows s x → Follows s (cond b x s)
if_follows true s x f = f
if_follows false s x f = stays s

gone_if : (b : Bool) (s x : Steps) → Follows s x → Follows s (cond b [] x)
gone_if true s x f = gone s
gone_if false s x f = f

aim_follows : (id : ℕ) (aim : Aim) (c : Content) (s : Steps) → Follows s (with_aim id aim c s)
aim_follows id (Plain request) c s = stays s
aim_follows id (ByChunks request handle number) c s = stays s
aim_follows id (ForChunk request handle number before) c s = stays s
aim_follows id (InSession of ask) c s = if_follows (of == id) s (with_content ask c s) (content_follows ask c s)

sent_follows : (id : ℕ) (o : Option Sent) (s : Steps) → Follows s (with_sent id o s)
sent_follows id None s = stays s
sent_follows id (Some x) s = aim_follows id x.aim x.content s

refused_follows : (id : ℕ) (s : Steps) (r : RequestMessage) → Follows s (after_clear id (Effect.Refuses r) s)
refused_follows id s (PskExchange exchange) = gone_if (exchange.req_id == id) s s (stays s)
refused_follows id s _ = stays s

plain_follows : (id : ℕ) (effect : Effect) (s : Steps) → IsPlain effect → Follows s (after_clear id effect s)
plain_follows id (Answers (PskExchange exchange) answer) s p = absurd p
plain_follows id (Answers _ answer) s p = stays s
plain_follows id (Effect.Refuses r) s p = refused_follows id s r
plain_follows id _ s p = stays s

-- ---- What is known of a session.

-- It began well, and has a mark where it was accepted.
pub record IsWell (Well : Negotiation → List ℕ → Type 0) (m : List marks.Asked) (s : Steps) : Type 0 where
  pub began : is_live s ≡ true → Well (asked_first s).negotiation (asked_first s).exchange
  pub accepted : is_accepted s ≡ true → IsAccepted m (asked_first s)

live_accepted : (s : Steps) → is_accepted s ≡ true → is_live s ≡ true
live_accepted [] a = absurd (true≢false (sym a))
live_accepted (x ∷ s) a = refl

well_follows : (Well : Negotiation → List ℕ → Type 0) (new m : List marks.Asked) (s later : Steps) → Follows s later → IsWell Well m s → IsWell Well (new ++ m) later
well_follows Well new m s later f k = record {
  began = λ l. subst (λ (t : First). Well t.negotiation t.exchange) (sym (f.first l)) (k.began (f.live l));
  accepted = λ a. accepted_old new m (asked_first later) (subst (IsAccepted m) (sym (f.first (live_accepted later a))) (k.accepted (f.accepted a)));
}

-- Each session that Open began began well.
abbrev pub OpensWell : ReqSetup → (Negotiation → List ℕ → Type 0) → History → Type 0
OpensWell q Well [] = Unit {0}
OpensWell q Well (Told (Open summary) x d ∷ older) = Well (negotiation_of older) (canonical_request (exchange_for q (command_chosen q older d) summary)) × OpensWell q Well older
OpensWell q Well (_ ∷ older) = OpensWell q Well older

module _ (q : ReqSetup) (Well : Negotiation → List ℕ → Type 0) where
  begun_well : (id of : ℕ) (n : Negotiation) (bytes : List ℕ) (s : Steps) (m : List marks.Asked) (draw : ℕ) (b : Bool) → Well n bytes → IsWell Well m s → IsWell Well (marks.Asked.Started of draw ∷ m) (cond b (Started n bytes ∷ []) s)
  begun_well id of n bytes s m draw true w k = record { began = λ l. w; accepted = λ a. absurd (true≢false (sym a)) }
  begun_well id of n bytes s m draw false w k = record { began = k.began; accepted = k.accepted }

  accepted_well : (id req : ℕ) (own s : Steps) (answer : List ℕ) (m : List marks.Asked) (b : Bool) → (req == id) ≡ b → (req ≡ id → own ≡ s) → IsWell Well m s
      → IsWell Well (marks.Asked.Accepted (asked_first (when_live own (Accepted answer))) ∷ m) (cond b (when_live s (Accepted answer)) s)
  accepted_well id req own s answer m true is same k =
      let e = same (eqb-true req id is) in record {
        began = began_by s answer k.began;
        accepted = λ a. inl (sym (ap (λ (x : Steps). asked_first (when_live x (Accepted answer))) e));
      }
    where
      began_by : (s : Steps) (answer : List ℕ) → (is_live s ≡ true → Well (asked_first s).negotiation (asked_first s).exchange) → is_live (when_live s (Accepted answer)) ≡ true
          → Well (asked_first (when_live s (Accepted answer))).negotiation (asked_first (when_live s (Accepted answer))).exchange
      began_by [] answer w l = absurd (true≢false (sym l))
      began_by (x ∷ s) answer w l = w refl
  accepted_well id req own s answer m false is same k = record { began = k.began; accepted = λ a. inr (k.accepted a) }

  told_well : (h : History) (id : ℕ) (c : Command) (x : Sent) (d : Draw) → CommandShape q h (command_chosen q h d) c x → OpensWell q Well (Told c x d ∷ h) → IsWell Well (asked_marks q h) (session_of id h)
      → IsWell Well (command_marks h c x d ++ asked_marks q h) (after_command id (negotiation_of h) c x (session_of id h))
  told_well h id Connect x d k w i = well_follows Well (command_marks h Connect x d) (asked_marks q h) (session_of id h) [] (gone (session_of id h)) i
  told_well h id (Open summary) x d k w i =
      subst (λ (o : Option RequestMessage). IsWell Well (marks.Asked.Started (exchange_id o) d.number ∷ asked_marks q h) (begun id (negotiation_of h) o (session_of id h))) (sym k.asks)
      (begun_well id (command_chosen q h d).id (negotiation_of h) (canonical_request (exchange_for q (command_chosen q h d) summary)) (session_of id h) (asked_marks q h) d.number ((command_chosen q h d).id == id) w.0 i)
  told_well h id (Send of bytes) x d k w i = well_follows Well (command_marks h (Send of bytes) x d) (asked_marks q h) (session_of id h) _ (sent_follows id (Some x) (session_of id h)) i
  told_well h id (Beat of) x d k w i = well_follows Well (command_marks h (Beat of) x d) (asked_marks q h) (session_of id h) _ (sent_follows id (Some x) (session_of id h)) i
  told_well h id (Update of all) x d k w i = well_follows Well (command_marks h (Update of all) x d) (asked_marks q h) (session_of id h) _ (sent_follows id (Some x) (session_of id h)) i
  told_well h id (Measure of op) x d k w i = well_follows Well (command_marks h (Measure of op) x d) (asked_marks q h) (session_of id h) _ (sent_follows id (Some x) (session_of id h)) i
  told_well h id (End of) x d k w i = well_follows Well (command_marks h (End of) x d) (asked_marks q h) (session_of id h) _ (sent_follows id (Some x) (session_of id h)) i
  told_well h id Retry x d k w i = absurd k

  clear_well : (h : History) (id : ℕ) (f : Free) (body m : List ℕ) (led : Led) → IsTookClear q h f body m led → ((of : ℕ) → IsWell Well (asked_marks q h) (session_of of h))
      → IsWell Well (clear_marks h led.effect ++ asked_marks q h) (with_sent id led.next (after_clear id led.effect (session_of id h)))
  clear_well h id f body m led k all = elim k.led_to [
    | inl x ↦ subst (λ (l : Led). IsWell Well (clear_marks h l.effect ++ asked_marks q h) (with_sent id l.next (after_clear id l.effect (session_of id h)))) (sym x.is)
        (well_follows Well [] _ _ _ (sent_follows id (Some (finish_sent q h x.exchange.req_id (with_answer h x.exchange x.answer) f.pad)) _)
        (accepted_well id x.exchange.req_id (session_of x.exchange.req_id h) (session_of id h) x.answer (asked_marks q h) (x.exchange.req_id == id) refl (λ e. ap (λ (n : ℕ). session_of n h) e) (all id)))
    | inr a ↦ well_follows Well (clear_marks h led.effect) (asked_marks q h) (session_of id h) _ (chain _ _ _ (plain_follows id led.effect (session_of id h) a.effect) (sent_follows id led.next _)) (all id)
  ]

  record_follows : (id : ℕ) (sealed inner : List ℕ) (led : Led) (s : Steps) (b : Bool) → Follows s (cond b (with_sent id led.next (after_record sealed inner led.effect s)) s)
  record_follows id sealed inner led s b = if_follows b s _ (chain _ _ _ (gone_if (ends led.effect) s _ (took sealed inner led.effect s)) (sent_follows id led.next _))

  pub sessions_well : (h : History) → IsMade q h → OpensWell q Well h → (id : ℕ) → IsWell Well (asked_marks q h) (session_of id h)
  unfolding session_of
  sessions_well [] made w id = record { began = λ l. absurd (true≢false (sym l)); accepted = λ a. absurd (true≢false (sym a)) }
  sessions_well (Told c x d ∷ older) made w id =
      told_well older id c x d (told_shape false q older c c (command_chosen q older d) d d x made.0) w (sessions_well older made.1 (older_well c x d older w) id)
    where
      older_well : (c : Command) (x : Sent) (d : Draw) (older : History) → OpensWell q Well (Told c x d ∷ older) → OpensWell q Well older
      older_well (Open summary) x d older w = w.1
      older_well _ x d older w = w
  sessions_well (TookClear tag m led d ∷ older) made w id =
      clear_well older id (body_chosen q older d) (clear_body m) m led (clear_entry q older false tag tag (clear_body m) m (body_chosen q older d) led d d made.0) (λ of. sessions_well older made.1 w of)
  sessions_well (TookRecord tag of sealed inner led d ∷ older) made w id =
      well_follows Well (taken_marks (stage_of (session_of of older)) q (session_of of older) (outstanding older) sealed inner led) (asked_marks q older) (session_of id older) _ (record_follows id sealed inner led (session_of id older) (of == id)) (sessions_well older made.1 w id)

-- ---- What opened was accepted.

pub ordered_accepted : (s : Steps) (ask : Ask) → IsOrdered s → waiting_ask s ≡ Some ask → is_accepted s ≡ true
ordered_accepted (Asked asks inner sealed ∷ s) ask o w = o.1
ordered_accepted (x ∷ s) ask o w = absurd (cc)
ordered_accepted [] ask o w = absurd (cc)

-- The session to which a record came was accepted.
pub waited_accepted : (q : ReqSetup) (h : History) (f : Free) (body : List ℕ) (of : ℕ) (sealed inner : List ℕ) (led : Led) → IsTookRecord q h f body of sealed inner led → IsMade q h → is_accepted (session_of of h) ≡ true
waited_accepted q h f body of sealed inner led k made =
    let w = waited_for q h f body of sealed inner led k made in
    ordered_accepted (session_of of h) k.ask (in_order q h of made).ordered w.1

-- No session opens by these marks.
abbrev NoOpen : List marks.Asked → Type 0
NoOpen [] = Unit {0}
NoOpen (marks.Asked.Opened t u ∷ m) = ⊥
NoOpen (_ ∷ m) = NoOpen m

none_opened : (new m : List marks.Asked) (t : First) (u : List ℕ) → NoOpen new → IsOpened (new ++ m) t u → IsOpened m t u
none_opened [] m t u n o = o
none_opened (marks.Asked.Opened s v ∷ new) m t u n o = absurd n
none_opened (marks.Asked.Started id draw ∷ new) m t u n o = none_opened new m t u n o
none_opened (marks.Asked.Accepted s ∷ new) m t u n o = none_opened new m t u n o
none_opened (marks.Asked.Sealed v b ∷ new) m t u n o = none_opened new m t u n o
none_opened (marks.Asked.Heard v b reply ∷ new) m t u n o = none_opened new m t u n o

content_none : (s : Steps) (c : Content) → NoOpen (content_marks s c)
content_none s (Clear message) = tt
content_none s (Sealed sealed inner pad) = tt

command_none : (h : History) (c : Command) (x : Sent) (d : Draw) → NoOpen (command_marks h c x d)
command_none h (Open summary) x d = tt
command_none h Connect x d = content_none (steps_at h x.aim) x.content
command_none h (Send id bytes) x d = content_none (steps_at h x.aim) x.content
command_none h (Beat id) x d = content_none (steps_at h x.aim) x.content
command_none h (Update id all) x d = content_none (steps_at h x.aim) x.content
command_none h (Measure id op) x d = content_none (steps_at h x.aim) x.content
command_none h (End id) x d = content_none (steps_at h x.aim) x.content
command_none h Retry x d = content_none (steps_at h x.aim) x.content

clear_none : (h : History) (effect : Effect) → NoOpen (clear_marks h effect)
clear_none h (Answers (PskExchange exchange) answer) = tt
clear_none h (Answers _ answer) = tt
clear_none h _ = tt

content_heard : (s : Steps) (c : Content) (v b reply : List ℕ) → NoOpen (content_marks s c ++ marks.Asked.Heard v b reply ∷ [])
content_heard s (Clear message) v b reply = tt
content_heard s (Sealed sealed inner pad) v b reply = tt

next_none : (s : Steps) (o : Option Sent) (v b reply : List ℕ) → NoOpen (next_marks s o ++ marks.Asked.Heard v b reply ∷ [])
next_none s None v b reply = tt
next_none s (Some x) v b reply = content_heard s x.content v b reply

-- No session is accepted by these marks.
abbrev pub NoAccept : List marks.Asked → Type 0
NoAccept [] = Unit {0}
NoAccept (marks.Asked.Accepted t ∷ m) = ⊥
NoAccept (_ ∷ m) = NoAccept m

pub none_accepted : (new m : List marks.Asked) (t : First) → NoAccept new → IsAccepted (new ++ m) t → IsAccepted m t
none_accepted [] m t n o = o
none_accepted (marks.Asked.Accepted s ∷ new) m t n o = absurd n
none_accepted (marks.Asked.Started id draw ∷ new) m t n o = none_accepted new m t n o
none_accepted (marks.Asked.Opened s v ∷ new) m t n o = none_accepted new m t n o
none_accepted (marks.Asked.Sealed v b ∷ new) m t n o = none_accepted new m t n o
none_accepted (marks.Asked.Heard v b reply ∷ new) m t n o = none_accepted new m t n o

content_accepts : (s : Steps) (c : Content) → NoAccept (content_marks s c)
content_accepts s (Clear message) = tt
content_accepts s (Sealed sealed inner pad) = tt

pub command_accepts : (h : History) (c : Command) (x : Sent) (d : Draw) → NoAccept (command_marks h c x d)
command_accepts h (Open summary) x d = tt
command_accepts h Connect x d = content_accepts (steps_at h x.aim) x.content
command_accepts h (Send id bytes) x d = content_accepts (steps_at h x.aim) x.content
command_accepts h (Beat id) x d = content_accepts (steps_at h x.aim) x.content
command_accepts h (Update id all) x d = content_accepts (steps_at h x.aim) x.content
command_accepts h (Measure id op) x d = content_accepts (steps_at h x.aim) x.content
command_accepts h (End id) x d = content_accepts (steps_at h x.aim) x.content
command_accepts h Retry x d = content_accepts (steps_at h x.aim) x.content

heard_accepts : (s : Steps) (c : Content) (v b reply : List ℕ) → NoAccept (content_marks s c ++ marks.Asked.Heard v b reply ∷ [])
heard_accepts s (Clear message) v b reply = tt
heard_accepts s (Sealed sealed inner pad) v b reply = tt

next_accepts : (s : Steps) (o : Option Sent) (v b reply : List ℕ) → NoAccept (next_marks s o ++ marks.Asked.Heard v b reply ∷ [])
next_accepts s None v b reply = tt
next_accepts s (Some x) v b reply = heard_accepts s x.content v b reply

if_accepts : (b : Bool) (t : First) (v : List ℕ) → NoAccept (cond b (marks.Asked.Opened t v ∷ []) [])
if_accepts true t v = tt
if_accepts false t v = tt

staged_accepts : (g : Stage) (q : ReqSetup) (s : Steps) (o : Option Sent) (sealed inner : List ℕ) (led : Led) → NoAccept (taken_marks g q s o sealed inner led)
staged_accepts stage.Handshake q s o sealed inner led = if_accepts (finishes led.effect) (asked_first s) (t2_of (Took sealed inner led.effect ∷ s))
staged_accepts stage.Open q s o sealed inner led = next_accepts (Took sealed inner led.effect ∷ s) led.next (t2_of s) (request_text o) (answer_text q.psk s (ask_in o) sealed)
staged_accepts stage.Verifying q s o sealed inner led = next_accepts (Took sealed inner led.effect ∷ s) led.next (t2_of s) (request_text o) (answer_text q.psk s (ask_in o) sealed)

pub taken_accepts : (q : ReqSetup) (h : History) (id : ℕ) (sealed inner : List ℕ) (led : Led) → NoAccept (taken_marks (stage_of (session_of id h)) q (session_of id h) (outstanding h) sealed inner led)
taken_accepts q h id sealed inner led = staged_accepts (stage_of (session_of id h)) q (session_of id h) (outstanding h) sealed inner led

opened_if : (b : Bool) (x : First) (v : List ℕ) (m : List marks.Asked) (t : First) (u : List ℕ) → IsOpened (cond b (marks.Asked.Opened x v ∷ []) [] ++ m) t u → (t ≡ x) ⊎ IsOpened m t u
opened_if true x v m t u o = elim o [ inl e ↦ inl e.0 | inr y ↦ inr y ]
opened_if false x v m t u o = inr o

opened_by : (g : Stage) (q : ReqSetup) (s : Steps) (o : Option Sent) (sealed inner : List ℕ) (led : Led) (m : List marks.Asked) (t : First) (u : List ℕ) → IsOpened (taken_marks g q s o sealed inner led ++ m) t u
    → (t ≡ asked_first s) ⊎ IsOpened m t u
opened_by stage.Handshake q s o sealed inner led m t u x = opened_if (finishes led.effect) (asked_first s) (t2_of (Took sealed inner led.effect ∷ s)) m t u x
opened_by stage.Open q s o sealed inner led m t u x =
    inr (none_opened (next_marks (Took sealed inner led.effect ∷ s) led.next ++ marks.Asked.Heard (t2_of s) (request_text o) (answer_text q.psk s (ask_in o) sealed) ∷ []) m t u
    (next_none (Took sealed inner led.effect ∷ s) led.next (t2_of s) (request_text o) (answer_text q.psk s (ask_in o) sealed)) x)
opened_by stage.Verifying q s o sealed inner led m t u x =
    inr (none_opened (next_marks (Took sealed inner led.effect ∷ s) led.next ++ marks.Asked.Heard (t2_of s) (request_text o) (answer_text q.psk s (ask_in o) sealed) ∷ []) m t u
    (next_none (Took sealed inner led.effect ∷ s) led.next (t2_of s) (request_text o) (answer_text q.psk s (ask_in o) sealed)) x)

-- Any session began so.
abbrev Anyhow : Negotiation → List ℕ → Type 0
Anyhow n bytes = Unit {0}

opens_anyhow : (q : ReqSetup) (h : History) → OpensWell q Anyhow h
opens_anyhow q [] = tt
opens_anyhow q (Told (Open summary) x d ∷ older) = (tt, opens_anyhow q older)
opens_anyhow q (Told _ x d ∷ older) = opens_anyhow q older
opens_anyhow q (TookClear tag m led d ∷ older) = opens_anyhow q older
opens_anyhow q (TookRecord tag of sealed inner led d ∷ older) = opens_anyhow q older

-- An accepted session has a mark of it.
pub accepted_marked : (q : ReqSetup) (h : History) → IsMade q h → (id : ℕ) → is_accepted (session_of id h) ≡ true → IsAccepted (asked_marks q h) (asked_first (session_of id h))
accepted_marked q h made id a = (sessions_well q Anyhow h made (opens_anyhow q h) id).accepted a

pub opened_accepted : (q : ReqSetup) (h : History) → IsMade q h → (t : First) (u : List ℕ) → IsOpened (asked_marks q h) t u → IsAccepted (asked_marks q h) t
opened_accepted q [] made t u o = elim o [ ]
opened_accepted q (Told c x d ∷ older) made t u o = accepted_old (command_marks older c x d) (asked_marks q older) t (opened_accepted q older made.1 t u (none_opened (command_marks older c x d) (asked_marks q older) t u (command_none older c x d) o))
opened_accepted q (TookClear tag m led d ∷ older) made t u o = accepted_old (clear_marks older led.effect) (asked_marks q older) t (opened_accepted q older made.1 t u (none_opened (clear_marks older led.effect) (asked_marks q older) t u (clear_none older led.effect) o))
opened_accepted q (TookRecord tag of sealed inner led d ∷ older) made t u o =
    let s = session_of of older in
    let new = taken_marks (stage_of s) q s (outstanding older) sealed inner led in
    accepted_old new (asked_marks q older) t (elim (opened_by (stage_of s) q s (outstanding older) sealed inner led (asked_marks q older) t u o) [
      | inl e ↦ subst (IsAccepted (asked_marks q older)) (sym e)
          (accepted_marked q older made.1 of (waited_accepted q older (body_chosen q older d) (record_body sealed) of sealed inner led (record_entry q older false tag tag (record_body sealed) of sealed inner (body_chosen q older d) led d d made.0) made.1))
      | inr y ↦ opened_accepted q older made.1 t u y
    ])
