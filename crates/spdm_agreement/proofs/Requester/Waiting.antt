-- In a history that a requester made, what waits has a live session, and PSK_FINISH takes effect in the handshake alone.
use Rattle.std.proofs.Common.{◌≡◌, ℕ, List, [], ◌∷◌, Bool, true, false, cond, Option, Some, None, ◌==◌, not, refl, sym, ap, ◌∙◌, inl, inr, subst, true≢false, eqb-true, eq-eqb}
use Rattle.requester_machine.specs.Does.{IsMade, command_chosen, body_chosen, chosen}
use Rattle.requester_machine.specs.Commands.{Free, exchange_for}
use Rattle.requester_machine.specs.History.{History, Effect, Led, outstanding, negotiation_of}
use Rattle.requester_machine.specs.History.Effect.{Nothing, Answers, Grants, Loses}
use Rattle.requester_machine.specs.History.Entry.{Told, TookClear, TookRecord}
use Rattle.requester_machine.specs.Hearing.{came_to}
use Rattle.requester_machine.specs.InnerMessages.{Came}
use Rattle.requester_machine.specs.Message.{Command, Ask, Aim, Content, Sent, asked_in}
use Rattle.requester_machine.specs.Message.Aim.{Plain, ByChunks, ForChunk, InSession}
use Rattle.requester_machine.specs.Message.Ask.{AskFinish, AskEnd}
use Rattle.requester_machine.specs.Message.Command.{Connect, Open, Send, Beat, Update, Measure, End, Retry}
use Rattle.requester_machine.specs.Order.{FitsWaits, Waits, waits_for, waits_aim, waits_asked, is_opening, waiting_ask, stage_for, may_bring}
use Rattle.requester_machine.specs.Order.Waits.{Rests, ForExchange, ForRecord}
use Rattle.requester_machine.specs.Session.{Step, Steps, session_of, is_live, stage_of, finishes, ends, when_live, with_sent, with_aim, after_command, after_clear, after_record, begun}
use Rattle.requester_machine.specs.Session.Step.{Started, Accepted, Took}
use Rattle.requester_machine.proofs.MadeOrder.{in_order}
use Rattle.spdm_grammar.specs.Message.{RequestMessage, ExchangeMessage}
use Rattle.spdm_grammar.specs.Message.RequestMessage.{PskExchange}
use Rattle.spdm_grammar.specs.Requests.{canonical_request}
use Rattle.spdm_grammar.specs.declared.told.phase.Stage.{Stage}
use Rattle.spdm_grammar.specs.declared.told.phase.Stage.TheVariants as stage
use Rattle.spdm_machine.specs.Keys.{Draw}
use Rattle.spdm_machine.specs.Bodies.{clear_body, record_body}
use Rattle.spdm_machine.specs.Sessions.{is_past_handshake}
use Rattle.requester_machine.specs.Setup.{ReqSetup}
use Rattle.transcript.specs.Transcripts.{Negotiation}
use Rattle.spdm_agreement.proofs.Requester.OpenSessions.{IsSteady, CommandSteady, ClearSteady, RecordSteady, EndsByAnswer, NoFinish, NoFinishAim, TellsId}
use Rattle.spdm_agreement.proofs.Requester.ClearLeads.{IsClearAim, NoExchange, NextClear, IsPlain}
use Rattle.spdm_agreement.proofs.Requester.Entries.{CommandShape, IsAsked, IsTookClear, IsTookRecord, told_shape, clear_entry, record_entry}
use Rattle.spdm_agreement.proofs.Requester.RecordLeads.{NextRecord}
use Rattle.requester_machine.proofs.FewMade.{waits_clear}
use Rattle.requester_machine.proofs.Steps.{asked_stage, opening_stage}

-- ---- Aims.

pub clear_aim : (aim : Aim) (asked : RequestMessage) → asked_in aim ≡ Some asked → IsClearAim aim
clear_aim (Plain request) asked e = tt
clear_aim (ByChunks request handle number) asked e = tt
clear_aim (ForChunk request handle number before) asked e = tt
clear_aim (InSession id ask) asked e = absurd (cc)

no_waits : (id : ℕ) (asked : RequestMessage) → NoExchange (Some asked) → waits_asked id asked ≡ Rests
no_waits id (PskExchange exchange) n = absurd n
no_waits id _ n = refl

pub rests_clear : (id : ℕ) (aim : Aim) → IsClearAim aim → NoExchange (asked_in aim) → waits_aim id aim ≡ Rests
rests_clear id (Plain request) c n = no_waits id request n
rests_clear id (ByChunks request handle number) c n = no_waits id request n
rests_clear id (ForChunk request handle number before) c n = no_waits id request n
rests_clear id (InSession of ask) c n = absurd c

pub stays_clear : (id : ℕ) (aim : Aim) (c : Content) (s : Steps) → IsClearAim aim → with_aim id aim c s ≡ s
stays_clear id (Plain request) c s k = refl
stays_clear id (ByChunks request handle number) c s k = refl
stays_clear id (ForChunk request handle number before) c s k = refl
stays_clear id (InSession of ask) c s k = absurd k

no_finish_clear : (aim : Aim) → IsClearAim aim → NoFinishAim aim
no_finish_clear (Plain request) k = tt
no_finish_clear (ByChunks request handle number) k = tt
no_finish_clear (ForChunk request handle number before) k = tt
no_finish_clear (InSession of ask) k = absurd k

-- ---- What waits is live.

abbrev pub LiveAs : Waits → Steps → Type 0
LiveAs Rests s = Unit {0}
LiveAs ForExchange s = is_live s ≡ true
LiveAs (ForRecord ask) s = is_live s ≡ true

live_rests : (w : Waits) (s : Steps) → w ≡ Rests → LiveAs w s
live_rests w s e = subst (λ (x : Waits). LiveAs x s) (sym e) tt

pub live_with : (s : Steps) (x : Step) → is_live s ≡ true → is_live (when_live s x) ≡ true
live_with [] x l = l
live_with (y ∷ s) x l = refl

asked_live : (ask : Ask) (step : Step) (s : Steps) (b : Bool) → (b ≡ true → is_live s ≡ true) → LiveAs (cond b (ForRecord ask) Rests) (cond b (when_live s step) s)
asked_live ask step s true l = live_with s step (l refl)
asked_live ask step s false l = tt

begun_live : (n : Negotiation) (bytes : List ℕ) (s : Steps) (b : Bool) → LiveAs (cond b ForExchange Rests) (cond b (Started n bytes ∷ []) s)
begun_live n bytes s true = refl
begun_live n bytes s false = tt

begins_live : (id : ℕ) (n : Negotiation) (aim : Aim) (exchange : ExchangeMessage) (s : Steps) → asked_in aim ≡ Some (PskExchange exchange) → LiveAs (waits_aim id aim) (begun id n (asked_in aim) s)
begins_live id n aim exchange s e =
    subst (λ (o : Option RequestMessage). LiveAs (waits_aim id aim) (begun id n o s)) (sym e)
    (subst (λ (w : Waits). LiveAs w (begun id n (Some (PskExchange exchange)) s)) (sym (waits_clear id aim (PskExchange exchange) e))
    (begun_live n (canonical_request (PskExchange exchange)) s (exchange.req_id == id)))

asks_live : (q : ReqSetup) (h : History) (f : Free) (id : ℕ) (x : Sent) → IsAsked q h f x → LiveAs (waits_aim id x.aim) (with_aim id x.aim x.content (session_of id h))
asks_live q h f id x a =
    subst (λ (y : Sent). LiveAs (waits_aim id y.aim) (with_aim id y.aim y.content (session_of id h))) (sym a.is)
    (asked_live a.ask _ (session_of id h) (a.id == id) (λ e. subst (λ (n : ℕ). is_live (session_of n h) ≡ true) (eqb-true a.id id e) a.live))

told_live : (q : ReqSetup) (h : History) (f : Free) (id : ℕ) (c : Command) (x : Sent) → CommandShape q h f c x → LiveAs (waits_aim id x.aim) (after_command id (negotiation_of h) c x (session_of id h))
told_live q h f id Connect x k = live_rests _ _ (rests_clear id x.aim k.aim k.other)
told_live q h f id (Open summary) x k = begins_live id (negotiation_of h) x.aim _ (session_of id h) k.asks
told_live q h f id (Send of bytes) x k = asks_live q h f id x k
told_live q h f id (Beat of) x k = asks_live q h f id x k
told_live q h f id (Update of all) x k = asks_live q h f id x k
told_live q h f id (Measure None op) x k = live_rests _ _ (rests_clear id x.aim k.0.aim k.0.other)
told_live q h f id (Measure (Some of) op) x k = asks_live q h f id x k
told_live q h f id (End of) x k = asks_live q h f id x k
told_live q h f id Retry x k = absurd k

-- The request of a body is the outstanding one.
waits_as : (id : ℕ) (h : History) (x : Sent) (w : Waits) → outstanding h ≡ Some x → waits_aim id x.aim ≡ w → LiveAs (waits_for id (outstanding h)) (session_of id h) → LiveAs w (session_of id h)
waits_as id h x w e is l = subst (λ (y : Waits). LiveAs y (session_of id h)) (ap (waits_for id) e ∙ is) l

exchange_live : (s : Steps) (answer : List ℕ) (step : Step) (b : Bool) → LiveAs (cond b ForExchange Rests) s → LiveAs (cond b (ForRecord AskFinish) Rests) (cond b (when_live (cond b (when_live s (Accepted answer)) s) step) (cond b (when_live s (Accepted answer)) s))
exchange_live s answer step true l = live_with _ step (live_with s (Accepted answer) l)
exchange_live s answer step false l = tt

abbrev LiveLed : ℕ → Steps → Led → Type 0
LiveLed id s led = LiveAs (waits_for id led.next) (with_sent id led.next (after_clear id led.effect s))

next_live : (id : ℕ) (asked : RequestMessage) (effect : Effect) (next : Option Sent) (s : Steps) → NextClear asked effect next → LiveAs (waits_asked id asked) s → LiveAs (waits_for id next) (with_sent id next (after_clear id effect s))
next_live id asked effect None s k l = tt
next_live id asked effect (Some x) s k l =
    subst (λ (y : Steps). LiveAs (waits_aim id x.aim) y) (sym (stays_clear id x.aim x.content (after_clear id effect s) k.1))
    (elim k.2 [
      | inl same ↦ subst (λ (e : Effect). LiveAs (waits_aim id x.aim) (after_clear id e s)) (sym same.0) (subst (λ (w : Waits). LiveAs w s) (sym (waits_clear id x.aim asked same.1)) l)
      | inr other ↦ live_rests _ _ (rests_clear id x.aim k.1 other.0)
    ])

clear_live : (q : ReqSetup) (h : History) (f : Free) (id : ℕ) (body m : List ℕ) (led : Led) → IsTookClear q h f body m led → LiveAs (waits_for id (outstanding h)) (session_of id h) → LiveLed id (session_of id h) led
clear_live q h f id body m led k l =
    let own : LiveAs (waits_asked id k.asked) (session_of id h) = waits_as id h k.sent (waits_asked id k.asked) k.waits (waits_clear id k.sent.aim k.asked k.asks) l in
    elim k.led_to [
      | inl x ↦ subst (λ (y : Led). LiveLed id (session_of id h) y) (sym x.is)
          (exchange_live (session_of id h) x.answer _ (x.exchange.req_id == id) (subst (λ (r : RequestMessage). LiveAs (waits_asked id r) (session_of id h)) x.asks own))
      | inr a ↦ next_live id k.asked led.effect led.next (session_of id h) a.next own
    ]

record_live_by : (of id : ℕ) (asks ask : Ask) (sealed inner : List ℕ) (effect : Effect) (step : Step) (s : Steps) (b : Bool) → ends effect ≡ false → LiveAs (cond b (ForRecord ask) Rests) s
    → LiveAs (cond b (ForRecord asks) Rests) (cond b (cond b (when_live (after_record sealed inner effect s) step) (after_record sealed inner effect s)) s)
record_live_by of id asks ask sealed inner effect step s true stays l =
    live_with _ step (subst (λ (c : Bool). is_live (cond c [] (when_live s (Took sealed inner effect))) ≡ true) (sym stays) (live_with s (Took sealed inner effect) l))
record_live_by of id asks ask sealed inner effect step s false stays l = tt

record_next_live : (q : ReqSetup) (h : History) (f : Free) (id : ℕ) (came : Came) (ask : Ask) (effect : Effect) (next : Option Sent) → ends effect ≡ false → NextRecord q h f came effect ask next → LiveAs (cond (came.id == id) (ForRecord ask) Rests) (session_of id h)
    → LiveAs (waits_for id next) (cond (came.id == id) (with_sent id next (after_record came.sealed came.inner effect (session_of id h))) (session_of id h))
record_next_live q h f id came ask effect None stays k l = tt
record_next_live q h f id came ask effect (Some x) stays k l =
    subst (λ (y : Sent). LiveAs (waits_aim id y.aim) (cond (came.id == id) (with_sent id (Some y) (after_record came.sealed came.inner effect (session_of id h))) (session_of id h))) (sym k.is)
    (record_live_by came.id id k.asks ask came.sealed came.inner effect _ (session_of id h) (came.id == id) stays l)

abbrev LiveRecord : ℕ → Steps → ℕ → (sealed inner : List ℕ) → Led → Type 0
LiveRecord id s of sealed inner led = LiveAs (waits_for id led.next) (cond (of == id) (with_sent id led.next (after_record sealed inner led.effect s)) s)

record_live : (q : ReqSetup) (h : History) (f : Free) (id : ℕ) (body : List ℕ) (of : ℕ) (sealed inner : List ℕ) (led : Led) → IsTookRecord q h f body of sealed inner led → LiveAs (waits_for id (outstanding h)) (session_of id h) → LiveRecord id (session_of id h) of sealed inner led
record_live q h f id body of sealed inner led k l =
    let own : LiveAs (cond (of == id) (ForRecord k.ask) Rests) (session_of id h) = waits_as id h k.sent (cond (of == id) (ForRecord k.ask) Rests) k.waits (ap (waits_aim id) k.aims) l in
    elim k.led_to [
      | inl a ↦ subst (λ (y : List ℕ). LiveRecord id (session_of id h) of sealed y led) (sym k.holds) (record_next_live q h f id (came_to q h of k.ask sealed) k.ask led.effect led.next a.stays a.next own)
      | inr e ↦ live_rests _ _ (ap (waits_for id) e.next)
    ]

pub live_made : (q : ReqSetup) (h : History) → IsMade q h → (id : ℕ) → LiveAs (waits_for id (outstanding h)) (session_of id h)
unfolding session_of
live_made q [] made id = tt
live_made q (Told c x d ∷ older) made id = told_live q older (command_chosen q older d) id c x (told_shape false q older c c (command_chosen q older d) d d x made.0)
live_made q (TookClear tag m led d ∷ older) made id =
    clear_live q older (body_chosen q older d) id (clear_body m) m led (clear_entry q older false tag tag (clear_body m) m (body_chosen q older d) led d d made.0) (live_made q older made.1 id)
live_made q (TookRecord tag of sealed inner led d ∷ older) made id =
    record_live q older (body_chosen q older d) id (record_body sealed) of sealed inner led (record_entry q older false tag tag (record_body sealed) of sealed inner (body_chosen q older d) led d d made.0) (live_made q older made.1 id)

-- ---- The session that waits.

-- A session that waits for the answer to PSK_EXCHANGE is just begun.
pub opening : (w : Waits) (s : Steps) → w ≡ ForExchange → LiveAs w s → FitsWaits w s → is_opening s ≡ true
opening w [] e l fits = absurd (true≢false (sym (subst (λ (x : Waits). LiveAs x []) e l)))
opening w (x ∷ s) e l fits = subst (λ (y : Waits). FitsWaits y (x ∷ s)) e fits

pub recording : (w : Waits) (ask : Ask) (s : Steps) → w ≡ ForRecord ask → LiveAs w s → FitsWaits w s → waiting_ask s ≡ Some ask
recording w ask [] e l fits = absurd (true≢false (sym (subst (λ (x : Waits). LiveAs x []) e l)))
recording w ask (x ∷ s) e l fits = subst (λ (y : Waits). FitsWaits y (x ∷ s)) e fits

-- ---- What is sent is no PSK_FINISH.

abbrev pub is_finish : Ask → Bool
is_finish AskFinish = true
is_finish _ = false

no_finish : (id : ℕ) (ask : Ask) → is_finish ask ≡ false → NoFinishAim (InSession id ask)
no_finish id AskFinish e = absurd (cc)
no_finish id _ e = tt

pub open_no_finish : (ask : Ask) → stage.Open ≡ stage_for ask → is_finish ask ≡ false
open_no_finish AskFinish e = absurd (cc)
open_no_finish _ e = refl

verifying_no_finish : (ask : Ask) → stage.Verifying ≡ stage_for ask → is_finish ask ≡ false
verifying_no_finish AskFinish e = absurd (cc)
verifying_no_finish _ e = refl

handshake_finish : (ask : Ask) → stage.Handshake ≡ stage_for ask → is_finish ask ≡ true
handshake_finish AskFinish e = refl
handshake_finish _ e = absurd (cc)

pub finishes_only : (effect : Effect) (ask : Ask) → may_bring effect ask ≡ true → finishes effect ≡ is_finish ask
finishes_only Nothing AskFinish e = absurd (cc)
finishes_only Nothing _ e = refl
finishes_only (Grants AskFinish a) AskFinish e = refl
finishes_only (Grants AskFinish a) _ e = absurd (cc)
finishes_only (Grants _ a) AskFinish e = absurd (cc)
finishes_only (Grants _ a) _ e = refl
finishes_only _ ask e = absurd (cc)

ended_stage : (effect : Effect) (sealed inner : List ℕ) (s : Steps) → ends effect ≡ true → stage_of (Took sealed inner effect ∷ s) ≡ stage_of s
ended_stage (Grants AskEnd a) sealed inner s e = refl
ended_stage (Grants _ a) sealed inner s e = absurd (cc)
ended_stage Loses sealed inner s e = refl
ended_stage _ sealed inner s e = absurd (cc)

answered_ends : (g : Stage) (s : Steps) (sealed inner : List ℕ) (effect : Effect) (ask : Ask) → g ≡ stage_for ask → finishes effect ≡ is_finish ask → EndsByAnswer g s sealed inner effect
answered_ends stage.Handshake s sealed inner effect ask e f = λ past. f ∙ handshake_finish ask e
answered_ends stage.Open s sealed inner effect ask e f = f ∙ open_no_finish ask e
answered_ends stage.Verifying s sealed inner effect ask e f = f ∙ verifying_no_finish ask e

ended_ends : (g : Stage) (s : Steps) (sealed inner : List ℕ) (effect : Effect) → stage_of s ≡ g → ends effect ≡ true → finishes effect ≡ false → EndsByAnswer g s sealed inner effect
ended_ends stage.Handshake s sealed inner effect is e f = λ past. absurd (true≢false (sym past ∙ ap is_past_handshake (ended_stage effect sealed inner s e ∙ is)))
ended_ends stage.Open s sealed inner effect is e f = f
ended_ends stage.Verifying s sealed inner effect is e f = f

-- ---- Steady.

one_of_four : (P : ℕ → Type 0) (a b c : Bool) → P 1 → P 2 → P 3 → P 4 → P (cond (not a) 1 (cond (not b) 2 (cond (not c) 3 4)))
one_of_four P false b c w x y z = w
one_of_four P true false c w x y z = x
one_of_four P true true false w x y z = y
one_of_four P true true true w x y z = z

tells_id : (q : ReqSetup) (h : History) (d : Draw) (summary : ℕ) → TellsId (Some (exchange_for q (command_chosen q h d) summary))
unfolding chosen
tells_id q h d summary =
    one_of_four (λ (n : ℕ). TellsId (Some (PskExchange (record { summary = summary; req_id = n; hint = q.hint; context = (command_chosen q h d).context; opaque = (command_chosen q h d).opaque }))))
    (is_live (session_of 1 h)) (is_live (session_of 2 h)) (is_live (session_of 3 h)) refl refl refl refl

asked_steady : (q : ReqSetup) (h : History) (f : Free) (x : Sent) → IsAsked q h f x → NoFinishAim x.aim
asked_steady q h f x a = subst (λ (y : Sent). NoFinishAim y.aim) (sym a.is) (no_finish a.id a.ask (open_no_finish a.ask a.stage))

told_steady : (q : ReqSetup) (h : History) (d : Draw) (c : Command) (x : Sent) → CommandShape q h (command_chosen q h d) c x → CommandSteady c x
told_steady q h d Connect x k = tt
told_steady q h d (Open summary) x k = subst TellsId (sym k.asks) (tells_id q h d summary)
told_steady q h d (Send of bytes) x k = asked_steady q h (command_chosen q h d) x k
told_steady q h d (Beat of) x k = asked_steady q h (command_chosen q h d) x k
told_steady q h d (Update of all) x k = asked_steady q h (command_chosen q h d) x k
told_steady q h d (Measure None op) x k = no_finish_clear x.aim k.0.aim
told_steady q h d (Measure (Some of) op) x k = asked_steady q h (command_chosen q h d) x k
told_steady q h d (End of) x k = asked_steady q h (command_chosen q h d) x k
told_steady q h d Retry x k = absurd k

next_no_finish : (asked : RequestMessage) (effect : Effect) (next : Option Sent) → NextClear asked effect next → NoFinish next
next_no_finish asked effect None k = tt
next_no_finish asked effect (Some x) k = no_finish_clear x.aim k.1

aside_steady : (h : History) (effect : Effect) (next : Option Sent) → IsPlain effect → NoFinish next → ClearSteady h effect next
aside_steady h (Answers (PskExchange exchange) answer) next p n = absurd p
aside_steady h (Answers _ answer) next p n = n
aside_steady h _ next p n = n

-- Of the session for whose PSK_EXCHANGE the answer came.
pub opened_for : (q : ReqSetup) (h : History) (f : Free) (body m : List ℕ) (led : Led) (k : IsTookClear q h f body m led) (exchange : ExchangeMessage) → k.asked ≡ PskExchange exchange → IsMade q h → is_live (session_of exchange.req_id h) ≡ true → is_opening (session_of exchange.req_id h) ≡ true
opened_for q h f body m led k exchange asks made live =
    let id = exchange.req_id in
    let w : waits_for id (outstanding h) ≡ ForExchange = ap (waits_for id) k.waits ∙ waits_clear id k.sent.aim k.asked k.asks ∙ ap (waits_asked id) asks ∙ ap (λ (b : Bool). cond b ForExchange Rests) (eq-eqb id id refl) in
    opening (waits_for id (outstanding h)) (session_of id h) w (live_made q h made id) (in_order q h id made).fits

pub live_for : (q : ReqSetup) (h : History) (f : Free) (body m : List ℕ) (led : Led) (k : IsTookClear q h f body m led) (exchange : ExchangeMessage) → k.asked ≡ PskExchange exchange → IsMade q h → is_live (session_of exchange.req_id h) ≡ true
live_for q h f body m led k exchange asks made =
    let id = exchange.req_id in
    let w : waits_for id (outstanding h) ≡ ForExchange = ap (waits_for id) k.waits ∙ waits_clear id k.sent.aim k.asked k.asks ∙ ap (waits_asked id) asks ∙ ap (λ (b : Bool). cond b ForExchange Rests) (eq-eqb id id refl) in
    subst (λ (x : Waits). LiveAs x (session_of id h)) w (live_made q h made id)

clear_steady : (q : ReqSetup) (h : History) (f : Free) (body m : List ℕ) (led : Led) → IsTookClear q h f body m led → IsMade q h → ClearSteady h led.effect led.next
clear_steady q h f body m led k made = elim k.led_to [
  | inl x ↦ (let live = live_for q h f body m led k x.exchange x.asks made in
      subst (λ (y : Led). ClearSteady h y.effect y.next) (sym x.is)
      (live, ap is_past_handshake (opening_stage (session_of x.exchange.req_id h) (opened_for q h f body m led k x.exchange x.asks made live)), refl))
  | inr a ↦ aside_steady h led.effect led.next a.effect (next_no_finish k.asked led.effect led.next a.next)
]

-- Of the session to which a record came.
pub waited_for : (q : ReqSetup) (h : History) (f : Free) (body : List ℕ) (of : ℕ) (sealed inner : List ℕ) (led : Led) (k : IsTookRecord q h f body of sealed inner led) → IsMade q h → (is_live (session_of of h) ≡ true) × (waiting_ask (session_of of h) ≡ Some k.ask)
waited_for q h f body of sealed inner led k made =
    let w : waits_for of (outstanding h) ≡ ForRecord k.ask = ap (waits_for of) k.waits ∙ ap (waits_aim of) k.aims ∙ ap (λ (b : Bool). cond b (ForRecord k.ask) Rests) (eq-eqb of of refl) in
    (subst (λ (x : Waits). LiveAs x (session_of of h)) w (live_made q h made of), recording (waits_for of (outstanding h)) k.ask (session_of of h) w (live_made q h made of) (in_order q h of made).fits)

next_record_steady : (q : ReqSetup) (h : History) (f : Free) (came : Came) (effect : Effect) (ask : Ask) (next : Option Sent) → NextRecord q h f came effect ask next → NoFinish next
next_record_steady q h f came effect ask None k = tt
next_record_steady q h f came effect ask (Some x) k =
    subst (λ (y : Sent). NoFinishAim y.aim) (sym k.is)
    (elim k.kind [ inl v ↦ no_finish came.id k.asks (ap is_finish v.0) | inr c ↦ no_finish came.id k.asks (ap is_finish c.4) ])

record_steady : (q : ReqSetup) (h : History) (f : Free) (body : List ℕ) (of : ℕ) (sealed inner : List ℕ) (led : Led) → IsTookRecord q h f body of sealed inner led → IsMade q h → RecordSteady (session_of of h) sealed inner led.effect led.next
record_steady q h f body of sealed inner led k made =
    let w = waited_for q h f body of sealed inner led k made in
    let g = asked_stage k.ask (session_of of h) (in_order q h of made).ordered w.1 in
    elim k.led_to [
      | inl a ↦ (w.0, answered_ends (stage_of (session_of of h)) (session_of of h) sealed inner led.effect k.ask g.0 (finishes_only led.effect k.ask a.brings), next_record_steady q h f (came_to q h of k.ask sealed) led.effect k.ask led.next a.next)
      | inr e ↦ (w.0, ended_ends (stage_of (session_of of h)) (session_of of h) sealed inner led.effect refl e.ends_it e.opens, subst NoFinish (sym e.next) tt)
    ]

-- A history that a requester made is steady.
pub made_steady : (q : ReqSetup) (h : History) → IsMade q h → IsSteady h
made_steady q [] made = tt
made_steady q (Told c x d ∷ older) made = (told_steady q older d c x (told_shape false q older c c (command_chosen q older d) d d x made.0), made_steady q older made.1)
made_steady q (TookClear tag m led d ∷ older) made =
    (clear_steady q older (body_chosen q older d) (clear_body m) m led (clear_entry q older false tag tag (clear_body m) m (body_chosen q older d) led d d made.0) made.1, made_steady q older made.1)
made_steady q (TookRecord tag of sealed inner led d ∷ older) made =
    (record_steady q older (body_chosen q older d) (record_body sealed) of sealed inner led (record_entry q older false tag tag (record_body sealed) of sealed inner (body_chosen q older d) led d d made.0) made.1, made_steady q older made.1)
