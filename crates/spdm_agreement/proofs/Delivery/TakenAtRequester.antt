-- The application data that a requester took are those in the texts of its marks.
use Rattle.std.proofs.Common.{◌≡◌, ℕ, ◌<◌, ◌&&◌, List, [], ◌∷◌, ◌++◌, length, drop, Bool, true, false, cond, Option, Some, None, Result, Ok, Err, refl, sym, ap, ap₂, ◌∙◌, subst, inl, inr, arith, bytes_eq, append-nil}
use Rattle.std.proofs.lemmas.Bool.{leb-false}
use Rattle.std.specs.Prelude.{unwrap_or}
use Rattle.requester_machine.proofs.Entries.{asked, test_is_false}
use Rattle.requester_machine.proofs.MadeOrder.{in_order as ordered}
use Rattle.requester_machine.specs.Asking.{Outcome, done, resent}
use Rattle.requester_machine.specs.Asking.Outcome.{Warns, Adds}
use Rattle.requester_machine.specs.Bodies.{body_fault, is_clear, error_in}
use Rattle.requester_machine.specs.ClearAnswers.{clear_led}
use Rattle.requester_machine.specs.Commands.{Free, command_fault, exchange_for}
use Rattle.requester_machine.specs.Does.{IsMade, requester_asks, command_chosen, body_chosen}
use Rattle.requester_machine.specs.Hearing.{came_to, hears, hears_by, hears_to, clear_outcome, on_record, record_outcome}
use Rattle.requester_machine.specs.History.{History, Effect, Led, outstanding, connection_terms, next_handle}
use Rattle.requester_machine.specs.History.Entry.{Told, TookClear, TookRecord}
use Rattle.requester_machine.specs.InnerMessages.{Came, inner_led, or_lost, with_record}
use Rattle.requester_machine.specs.Message.{Command, Ask, Aim, Content, Sent}
use Rattle.requester_machine.specs.Message.Aim.{Plain, ByChunks, ForChunk, InSession}
use Rattle.requester_machine.specs.Message.Ask.{AskFinish, AskData, AskBeat, AskUpdate, AskVerify, AskMeasure, AskChunk, AskEnd}
use Rattle.requester_machine.specs.Message.Command.{Connect, Open, Send, Beat, Update, Measure, End, Retry}
use Rattle.requester_machine.specs.Message.Content.{Clear, Sealed}
use Rattle.requester_machine.specs.Order.{stage_for}
use Rattle.requester_machine.specs.Records.{answer_fault}
use Rattle.requester_machine.specs.Sending.{piece_sent, plain_sent, key_update, operation_of, finish_verify}
use Rattle.requester_machine.specs.RequesterLog.{steps_at}
use Rattle.requester_machine.specs.Session.{Steps, session_of, stage_of, t2_of, finishes, is_data, answer_in}
use Rattle.requester_machine.specs.Session.Step.{Took}
use Rattle.secured_record.specs.Format.{plain_text}
use Rattle.spdm_basis.specs.declared.causes.record_fault.RecordFault.{RecordFault}
use Rattle.spdm_grammar.specs.Message.{RequestMessage}
use Rattle.spdm_grammar.specs.Message.RequestMessage.{GetMeasurements, Heartbeat, EndSession, PskFinish, ChunkGet}
use Rattle.requester_machine.specs.Answers.{with_answer}
use Rattle.spdm_grammar.specs.Requests.{canonical_request}
use Rattle.spdm_grammar.specs.declared.told.event.ReqIgnored.{ReqIgnored}
use Rattle.spdm_grammar.specs.declared.told.phase.Stage.{Stage}
use Rattle.spdm_grammar.specs.declared.told.phase.Stage.TheVariants as stage
use Rattle.spdm_machine.specs.Keys.{Draw}
use Rattle.spdm_machine.specs.Bodies.{clear_body, record_body}
use Rattle.requester_machine.specs.Setup.{ReqSetup}
use Rattle.world_machine.specs.Agreement.{answered_under, responses_taken, some_under}
use Rattle.spdm_agreement.specs.Claims.{in_order}
use Rattle.spdm_agreement.specs.Marks as marks
use Rattle.spdm_agreement.specs.Marks.{Text, heard}
use Rattle.spdm_agreement.specs.Reading.{First}
use Rattle.spdm_agreement.specs.Story.{asked_marks, command_marks, taken_marks, next_marks, content_marks, asked_first, sent_text, request_text, answer_text, ask_in, ask_of}
use Rattle.spdm_agreement.proofs.Requester.ClearLeads.{IsClearAim, NextClear, either}
use Rattle.spdm_agreement.proofs.Requester.Entries.{IsTookClear, IsTookRecord, clear_entry, record_entry}
use Rattle.spdm_agreement.proofs.Requester.Waiting.{waited_for}
use Rattle.spdm_agreement.proofs.Requester.RecordLeads.{NextRecord}
use Rattle.spdm_agreement.proofs.Requester.SealAndHear.{inner_as}
use Rattle.spdm_agreement.proofs.Delivery.Data.{is_data_text, is_data_inner, data_in, answered_data, inner_in}
use Rattle.spdm_agreement.proofs.Delivery.OneRecord.{asks_data, BringsData, brings}
use Rattle.spdm_agreement.proofs.Delivery.SealedAtRequester.{clear_same}
use Rattle.spdm_agreement.proofs.Delivery.InnerText.{data_text, message_no_data, as_list, one_more}
use Rattle.requester_machine.proofs.Steps.{asked_stage}

-- ---- The text of a request tells whether application data were asked.

abbrev TextTells : Aim → Text → Type 0
TextTells (InSession id ask) b = is_data_text b ≡ asks_data ask
TextTells _ b = Unit {0}

abbrev SentTells : Option Sent → Type 0
SentTells None = Unit {0}
SentTells (Some x) = TextTells x.aim (sent_text x.content)

clear_tells : (aim : Aim) (b : Text) → IsClearAim aim → TextTells aim b
clear_tells (InSession id ask) b is = absurd is
clear_tells (Plain asked) b is = tt
clear_tells (ByChunks asked handle number) b is = tt
clear_tells (ForChunk asked handle number before) b is = tt

abbrev ToldTells : Outcome → Type 0
ToldTells (Adds (Told command x d)) = SentTells (Some x)
ToldTells _ = Unit {0}

large_tells : (b : Bool) (x y : Sent) → SentTells (Some x) → SentTells (Some y) → SentTells (Some (cond b x y))
large_tells true x y p q = p
large_tells false x y p q = q

resent_tells : (o : Option Sent) → ToldTells (resent o)
resent_tells None = tt
resent_tells (Some x) = tt

done_tells : (q : ReqSetup) (h : History) (c : Command) (f : Free) (d : Draw) → command_fault false q h c f ≡ None → ToldTells (done q h c f d)
done_tells q h Connect f d none = tt
done_tells q h (Open summary) f d none = large_tells _ (piece_sent (connection_terms h).common h (exchange_for q f summary) (next_handle h) 0) (plain_sent h (exchange_for q f summary)) tt tt
done_tells q h (Send id bytes) f d none =
    let short : length bytes < 1025 = leb-false 1025 (length bytes) (test_is_false false q h (Send id bytes) f none 8) in
    (data_text bytes f.pad (omega arith)).0
done_tells q h (Beat id) f d none = message_no_data (canonical_request Heartbeat) f.pad
done_tells q h (Update id all) f d none = message_no_data (canonical_request (key_update (session_of id h) (operation_of all))) f.pad
done_tells q h (Measure None op) f d none = large_tells _ (piece_sent (connection_terms h).common h (GetMeasurements op) (next_handle h) 0) (plain_sent h (GetMeasurements op)) tt tt
done_tells q h (Measure (Some id) op) f d none = message_no_data (canonical_request (GetMeasurements op)) f.pad
done_tells q h (End id) f d none = message_no_data (canonical_request EndSession) f.pad
done_tells q h Retry f d none = resent_tells (outstanding h)

told_tells : (q : ReqSetup) (h : History) (c : Command) (x : Sent) (d : Draw) → requester_asks false q h c d ≡ Adds (Told c x d) → SentTells (Some x)
told_tells q h c x d is =
    let a = asked false q h c (command_chosen q h d) d (Told c x d) is in
    subst ToldTells a.1 (done_tells q h c (command_chosen q h d) d a.0)

next_clear_tells : (request : RequestMessage) (effect : Effect) (o : Option Sent) → NextClear request effect o → SentTells o
next_clear_tells request effect None k = tt
next_clear_tells request effect (Some x) k = clear_tells x.aim (sent_text x.content) k.1

took_clear_tells : (q : ReqSetup) (h : History) (f : Free) (body m : List ℕ) (led : Led) → IsTookClear q h f body m led → SentTells led.next
took_clear_tells q h f body m led k = elim k.led_to [
  | inl x ↦ subst (λ (y : Led). SentTells y.next) (sym x.is) (message_no_data (canonical_request (PskFinish (finish_verify q.psk (with_answer h x.exchange x.answer)))) f.pad)
  | inr a ↦ next_clear_tells k.asked led.effect led.next a.next
]

none_tells : (o : Option Sent) → o ≡ None → SentTells o
none_tells None e = tt
none_tells (Some x) e = absurd (cc)

next_record_tells : (q : ReqSetup) (h : History) (f : Free) (came : Came) (effect : Effect) (ask : Ask) (o : Option Sent) → NextRecord q h f came effect ask o → SentTells o
next_record_tells q h f came effect ask None k = tt
next_record_tells q h f came effect ask (Some x) k =
    subst (λ (y : Sent). SentTells (Some y)) (sym k.is)
    (elim k.kind [
      | inl v ↦ ap (λ (l : List ℕ). is_data_text (plain_text l f.pad)) v.1 ∙ message_no_data (canonical_request (key_update (with_record came effect) 3)) f.pad ∙ sym (ap asks_data v.0)
      | inr c ↦ ap (λ (l : List ℕ). is_data_text (plain_text l f.pad)) c.5 ∙ message_no_data (canonical_request (ChunkGet c.1 c.2)) f.pad ∙ sym (ap asks_data c.4)
    ])

took_record_tells : (q : ReqSetup) (h : History) (f : Free) (body : List ℕ) (of : ℕ) (sealed inner : List ℕ) (led : Led) → IsTookRecord q h f body of sealed inner led → SentTells led.next
took_record_tells q h f body of sealed inner led k = elim k.led_to [
  | inl a ↦ next_record_tells q h f (came_to q h of k.ask sealed) led.effect k.ask led.next a.next
  | inr e ↦ none_tells led.next e.next
]

pub waiting_tells : (q : ReqSetup) (h : History) → IsMade q h → SentTells (outstanding h)
waiting_tells q [] made = tt
waiting_tells q (Told c x d ∷ older) made = told_tells q older c x d made.0
waiting_tells q (TookClear tag m led d ∷ older) made = took_clear_tells q older (body_chosen q older d) (clear_body m) m led (clear_entry q older false tag tag (clear_body m) m (body_chosen q older d) led d d made.0)
waiting_tells q (TookRecord tag of sealed inner led d ∷ older) made =
    took_record_tells q older (body_chosen q older d) (record_body sealed) of sealed inner led (record_entry q older false tag tag (record_body sealed) of sealed inner (body_chosen q older d) led d d made.0)

-- ---- What a record led to.

pub record IsLedBy (q : ReqSetup) (h : History) (f : Free) (of : ℕ) (sealed : List ℕ) (led : Led) : Type 0 where
  pub sent : Sent
  pub ask : Ask
  pub waits : outstanding h ≡ Some sent
  pub aims : sent.aim ≡ InSession of ask
  pub is : led ≡ or_lost (came_to q h of ask sealed) (inner_led q h f (came_to q h of ask sealed) ask)

abbrev HeardLed : ReqSetup → History → Free → Outcome → Type 0
HeardLed q h f (Adds (TookRecord tag of sealed inner led d)) = IsLedBy q h f of sealed led
HeardLed q h f _ = Unit {0}

clear_led_by : (q : ReqSetup) (h : History) (f : Free) (tag : ℕ) (m : List ℕ) (d : Draw) (r : Result Led ReqIgnored) → HeardLed q h f (clear_outcome tag m d r)
clear_led_by q h f tag m d (Err cause) = tt
clear_led_by q h f tag m d (Ok led) = tt

fault_led_by : (q : ReqSetup) (h : History) (f : Free) (tag : ℕ) (sealed : List ℕ) (d : Draw) (sent : Sent) (of : ℕ) (ask : Ask) → outstanding h ≡ Some sent → sent.aim ≡ InSession of ask → (o : Option RecordFault) → HeardLed q h f (record_outcome q h f tag ask (came_to q h of ask sealed) d o)
fault_led_by q h f tag sealed d sent of ask waits aims (Some fault) = tt
fault_led_by q h f tag sealed d sent of ask waits aims None = record { sent = sent; ask = ask; waits = waits; aims = aims; is = refl }

record_led_by : (q : ReqSetup) (h : History) (f : Free) (tag : ℕ) (sealed : List ℕ) (d : Draw) (sent : Sent) (of : ℕ) (ask : Ask) → outstanding h ≡ Some sent → sent.aim ≡ InSession of ask → HeardLed q h f (on_record q h f tag of ask sealed d)
unfolding on_record
record_led_by q h f tag sealed d sent of ask waits aims = fault_led_by q h f tag sealed d sent of ask waits aims (answer_fault q.psk (session_of of h) ask sealed)

aim_led_by : (q : ReqSetup) (h : History) (f : Free) (tag : ℕ) (body : List ℕ) (d : Draw) (sent : Sent) (aim : Aim) → outstanding h ≡ Some sent → sent.aim ≡ aim → HeardLed q h f (hears_to q h f tag body d aim)
aim_led_by q h f tag body d sent (Plain asked) waits aims = clear_led_by q h f tag (drop 1 body) d (clear_led q h f (Plain asked) asked (drop 1 body))
aim_led_by q h f tag body d sent (ByChunks asked handle number) waits aims = clear_led_by q h f tag (drop 1 body) d (clear_led q h f (ByChunks asked handle number) asked (drop 1 body))
aim_led_by q h f tag body d sent (ForChunk asked handle number before) waits aims = clear_led_by q h f tag (drop 1 body) d (clear_led q h f (ForChunk asked handle number before) asked (drop 1 body))
aim_led_by q h f tag body d sent (InSession of ask) waits aims = either (HeardLed q h f) (is_clear body) (Warns (unwrap_or (error_in (drop 1 body)) 0)) (on_record q h f tag of ask (drop 1 body) d) tt (record_led_by q h f tag (drop 1 body) d sent of ask waits aims)

waiting_led_by : (q : ReqSetup) (h : History) (f : Free) (tag : ℕ) (body : List ℕ) (d : Draw) (waiting : Option Sent) (o : Option ReqIgnored) → outstanding h ≡ waiting → HeardLed q h f (hears_by q h f tag body d waiting o)
waiting_led_by q h f tag body d waiting (Some cause) is = tt
waiting_led_by q h f tag body d None None is = tt
waiting_led_by q h f tag body d (Some sent) None is = aim_led_by q h f tag body d sent sent.aim is refl

hears_led_by : (q : ReqSetup) (h : History) (owner : Bool) (tag : ℕ) (body : List ℕ) (f : Free) (d : Draw) → HeardLed q h f (hears q h owner tag body f d)
unfolding hears
hears_led_by q h owner tag body f d = waiting_led_by q h f tag body d (outstanding h) (body_fault q (outstanding h) owner tag body) refl

pub led_by : (q : ReqSetup) (h : History) (owner : Bool) (tag tag' : ℕ) (body : List ℕ) (of : ℕ) (sealed inner : List ℕ) (f : Free) (led : Led) (d d' : Draw) → hears q h owner tag body f d ≡ Adds (TookRecord tag' of sealed inner led d') → IsLedBy q h f of sealed led
led_by q h owner tag tag' body of sealed inner f led d d' e = subst (HeardLed q h f) e (hears_led_by q h owner tag body f d)

-- ---- The texts of an answer.

abbrev data_of : Effect → Option (List ℕ)
data_of e = cond (is_data e) (Some (answer_in e)) None

-- What is chosen of an exchange whose request asked this.
chosen_by : (b reply inner : List ℕ) (ask : Ask) (e : Effect) (is : Bool) → is_data e ≡ is → is_data_text b ≡ asks_data ask → inner_in reply ≡ inner → BringsData ask inner e → answered_data (b, reply) ≡ as_list (data_of e)
chosen_by b reply inner ask e true is tells text k =
    ap (λ (x : Bool). cond x (data_in reply ∷ []) []) (ap₂ (λ (x y : Bool). x && y) tells (ap is_data_inner text) ∙ sym k.told ∙ is)
    ∙ ap (λ (l : List ℕ). l ∷ []) (ap (λ (l : List ℕ). drop 1 l) text ∙ sym (k.answer is))
    ∙ sym (ap (λ (x : Bool). as_list (cond x (Some (answer_in e)) None)) is)
chosen_by b reply inner ask e false is tells text k =
    ap (λ (x : Bool). cond x (data_in reply ∷ []) []) (ap₂ (λ (x y : Bool). x && y) tells (ap is_data_inner text) ∙ sym k.told ∙ is)
    ∙ sym (ap (λ (x : Bool). as_list (cond x (Some (answer_in e)) None)) is)

under_is : (t2 : List ℕ) (s : Steps) (b : Bool) (answer : List ℕ) → some_under t2 (t2_of s) (cond b (Some answer) None) ≡ answered_under t2 s b answer
under_is t2 s true answer = refl
under_is t2 s false answer = refl

-- What a record adds to what was heard.
pub next_heard : (t2 u b reply : List ℕ) (s : Steps) (o : Option Sent) (old : List marks.Asked) → heard t2 ((next_marks s o ++ marks.Asked.Heard u b reply ∷ []) ++ old) ≡ cond (bytes_eq u t2) ((b, reply) ∷ heard t2 old) (heard t2 old)
next_heard t2 u b reply s None old = refl
next_heard t2 u b reply s (Some x) old = go x.content
  where
    go : (c : Content) → heard t2 ((content_marks s c ++ marks.Asked.Heard u b reply ∷ []) ++ old) ≡ cond (bytes_eq u t2) ((b, reply) ∷ heard t2 old) (heard t2 old)
    go (Clear message) = refl
    go (Sealed sealed inner pad) = refl

pub shake_heard : (b : Bool) (x : First) (u t2 : List ℕ) (old : List marks.Asked) → heard t2 (cond b (marks.Asked.Opened x u ∷ []) [] ++ old) ≡ heard t2 old
shake_heard true x u t2 old = refl
shake_heard false x u t2 old = refl

no_shake_data : (ask : Ask) → stage.Handshake ≡ stage_for ask → asks_data ask ≡ false
no_shake_data AskData e = absurd (cc)
no_shake_data AskFinish e = refl
no_shake_data AskBeat e = refl
no_shake_data (AskUpdate all) e = refl
no_shake_data AskVerify e = refl
no_shake_data (AskMeasure op) e = refl
no_shake_data (AskChunk op handle number before) e = refl
no_shake_data AskEnd e = refl

-- The exchange of a record under its T2.
took_adds : (q : ReqSetup) (h : History) (f : Free) (of : ℕ) (sealed inner : List ℕ) (led : Led) (o : Option Sent) (s' : Steps) (t2 : List ℕ) (old : List marks.Asked) → SentTells (outstanding h) → (k : IsLedBy q h f of sealed led)
    → in_order answered_data (heard t2 ((next_marks s' o ++ marks.Asked.Heard (t2_of (session_of of h)) (request_text (outstanding h)) (answer_text q.psk (session_of of h) (ask_in (outstanding h)) sealed) ∷ []) ++ old))
    ≡ in_order answered_data (heard t2 old) ++ answered_under t2 (session_of of h) (is_data led.effect) (answer_in led.effect)
took_adds q h f of sealed inner led o s' t2 old tells k =
    let s = session_of of h in
    let came = came_to q h of k.ask sealed in
    let ask : ask_in (outstanding h) ≡ k.ask = ap ask_in k.waits ∙ ap ask_of k.aims in
    let text = answer_text q.psk s (ask_in (outstanding h)) sealed in
    let its : is_data_text (request_text (outstanding h)) ≡ asks_data k.ask =
    ap (λ (w : Option Sent). is_data_text (request_text w)) k.waits ∙ subst (λ (a : Aim). TextTells a (sent_text k.sent.content)) k.aims (subst SentTells k.waits tells) in
    let inside : inner_in text ≡ came.inner = ap (λ (a : Ask). inner_in (answer_text q.psk s a sealed)) ask ∙ sym (inner_as q.psk s k.ask sealed) in
    let brought : BringsData k.ask came.inner led.effect = subst (λ (l : Led). BringsData k.ask came.inner l.effect) (sym k.is) (brings q h f came k.ask) in
    ap (in_order answered_data) (next_heard t2 (t2_of s) (request_text (outstanding h)) text s' o old)
    ∙ one_more answered_data (request_text (outstanding h), text) (heard t2 old) t2 (t2_of s) (data_of led.effect) (chosen_by (request_text (outstanding h)) text came.inner k.ask led.effect (is_data led.effect) refl its inside brought)
    ∙ ap (λ (l : List (List ℕ)). in_order answered_data (heard t2 old) ++ l) (under_is t2 s (is_data led.effect) (answer_in led.effect))

shake_adds : (q : ReqSetup) (h : History) (f : Free) (body : List ℕ) (of : ℕ) (sealed inner : List ℕ) (led : Led) (t2 : List ℕ) (old : List marks.Asked) → IsMade q h → stage_of (session_of of h) ≡ stage.Handshake → IsTookRecord q h f body of sealed inner led → (k : IsLedBy q h f of sealed led)
    → in_order answered_data (heard t2 old) ≡ in_order answered_data (heard t2 old) ++ answered_under t2 (session_of of h) (is_data led.effect) (answer_in led.effect)
shake_adds q h f body of sealed inner led t2 old made at r k =
    let s = session_of of h in
    let came = came_to q h of k.ask sealed in
    let w = waited_for q h f body of sealed inner led r made in
    let g = (asked_stage r.ask s (ordered q h of made).ordered w.1).0 in
    let ask : r.ask ≡ k.ask = sym (ap ask_in r.waits ∙ ap ask_of r.aims) ∙ ap ask_in k.waits ∙ ap ask_of k.aims in
    let brought : BringsData k.ask came.inner led.effect = subst (λ (l : Led). BringsData k.ask came.inner l.effect) (sym k.is) (brings q h f came k.ask) in
    let none : is_data led.effect ≡ false = brought.told ∙ ap (λ (b : Bool). b && is_data_inner came.inner) (no_shake_data k.ask (sym at ∙ g ∙ ap stage_for ask)) in
    sym (append-nil (in_order answered_data (heard t2 old))) ∙ ap (λ (b : Bool). in_order answered_data (heard t2 old) ++ answered_under t2 s b (answer_in led.effect)) (sym none)

staged_adds : (g : Stage) (q : ReqSetup) (h : History) (f : Free) (body : List ℕ) (of : ℕ) (sealed inner : List ℕ) (led : Led) (t2 : List ℕ) (old : List marks.Asked) → IsMade q h → stage_of (session_of of h) ≡ g → IsTookRecord q h f body of sealed inner led → (k : IsLedBy q h f of sealed led)
    → in_order answered_data (heard t2 (taken_marks g q (session_of of h) (outstanding h) sealed inner led ++ old)) ≡ in_order answered_data (heard t2 old) ++ answered_under t2 (session_of of h) (is_data led.effect) (answer_in led.effect)
staged_adds stage.Handshake q h f body of sealed inner led t2 old made at r k =
    ap (in_order answered_data) (shake_heard (finishes led.effect) (asked_first (session_of of h)) (t2_of (Took sealed inner led.effect ∷ session_of of h)) t2 old)
    ∙ shake_adds q h f body of sealed inner led t2 old made at r k
staged_adds stage.Open q h f body of sealed inner led t2 old made at r k = took_adds q h f of sealed inner led led.next (Took sealed inner led.effect ∷ session_of of h) t2 old (waiting_tells q h made) k
staged_adds stage.Verifying q h f body of sealed inner led t2 old made at r k = took_adds q h f of sealed inner led led.next (Took sealed inner led.effect ∷ session_of of h) t2 old (waiting_tells q h made) k

content_heard : (t2 : List ℕ) (s : Steps) (c : Content) (old : List marks.Asked) → heard t2 (content_marks s c ++ old) ≡ heard t2 old
content_heard t2 s (Clear message) old = refl
content_heard t2 s (Sealed sealed inner pad) old = refl

pub command_heard : (t2 : List ℕ) (h : History) (c : Command) (x : Sent) (d : Draw) (old : List marks.Asked) → heard t2 (command_marks h c x d ++ old) ≡ heard t2 old
command_heard t2 h (Open summary) x d old = refl
command_heard t2 h _ x d old = content_heard t2 (steps_at h x.aim) x.content old

pub responses_are : (q : ReqSetup) (h : History) → IsMade q h → (t2 : List ℕ) → responses_taken t2 h ≡ in_order answered_data (heard t2 (asked_marks q h))
responses_are q [] made t2 = refl
responses_are q (Told c x d ∷ older) made t2 = responses_are q older made.1 t2 ∙ ap (in_order answered_data) (sym (command_heard t2 older c x d (asked_marks q older)))
responses_are q (TookClear tag m led d ∷ older) made t2 = responses_are q older made.1 t2 ∙ ap (in_order answered_data) (sym (clear_same t2 (asked_marks q older) older led.effect).1)
responses_are q (TookRecord tag of sealed inner led d ∷ older) made t2 =
    let s = session_of of older in
    let f = body_chosen q older d in
    ap (λ (l : List (List ℕ)). l ++ answered_under t2 s (is_data led.effect) (answer_in led.effect)) (responses_are q older made.1 t2)
    ∙ sym (staged_adds (stage_of s) q older f (record_body sealed) of sealed inner led t2 (asked_marks q older) made.1 refl
    (record_entry q older false tag tag (record_body sealed) of sealed inner f led d d made.0)
    (led_by q older false tag tag (record_body sealed) of sealed inner f led d d made.0))
