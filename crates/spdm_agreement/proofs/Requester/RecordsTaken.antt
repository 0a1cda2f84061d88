-- A record that a requester took, by what waited for it.
use Rattle.std.proofs.Common.{◌≡◌, ℕ, List, [], ◌∷◌, ◌++◌, Bool, true, false, cond, Option, Some, None, ◌==◌, ◌&&◌, refl, sym, ap, ◌∙◌, inl, inr, subst, eq-eqb, true≢false, append_assoc}
use Rattle.requester_machine.specs.Commands.{Free}
use Rattle.requester_machine.specs.History.{History, Effect, Led, outstanding}
use Rattle.requester_machine.specs.InnerMessages.{Came}
use Rattle.requester_machine.specs.Message.{Ask, Aim, Sent}
use Rattle.requester_machine.specs.Message.Aim.{InSession}
use Rattle.requester_machine.specs.Message.Ask.{AskFinish}
use Rattle.requester_machine.specs.Order.{stage_for}
use Rattle.requester_machine.specs.Records.{answer_fault, answer_inner}
use Rattle.requester_machine.specs.RequesterLog.{sent_made, record_check}
use Rattle.requester_machine.specs.Session.{Steps, session_of, stage_of, t2_of, is_live, finishes, ends, when_live}
use Rattle.requester_machine.specs.Session.Step.{Took}
use Rattle.spdm_grammar.specs.declared.told.phase.Stage.{Stage}
use Rattle.spdm_grammar.specs.declared.told.phase.Stage.TheVariants as stage
use Rattle.spdm_machine.specs.Sessions.{is_past_handshake}
use Rattle.requester_machine.specs.Setup.{ReqSetup}
use Rattle.spdm_machine.specs.TagLog.{Log}
use Rattle.transcript.specs.Transcripts as transcript
use Rattle.spdm_agreement.specs.Marks as marks
use Rattle.spdm_agreement.specs.Marks.{Served, Text, asked_open, finishing}
use Rattle.spdm_agreement.specs.Story.{Past, asked_from, asked_first, answer_text, next_marks, taken_marks, sent_text}
use Rattle.spdm_agreement.proofs.Requester.Comparisons.{check_leads, record_is_check}
use Rattle.spdm_agreement.proofs.Requester.Entries.{RequestTells}
use Rattle.spdm_agreement.proofs.Requester.Counts.{HeldWell}
use Rattle.spdm_agreement.proofs.Requester.HistoryInvariant.{AskedKept, IsFinishing, WaitingKept, RecordKept, waiting_text, kept_record, kept_finish}
use Rattle.spdm_agreement.proofs.Requester.Waiting.{is_finish, finishes_only}
use Rattle.spdm_agreement.proofs.Requester.RecordLeads.{RecordLed, IsAnswered, NextRecord}
use Rattle.spdm_agreement.proofs.Requester.RecordMoves.{came_at, replies, opens_by, shaken, asks_past}
use Rattle.spdm_agreement.proofs.Requester.SealAndHear.{at}
use Rattle.spdm_agreement.proofs.Worlds.EndSteps.{OwnLeads}
use Rattle.spdm_agreement.proofs.Messages.Beginnings.{reading_of}

-- ---- What waited.

abbrev pub aimed : Sent → ℕ → Ask → Sent
aimed x id ask = record x { aim = InSession id ask }

pub waits_aimed : (h : History) (x : Sent) (id : ℕ) (ask : Ask) → outstanding h ≡ Some x → x.aim ≡ InSession id ask → outstanding h ≡ Some (aimed x id ask)
waits_aimed h x id ask waits aims = waits ∙ ap (λ (a : Aim). Some (record x { aim = a })) aims

pub was_kept : (prior : Past) → (q : ReqSetup) (h : History) (x : Sent) (id : ℕ) (ask : Ask) → outstanding h ≡ Some (aimed x id ask) → AskedKept prior q h → RecordKept prior q h id (sent_text x.content) ask
was_kept prior q h x id ask waits kept = subst (WaitingKept prior q h) waits kept.waiting

pub own_waits : (h : History) (x : Sent) (id : ℕ) (ask : Ask) → outstanding h ≡ Some (aimed x id ask) → waiting_text id (outstanding h) ≡ Some (sent_text x.content)
own_waits h x id ask waits = ap (waiting_text id) waits ∙ ap (λ (c : Bool). cond c (Some (sent_text x.content)) None) (eq-eqb id id refl)

pub other_waits : (h : History) (x : Sent) (of id : ℕ) (ask : Ask) → outstanding h ≡ Some (aimed x of ask) → (of == id) ≡ false → waiting_text id (outstanding h) ≡ None
other_waits h x of id ask waits other = ap (waiting_text id) waits ∙ ap (λ (c : Bool). cond c (Some (sent_text x.content)) None) other

-- ---- After the handshake.

pub past_marks : (g : Stage) (q : ReqSetup) (s : Steps) (x : Sent) (id : ℕ) (ask : Ask) (sealed inner : List ℕ) (led : Led) → is_past_handshake g ≡ true
    → taken_marks g q s (Some (aimed x id ask)) sealed inner led ≡ next_marks (Took sealed inner led.effect ∷ s) led.next ++ marks.Asked.Heard (t2_of s) (sent_text x.content) (answer_text q.psk s ask sealed) ∷ []
past_marks stage.Handshake q s x id ask sealed inner led past = absurd (cc)
past_marks stage.Open q s x id ask sealed inner led past = refl
past_marks stage.Verifying q s x id ask sealed inner led past = refl

pub past_leads : (q : ReqSetup) (h : History) (f : Free) (id : ℕ) (s : Steps) (m : List marks.Asked) (served : List Served) (log : Log) (x : Sent) (ask : Ask) (sealed : List ℕ) (led : Led) → is_live s ≡ true
    → is_finish ask ≡ false → stage_of s ≡ stage_for ask → asked_open (reading_of q.psk) id m ≡ Some (asked_first s, t2_of s) → HeldWell q.psk s m (Some (sent_text x.content)) → RequestTells ask (sent_text x.content)
    → answer_fault q.psk s ask sealed ≡ None → RecordLed q h f (came_at q id s ask sealed) ask led
    → OwnLeads (reading_of q.psk) (at m served log)
    (at (taken_marks (stage_of s) q s (Some (aimed x id ask)) sealed (answer_inner q.psk s ask sealed) led ++ m) served ((sent_made q.psk (when_live s (Took sealed (answer_inner q.psk s ask sealed) led.effect)) led.next ++ record_check q s ask sealed) ++ log))
past_leads q h f id [] m served log x ask sealed led live n g is k t opened shape = absurd (true≢false (sym live))
past_leads q h f id (y ∷ ys) m served log x ask sealed led live n g is k t opened shape =
    let s = y ∷ ys in
    let inner = answer_inner q.psk s ask sealed in
    let later = Took sealed inner led.effect ∷ s in
    let mark = marks.Asked.Heard (t2_of s) (sent_text x.content) (answer_text q.psk s ask sealed) in
    let one : taken_marks (stage_of s) q s (Some (aimed x id ask)) sealed inner led ++ m ≡ next_marks later led.next ++ mark ∷ m =
    ap (λ (l : List marks.Asked). l ++ m) (past_marks (stage_of s) q s x id ask sealed inner led (ap is_past_handshake g ∙ asks_past ask n)) ∙ append_assoc (next_marks later led.next) (mark ∷ []) m in
    let two : (sent_made q.psk later led.next ++ record_check q s ask sealed) ++ log ≡ sent_made q.psk later led.next ++ (record_check q s ask sealed ++ log) = append_assoc (sent_made q.psk later led.next) (record_check q s ask sealed) log in
    subst (λ (l : List marks.Asked). OwnLeads (reading_of q.psk) (at m served log) (at l served ((sent_made q.psk later led.next ++ record_check q s ask sealed) ++ log))) (sym one)
    (subst (λ (l : Log). OwnLeads (reading_of q.psk) (at m served log) (at (next_marks later led.next ++ mark ∷ m) served l)) (sym two)
    (replies q h f id y ys m served log ask (sent_text x.content) sealed led n g is k t opened shape))

-- ---- In the handshake.

finish_none : (q : ReqSetup) (h : History) (f : Free) (came : Came) (effect : Effect) (next : Option Sent) → finishes effect ≡ true → NextRecord q h f came effect AskFinish next → next ≡ None
finish_none q h f came effect None ends n = refl
finish_none q h f came effect (Some x) ends n = absurd (true≢false (sym ends ∙ n.other))

pub answered_finish : (q : ReqSetup) (h : History) (f : Free) (came : Came) (led : Led) → IsAnswered q h f came AskFinish led → (finishes led.effect ≡ true) × (led.next ≡ None)
answered_finish q h f came led a =
    let e = finishes_only led.effect AskFinish a.brings in
    (e, finish_none q h f came led.effect led.next e a.next)

pub finish_leads : (q : ReqSetup) (h : History) (f : Free) (id : ℕ) (n : transcript.Negotiation) (exchange answer y : List ℕ) (m : List marks.Asked) (served : List Served) (log : Log) (x : Sent) (sealed : List ℕ) (led : Led)
    → finishing m ≡ Some (asked_first (shaken q.psk n exchange answer y)) → answer_fault q.psk (shaken q.psk n exchange answer y) AskFinish sealed ≡ None → RecordLed q h f (came_at q id (shaken q.psk n exchange answer y) AskFinish sealed) AskFinish led
    → OwnLeads (reading_of q.psk) (at m served log)
    (at (taken_marks stage.Handshake q (shaken q.psk n exchange answer y) (Some (aimed x id AskFinish)) sealed (answer_inner q.psk (shaken q.psk n exchange answer y) AskFinish sealed) led ++ m) served
    ((sent_made q.psk (Took sealed (answer_inner q.psk (shaken q.psk n exchange answer y) AskFinish sealed) led.effect ∷ shaken q.psk n exchange answer y) led.next ++ record_check q (shaken q.psk n exchange answer y) AskFinish sealed) ++ log))
finish_leads q h f id n exchange answer y m served log x sealed led waits opened shape =
    let r = reading_of q.psk in
    let s = shaken q.psk n exchange answer y in
    let inner = answer_inner q.psk s AskFinish sealed in
    let later = Took sealed inner led.effect ∷ s in
    elim shape [
      | inl a ↦ (let e = answered_finish q h f (came_at q id s AskFinish sealed) led a in
          subst (λ (o : Option Sent). OwnLeads r (at m served log) (at (cond (finishes led.effect) (marks.Asked.Opened (asked_first s) (t2_of later) ∷ []) [] ++ m) served ((sent_made q.psk later o ++ record_check q s AskFinish sealed) ++ log))) (sym e.1)
          (subst (λ (c : Bool). OwnLeads r (at m served log) (at (cond c (marks.Asked.Opened (asked_first s) (t2_of later) ∷ []) [] ++ m) served (record_check q s AskFinish sealed ++ log))) (sym e.0)
          (opens_by q n exchange answer y m served log sealed led.effect waits opened e.0 a.tells)))
      | inr e ↦ subst (λ (o : Option Sent). OwnLeads r (at m served log) (at (cond (finishes led.effect) (marks.Asked.Opened (asked_first s) (t2_of later) ∷ []) [] ++ m) served ((sent_made q.psk later o ++ record_check q s AskFinish sealed) ++ log))) (sym e.next)
          (subst (λ (c : Bool). OwnLeads r (at m served log) (at (cond c (marks.Asked.Opened (asked_first s) (t2_of later) ∷ []) [] ++ m) served (record_check q s AskFinish sealed ++ log))) (sym e.opens)
          (check_leads r m served (record_check q s AskFinish sealed) log (record_is_check q s AskFinish sealed)))
    ]

-- ---- Either.

pub held_at : (s : Steps) → is_live s ≡ true → is_past_handshake (stage_of s) ≡ true → (is_live s && is_past_handshake (stage_of s)) ≡ true
held_at [] l p = l
held_at (y ∷ ys) l p = p

abbrev pub RecordLeads : (prior : Past) → ReqSetup → History → List Served → Log → ℕ → Steps → Option Sent → Ask → (sealed inner : List ℕ) → Led → Type 0
RecordLeads prior q h served log id s o ask sealed inner led =
    OwnLeads (reading_of q.psk) (at (asked_from prior q h) served log)
    (at (taken_marks (stage_of s) q s o sealed inner led ++ asked_from prior q h) served ((sent_made q.psk (when_live s (Took sealed inner led.effect)) led.next ++ record_check q s ask sealed) ++ log))

pub finish_is : (ask : Ask) → is_finish ask ≡ true → ask ≡ AskFinish
finish_is AskFinish e = refl
finish_is _ e = absurd (cc)

finish_case : (prior : Past) → (q : ReqSetup) (h : History) (f : Free) (id : ℕ) (served : List Served) (log : Log) (x : Sent) (ask : Ask) (sealed : List ℕ) (led : Led) → ask ≡ AskFinish → IsFinishing prior q h id → answer_fault q.psk (session_of id h) ask sealed ≡ None
    → RecordLed q h f (came_at q id (session_of id h) ask sealed) ask led → RecordLeads prior q h served log id (session_of id h) (Some (aimed x id ask)) ask sealed (answer_inner q.psk (session_of id h) ask sealed) led
finish_case prior q h f id served log x ask sealed led is k opened shape =
    let s = shaken q.psk k.negotiation k.exchange k.answer k.sealed in
    subst (λ (a : Ask). RecordLeads prior q h served log id (session_of id h) (Some (aimed x id a)) a sealed (answer_inner q.psk (session_of id h) a sealed) led) (sym is)
    (subst (λ (z : Steps). RecordLeads prior q h served log id z (Some (aimed x id AskFinish)) AskFinish sealed (answer_inner q.psk z AskFinish sealed) led) (sym k.session)
    (finish_leads q h f id k.negotiation k.exchange k.answer k.sealed (asked_from prior q h) served log x sealed led (k.waits ∙ ap (λ (z : Steps). Some (asked_first z)) k.session)
    (subst (λ (z : Steps). answer_fault q.psk z AskFinish sealed ≡ None) k.session (subst (λ (a : Ask). answer_fault q.psk (session_of id h) a sealed ≡ None) is opened))
    (subst (λ (z : Steps). RecordLed q h f (came_at q id z AskFinish sealed) AskFinish led) k.session (subst (λ (a : Ask). RecordLed q h f (came_at q id (session_of id h) a sealed) a led) is shape))))

pub record_leads : (prior : Past) → (q : ReqSetup) (h : History) (f : Free) (id : ℕ) (served : List Served) (log : Log) (x : Sent) (ask : Ask) (sealed : List ℕ) (led : Led) → outstanding h ≡ Some (aimed x id ask) → AskedKept prior q h → is_live (session_of id h) ≡ true → stage_of (session_of id h) ≡ stage_for ask
    → (is_finish ask ≡ false → asked_open (reading_of q.psk) id (asked_from prior q h) ≡ Some (asked_first (session_of id h), t2_of (session_of id h))) → answer_fault q.psk (session_of id h) ask sealed ≡ None
    → RecordLed q h f (came_at q id (session_of id h) ask sealed) ask led → RecordLeads prior q h served log id (session_of id h) (Some (aimed x id ask)) ask sealed (answer_inner q.psk (session_of id h) ask sealed) led
record_leads prior q h f id served log x ask sealed led waits kept live g is opened shape = go (is_finish ask) refl
  where
    go : (c : Bool) → is_finish ask ≡ c → RecordLeads prior q h served log id (session_of id h) (Some (aimed x id ask)) ask sealed (answer_inner q.psk (session_of id h) ask sealed) led
    go true e = finish_case prior q h f id served log x ask sealed led (finish_is ask e) (kept_finish prior q h id (sent_text x.content) ask e (was_kept prior q h x id ask waits kept)) opened shape
    go false e =
        past_leads q h f id (session_of id h) (asked_from prior q h) served log x ask sealed led live e g (is e)
        (subst (λ (w : Option Text). HeldWell q.psk (session_of id h) (asked_from prior q h) w) (own_waits h x id ask waits) (kept.held id (held_at (session_of id h) live (ap is_past_handshake g ∙ asks_past ask e))))
        (kept_record prior q h id (sent_text x.content) ask e (was_kept prior q h x id ask waits kept)) opened shape
