-- What a requester's history keeps, it keeps whatever body comes.
use Rattle.std.proofs.Common.{◌≡◌, ℕ, List, [], ◌∷◌, ◌++◌, Bool, true, false, cond, Option, Some, None, ◌==◌, refl, sym, ap, ◌∙◌, inl, inr, subst, eqb-true, true≢false, append_assoc, bytes_eq, arith}
use Rattle.requester_machine.specs.Asking.{Outcome}
use Rattle.requester_machine.specs.Asking.Outcome.{Fails, Ignores, Warns, Resends, Adds}
use Rattle.requester_machine.specs.Commands.{Free}
use Rattle.requester_machine.specs.Does.{IsMade, body_chosen, requester_hears}
use Rattle.requester_machine.specs.History.{History, Effect, Led, outstanding}
use Rattle.requester_machine.specs.History.Entry.{Told, TookClear, TookRecord}
use Rattle.requester_machine.specs.Message.{Ask, Content, Sent}
use Rattle.requester_machine.specs.Message.Content.{Clear, Sealed}
use Rattle.requester_machine.specs.Message.Ask.{AskFinish}
use Rattle.requester_machine.specs.Order.{stage_for}
use Rattle.requester_machine.specs.Records.{answer_inner}
use Rattle.requester_machine.specs.Session.{Steps, session_of, is_live, stage_of, t2_of, finishes}
use Rattle.requester_machine.specs.Session.Step.{Took}
use Rattle.requester_machine.proofs.MadeOrder.{in_order}
use Rattle.secured_record.specs.Format.{plain_text}
use Rattle.spdm_grammar.specs.declared.told.phase.Stage.{Stage}
use Rattle.spdm_grammar.specs.declared.told.phase.Stage.TheVariants as stage
use Rattle.spdm_machine.specs.Keys.{Draw}
use Rattle.spdm_machine.specs.Sessions.{is_past_handshake}
use Rattle.requester_machine.specs.Setup.{ReqSetup}
use Rattle.spdm_machine.specs.TagLog.{Log}
use Rattle.spdm_agreement.specs.Claims.{IsReached}
use Rattle.spdm_agreement.specs.Marks as marks
use Rattle.spdm_agreement.specs.Marks.{Served, Text, next_asked, heard, finishing, IsOpened}
use Rattle.spdm_agreement.specs.Reading.{First}
use Rattle.spdm_agreement.specs.Story.{Past, asked_from, asked_first, taken_marks, next_marks, content_marks, sent_text, answer_text}
use Rattle.spdm_agreement.proofs.Requester.CommandMoves.{idle, ignored_step}
use Rattle.spdm_agreement.proofs.Requester.Comparisons.{stays}
use Rattle.spdm_agreement.proofs.Requester.Entries.{RequestTells, IsTookRecord, clear_entry, record_entry, no_command_heard}
use Rattle.spdm_agreement.proofs.Requester.Counts.{HeldWell}
use Rattle.spdm_agreement.proofs.Requester.HistoryInvariant.{AskedKept, IsFinishing, WaitingKept, AimKept, waiting_text, is_held, kept_record, kept_finish, record_kept, apart}
use Rattle.spdm_agreement.proofs.Requester.Waiting.{waited_for, is_finish}
use Rattle.spdm_agreement.proofs.Requester.RecordLeads.{RecordLed, NextRecord}
use Rattle.spdm_agreement.proofs.Requester.RecordsTaken.{aimed, waits_aimed, was_kept, own_waits, other_waits, past_marks, held_at, finish_is}
use Rattle.spdm_agreement.proofs.Requester.AfterRecord.{behind, past_held, finish_held}
use Rattle.spdm_agreement.proofs.Requester.RecordMoves.{came_at, shaken, next_tells, next_is_no_finish, asks_past}
use Rattle.spdm_agreement.proofs.Requester.BodyMoves.{clear_step, took_leads}
use Rattle.spdm_agreement.proofs.Requester.SealAndHear.{at}
use Rattle.spdm_agreement.proofs.Worlds.EndSteps.{AskedStep, AskedReady, HearsWell, AskedStarts, AskedSteady}
use Rattle.spdm_agreement.proofs.Requester.Waiting.{made_steady}
use Rattle.spdm_agreement.proofs.Moves.Runs.{holds, unsaid}
use Rattle.spdm_agreement.proofs.Messages.Beginnings.{reading_of}
use Rattle.requester_machine.proofs.Steps.{asked_stage}

-- ---- What is asked next.

next_waits : (prior : Past) → (q : ReqSetup) (h h' : History) (f : Free) (of : ℕ) (s : Steps) (ask : Ask) (sealed : List ℕ) (effect : Effect) (next : Option Sent) → NextRecord q h f (came_at q of s ask sealed) effect ask next → WaitingKept prior q h' next
next_waits prior q h h' f of s ask sealed effect None n = tt
next_waits prior q h h' f of s ask sealed effect (Some x) n =
    subst (λ (z : Sent). AimKept prior q h' z.content z.aim) (sym n.is)
    (record_kept prior q h' of (plain_text n.inner f.pad) n.asks (next_is_no_finish q h f (came_at q of s ask sealed) effect ask x n) (next_tells q h f (came_at q of s ask sealed) effect ask x n))

led_waits : (prior : Past) → (q : ReqSetup) (h h' : History) (f : Free) (of : ℕ) (s : Steps) (ask : Ask) (sealed : List ℕ) (led : Led) → RecordLed q h f (came_at q of s ask sealed) ask led → WaitingKept prior q h' led.next
led_waits prior q h h' f of s ask sealed led shape = elim shape [
  | inl a ↦ next_waits prior q h h' f of s ask sealed led.effect led.next a.next
  | inr e ↦ subst (WaitingKept prior q h') (sym e.next) tt
]

-- ---- Sessions.

-- How the session of an id follows the record.
abbrev TookHeld : (prior : Past) → ReqSetup → History → (of id : ℕ) → Steps → (sealed inner : List ℕ) → Led → Option Sent → Type 0
TookHeld prior q h of id s sealed inner led o =
    is_held (behind (of == id) id led.next sealed inner led.effect (session_of id h)) ≡ true
    → HeldWell q.psk (behind (of == id) id led.next sealed inner led.effect (session_of id h)) (taken_marks (stage_of s) q s o sealed inner led ++ asked_from prior q h) (waiting_text id led.next)

past_all : (prior : Past) → (q : ReqSetup) (h : History) (f : Free) (of id : ℕ) (s : Steps) (x : Sent) (ask : Ask) (sealed : List ℕ) (led : Led) → is_live s ≡ true → is_finish ask ≡ false → stage_of s ≡ stage_for ask → ((of == id) ≡ true → s ≡ session_of id h)
    → HeldWell q.psk s (asked_from prior q h) (Some (sent_text x.content)) → RequestTells ask (sent_text x.content) → RecordLed q h f (came_at q of s ask sealed) ask led
    → ((of == id) ≡ false → is_held (session_of id h) ≡ true → HeldWell q.psk (session_of id h) (asked_from prior q h) None) → ((of == id) ≡ false → is_held (session_of id h) ≡ true → bytes_eq (t2_of s) (t2_of (session_of id h)) ≡ false)
    → TookHeld prior q h of id s sealed (answer_inner q.psk s ask sealed) led (Some (aimed x of ask))
past_all prior q h f of id [] x ask sealed led live n g same k t shape all differs held = absurd (true≢false (sym live))
past_all prior q h f of id (y ∷ ys) x ask sealed led live n g same k t shape all differs held =
    let s = y ∷ ys in
    let inner = answer_inner q.psk s ask sealed in
    let later = Took sealed inner led.effect ∷ s in
    let mark = marks.Asked.Heard (t2_of s) (sent_text x.content) (answer_text q.psk s ask sealed) in
    let one : taken_marks (stage_of s) q s (Some (aimed x of ask)) sealed inner led ++ asked_from prior q h ≡ next_marks later led.next ++ mark ∷ asked_from prior q h =
    ap (λ (l : List marks.Asked). l ++ asked_from prior q h) (past_marks (stage_of s) q s x of ask sealed inner led (ap is_past_handshake g ∙ asks_past ask n)) ∙ append_assoc (next_marks later led.next) (mark ∷ []) (asked_from prior q h) in
    subst (λ (l : List marks.Asked). HeldWell q.psk (behind (of == id) id led.next sealed inner led.effect (session_of id h)) l (waiting_text id led.next)) (sym one)
    (past_held q h f of id y ys (session_of id h) (asked_from prior q h) ask (sent_text x.content) sealed led (of == id) refl same n k t shape all differs held)

-- The marks of a handshake that ends.
abbrev finish_marks : ReqSetup → Steps → (sealed : List ℕ) → Effect → List marks.Asked → List marks.Asked
finish_marks q s sealed effect m = cond (finishes effect) (marks.Asked.Opened (asked_first s) (t2_of (Took sealed (answer_inner q.psk s AskFinish sealed) effect ∷ s)) ∷ []) [] ++ m

finish_all : (prior : Past) → (q : ReqSetup) (h : History) (f : Free) (of id : ℕ) (s : Steps) (x : Sent) (sealed : List ℕ) (led : Led) (served : List Served) (log log' : Log) → (k : IsFinishing prior q h of) → s ≡ session_of of h → RecordLed q h f (came_at q of s AskFinish sealed) AskFinish led
    → ((of == id) ≡ false → is_held (session_of id h) ≡ true → HeldWell q.psk (session_of id h) (asked_from prior q h) None)
    → IsReached (reading_of q.psk) (at (asked_from prior q h) served log) → IsReached (reading_of q.psk) (at (taken_marks (stage_of s) q s (Some (aimed x of AskFinish)) sealed (answer_inner q.psk s AskFinish sealed) led ++ asked_from prior q h) served log')
    → TookHeld prior q h of id s sealed (answer_inner q.psk s AskFinish sealed) led (Some (aimed x of AskFinish))
finish_all prior q h f of id s x sealed led served log log' k is shape all before later =
    let own = shaken q.psk k.negotiation k.exchange k.answer k.sealed in
    let e : s ≡ own = is ∙ k.session in
    let t = asked_first own in
    let u = t2_of (Took sealed (answer_inner q.psk own AskFinish sealed) led.effect ∷ own) in
    let shaped : RecordLed q h f (came_at q of own AskFinish sealed) AskFinish led = subst (λ (z : Steps). RecordLed q h f (came_at q of z AskFinish sealed) AskFinish led) e shape in
    let reached : IsReached (reading_of q.psk) (at (finish_marks q own sealed led.effect (asked_from prior q h)) served log') =
    subst (λ (z : Steps). IsReached (reading_of q.psk) (at (taken_marks (stage_of z) q z (Some (aimed x of AskFinish)) sealed (answer_inner q.psk z AskFinish sealed) led ++ asked_from prior q h) served log')) e later in
    let waits : finishing (asked_from prior q h) ≡ Some t = k.waits ∙ ap (λ (z : Steps). Some (asked_first z)) k.session in
    let quiet = unsaid (reading_of q.psk) (asked_from prior q h) served log (holds (reading_of q.psk) (at (asked_from prior q h) served log) before) t waits in
    let second = λ (c : finishes led.effect ≡ true). ((holds (reading_of q.psk) (at (finish_marks q own sealed led.effect (asked_from prior q h)) served log') reached).asks.opened t u
    (subst (λ (b : Bool). IsOpened (cond b (marks.Asked.Opened t u ∷ []) [] ++ asked_from prior q h) t u) (sym c) (inl (refl, refl)))).1 in
    subst (λ (z : Steps). TookHeld prior q h of id z sealed (answer_inner q.psk z AskFinish sealed) led (Some (aimed x of AskFinish))) (sym e)
    (finish_held q h f of id k.negotiation k.exchange k.answer k.sealed (session_of id h) (asked_from prior q h) sealed led (of == id) (λ c. sym k.session ∙ ap (λ (n : ℕ). session_of n h) (eqb-true of id c)) shaped all
    (λ c. (ap (λ (v : List ℕ). heard v (asked_from prior q h)) (second c) ∙ quiet.1, ap (λ (v : List ℕ). marks.outstanding v (asked_from prior q h)) (second c) ∙ quiet.2)))

-- ---- A record.

-- By what waited, for any marks that led on.
took_held : (prior : Past) → (q : ReqSetup) (h : History) (f : Free) (of id : ℕ) (x : Sent) (ask : Ask) (sealed : List ℕ) (led : Led) (served : List Served) (log log' : Log) → outstanding h ≡ Some (aimed x of ask) → IsMade q h → AskedKept prior q h
    → is_live (session_of of h) ≡ true → stage_of (session_of of h) ≡ stage_for ask → RecordLed q h f (came_at q of (session_of of h) ask sealed) ask led
    → IsReached (reading_of q.psk) (at (asked_from prior q h) served log)
    → IsReached (reading_of q.psk) (at (taken_marks (stage_of (session_of of h)) q (session_of of h) (Some (aimed x of ask)) sealed (answer_inner q.psk (session_of of h) ask sealed) led ++ asked_from prior q h) served log')
    → TookHeld prior q h of id (session_of of h) sealed (answer_inner q.psk (session_of of h) ask sealed) led (Some (aimed x of ask))
took_held prior q h f of id x ask sealed led served log log' waits made kept live g shape before later = go (is_finish ask) refl
  where
    others : (of == id) ≡ false → is_held (session_of id h) ≡ true → HeldWell q.psk (session_of id h) (asked_from prior q h) None
    others e held = subst (λ (w : Option Text). HeldWell q.psk (session_of id h) (asked_from prior q h) w) (other_waits h x of id ask waits e) (kept.held id held)

    finish_by : ask ≡ AskFinish → IsFinishing prior q h of → TookHeld prior q h of id (session_of of h) sealed (answer_inner q.psk (session_of of h) ask sealed) led (Some (aimed x of ask))
    finish_by is fin =
        subst (λ (a : Ask). TookHeld prior q h of id (session_of of h) sealed (answer_inner q.psk (session_of of h) a sealed) led (Some (aimed x of a))) (sym is)
        (finish_all prior q h f of id (session_of of h) x sealed led served log log' fin refl (subst (λ (a : Ask). RecordLed q h f (came_at q of (session_of of h) a sealed) a led) is shape) others before
        (subst (λ (a : Ask). IsReached (reading_of q.psk) (at (taken_marks (stage_of (session_of of h)) q (session_of of h) (Some (aimed x of a)) sealed (answer_inner q.psk (session_of of h) a sealed) led ++ asked_from prior q h) served log')) is later))

    go : (c : Bool) → is_finish ask ≡ c → TookHeld prior q h of id (session_of of h) sealed (answer_inner q.psk (session_of of h) ask sealed) led (Some (aimed x of ask))
    go true e = finish_by (finish_is ask e) (kept_finish prior q h of (sent_text x.content) ask e (was_kept prior q h x of ask waits kept))
    go false e =
        let held : is_held (session_of of h) ≡ true = held_at (session_of of h) live (ap is_past_handshake g ∙ asks_past ask e) in
        past_all prior q h f of id (session_of of h) x ask sealed led live e g (λ c. ap (λ (n : ℕ). session_of n h) (eqb-true of id c))
        (subst (λ (w : Option Text). HeldWell q.psk (session_of of h) (asked_from prior q h) w) (own_waits h x of ask waits) (kept.held of held))
        (kept_record prior q h of (sent_text x.content) ask e (was_kept prior q h x of ask waits kept)) shape others (λ c other. apart prior q h served log of id made before c held other)

pub took_kept : (prior : Past) → (q : ReqSetup) (h : History) (f : Free) (served : List Served) (log log' : Log) (d : Draw) (tag : ℕ) (body : List ℕ) (of : ℕ) (sealed inner : List ℕ) (led : Led) → IsTookRecord q h f body of sealed inner led → IsMade q h → AskedKept prior q h
    → IsReached (reading_of q.psk) (at (asked_from prior q h) served log) → IsReached (reading_of q.psk) (at (asked_from prior q (TookRecord tag of sealed inner led d ∷ h)) served log') → AskedKept prior q (TookRecord tag of sealed inner led d ∷ h)
unfolding session_of
took_kept prior q h f served log log' d tag body of sealed inner led k made kept before later =
    let s = session_of of h in
    let waits = waits_aimed h k.sent of k.ask k.waits k.aims in
    let w = waited_for q h f body of sealed inner led k made in
    let g = (asked_stage k.ask s (in_order q h of made).ordered w.1).0 in
    let reached = subst (λ (o : Option Sent). IsReached (reading_of q.psk) (at (taken_marks (stage_of s) q s o sealed (answer_inner q.psk s k.ask sealed) led ++ asked_from prior q h) served log')) waits
    (subst (λ (i : List ℕ). IsReached (reading_of q.psk) (at (taken_marks (stage_of s) q s (outstanding h) sealed i led ++ asked_from prior q h) served log')) k.holds later) in
    record {
      held = λ id. subst (λ (i : List ℕ). TookHeld prior q h of id s sealed i led (outstanding h)) (sym k.holds)
          (subst (λ (o : Option Sent). TookHeld prior q h of id s sealed (answer_inner q.psk s k.ask sealed) led o) (sym waits)
          (took_held prior q h f of id k.sent k.ask sealed led served log log' waits made kept w.0 g k.led_to before reached));
      waiting = led_waits prior q h (TookRecord tag of sealed inner led d ∷ h) f of s k.ask sealed led k.led_to;
    }

-- ---- Marks of records begin no exchange.

content_next : (s : Steps) (c : Content) (m : List marks.Asked) → next_asked (content_marks s c ++ m) ≡ next_asked m
content_next s (Clear message) m = refl
content_next s (Sealed x inner pad) m = refl

next_next : (s : Steps) (o : Option Sent) (mark : marks.Asked) (m : List marks.Asked) → next_asked (mark ∷ m) ≡ next_asked m → next_asked ((next_marks s o ++ mark ∷ []) ++ m) ≡ next_asked m
next_next s None mark m e = e
next_next s (Some x) mark m e = content_mark s x.content e
  where
    content_mark : (s : Steps) (c : Content) → next_asked (mark ∷ m) ≡ next_asked m → next_asked ((content_marks s c ++ mark ∷ []) ++ m) ≡ next_asked m
    content_mark s (Clear message) e = e
    content_mark s (Sealed y inner pad) e = e

opened_next : (t : First) (u : List ℕ) (c : Bool) (m : List marks.Asked) → next_asked (cond c (marks.Asked.Opened t u ∷ []) [] ++ m) ≡ next_asked m
opened_next t u true m = refl
opened_next t u false m = refl

took_next : (g : Stage) (q : ReqSetup) (s : Steps) (o : Option Sent) (sealed inner : List ℕ) (led : Led) (m : List marks.Asked) → next_asked (taken_marks g q s o sealed inner led ++ m) ≡ next_asked m
took_next stage.Handshake q s o sealed inner led m = opened_next (asked_first s) (t2_of (Took sealed inner led.effect ∷ s)) (finishes led.effect) m
took_next stage.Open q s o sealed inner led m = next_next (Took sealed inner led.effect ∷ s) led.next _ m refl
took_next stage.Verifying q s o sealed inner led m = next_next (Took sealed inner led.effect ∷ s) led.next _ m refl

-- ---- All bodies.

record_step : (prior : Past) → (q : ReqSetup) (h : History) (served : List Served) (log : Log) (d d' : Draw) (tag : ℕ) (body : List ℕ) (of : ℕ) (sealed inner : List ℕ) (led : Led) → AskedReady prior (AskedKept prior) q h served log d → IsTookRecord q h (body_chosen q h d) body of sealed inner led
    → AskedStep prior (AskedKept prior) q h served log body d (Adds (TookRecord tag of sealed inner led d'))
record_step prior q h served log d d' tag body of sealed inner led ready k = record {
  leads = took_leads prior q h (body_chosen q h d) served log body of sealed inner led k ready.made ready.kept;
  keeps = λ reached. took_kept prior q h (body_chosen q h d) served log _ d' tag body of sealed inner led k ready.made ready.kept ready.reached reached;
  draws = (let e = took_next (stage_of (session_of of h)) q (session_of of h) (outstanding h) sealed inner led (asked_from prior q h) in let f = ready.fresh in omega arith);
}

hears_by : (prior : Past) → (q : ReqSetup) (h : History) (served : List Served) (log : Log) (owner : Bool) (tag : ℕ) (body : List ℕ) (d : Draw) → AskedReady prior (AskedKept prior) q h served log d → (o : Outcome) → requester_hears q h owner tag body d ≡ o → AskedStep prior (AskedKept prior) q h served log body d o
hears_by prior q h served log owner tag body d ready (Fails fault) is = idle prior q h served log d ready body (Fails fault) refl (stays (reading_of q.psk) _)
hears_by prior q h served log owner tag body d ready (Ignores cause) is = ignored_step prior q h served log d ready body cause
hears_by prior q h served log owner tag body d ready (Warns code) is = idle prior q h served log d ready body (Warns code) refl (stays (reading_of q.psk) _)
hears_by prior q h served log owner tag body d ready (Resends sent) is = idle prior q h served log d ready body (Resends sent) refl (stays (reading_of q.psk) _)
hears_by prior q h served log owner tag body d ready (Adds (Told c x d')) is = absurd (no_command_heard q h owner tag body (body_chosen q h d) c x d d' is)
hears_by prior q h served log owner tag body d ready (Adds (TookClear tag' m led d')) is = clear_step prior q h served log d d' tag' body m led ready (clear_entry q h owner tag tag' body m (body_chosen q h d) led d d' is)
hears_by prior q h served log owner tag body d ready (Adds (TookRecord tag' of sealed inner led d')) is = record_step prior q h served log d d' tag' body of sealed inner led ready (record_entry q h owner tag tag' body of sealed inner (body_chosen q h d) led d d' is)

-- Whatever body comes.
pub hears_well : (prior : Past) → HearsWell prior (AskedKept prior)
hears_well prior q h served log owner tag body d ready = hears_by prior q h served log owner tag body d ready (requester_hears q h owner tag body d) refl

pub starts : (prior : Past) → AskedStarts (AskedKept prior)
unfolding session_of
starts prior q = record { held = λ id held. absurd (true≢false (sym held)); waiting = tt }

pub steady : AskedSteady
steady = made_steady
