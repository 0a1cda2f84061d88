-- A record that is owed may have any padding.
use Rattle.std.proofs.Common.{◌≡◌, ◌≤◌, ◌==◌, ℕ, List, [], ◌∷◌, refl, sym, ap, ◌∙◌, subst, length, true, false, Option, Some, None}
use Rattle.std.proofs.lemmas.Bool.{false≢true}
use Rattle.requester_machine.specs.Asking.{Outcome}
use Rattle.requester_machine.specs.Asking.Outcome.{Fails, Ignores, Warns, Resends, Adds}
use Rattle.requester_machine.specs.Bodies.{has_tag}
use Rattle.requester_machine.specs.Commands.{Free}
use Rattle.requester_machine.specs.Hearing.{hears}
use Rattle.requester_machine.specs.History.{Entry, History, outstanding, sent_in}
use Rattle.requester_machine.specs.History.Entry.{Told, TookClear, TookRecord}
use Rattle.requester_machine.specs.May.{IsAllowed}
use Rattle.requester_machine.specs.Message.{Content, Sent}
use Rattle.requester_machine.specs.Message.Content.{Clear}
use Rattle.requester_machine.specs.Session.{session_of}
use Rattle.requester_machine.specs.Setup.{ReqSetup}
use Rattle.requester_machine.specs.Shown.{after}
use Rattle.responder_machine.specs.History as responder_history
use Rattle.check_laws.proofs.Allowed.{Equals, allowed_same, clear_lives, record_lives}
use Rattle.check_laws.proofs.Sealing.{IsOwn, heard_own}
use Rattle.check_laws.specs.Padding.{next_with, session_asked}
use Rattle.requester_machine.specs.Owed.{content_with, sent_with}
use Rattle.capture_machine.proofs.Agrees.{Agree, HaveIds}
use Rattle.capture_machine.proofs.AskersBegin.{dial}
use Rattle.capture_machine.proofs.HeardNext.{other_tag}
use Rattle.capture_machine.proofs.HearsAlike.{EntryAlike, NextAlike, OutcomeAlike, SentAlike, hears_alike}
use Rattle.capture_machine.proofs.HearsAlike.SentAlike.{Equal, Padded}
use Rattle.capture_machine.specs.CapturedAnswers.{Hears}
use Rattle.capture_machine.specs.CapturedRequests.{is_later}
use Rattle.requester_machine.specs.Owed.{with_next}
use Rattle.capture_machine.specs.LargeAnswers.{is_fetching}
use Rattle.capture_machine.specs.Rounds.{Round, no_draw}
use Rattle.capture_machine.proofs.AskersAlike.{led_next}

-- The history with this padding in the message that its newest entry sent.
abbrev pub repadded : (psk : List ℕ) → (pad : List ℕ) → History → History
repadded psk pad h = with_next (next_with psk h pad (outstanding h)) h

-- ---- Small laws.

pub agree_self : (h : History) → HaveIds h → Agree h h
agree_self h ids = record {
  counted = record { sent = refl; larges = refl; size = refl };
  phase = refl;
  negotiation = refl;
  sessions = λ id. refl;
  waiting = refl;
  accepted = refl;
  ids = ids;
}

next_same : (e : Entry) (h : History) (o : Option Sent) → sent_in e ≡ o → with_next o (e ∷ h) ≡ e ∷ h
next_same (Told command sent d) h o is = refl
next_same (TookClear tag m led d) h o is = ap (λ (x : Option Sent). TookClear tag m (record led { next = x }) d ∷ h) (sym is)
next_same (TookRecord tag id sealed inner led d) h o is = ap (λ (x : Option Sent). TookRecord tag id sealed inner (record led { next = x }) d ∷ h) (sym is)

entry_with : (e f : Entry) (h : History) (o : Option Sent) → EntryAlike e f → with_next o (e ∷ h) ≡ with_next o (f ∷ h)
entry_with (TookClear tag m led d) (TookClear tag' m' led' d') h o a =
    let l = led_next led led' o a.2 in let x = a.0 in let y = a.1 in let z = a.3 in cc
entry_with (TookRecord tag id sealed inner led d) (TookRecord tag' id' sealed' inner' led' d') h o a =
    let l = led_next led led' o a.4 in let x = a.0 in let y = a.1 in let z = a.2 in let u = a.3 in let n = a.5 in cc
entry_with (Told c s d) f h o a = absurd a
entry_with (TookClear tag m led d) (Told c s x) h o a = absurd a
entry_with (TookClear tag m led d) (TookRecord tag' id' sealed' inner' led' d') h o a = absurd a
entry_with (TookRecord tag id sealed inner led d) (Told c s x) h o a = absurd a
entry_with (TookRecord tag id sealed inner led d) (TookClear tag' m' led' d') h o a = absurd a

pub next_of : (e f : Entry) → EntryAlike e f → NextAlike (sent_in e) (sent_in f)
next_of (TookClear tag m led d) (TookClear tag' m' led' d') a = a.2.next
next_of (TookRecord tag id sealed inner led d) (TookRecord tag' id' sealed' inner' led' d') a = a.4.next
next_of (Told c s d) f a = absurd a
next_of (TookClear tag m led d) (Told c s x) a = absurd a
next_of (TookClear tag m led d) (TookRecord tag' id' sealed' inner' led' d') a = absurd a
next_of (TookRecord tag id sealed inner led d) (Told c s x) a = absurd a
next_of (TookRecord tag id sealed inner led d) (TookClear tag' m' led' d') a = absurd a

-- Messages that differ in their padding alone are one with one padding.
pub alike_with : (psk pad : List ℕ) (h : History) (s t : Sent) → SentAlike s t → sent_with psk (session_of (session_asked s.aim) h) pad s ≡ sent_with psk (session_of (session_asked t.aim) h) pad t
alike_with psk pad h _ _ (Equal s) = refl
alike_with psk pad h _ _ (Padded tag key s id ask inner one other) = refl

-- ---- Hearing an answer upon which a message is sent.

-- What was heard is what would be heard with the padding that was chosen, and with any other the same is heard but for
-- that.
pub record Paddable (q : ReqSetup) (h : History) (r : responder_history.History) (rd : Round) (fd : Option (List ℕ)) (tag : ℕ) (body : List ℕ) (next : History) : Type 0 where
  pub own : (pad : List ℕ) × (length pad ≤ 16) × (repadded q.psk pad next ≡ next)
  pub free : (pad : List ℕ) → length pad ≤ 16 → Hears (dial q h r (Some rd) None fd) tag body (repadded q.psk pad next)

allowed_with : (q : ReqSetup) (h : History) (f : Free) (pad : List ℕ) → length pad ≤ 16 → IsAllowed q h f → IsAllowed q h (record f { pad = pad })
allowed_with q h f pad few allowed = record {
  least = allowed.least;
  most = allowed.most;
  unused = allowed.unused;
  context = allowed.context;
  opaque = allowed.opaque;
  exchange = allowed.exchange;
  pad = few;
}

-- An entry with this padding is the one that is added with it.
entry_padded : (psk pad : List ℕ) (e x : Entry) (h : History) (m n : Option Sent) → HaveIds h → EntryAlike e x → sent_in e ≡ m → sent_in x ≡ n → NextAlike m n → ((t : Sent) → sent_in x ≡ Some t → IsOwn psk (with_next None (x ∷ h)) pad t)
    → repadded psk pad (e ∷ h) ≡ x ∷ h
entry_padded psk pad e x h None None ids alike out sent like own =
    ap (λ (o : Option Sent). with_next (next_with psk (e ∷ h) pad o) (e ∷ h)) out ∙ entry_with e x h None alike ∙ next_same x h None sent
entry_padded psk pad e x h (Some s) (Some t) ids alike out sent like own =
    let bare : with_next None (e ∷ h) ≡ with_next None (x ∷ h) = entry_with e x h None alike in
    let one : sent_with psk (session_of (session_asked s.aim) (with_next None (e ∷ h))) pad s ≡ t =
    alike_with psk pad (with_next None (e ∷ h)) s t like ∙ ap (λ (l : History). sent_with psk (session_of (session_asked t.aim) l) pad t) bare ∙ own t sent in
    ap (λ (o : Option Sent). with_next (next_with psk (e ∷ h) pad o) (e ∷ h)) out ∙ ap (λ (m : Sent). with_next (Some m) (e ∷ h)) one ∙ entry_with e x h (Some t) alike ∙ next_same x h (Some t) sent
entry_padded psk pad e x h None (Some t) ids alike out sent like own = absurd like
entry_padded psk pad e x h (Some s) None ids alike out sent like own = absurd like

own_padding : (psk pad : List ℕ) (e : Entry) (h : History) (m : Option Sent) → sent_in e ≡ m → ((s : Sent) → sent_in e ≡ Some s → IsOwn psk (with_next None (e ∷ h)) pad s) → repadded psk pad (e ∷ h) ≡ e ∷ h
own_padding psk pad e h None out own = ap (λ (o : Option Sent). with_next (next_with psk (e ∷ h) pad o) (e ∷ h)) out ∙ next_same e h None out
own_padding psk pad e h (Some s) out own =
    ap (λ (o : Option Sent). with_next (next_with psk (e ∷ h) pad o) (e ∷ h)) out ∙ ap (λ (x : Sent). with_next (Some x) (e ∷ h)) (own s out) ∙ next_same e h (Some s) out

-- Another padding adds an entry too.
pub heard_with : (q : ReqSetup) (h : History) (f : Free) (tag : ℕ) (body pad : List ℕ) (e : Entry) (o : Outcome) → HaveIds h → hears q h false tag body (record f { pad = pad }) no_draw ≡ o → OutcomeAlike (Adds e) o → after h o ≡ repadded q.psk pad (e ∷ h)
heard_with q h f tag body pad e (Adds x) ids is alike =
    sym (entry_padded q.psk pad e x h (sent_in e) (sent_in x) ids alike refl refl (next_of e x alike) (heard_own q h false tag body (record f { pad = pad }) no_draw x is))
heard_with q h f tag body pad e (Fails fault) ids is alike = absurd alike
heard_with q h f tag body pad e (Ignores cause) ids is alike = absurd alike
heard_with q h f tag body pad e (Warns code) ids is alike = absurd alike
heard_with q h f tag body pad e (Resends sent) ids is alike = absurd alike

settled_by : (q : ReqSetup) (h : History) (r : responder_history.History) (rd : Round) (fd : Option (List ℕ)) (tag : ℕ) (body : List ℕ) (next : History) (f : Free) (o : Outcome) → HaveIds h → is_later (Some rd) (outstanding h) ≡ false
    → IsAllowed q h f → hears q h false tag body f no_draw ≡ o → next ≡ after h o → is_later (Some rd) (outstanding next) ≡ true → Paddable q h r rd fd tag body next
unfolding Hears
settled_by q h r rd fd tag body next f (Adds e) ids not allowed is to later = record {
  own = (
    f.pad,
    allowed.pad,
    ap (repadded q.psk f.pad) to ∙ own_padding q.psk f.pad e h (sent_in e) refl (heard_own q h false tag body f no_draw e is) ∙ sym to,
  );
  free = λ pad few.
      let other : Outcome = hears q h false tag body (record f { pad = pad }) no_draw in
      let alike : OutcomeAlike (Adds e) other = subst (λ (x : Outcome). OutcomeAlike x other) is (hears_alike q h h (agree_self h ids) f (record f { pad = pad }) false tag body no_draw) in
      (other, (record f { pad = pad }, allowed_with q h f pad few allowed, refl), ap (repadded q.psk pad) to ∙ sym (heard_with q h f tag body pad e other ids refl alike));
}
settled_by q h r rd fd tag body next f (Fails fault) ids not allowed is to later = absurd (false≢true (sym not ∙ ap (λ (l : History). is_later (Some rd) (outstanding l)) (sym to) ∙ later))
settled_by q h r rd fd tag body next f (Ignores cause) ids not allowed is to later = absurd (false≢true (sym not ∙ ap (λ (l : History). is_later (Some rd) (outstanding l)) (sym to) ∙ later))
settled_by q h r rd fd tag body next f (Warns code) ids not allowed is to later = absurd (false≢true (sym not ∙ ap (λ (l : History). is_later (Some rd) (outstanding l)) (sym to) ∙ later))
settled_by q h r rd fd tag body next f (Resends sent) ids not allowed is to later = absurd (false≢true (sym not ∙ ap (λ (l : History). is_later (Some rd) (outstanding l)) (sym to) ∙ later))

pub settled_pads : (q : ReqSetup) (h : History) (r : responder_history.History) (rd : Round) (fd : Option (List ℕ)) (tag : ℕ) (body : List ℕ) (next : History) → HaveIds h → is_later (Some rd) (outstanding h) ≡ false
    → Hears (dial q h r (Some rd) None fd) tag body next → is_later (Some rd) (outstanding next) ≡ true → Paddable q h r rd fd tag body next
unfolding Hears
settled_pads q h r rd fd tag body next ids not heard later = settled_by q h r rd fd tag body next heard.1.0 heard.0 ids not heard.1.1 heard.1.2 heard.2 later

-- ---- An answer while a message is owed.

-- Of what a message asks and under which tag, its padding changes nothing.
next_equals : (e : Entry) (h : History) (o : Option Sent) → Equals (e ∷ h) (with_next o (e ∷ h))
unfolding session_of
next_equals (Told command sent d) h o = record { terms = refl; live = λ id. refl }
next_equals (TookClear tag m led d) h o = record { terms = refl; live = λ id. clear_lives id led.next o led.effect led.effect (session_of id h) (session_of id h) refl refl }
next_equals (TookRecord tag of sealed inner led d) h o = record { terms = refl; live = λ id. record_lives id (of == id) sealed inner led.next o led.effect led.effect (session_of id h) (session_of id h) refl refl }

waits_with : (psk pad : List ℕ) (e : Entry) (h : History) (s : Sent) → sent_in e ≡ Some s → (t : Sent) × (outstanding (repadded psk pad (e ∷ h)) ≡ Some t) × (t.tag ≡ s.tag)
waits_with psk pad (Told command sent d) h s is = (s, is, refl)
waits_with psk pad (TookClear tag m led d) h s is =
    (sent_with psk (session_of (session_asked s.aim) (with_next None (TookClear tag m led d ∷ h))) pad s, ap (next_with psk (TookClear tag m led d ∷ h) pad) is, refl)
waits_with psk pad (TookRecord tag id sealed inner led d) h s is =
    (sent_with psk (session_of (session_asked s.aim) (with_next None (TookRecord tag id sealed inner led d ∷ h))) pad s, ap (next_with psk (TookRecord tag id sealed inner led d ∷ h) pad) is, refl)

-- Nothing is heard then, whatever the padding.
pub owing_hears : (q : ReqSetup) (e : Entry) (h : History) (s : Sent) (r : responder_history.History) (rd : Round) (fd : Option (List ℕ)) (tag : ℕ) (body pad : List ℕ) (next : History) → sent_in e ≡ Some s → has_tag (Some s) tag ≡ false
    → Hears (dial q (e ∷ h) r (Some rd) None fd) tag body next → (next ≡ e ∷ h) × Hears (dial q (repadded q.psk pad (e ∷ h)) r (Some rd) None fd) tag body (repadded q.psk pad (e ∷ h))
unfolding Hears
owing_hears q e h s r rd fd tag body pad next out apart one =
    let f : Free = one.1.0 in
    let there = waits_with q.psk pad e h s out in
    let parts : has_tag (Some there.0) tag ≡ false = ap (λ (n : ℕ). n == tag) there.2 ∙ apart in
    let l : History = repadded q.psk pad (e ∷ h) in (
      one.2 ∙ ap (after (e ∷ h)) (sym one.1.2) ∙ other_tag q (e ∷ h) s f tag body no_draw out apart,
      (hears q l false tag body f no_draw, (f, allowed_same q (e ∷ h) l f (next_equals e h _) one.1.1, refl), sym (other_tag q l there.0 f tag body no_draw there.1 parts)),
    )

-- ---- What is fetched.

pub fetch_same : (psk pad : List ℕ) (h : History) → is_fetching (outstanding (repadded psk pad h)) ≡ is_fetching (outstanding h)
fetch_same psk pad [] = refl
fetch_same psk pad (Told command sent d ∷ h) = refl
fetch_same psk pad (TookClear tag m led d ∷ h) = by_next led.next
  where
    by_next : (o : Option Sent) → is_fetching (next_with psk (TookClear tag m led d ∷ h) pad o) ≡ is_fetching o
    by_next None = refl
    by_next (Some s) = refl
fetch_same psk pad (TookRecord tag id sealed inner led d ∷ h) = by_next led.next
  where
    by_next : (o : Option Sent) → is_fetching (next_with psk (TookRecord tag id sealed inner led d ∷ h) pad o) ≡ is_fetching o
    by_next None = refl
    by_next (Some s) = refl

-- A message in the clear has no padding.
pub clear_same : (psk pad : List ℕ) (e : Entry) (h : History) (s : Sent) (m : List ℕ) → sent_in e ≡ Some s → s.content ≡ Clear m → repadded psk pad (e ∷ h) ≡ e ∷ h
clear_same psk pad e h s m out is =
    let same : sent_with psk (session_of (session_asked s.aim) (with_next None (e ∷ h))) pad s ≡ s =
    ap (λ (c : Content). record s { content = content_with psk (session_of (session_asked s.aim) (with_next None (e ∷ h))) pad c }) is ∙ ap (λ (c : Content). record s { content = c }) (sym is) in
    ap (λ (o : Option Sent). with_next (next_with psk (e ∷ h) pad o) (e ∷ h)) out ∙ ap (λ (x : Sent). with_next (Some x) (e ∷ h)) same ∙ next_same e h (Some s) out
