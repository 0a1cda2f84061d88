-- A request, and an answer, of one body lead from requesters that are alike to requesters that are alike.
use Rattle.std.proofs.Common.{◌≡◌, ◌≢◌, ◌+◌, ◌%◌, ◌==◌, ℕ, List, ◌∷◌, refl, sym, ap, ◌∙◌, subst, drop, Bool, true, false, Option, Some, None, is_some, arith, cond}
use Rattle.std.specs.Prelude.{not}
use Rattle.std.proofs.lemmas.Bool.Decides.{nat_tests}
use Rattle.requester_machine.specs.Asking.{Outcome}
use Rattle.requester_machine.specs.Asking.Outcome.{Fails, Ignores, Warns, Resends, Adds}
use Rattle.requester_machine.specs.Bodies.{has_tag}
use Rattle.requester_machine.specs.Commands.{Free}
use Rattle.requester_machine.specs.Hearing.{hears}
use Rattle.requester_machine.specs.Setup.{ReqSetup}
use Rattle.requester_machine.specs.History.{History, Entry, sent_in, sent_count, outstanding, next_tag}
use Rattle.requester_machine.specs.History.Entry.{Told, TookClear, TookRecord}
use Rattle.requester_machine.specs.May.{MayHear}
use Rattle.requester_machine.specs.Message.{Sent}
use Rattle.requester_machine.specs.Message.Aim.{ByChunks}
use Rattle.requester_machine.specs.Shown.{after}
use Rattle.spdm_grammar.specs.Message.{RequestMessage}
use Rattle.responder_machine.specs.History as responder_history
use Rattle.capture_machine.specs.CapturedAnswers.{Hears}
use Rattle.capture_machine.specs.CapturedRequests.{Sends, is_later, owes}
use Rattle.capture_machine.specs.LargeRequests.{piece_with, with_ack, with_ack_to, with_next_piece}
use Rattle.capture_machine.specs.Rounds.{Round, no_draw, new_round, following_tag}
use Rattle.capture_machine.proofs.Agrees.{Agree, agree_with}
use Rattle.capture_machine.proofs.HearsAlike.{NextAlike, EntryAlike, OutcomeAlike, hears_alike}
use Rattle.capture_machine.proofs.HeardNext.{IsNext, heard_next, other_tag}
use Rattle.capture_machine.proofs.AskersAlike.{AskersAlike, acked, alike_tag, entry_told}
use Rattle.capture_machine.proofs.AskersAlike.AskersAlike.{Settled, Owing, Shown, Due}
use Rattle.capture_machine.proofs.AskersBegin.{dial}
use Rattle.capture_machine.proofs.AskersStep.{owed_sends, settled_step, owing_step, took_small}
use Rattle.capture_machine.proofs.AskersGo.{shown_step, due_step}
use Rattle.std.proofs.lemmas.Bool.{not-false, not-true}

-- ---- Tags.

pub later_tag : (round : Option Round) (s t : Sent) → s.tag ≡ t.tag → is_later round (Some s) ≡ is_later round (Some t)
later_tag None s t same = refl
later_tag (Some round) s t same = ap (λ (n : ℕ). not (n == round.tag)) same

pub later_round : (rd other : Round) (o : Option Sent) → rd.tag ≡ other.tag → is_later (Some rd) o ≡ is_later (Some other) o
later_round rd other None same = refl
later_round rd other (Some s) same = ap (λ (n : ℕ). not (s.tag == n)) same

follows_round : (rd other : Round) → rd.tag ≡ other.tag → following_tag (Some rd) ≡ following_tag (Some other)
follows_round rd other same = ap (λ (n : ℕ). (n + 1) % 8) same

-- Of a round the tag alone counts.
pub same_round : (rd other : Round) (h g : History) (sd se : Option (List ℕ)) → rd.tag ≡ other.tag → AskersAlike (Some rd) h g sd se → AskersAlike (Some other) h g sd se
same_round rd other _ _ _ _ same (Settled h g agree not at) =
    Settled h g agree (sym (later_round rd other (outstanding h) same) ∙ not) (at ∙ follows_round rd other same)
same_round rd other _ _ _ _ same (Owing e f h g s t agree alike out sent like tagged else later at) =
    Owing e f h g s t agree alike out sent like (tagged ∙ follows_round rd other same) else (sym (later_round rd other (Some s) same) ∙ later) (at ∙ follows_round rd other same)
same_round rd other _ _ _ _ same (Shown h g w v a b handle number s t u waits wait aims aim tags not at) =
    Shown h g w v a b handle number s t u waits wait aims aim tags (sym (later_round rd other (Some s) same) ∙ not) (at ∙ follows_round rd other same)
same_round rd other _ _ _ _ same (Due tag m h g w v a b handle number u later at) =
    Due tag m h g w v a b handle number u (sym (later_round rd other (Some (piece_with h a w handle (number + 1))) same) ∙ later) (at ∙ follows_round rd other same)

-- ---- A request.

pub asks_step : (q : ReqSetup) (h g : History) (sd se : Option (List ℕ)) (r x : responder_history.History) (round : Option Round) (fd fe : Option (List ℕ)) (tag : ℕ) (body : List ℕ) (next other : History) (sending sends : Option (List ℕ))
    → AskersAlike round h g sd se → tag ≡ following_tag round → Sends (dial q h r round sd fd) body next sending → Sends (dial q g x round se fe) body other sends
    → AskersAlike (Some (new_round tag body)) next other sending sends
asks_step q _ _ _ _ r x round fd fe tag body next other sending sends (Settled h g agree not at) is one two =
    settled_step q h g r x round None None fd fe tag body next other sending sends agree not (at ∙ sym is) one two
asks_step q _ _ _ _ r x round fd fe tag body next other sending sends (Owing e f h g s t agree alike out sent like tagged else later at) is one two =
    let is_owed : owes (dial q (e ∷ h) r round None fd) ≡ true = ap (is_later round) out ∙ later in
    let are_owed : owes (dial q (f ∷ g) x round None fe) ≡ true = ap (is_later round) sent ∙ sym (later_tag round s t (alike_tag s t like)) ∙ later in
    owing_step q e f h g s t r x round fd fe tag body next other sending sends agree alike out sent like (tagged ∙ sym at) else (at ∙ sym is) is_owed are_owed
    (owed_sends (dial q (e ∷ h) r round None fd) s body next sending is_owed out one)
    (owed_sends (dial q (f ∷ g) x round None fe) t body other sends are_owed sent two)
asks_step q _ _ _ _ r x round fd fe tag body next other sending sends (Shown h g w v a b handle number s t u waits wait aims aim tags not at) is one two =
    shown_step q h g s t r x round (Some w) (Some v) fd fe tag body next other sending sends u.counted waits wait (at ∙ sym is)
    (ap (is_later round) waits ∙ not) (ap (is_later round) wait ∙ sym (later_tag round s t tags) ∙ not) one two
asks_step q _ _ _ _ r x round fd fe tag body next other sending sends (Due tag0 m h g w v a b handle number u later at) is one two =
    let p : Sent = piece_with h a w handle (number + 1) in
    let o : Sent = piece_with g b v handle (number + 1) in
    let tags : p.tag ≡ o.tag = ap (λ (n : ℕ). n % 8) u.counted.sent in
    due_step q tag0 m h g w v a b handle number u r x round fd fe tag body next other sending sends (at ∙ sym is)
    (owed_sends (dial q (acked tag0 m a w handle (number + 1) h) r round (Some w) fd) p body next sending later refl one)
    (owed_sends (dial q (acked tag0 m b v handle (number + 1) g) x round (Some v) fe) o body other sends (sym (later_tag round p o tags) ∙ later) refl two)

-- ---- An answer.

next_of : (e f : Entry) → EntryAlike e f → NextAlike (sent_in e) (sent_in f)
next_of (TookClear tag m led d) (TookClear tag' m' led' d') a = a.2.next
next_of (TookRecord tag id sealed inner led d) (TookRecord tag' id' sealed' inner' led' d') a = a.4.next
next_of (Told c s d) f a = absurd a
next_of (TookClear tag m led d) (Told c s x) a = absurd a
next_of (TookClear tag m led d) (TookRecord tag' id' sealed' inner' led' d') a = absurd a
next_of (TookRecord tag id sealed inner led d) (Told c s x) a = absurd a
next_of (TookRecord tag id sealed inner led d) (TookClear tag' m' led' d') a = absurd a

test_false : (a b : ℕ) → a ≢ b → (a == b) ≡ false
test_false a b apart = grind (arith, nat_tests)

-- A message under the next tag is owed.
pub next_later : (rd : Round) (s : Sent) → s.tag ≡ following_tag (Some rd) → is_later (Some rd) (Some s) ≡ true
next_later rd s is = ap not (test_false s.tag rd.tag (λ same. absurd (omega (arith, is, same))))

by_next : (rd : Round) (e f : Entry) (h g : History) (m n : Option Sent) → Agree h g → next_tag h ≡ following_tag (Some rd) → EntryAlike e f → sent_in e ≡ m → sent_in f ≡ n → NextAlike m n
    → ((s : Sent) → sent_in e ≡ Some s → IsNext h s) → AskersAlike (Some rd) (e ∷ h) (f ∷ g) None None
by_next rd e f h g None None agree at alike out sent like facts =
    let same : e ≡ f = entry_told e f alike (out ∙ sym sent) in
    let P : Entry → Type 0 = λ x. Agree (e ∷ h) (x ∷ g) in
    Settled (e ∷ h) (f ∷ g) (subst P same (agree_with e h g (took_small e f alike) agree)) (ap (is_later (Some rd)) out)
    (ap (λ (o : Option Sent). cond (is_some o) (sent_count h + 1) (sent_count h) % 8) out ∙ at)
by_next rd e f h g (Some s) (Some t) agree at alike out sent like facts =
    let fact = facts s out in
    Owing e f h g s t agree alike out sent like (fact.0 ∙ at) fact.1 (next_later rd s (fact.0 ∙ at)) at
by_next rd e f h g None (Some t) agree at alike out sent like facts = absurd like
by_next rd e f h g (Some s) None agree at alike out sent like facts = absurd like

settled_hears : (q : ReqSetup) (rd : Round) (h g : History) (f : Free) (tag : ℕ) (body : List ℕ) (o p : Outcome) → Agree h g → is_later (Some rd) (outstanding h) ≡ false → next_tag h ≡ following_tag (Some rd)
    → hears q h false tag body f no_draw ≡ o → OutcomeAlike o p → AskersAlike (Some rd) (after h o) (after g p) None None
settled_hears q rd h g f tag body (Adds e) (Adds x) agree not at is alike =
    by_next rd e x h g (sent_in e) (sent_in x) agree at alike refl refl (next_of e x alike) (heard_next q h false tag body f no_draw e is)
settled_hears q rd h g f tag body (Fails fault) (Fails fail) agree not at is alike = Settled h g agree not at
settled_hears q rd h g f tag body (Fails fault) (Ignores why) agree not at is alike = Settled h g agree not at
settled_hears q rd h g f tag body (Fails fault) (Warns number) agree not at is alike = Settled h g agree not at
settled_hears q rd h g f tag body (Fails fault) (Resends other) agree not at is alike = Settled h g agree not at
settled_hears q rd h g f tag body (Ignores cause) (Fails fail) agree not at is alike = Settled h g agree not at
settled_hears q rd h g f tag body (Ignores cause) (Ignores why) agree not at is alike = Settled h g agree not at
settled_hears q rd h g f tag body (Ignores cause) (Warns number) agree not at is alike = Settled h g agree not at
settled_hears q rd h g f tag body (Ignores cause) (Resends other) agree not at is alike = Settled h g agree not at
settled_hears q rd h g f tag body (Warns code) (Fails fail) agree not at is alike = Settled h g agree not at
settled_hears q rd h g f tag body (Warns code) (Ignores why) agree not at is alike = Settled h g agree not at
settled_hears q rd h g f tag body (Warns code) (Warns number) agree not at is alike = Settled h g agree not at
settled_hears q rd h g f tag body (Warns code) (Resends other) agree not at is alike = Settled h g agree not at
settled_hears q rd h g f tag body (Resends sent) (Fails fail) agree not at is alike = Settled h g agree not at
settled_hears q rd h g f tag body (Resends sent) (Ignores why) agree not at is alike = Settled h g agree not at
settled_hears q rd h g f tag body (Resends sent) (Warns number) agree not at is alike = Settled h g agree not at
settled_hears q rd h g f tag body (Resends sent) (Resends other) agree not at is alike = Settled h g agree not at
settled_hears q rd h g f tag body (Adds e) (Fails fail) agree not at is alike = absurd alike
settled_hears q rd h g f tag body (Fails fail) (Adds e) agree not at is alike = absurd alike
settled_hears q rd h g f tag body (Adds e) (Ignores why) agree not at is alike = absurd alike
settled_hears q rd h g f tag body (Ignores why) (Adds e) agree not at is alike = absurd alike
settled_hears q rd h g f tag body (Adds e) (Warns number) agree not at is alike = absurd alike
settled_hears q rd h g f tag body (Warns number) (Adds e) agree not at is alike = absurd alike
settled_hears q rd h g f tag body (Adds e) (Resends other) agree not at is alike = absurd alike
settled_hears q rd h g f tag body (Resends other) (Adds e) agree not at is alike = absurd alike

hears_none : (q : ReqSetup) (h : History) (s : Sent) (tag : ℕ) (body : List ℕ) (next : History) → outstanding h ≡ Some s → has_tag (Some s) tag ≡ false
    → (outcome : Outcome) × MayHear q h false tag body no_draw outcome × (next ≡ after h outcome) → next ≡ h
hears_none q h s tag body next waits not heard =
    heard.2 ∙ ap (after h) (sym heard.1.2) ∙ other_tag q h s heard.1.0 tag body no_draw waits not

ack_none : (w : List ℕ) (tag : ℕ) (m : List ℕ) (h : History) (s : Sent) → outstanding h ≡ Some s → has_tag (Some s) tag ≡ false → with_ack w tag m h ≡ h
ack_none w tag m h s waits not = ap (λ (o : Option Sent). cond (has_tag o tag) (with_ack_to w tag m h o) h) waits ∙ ap (λ (b : Bool). cond b (with_ack_to w tag m h (Some s)) h) not

ack_some : (w : List ℕ) (tag : ℕ) (m : List ℕ) (h : History) (s : Sent) (a : RequestMessage) (handle number : ℕ) → outstanding h ≡ Some s → has_tag (Some s) tag ≡ true → s.aim ≡ ByChunks a handle number
    → with_ack w tag m h ≡ acked tag m a w handle (number + 1) h
ack_some w tag m h s a handle number waits is aims =
    ap (λ (o : Option Sent). cond (has_tag o tag) (with_ack_to w tag m h o) h) waits ∙ ap (λ (b : Bool). cond b (with_ack_to w tag m h (Some s)) h) is
    ∙ ap (with_next_piece w tag m h) aims

pub hears_step : (q : ReqSetup) (rd : Round) (h g : History) (sd se : Option (List ℕ)) (r x : responder_history.History) (fd fe : Option (List ℕ)) (tag : ℕ) (body : List ℕ) (next other : History)
    → AskersAlike (Some rd) h g sd se → rd.tag ≡ tag → Hears (dial q h r (Some rd) sd fd) tag body next → Hears (dial q g x (Some rd) se fe) tag body other
    → AskersAlike (Some rd) next other sd se
unfolding Hears
hears_step q rd _ _ _ _ r x fd fe tag body next other (Settled h g agree not at) is one two =
    let alike : OutcomeAlike one.0 two.0 = subst (OutcomeAlike one.0) two.1.2 (subst (λ (o : Outcome). OutcomeAlike o (hears q g false tag body two.1.0 no_draw)) one.1.2 (hears_alike q h g agree one.1.0 two.1.0 false tag body no_draw)) in
    let P : History → Type 0 = λ l. AskersAlike (Some rd) l (after g two.0) None None in
    let Q : History → Type 0 = λ l. AskersAlike (Some rd) next l None None in
    subst Q (sym two.2) (subst P (sym one.2) (settled_hears q rd h g one.1.0 tag body one.0 two.0 agree not at one.1.2 alike))
hears_step q rd _ _ _ _ r x fd fe tag body next other (Owing e f h g s t agree alike out sent like tagged else later at) is one two =
    let apart : has_tag (Some s) tag ≡ false = ap (λ (n : ℕ). s.tag == n) (sym is) ∙ not-true (s.tag == rd.tag) later in
    let parts : has_tag (Some t) tag ≡ false = ap (λ (n : ℕ). n == tag) (sym (alike_tag s t like)) ∙ apart in
    let P : History → Type 0 = λ l. AskersAlike (Some rd) l (f ∷ g) None None in
    let Q : History → Type 0 = λ l. AskersAlike (Some rd) next l None None in
    subst Q (sym (hears_none q (f ∷ g) t tag body other sent parts two))
    (subst P (sym (hears_none q (e ∷ h) s tag body next out apart one)) (Owing e f h g s t agree alike out sent like tagged else later at))
hears_step q rd _ _ _ _ r x fd fe tag body next other (Shown h g w v a b handle number s t u waits wait aims aim tags not at) is one two =
    let same : has_tag (Some s) tag ≡ true = ap (λ (n : ℕ). s.tag == n) (sym is) ∙ not-false (s.tag == rd.tag) not in
    let sames : has_tag (Some t) tag ≡ true = ap (λ (n : ℕ). n == tag) (sym tags) ∙ same in
    let p : Sent = piece_with h a w handle (number + 1) in
    let due = Due tag (drop 1 body) h g w v a b handle number u (next_later rd p at) at in
    let P : History → Type 0 = λ l. AskersAlike (Some rd) l (acked tag (drop 1 body) b v handle (number + 1) g) (Some w) (Some v) in
    let Q : History → Type 0 = λ l. AskersAlike (Some rd) next l (Some w) (Some v) in
    subst Q (sym (two ∙ ack_some v tag (drop 1 body) g t b handle number wait sames aim)) (subst P (sym (one ∙ ack_some w tag (drop 1 body) h s a handle number waits same aims)) due)
hears_step q rd _ _ _ _ r x fd fe tag body next other (Due tag0 m h g w v a b handle number u later at) is one two =
    let p : Sent = piece_with h a w handle (number + 1) in
    let o : Sent = piece_with g b v handle (number + 1) in
    let tags : p.tag ≡ o.tag = ap (λ (n : ℕ). n % 8) u.counted.sent in
    let mine : History = acked tag0 m a w handle (number + 1) h in
    let yours : History = acked tag0 m b v handle (number + 1) g in
    let apart : has_tag (Some p) tag ≡ false = ap (λ (n : ℕ). p.tag == n) (sym is) ∙ not-true (p.tag == rd.tag) later in
    let parts : has_tag (Some o) tag ≡ false = ap (λ (n : ℕ). n == tag) (sym tags) ∙ apart in
    let P : History → Type 0 = λ l. AskersAlike (Some rd) l yours (Some w) (Some v) in
    let Q : History → Type 0 = λ l. AskersAlike (Some rd) next l (Some w) (Some v) in
    subst Q (sym (two ∙ ack_none v tag (drop 1 body) yours o refl parts)) (subst P (sym (one ∙ ack_none w tag (drop 1 body) mine p refl apart)) (Due tag0 m h g w v a b handle number u later at))
