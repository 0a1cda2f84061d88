-- No record is answered by the first chunk of a large request: one that is owed was asked for by a clear answer.
use Rattle.std.proofs.Common.{◌≡◌, ◌⊎◌, ℕ, List, [], ◌∷◌, refl, sym, ap, ◌∙◌, subst, drop, Bool, true, false, Option, Some, None, Result, Ok, Err, cond, inl, inr}
use Rattle.std.specs.Prelude.{MatchBool}
use Rattle.std.proofs.lemmas.Bool.{false≢true}
use Rattle.std.proofs.lemmas.Option.{none-some, same_Some}
use Rattle.mctp_framing.specs.Gathering.{Gathered}
use Rattle.mctp_framing.specs.Gathering.Gathered.{Whole, More, Dropped}
use Rattle.mctp_framing.specs.Packet.{PacketFields, parsed}
use Rattle.requester_machine.proofs.Heard.{heard}
use Rattle.requester_machine.proofs.RecordLeads.{RecordLeads, record_leads}
use Rattle.requester_machine.proofs.RecordLeads.RecordLeads.{ByEnd, ByAnswer, ByUpdate, ByFirst, ByChunk}
use Rattle.requester_machine.specs.Asking.{Outcome}
use Rattle.requester_machine.specs.Asking.Outcome.{Fails, Ignores, Warns, Resends, Adds}
use Rattle.requester_machine.specs.Bodies.{has_tag}
use Rattle.requester_machine.specs.Commands.{Free}
use Rattle.requester_machine.specs.Hearing.{came_to, hears}
use Rattle.requester_machine.specs.History.{Entry, History, Led, begins_large, outstanding, sent_in}
use Rattle.requester_machine.specs.History.Entry.{Told, TookClear, TookRecord}
use Rattle.requester_machine.specs.InnerMessages.{Came}
use Rattle.requester_machine.specs.Message.{Aim, Ask, Sent}
use Rattle.requester_machine.specs.Message.Aim.{Plain, ByChunks, ForChunk, InSession}
use Rattle.requester_machine.specs.Owed.{with_next}
use Rattle.requester_machine.specs.Setup.{ReqSetup}
use Rattle.requester_machine.specs.Shown.{after}
use Rattle.spdm_basis.specs.declared.PacketFault.{PacketFault}
use Rattle.spdm_machine.specs.Packets.{gathered_from}
use Rattle.check_laws.specs.Order.{is_answer, is_request}
use Rattle.check_laws.specs.Walks.{StepsBy, StepsTo, Walks}
use Rattle.capture_machine.proofs.AskersAlike.{AskersAlike}
use Rattle.capture_machine.proofs.AskersAlike.AskersAlike.{Settled, Owing, Shown, Due}
use Rattle.capture_machine.proofs.HearsAlike.{EntryAlike}
use Rattle.capture_machine.specs.Capture.{AsksBy, Begins, Copies, RepliesBy}
use Rattle.capture_machine.specs.CapturedAnswers.{Hears, HearsWhile}
use Rattle.capture_machine.specs.CapturedRequests.{Sends, is_later}
use Rattle.capture_machine.specs.LargeRequests.{with_ack_to, with_next_piece}
use Rattle.capture_machine.specs.Rounds.{Dialogue, Round, no_draw}
use Rattle.world_machine.specs.Setup.{Configuration}
use Rattle.check_laws.specs.Large.Sending.{is_upon_clear}

-- ---- The newest entry.

-- Where a record is the newest entry, no first chunk is outstanding.
abbrev pub IsSmallUpon : History → Type 0
IsSmallUpon (TookRecord tag id sealed inner led d ∷ older) = (s : Sent) → led.next ≡ Some s → begins_large s.aim ≡ false
IsSmallUpon _ = Unit {0}

next_small : (o : Option Sent) (h : History) (s : Sent) → outstanding h ≡ Some s → begins_large s.aim ≡ true → IsSmallUpon h → IsSmallUpon (with_next o h)
next_small o (TookRecord tag id sealed inner led d ∷ older) s waits large small = absurd (false≢true (sym (small s waits) ∙ large))
next_small o (TookClear tag m led d ∷ older) s waits large small = tt
next_small o (Told c sent d ∷ older) s waits large small = tt
next_small o [] s waits large small = tt

none_small : (o : Option Sent) → o ≡ None → (s : Sent) → o ≡ Some s → begins_large s.aim ≡ false
none_small o none s is = absurd (none-some s (sym none ∙ is))

some_small : (o : Option Sent) (x : Sent) → o ≡ Some x → begins_large x.aim ≡ false → (s : Sent) → o ≡ Some s → begins_large s.aim ≡ false
some_small o x one small s is = ap (λ (m : Sent). begins_large m.aim) (same_Some s x (sym is ∙ one)) ∙ small

-- On a record a record is sent, or nothing.
led_small : (q : ReqSetup) (h : History) (f : Free) (came : Came) (ask : Ask) (led : Led) → RecordLeads q h f came ask led → (s : Sent) → led.next ≡ Some s → begins_large s.aim ≡ false
led_small q h f came ask led (ByEnd ends none) = none_small led.next none
led_small q h f came ask led (ByAnswer ends updates brings none) = none_small led.next none
led_small q h f came ask led (ByUpdate all asks is) = some_small led.next _ (ap (λ (l : Led). l.next) is) refl
led_small q h f came ask led (ByFirst op handle follows is) = some_small led.next _ (ap (λ (l : Led). l.next) is) refl
led_small q h f came ask led (ByChunk op handle number before c asks none last is) = some_small led.next _ (ap (λ (l : Led). l.next) is) refl

entry_small : (q : ReqSetup) (h : History) (tag : ℕ) (body : List ℕ) (f : Free) (e : Entry) → hears q h false tag body f no_draw ≡ Adds e → IsSmallUpon (e ∷ h)
entry_small q h tag body f e adds = elim (heard q h false tag body f no_draw e adds) [
  | inl taken ↦ subst (λ (x : Entry). IsSmallUpon (x ∷ h)) (sym taken.is) tt
  | inr opened ↦ subst (λ (x : Entry). IsSmallUpon (x ∷ h)) (sym opened.1.is)
      (led_small q h f (came_to q h opened.1.id opened.1.ask (drop 1 body)) opened.1.ask _ (record_leads q h f (came_to q h opened.1.id opened.1.ask (drop 1 body)) opened.1.ask))
]

-- ---- One step.

asks_small : (b d : Dialogue) (g : Gathered) → IsSmallUpon b.requester → AsksBy b g d → IsSmallUpon d.requester
unfolding Sends
asks_small b d (Whole route body) small c = by_kind c.2
  where
    same_small : (x : Dialogue) → x.requester ≡ b.requester → IsSmallUpon x.requester
    same_small x is = subst IsSmallUpon (sym is) small

    sends_small : (h : History) (sending : Option (List ℕ)) → Sends b body h sending → IsSmallUpon h
    sends_small h sending (inl (inl tells, none)) = subst IsSmallUpon (sym tells.4) tt
    sends_small h sending (inl (inr commands, none)) = subst IsSmallUpon (sym commands.2.4) tt
    sends_small h sending (inr (inl goes)) = subst IsSmallUpon (sym goes.5) small
    sends_small h sending (inr (inr (whole, inl large, so))) = subst IsSmallUpon (sym large.8) tt
    sends_small h sending (inr (inr (whole, inr owed, so))) = subst IsSmallUpon (sym owed.7) (next_small _ b.requester owed.0 owed.2.0 owed.3 small)

    by_kind : Copies b route.tag body d ⊎ Begins b route.tag body d → IsSmallUpon d.requester
    by_kind (inl k) = same_small d (ap (λ (x : Dialogue). x.requester) k.4)
    by_kind (inr k) = subst IsSmallUpon (sym (ap (λ (x : Dialogue). x.requester) k.2.3)) (sends_small k.2.0 k.2.1 k.2.2)
asks_small b d More small c = subst IsSmallUpon (sym (ap (λ (x : Dialogue). x.requester) c)) small
asks_small b d (Dropped cause) small c = absurd c

outcome_small : (q : ReqSetup) (h : History) (tag : ℕ) (body : List ℕ) (f : Free) (o : Outcome) → hears q h false tag body f no_draw ≡ o → IsSmallUpon h → IsSmallUpon (after h o)
outcome_small q h tag body f (Adds e) adds small = entry_small q h tag body f e adds
outcome_small q h tag body f (Fails fault) is small = small
outcome_small q h tag body f (Ignores cause) is small = small
outcome_small q h tag body f (Warns code) is small = small
outcome_small q h tag body f (Resends sent) is small = small

piece_small : (whole : List ℕ) (tag : ℕ) (m : List ℕ) (h : History) (aim : Aim) → IsSmallUpon h → IsSmallUpon (with_next_piece whole tag m h aim)
piece_small whole tag m h (ByChunks asked handle number) small = tt
piece_small whole tag m h (Plain asked) small = small
piece_small whole tag m h (ForChunk asked handle number before) small = small
piece_small whole tag m h (InSession id ask) small = small

ack_small : (whole : List ℕ) (tag : ℕ) (m : List ℕ) (h : History) (o : Option Sent) (b : Bool) → IsSmallUpon h → IsSmallUpon (cond b (with_ack_to whole tag m h o) h)
ack_small whole tag m h None true small = small
ack_small whole tag m h (Some s) true small = piece_small whole tag m h s.aim small
ack_small whole tag m h o false small = small

heard_small : (o : Option (List ℕ)) (d : Dialogue) (tag : ℕ) (answer : List ℕ) (next : History) → IsSmallUpon d.requester → HearsWhile o d tag answer next → IsSmallUpon next
heard_small None d tag answer next small c = subst IsSmallUpon (sym c.2) (outcome_small d.setup d.requester tag answer c.1.0 c.0 c.1.2 small)
heard_small (Some whole) d tag answer next small c =
    subst IsSmallUpon (sym c) (ack_small whole tag (drop 1 answer) d.requester (outstanding d.requester) (has_tag (outstanding d.requester) tag) small)

replies_small : (w : Configuration) (b d : Dialogue) (g : Gathered) → IsSmallUpon b.requester → RepliesBy w b g d → IsSmallUpon d.requester
unfolding Hears
replies_small w b d (Whole route body) small c =
    subst IsSmallUpon (sym (ap (λ (x : Dialogue). x.requester) c.2.4.3.2)) (heard_small b.sending b route.tag body c.2.4.3.0 small c.2.4.3.1)
replies_small w b d More small c = subst IsSmallUpon (sym (ap (λ (x : Dialogue). x.requester) c)) small
replies_small w b d (Dropped cause) small c = absurd c

-- ---- All walks.

step_small : (w : Configuration) (eid : ℕ) (older : List (List ℕ)) (b d : Dialogue) (r : Result PacketFields PacketFault) → IsSmallUpon b.requester → StepsBy w eid older b d r → IsSmallUpon d.requester
step_small w eid older b d (Err fault) small c = subst IsSmallUpon (sym (ap (λ (x : Dialogue). x.requester) c)) small
step_small w eid older b d (Ok p) small c = by_ends (is_request w.responder.eid eid p) (is_answer w.responder.eid eid p) c
  where
    by_ends : (x y : Bool) → MatchBool x (AsksBy b (gathered_from w.responder.eid eid older p) d) (MatchBool y (RepliesBy w b (gathered_from eid w.responder.eid older p) d) (d ≡ b)) → IsSmallUpon d.requester
    by_ends true y asks = asks_small b d (gathered_from w.responder.eid eid older p) small asks
    by_ends false true replies = replies_small w b d (gathered_from eid w.responder.eid older p) small replies
    by_ends false false same = subst IsSmallUpon (sym (ap (λ (x : Dialogue). x.requester) same)) small

walk_small : (w : Configuration) (q : ReqSetup) (older : List (List ℕ)) (d : Dialogue) → Walks w q older d → IsSmallUpon d.requester
unfolding StepsTo
walk_small w q [] d walk = subst IsSmallUpon (sym (ap (λ (x : Dialogue). x.requester) walk)) tt
walk_small w q (packet ∷ older) d walk = step_small w q.eid older walk.0 d (parsed packet) (walk_small w q older walk.0 walk.1) walk.2

-- ---- A message that is owed.

entry_upon : (e f : Entry) (h : History) (s : Sent) → EntryAlike e f → sent_in e ≡ Some s → begins_large s.aim ≡ true → IsSmallUpon (e ∷ h) → is_upon_clear (e ∷ h) ≡ true
entry_upon (TookClear tag m led d) f h s alike waits large small = refl
entry_upon (TookRecord tag id sealed inner led d) f h s alike waits large small = absurd (false≢true (sym (small s waits) ∙ large))
entry_upon (Told c sent d) f h s alike waits large small = absurd alike

owing_upon : (round : Option Round) (h g : History) (sd se : Option (List ℕ)) (s : Sent) → AskersAlike round h g sd se → sd ≡ None → is_later round (outstanding h) ≡ true → outstanding h ≡ Some s → begins_large s.aim ≡ true → IsSmallUpon h → is_upon_clear h ≡ true
owing_upon round _ _ _ _ x (Settled h g agree not at) none later waits large small = absurd (false≢true (sym not ∙ later))
owing_upon round _ _ _ _ x (Owing e f h g s t agree alike out sent like tagged else still at) none later waits large small = entry_upon e f h x alike waits large small
owing_upon round _ _ _ _ x (Shown h g w v a b handle number s t u waits wait aims aim tags not at) none later out large small = absurd (none-some w (sym none))
owing_upon round _ _ _ _ x (Due tag m h g w v a b handle number u still at) none later waits large small = absurd (none-some w (sym none))

bare_upon : (h : History) → is_upon_clear (with_next None h) ≡ is_upon_clear h
bare_upon [] = refl
bare_upon (Told c s d ∷ h) = refl
bare_upon (TookClear tag m led d ∷ h) = refl
bare_upon (TookRecord tag id sealed inner led d ∷ h) = refl

bare_none : (h : History) → is_upon_clear h ≡ true → outstanding (with_next None h) ≡ None
bare_none (TookClear tag m led d ∷ h) is = refl
bare_none [] is = refl
bare_none (Told c s d ∷ h) is = absurd (false≢true is)
bare_none (TookRecord tag id sealed inner led d ∷ h) is = refl

-- It stands on a clear answer, and without it nothing is outstanding.
pub owed_upon : (w : Configuration) (q : ReqSetup) (older : List (List ℕ)) (d : Dialogue) (s : Sent) → Walks w q older d → AskersAlike d.round d.requester d.requester d.sending d.sending → d.sending ≡ None
    → is_later d.round (outstanding d.requester) ≡ true → outstanding d.requester ≡ Some s → begins_large s.aim ≡ true
    → (is_upon_clear (with_next None d.requester) ≡ true) × (outstanding (with_next None d.requester) ≡ None)
owed_upon w q older d s walk alike none later waits large =
    let is = owing_upon d.round d.requester d.requester d.sending d.sending s alike none later waits large (walk_small w q older d walk) in
    (bare_upon d.requester ∙ is, bare_none d.requester is)
