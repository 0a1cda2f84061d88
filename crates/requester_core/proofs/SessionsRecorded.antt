-- A record that comes to the sessions of a requester.
use Rattle.std.proofs.Common.{refl, ◌≡◌, ◌≢◌, ◌∙◌, inl, inr, ℕ, List, ◌∷◌, true, Bool, Option, Some, None, ap, sym, subst, arith}
use Rattle.std.specs.Prelude.{◌==◌, ◌<◌, ◌-◌, ◌^◌, if◌then◌else◌, is_some, length, Result}
use Rattle.requester_core.proofs.SessionsAsked.{is_other, of_each}
use Rattle.requester_core.specs.RecordOutcome.{IsStepped, LeadsTo, finish_led_by, led_by}
use Rattle.requester_core.specs.SessionSteps.{IsAdded, IsRecordOf, IsRecorded, event_by, is_sent}
use Rattle.requester_core.specs.Sessions.{IsNamed, StandsFor, session_at, session_for, slot_of}
use Rattle.requester_core.specs.Slot.{IsSlotOf}
use Rattle.requester_core.specs.declared.in_sessions.record_outcome.RecordOutcome.{RecordOutcome}
use Rattle.requester_core.specs.declared.in_sessions.record_outcome.RecordOutcome.TheVariants as seen
use Rattle.requester_core.specs.declared.in_sessions.sessions.Sessions.{Sessions}
use Rattle.requester_core.specs.declared.in_sessions.slot.Slot.{Slot}
use Rattle.psk_session.proofs.Entries.{course_is_entry, finish_is_entry, unopened_is_ignored}
use Rattle.psk_session.specs.Course.{Course, led_of}
use Rattle.psk_session.specs.Course.Course.{Answered, Ended, GoesOn, Lost}
use Rattle.psk_session.specs.Finished.{finish_led}
use Rattle.psk_session.specs.TookLaws.{IsEntry, steps_by}
use Rattle.psk_session.specs.Waiting.{IsNewest}
use Rattle.requester_machine.proofs.Bounded.{sessions}
use Rattle.requester_machine.proofs.HoldsRecord.{record_holds}
use Rattle.requester_machine.proofs.RecordLeads.{RecordLeads, record_leads}
use Rattle.requester_machine.proofs.RecordOrder.{GoodRecord, record-good}
use Rattle.requester_machine.specs.Commands.{Free}
use Rattle.requester_machine.specs.Hearing.{came_to, on_record}
use Rattle.requester_machine.specs.History.{History, Led, outstanding}
use Rattle.requester_machine.specs.History.Entry.{TookRecord}
use Rattle.requester_machine.specs.Holds.{Holds, Waits}
use Rattle.requester_machine.specs.InnerMessages.{Came, inner_led, or_lost}
use Rattle.requester_machine.specs.Message.{Aim, Ask, Sent}
use Rattle.requester_machine.specs.Message.Aim.{InSession}
use Rattle.requester_machine.specs.Message.Ask.{AskFinish}
use Rattle.requester_machine.specs.Message.Content.{Sealed}
use Rattle.requester_machine.specs.Order.{FitsWaits, IsInOrder, waiting_ask, waits_aim, waits_for}
use Rattle.requester_machine.specs.Order as orders
use Rattle.requester_machine.specs.Order.Waits.{ForRecord, Rests}
use Rattle.requester_machine.specs.Records.{answer_inner}
use Rattle.requester_machine.specs.Session.{Steps, after_record, is_live, request_epoch, session_id, session_of, session_terms, taken_of, with_sent}
use Rattle.requester_machine.specs.Session.Step.{Asked}
use Rattle.requester_machine.specs.Setup.{ReqSetup}
use Rattle.requester_machine.specs.UnderWay.{HasSizes, IsCommon, IsOutstanding, IsSealed, is_capable}
use Rattle.spdm_grammar.specs.declared.told.event.BadReply.{BadReply}
use Rattle.spdm_machine.specs.Keys.{Draw}
use Rattle.spdm_machine.specs.Terms.{terms_of}
use Rattle.transcript.specs.Transcripts.{Negotiation}

-- ---- What the outstanding record shows.

-- The newest step of the session is the record that is outstanding.
pub is_sealed : (q : ReqSetup) (h : History) (sent : Sent) (id : ℕ) (a : Ask) → Holds q h → outstanding h ≡ Some sent → sent.aim ≡ InSession id a → IsSealed q h id a sent.content
is_sealed q h sent id a k waits aims = (subst (IsOutstanding q h sent.content) aims (subst (Waits q h) waits k.waits)).0

pub awaited : (q : ReqSetup) (h : History) (sent : Sent) (id : ℕ) (a : Ask) → Holds q h → outstanding h ≡ Some sent → sent.aim ≡ InSession id a → waiting_ask (session_of id h) ≡ Some a
awaited q h sent id a k waits aims = ap waiting_ask (is_sealed q h sent id a k waits aims).steps

pub few_requests : (h : History) (id : ℕ) → length h < 2 ^ 64 - 1 → request_epoch (session_of id h) < 2 ^ 64 - 1
few_requests h id short = let s = sessions h id in omega (arith, s.0, short)

pub few_taken : (h : History) (id : ℕ) → length h < 2 ^ 64 - 1 → taken_of (session_of id h) < 2 ^ 64
few_taken h id short = let s = sessions h id in omega (arith, s.2, short)

-- A live session has the sizes of the set-up.
common : (q : ReqSetup) (h : History) (id : ℕ) → HasSizes q → Holds q h → is_live (session_of id h) ≡ true → IsCommon q (session_terms (session_of id h)).common
common q h id sizes k live =
    let under = k.live id live in
    subst (λ (n : Negotiation). IsCommon q (terms_of n).common) (sym under.0) (k.known sizes (ap is_capable under.1))

-- ---- What a record adds.

-- The record is an entry that leads to this, of which this is told.
record Leads (q : ReqSetup) (h : History) (f : Free) (tag id : ℕ) (a : Ask) (sealed : List ℕ) (d : Draw) (led : RecordOutcome) (after : Steps) : Type 0 where
  leads : Result Led BadReply
  inner : inner_led q h f (came_to q h id a sealed) a ≡ leads
  entry : IsEntry q h f tag id a sealed d leads after
  event : Some (or_lost (came_to q h id a sealed) leads).event ≡ Some (event_by led)
  next : is_some (or_lost (came_to q h id a sealed) leads).next ≡ is_sent led
  named : (kept : ℕ) → kept ≡ id → IsNamed (session_for (or_lost (came_to q h id a sealed) leads).next) kept

course_told : (q : ReqSetup) (h : History) (f : Free) (came : Came) (course : Course) → Some (or_lost came (led_of q h f came course)).event ≡ Some (event_by (led_by (session_id came.steps) course))
course_told q h f came (Lost fault) = refl
course_told q h f came Ended = refl
course_told q h f came (Answered reply effect) = refl
course_told q h f came (GoesOn effect ask inner) = refl

course_next : (q : ReqSetup) (h : History) (f : Free) (came : Came) (course : Course) → is_some (or_lost came (led_of q h f came course)).next ≡ is_sent (led_by (session_id came.steps) course)
course_next q h f came (Lost fault) = refl
course_next q h f came Ended = refl
course_next q h f came (Answered reply effect) = refl
course_next q h f came (GoesOn effect ask inner) = refl

course_named : (q : ReqSetup) (h : History) (f : Free) (came : Came) (course : Course) (kept : ℕ) → kept ≡ came.id → IsNamed (session_for (or_lost came (led_of q h f came course)).next) kept
course_named q h f came (Lost fault) kept is = tt
course_named q h f came Ended kept is = tt
course_named q h f came (Answered reply effect) kept is = tt
course_named q h f came (GoesOn effect ask inner) kept is = is

finish_told : (came : Came) (verdict : Option BadReply) → Some (or_lost came (finish_led came verdict)).event ≡ Some (event_by (finish_led_by (session_id came.steps) verdict))
finish_told came (Some fault) = refl
finish_told came None = refl

finish_next : (came : Came) (verdict : Option BadReply) → is_some (or_lost came (finish_led came verdict)).next ≡ is_sent (finish_led_by (session_id came.steps) verdict)
finish_next came (Some fault) = refl
finish_next came None = refl

finish_named : (came : Came) (verdict : Option BadReply) (kept : ℕ) → IsNamed (session_for (or_lost came (finish_led came verdict)).next) kept
finish_named came (Some fault) kept = tt
finish_named came None kept = tt

module _ (q : ReqSetup) (h : History) (f : Free) (tag id : ℕ) (a : Ask) (sealed pad : List ℕ) (d : Draw) (led : RecordOutcome) (after : Steps) where
  leads_by : HasSizes q → Holds q h → is_live (session_of id h) ≡ true → f.pad ≡ pad → LeadsTo q.psk (session_of id h) a sealed pad led after → Leads q h f tag id a sealed d led after
  leads_by sizes k live padded (inl c) =
      let shared = common q h id sizes k live in
      let came = came_to q h id a sealed in
      let entry = course_is_entry q h f tag id a sealed d c.course live (sym shared.transfer) (sym shared.max) c.takes c.outlives in
      let steps = subst (λ (p : List ℕ). after ≡ steps_by q.psk (session_of id h) a sealed p c.course) (sym padded) c.steps in
      record {
        leads = led_of q h f came c.course;
        inner = c.takes.1 q h f id (sym shared.transfer) (sym shared.max);
        entry = (entry.0, entry.1 ∙ sym steps);
        event = course_told q h f came c.course ∙ ap (λ (l : RecordOutcome). Some (event_by l)) (sym c.told);
        next = course_next q h f came c.course ∙ ap is_sent (sym c.told);
        named = course_named q h f came c.course;
      }
  leads_by sizes k live padded (inr v) =
      let shared = common q h id sizes k live in
      let came = came_to q h id AskFinish sealed in
      let entry = finish_is_entry q h f tag id sealed d v.verdict live (sym shared.transfer) v.judged in
      subst (λ (x : Ask). Leads q h f tag id x sealed d led after) (sym v.asks)
      (record {
        leads = finish_led came v.verdict;
        inner = v.judged.1 q h f id (sym shared.transfer);
        entry = (entry.0, entry.1 ∙ sym v.steps);
        event = finish_told came v.verdict ∙ ap (λ (l : RecordOutcome). Some (event_by l)) (sym v.told);
        next = finish_next came v.verdict ∙ ap is_sent (sym v.told);
        named = λ kept is. finish_named came v.verdict kept;
      })

-- ---- What stands behind it.

-- The session of any id after a record.
steps_after : (h : History) (tag id : ℕ) (sealed inner : List ℕ) (led : Led) (d : Draw) (i : ℕ)
    → session_of i (TookRecord tag id sealed inner led d ∷ h) ≡ (if id == i then with_sent i led.next (after_record sealed inner led.effect (session_of i h)) else session_of i h)
unfolding session_of
steps_after h tag id sealed inner led d i = refl

others_after : (h : History) (tag id : ℕ) (sealed inner : List ℕ) (led : Led) (d : Draw) (i : ℕ) → i ≢ id → session_of i (TookRecord tag id sealed inner led d ∷ h) ≡ session_of i h
others_after h tag id sealed inner led d i ne =
    steps_after h tag id sealed inner led d i ∙ ap (λ (b : Bool). if b then with_sent i led.next (after_record sealed inner led.effect (session_of i h)) else session_of i h) (is_other id i ne)

module _ (q : ReqSetup) (h : History) (f : Free) (tag id : ℕ) (a : Ask) (sealed : List ℕ) (d : Draw) (sent : Sent) (waits : outstanding h ≡ Some sent) (aims : sent.aim ≡ InSession id a) where
  -- The order of a session while the record comes.
  waiting : (i : ℕ) → IsInOrder (outstanding h) i (session_of i h) → orders.IsOrdered (session_of i h) × FitsWaits (if id == i then ForRecord a else Rests) (session_of i h)
  waiting i o =
      (o.ordered, subst (λ (x : Aim). FitsWaits (waits_aim i x) (session_of i h)) aims (subst (λ (w : Option Sent). FitsWaits (waits_for i w) (session_of i h)) waits o.fits))

  order_after : (r : Result Led BadReply) → inner_led q h f (came_to q h id a sealed) a ≡ r → (i : ℕ) → IsInOrder (outstanding h) i (session_of i h)
      → IsInOrder (or_lost (came_to q h id a sealed) r).next i (session_of i (TookRecord tag id sealed (answer_inner q.psk (session_of id h) a sealed) (or_lost (came_to q h id a sealed) r) d ∷ h))
  order_after r is i o =
      let came = came_to q h id a sealed in
      let led = or_lost came r in
      let good = subst (λ (x : Result Led BadReply). GoodRecord i (session_of i h) came (or_lost came x)) is (record-good i (session_of i h) q h f came a (waiting i o)) in
      let steps = steps_after h tag id sealed came.inner led d i in
      record { ordered = subst orders.IsOrdered (sym steps) good.0; fits = subst (FitsWaits (waits_for i led.next)) (sym steps) good.1 }

  stands_after : (old new : Sessions) (led : RecordOutcome) (after : Steps) → StandsFor old q h → (l : Leads q h f tag id a sealed d led after) → IsSlotOf (slot_of new id) q.psk after → ((i : ℕ) → i ≢ id → slot_of new i ≡ slot_of old i)
      → new.id ≡ id → IsAdded q h (on_record q h f tag id a sealed d) led new
  stands_after old new led after stands l own others named =
      let came = came_to q h id a sealed in
      let x : Led = or_lost came l.leads in
      let entry = TookRecord tag id sealed came.inner x d in
      let leads = subst (λ (r : Result Led BadReply). RecordLeads q h f came a (or_lost came r)) l.inner (record_leads q h f came a) in
      record {
        entry = entry;
        adds = l.entry.0;
        event = l.event;
        next = l.next;
        stands = record {
          holds = record_holds q h f tag id a sealed d x sent waits aims leads stands.holds;
          orders = λ i. order_after l.leads l.inner i (stands.orders i);
          slots = of_each (λ i. IsSlotOf (slot_of new i) q.psk (session_of i (entry ∷ h))) id (subst (IsSlotOf (slot_of new id) q.psk) (sym l.entry.1) own)
              (λ i ne. subst (λ (y : Slot). IsSlotOf y q.psk (session_of i (entry ∷ h))) (sym (others i ne))
              (subst (IsSlotOf (slot_of old i) q.psk) (sym (others_after h tag id sealed came.inner x d i ne)) (stands.slots i)));
          named = l.named new.id named;
        };
      }

-- ---- All together.

pub unchanged : (old new : Sessions) (q : ReqSetup) (h : History) (id : ℕ) → StandsFor old q h → IsSlotOf (slot_of new id) q.psk (session_of id h) → ((i : ℕ) → i ≢ id → slot_of new i ≡ slot_of old i) → new.id ≡ old.id → StandsFor new q h
unchanged old new q h id stands own others named = record {
  holds = stands.holds;
  orders = stands.orders;
  slots = of_each (λ i. IsSlotOf (slot_of new i) q.psk (session_of i h)) id own (λ i ne. subst (λ (x : Slot). IsSlotOf x q.psk (session_of i h)) (sym (others i ne)) (stands.slots i));
  named = subst (IsNamed (session_for (outstanding h))) (sym named) stands.named;
}

-- The id that is kept is that of the session.
pub named_is : (x : Sessions) (q : ReqSetup) (h : History) (sent : Sent) (id : ℕ) (a : Ask) → StandsFor x q h → outstanding h ≡ Some sent → sent.aim ≡ InSession id a → x.id ≡ id
named_is x q h sent id a stands waits aims =
    subst (λ (y : Aim). IsNamed (session_at y) x.id) aims (subst (λ (w : Option Sent). IsNamed (session_for w) x.id) waits stands.named)

pub recorded : (old new : Sessions) (q : ReqSetup) (h : History) (f : Free) (tag : ℕ) (d : Draw) (sent : Sent) (id : ℕ) (a : Ask) (sealed pad : List ℕ) (led : RecordOutcome) → HasSizes q → f.pad ≡ pad → outstanding h ≡ Some sent → sent.aim ≡ InSession id a
    → StandsFor old q h → IsStepped q.psk (session_of id h) a sealed pad (slot_of new id) led → ((i : ℕ) → i ≢ id → slot_of new i ≡ slot_of old i) → new.id ≡ old.id
    → IsRecorded q h (on_record q h f tag id a sealed d) led new
recorded old new q h f tag d sent id a sealed pad (seen.Ignored fault) sizes padded waits aims stands p others named =
    (unopened_is_ignored q h f tag id a sealed d fault p.0, unchanged old new q h id stands p.1 others named)
recorded old new q h f tag d sent id a sealed pad (seen.Rests told) sizes padded waits aims stands p others named =
    let live = ap is_live (is_sealed q h sent id a stands.holds waits aims).steps in
    stands_after q h f tag id a sealed d sent waits aims old new (seen.Rests told) p.0 stands (leads_by q h f tag id a sealed pad d (seen.Rests told) p.0 sizes stands.holds live padded p.1) p.2 others
    (named ∙ named_is old q h sent id a stands waits aims)
recorded old new q h f tag d sent id a sealed pad (seen.Ends told) sizes padded waits aims stands p others named =
    let live = ap is_live (is_sealed q h sent id a stands.holds waits aims).steps in
    stands_after q h f tag id a sealed d sent waits aims old new (seen.Ends told) p.0 stands (leads_by q h f tag id a sealed pad d (seen.Ends told) p.0 sizes stands.holds live padded p.1) p.2 others
    (named ∙ named_is old q h sent id a stands waits aims)
recorded old new q h f tag d sent id a sealed pad seen.Sends sizes padded waits aims stands p others named =
    let live = ap is_live (is_sealed q h sent id a stands.holds waits aims).steps in
    stands_after q h f tag id a sealed d sent waits aims old new seen.Sends p.0 stands (leads_by q h f tag id a sealed pad d seen.Sends p.0 sizes stands.holds live padded p.1) p.2 others
    (named ∙ named_is old q h sent id a stands waits aims)

-- ---- The outstanding record.

newest_is : (a : Ask) (bytes inner sealed : List ℕ) (s older : Steps) → s ≡ Asked a inner sealed ∷ older → IsNewest a bytes s → sealed ≡ bytes
newest_is a bytes inner sealed s older is newest = (subst (IsNewest a bytes) is newest).1

pub record_is : (q : ReqSetup) (h : History) (sent : Sent) (id : ℕ) (a : Ask) (bytes : List ℕ) → Holds q h → outstanding h ≡ Some sent → sent.aim ≡ InSession id a → IsNewest a bytes (session_of id h) → IsRecordOf bytes sent.content
record_is q h sent id a bytes k waits aims newest =
    let s = is_sealed q h sent id a k waits aims in
    (s.inner, s.pad, s.content_is ∙ ap (λ (b : List ℕ). Sealed b s.inner s.pad) (newest_is a bytes s.inner s.sealed (session_of id h) s.older s.steps newest))
