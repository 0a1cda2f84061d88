-- A record that no session opens is answered by DecryptError at each copy of it, and the responder's history stays; and
-- a requester that waits for the answer to a record takes nothing in the clear.
use Rattle.std.proofs.Common.{◌≡◌, ◌==◌, ◌∙◌, ℕ, List, [], ◌∷◌, refl, sym, ap, subst, drop, Bool, true, false, Option, Some, None, cond, inl, inr, eqb-true}
use Rattle.std.specs.Prelude.{slice_index, unwrap_or}
use Rattle.std.proofs.lemmas.Bool.{false≢true}
use Rattle.requester_machine.specs.Asking as asking
use Rattle.requester_machine.specs.Asking.Outcome.{Warns}
use Rattle.requester_machine.specs.Bodies.{body_fault, error_in, has_tag}
use Rattle.requester_machine.specs.Commands.{Free as FreeHere}
use Rattle.requester_machine.specs.Hearing.{hears, hears_by, hears_to, on_record as taken_record}
use Rattle.requester_machine.specs.History as requester_history
use Rattle.requester_machine.specs.History.{outstanding}
use Rattle.requester_machine.specs.Message.{Aim, Ask, Sent}
use Rattle.requester_machine.specs.Message.Aim.{InSession}
use Rattle.requester_machine.specs.Setup.{ReqSetup}
use Rattle.requester_machine.specs.Shown as shown
use Rattle.responder_machine.specs.Answer.{Free}
use Rattle.responder_machine.specs.History.{Entry, History, clear_turns, ended_of, phase_of}
use Rattle.responder_machine.specs.History.Entry.{Dropped}
use Rattle.responder_machine.specs.May.{MayDrop, with_dropped}
use Rattle.responder_machine.specs.Records.{opening_fault}
use Rattle.responder_machine.specs.Responder.{Outcome, after, body_of, decrypt_error, in_session, in_session_by, kept_record, on_record, repeats, to_session}
use Rattle.responder_machine.specs.Responder.Outcome.{Same, Unopened, Adds}
use Rattle.responder_machine.specs.Session.{Events, id_in_record, is_live, last_of, session_of}
use Rattle.responder_machine.specs.Setup.{RspSetup}
use Rattle.spdm_basis.specs.declared.causes.record_fault.RecordFault.{RecordFault}
use Rattle.spdm_grammar.specs.declared.told.event.ReqIgnored.{ReqIgnored}
use Rattle.spdm_grammar.specs.declared.told.phase.Phase.{Phase}
use Rattle.spdm_machine.specs.Bodies.{clear_body, record_body}
use Rattle.spdm_basis.proofs.Bools.{and_first, and_second}
use Rattle.capture_machine.proofs.DropsTell.{RecordForm, record_form}
use Rattle.capture_machine.proofs.PlainTells.{led_record}
use Rattle.capture_machine.specs.CapturedAnswers.{Answers, AnswersAgain, AnswersLarge, AnswersPlainly, AreShown, Completes, Hears, HearsWhile, MayLeadTo, belongs_to}
use Rattle.capture_machine.specs.LargeAnswers.{judging}
use Rattle.capture_machine.specs.LargeRequests.{with_ack_to, with_next_piece}
use Rattle.capture_machine.specs.Rounds.{Dialogue, Round, no_draw}

-- ---- At the responder.

-- Whatever values are free, the record gets DecryptError.
abbrev pub IsShutAt : RspSetup → History → ℕ → List ℕ → Type 0
IsShutAt r h tag sealed = (f : Free) → (b : List ℕ) × (on_record r h tag sealed f no_draw ≡ Unopened b)

module _ (r : RspSetup) (tag : ℕ) (sealed : List ℕ) (f : Free) where
  -- A session less opens no more.
  shut_drop : (h : History) (which : ℕ) (b : List ℕ) → on_record r h tag sealed f no_draw ≡ Unopened b → (c : List ℕ) × (on_record r (Dropped which ∷ h) tag sealed f no_draw ≡ Unopened c)
  unfolding on_record session_of
  shut_drop h which b is = by_ended (repeats (ended_of h) sealed) is
    where
      by_id : (y : Bool) → to_session r (phase_of (clear_turns h)) (session_of (id_in_record sealed) h) f tag sealed no_draw ≡ Unopened b
          → (c : List ℕ) × (to_session r (phase_of (clear_turns h)) (cond y [] (session_of (id_in_record sealed) h)) f tag sealed no_draw ≡ Unopened c)
      by_id true e = (decrypt_error (phase_of (clear_turns h)), refl)
      by_id false e = (b, e)

      by_ended : (x : Bool) → cond x (Same (record_body (kept_record (ended_of h)))) (to_session r (phase_of (clear_turns h)) (session_of (id_in_record sealed) h) f tag sealed no_draw) ≡ Unopened b
          → (c : List ℕ) × (cond x (Same (record_body (kept_record (ended_of h)))) (to_session r (phase_of (clear_turns h)) (cond (which == id_in_record sealed) [] (session_of (id_in_record sealed) h)) f tag sealed no_draw) ≡ Unopened c)
      by_ended true e = absurd (cc)
      by_ended false e = by_id (which == id_in_record sealed) e

shut_drops : (r : RspSetup) (tag : ℕ) (sealed : List ℕ) (ids : List ℕ) (h : History) → IsShutAt r h tag sealed → IsShutAt r (with_dropped h ids) tag sealed
shut_drops r tag sealed [] h shut = shut
shut_drops r tag sealed (id ∷ ids) h shut = shut_drops r tag sealed ids (Dropped id ∷ h) (λ f. let at = shut f in shut_drop r tag sealed f h id at.0 at.1)

-- No value that is free changes that.
module _ (r : RspSetup) (tag : ℕ) (sealed : List ℕ) (f k : Free) (b : List ℕ) where
  by_fault : (phase : Phase) (s : Events) (x : Option RecordFault) → in_session_by r phase s f tag sealed no_draw x ≡ Unopened b → in_session_by r phase s k tag sealed no_draw x ≡ Unopened b
  by_fault phase s (Some fault) e = e
  by_fault phase s None e = absurd (cc)

  by_repeat : (phase : Phase) (s : Events) (x : Bool) (kept : List ℕ) → cond x (Same (record_body kept)) (in_session r phase s f tag sealed no_draw) ≡ Unopened b → cond x (Same (record_body kept)) (in_session r phase s k tag sealed no_draw) ≡ Unopened b
  unfolding in_session
  by_repeat phase s true kept e = e
  by_repeat phase s false kept e = by_fault phase s (opening_fault r.psk s sealed) e

  by_session : (phase : Phase) (s : Events) → to_session r phase s f tag sealed no_draw ≡ Unopened b → to_session r phase s k tag sealed no_draw ≡ Unopened b
  by_session phase [] e = e
  by_session phase (x ∷ s) e = by_repeat phase (x ∷ s) (repeats (last_of (x ∷ s)) sealed) (kept_record (last_of (x ∷ s))) e

  by_last : (x : Bool) (kept : List ℕ) (phase : Phase) (s : Events) → cond x (Same (record_body kept)) (to_session r phase s f tag sealed no_draw) ≡ Unopened b → cond x (Same (record_body kept)) (to_session r phase s k tag sealed no_draw) ≡ Unopened b
  by_last true kept phase s e = e
  by_last false kept phase s e = by_session phase s e

  pub any_free : (h : History) → on_record r h tag sealed f no_draw ≡ Unopened b → on_record r h tag sealed k no_draw ≡ Unopened b
  unfolding on_record
  any_free h e = by_last (repeats (ended_of h) sealed) (kept_record (ended_of h)) (phase_of (clear_turns h)) (session_of (id_in_record sealed) h) e

module _ (r : RspSetup) (h : History) (tag : ℕ) (body : List ℕ) (sealed : (slice_index body 0 == 5) ≡ false) where
  -- So it leads to this alone.
  pub only_unopened : IsShutAt r h tag (drop 1 body) → (o : Outcome) → MayLeadTo r h tag body o → (b : List ℕ) × (o ≡ Unopened b)
  only_unopened shut o may =
      let led = led_record r h tag body o sealed may in
      let at = shut led.free in
      (at.0, sym led.leads ∙ at.1)

  -- DecryptError in the clear is such an answer, and each such answer is in the clear.
  pub is_shut : (o : Outcome) → MayLeadTo r h tag body o → (slice_index (body_of o) 0 == 5) ≡ true → (b : List ℕ) × (o ≡ Unopened b)
  is_shut o may clear =
      let led = led_record r h tag body o sealed may in
      by_form (record_form r tag (drop 1 body) led.free o h led.leads)
    where
      by_form : RecordForm r h tag (drop 1 body) o → (b : List ℕ) × (o ≡ Unopened b)
      by_form (inl kept) = absurd (false≢true (sym (ap (λ (x : Outcome). slice_index (body_of x) 0 == 5) kept.1) ∙ clear))
      by_form (inr (inl none)) = (clear_body none.0, none.1)
      by_form (inr (inr added)) = absurd (false≢true (sym (ap (λ (x : Outcome). slice_index (body_of x) 0 == 5) added.2) ∙ clear))

  pub unopened_clear : (b : List ℕ) → MayLeadTo r h tag body (Unopened b) → (slice_index b 0 == 5) ≡ true
  unopened_clear b may =
      let led = led_record r h tag body (Unopened b) sealed may in
      by_form (record_form r tag (drop 1 body) led.free (Unopened b) h led.leads)
    where
      by_form : RecordForm r h tag (drop 1 body) (Unopened b) → (slice_index b 0 == 5) ≡ true
      by_form (inl kept) = absurd (let x = kept.1 in cc)
      by_form (inr (inl none)) = ap (λ (x : Outcome). slice_index (body_of x) 0 == 5) none.1
      by_form (inr (inr added)) = absurd (let x = added.2 in cc)

  -- What is shut once is shut whatever is free.
  pub shut_always : (b : List ℕ) → MayLeadTo r h tag body (Unopened b) → IsShutAt r h tag (drop 1 body)
  shut_always b may = let led = led_record r h tag body (Unopened b) sealed may in λ k. (b, any_free r tag (drop 1 body) led.free k b h led.leads)

  -- Of such a record no session that it would belong to is there.
  shut_belongs : (f : Free) → IsShutAt r h tag (drop 1 body) → (id : ℕ) → is_live (session_of id h) ≡ true → (id_in_record (drop 1 body) == id) ≡ true → belongs_to r (session_of id h) (drop 1 body) ≡ true → ⊥
  shut_belongs f shut id live named belongs =
      let at = shut f in by_form (record_form r tag (drop 1 body) f (Unopened at.0) h at.1)
    where
      by_form : {b : List ℕ} → RecordForm r h tag (drop 1 body) (Unopened b) → ⊥
      by_form (inl kept) = absurd (let x = kept.1 in cc)
      by_form (inr (inl none)) =
          let P : ℕ → Type 0 = λ n. is_live (session_of n h) ≡ true → belongs_to r (session_of n h) (drop 1 body) ≡ false in
          false≢true (sym (subst P (eqb-true (id_in_record (drop 1 body)) id named) none.2 live) ∙ belongs)
      by_form (inr (inr added)) = absurd (let x = added.2 in cc)

  -- So no answer shows that one was dropped.
  pub none_dropped : (f : Free) → IsShutAt r h tag (drop 1 body) → (b : List ℕ) (ids : List ℕ) → MayDrop h ids → AreShown r h body (Unopened b) ids → ids ≡ []
  none_dropped f shut b [] may shown = refl
  none_dropped f shut b (id ∷ []) may shown =
      absurd (shut_belongs f shut id may.0 (and_first _ _ shown) (and_second (id_in_record (drop 1 body) == id) _ shown))
  none_dropped f shut b (id ∷ other ∷ others) may shown = absurd shown

-- ---- An answer.

-- Nothing changes at the responder, and the answer is in the clear.
pub record IsStill (d : Dialogue) (answer : List ℕ) (next : History) (fetching : Option (List ℕ)) : Type 0 where
  pub same : next ≡ d.responder
  pub fetches : fetching ≡ d.fetching
  pub clear : (slice_index answer 0 == 5) ≡ true

module _ (r : RspSetup) (d : Dialogue) (round : Round) (sealed : (slice_index round.body 0 == 5) ≡ false) (shut : IsShutAt r (judging d.fetching round.body d.responder) round.tag (drop 1 round.body)) where
  abbrev judged : History
  judged = judging d.fetching round.body d.responder

  dropped_shut : (ids : List ℕ) → IsShutAt r (with_dropped judged ids) round.tag (drop 1 round.body)
  dropped_shut ids = shut_drops r round.tag (drop 1 round.body) ids judged shut

  plainly : (answer : List ℕ) (next : History) (fetching : Option (List ℕ)) → AnswersPlainly r d round answer next → fetching ≡ d.fetching → IsStill d answer next fetching
  plainly answer next fetching p fetches =
      let h : History = with_dropped judged p.0 in
      let may : MayLeadTo r h round.tag round.body p.1 = p.2.1 in
      let led = led_record r h round.tag round.body p.1 sealed may in
      let only = only_unopened r h round.tag round.body sealed (dropped_shut p.0) p.1 may in
      let none : p.0 ≡ [] = none_dropped r judged round.tag round.body sealed led.free shut only.0 p.0 p.2.0 (subst (λ (o : Outcome). AreShown r judged round.body o p.0) only.1 p.3) in
      let clear = unopened_clear r h round.tag round.body sealed only.0 (subst (λ (o : Outcome). MayLeadTo r h round.tag round.body o) only.1 may) in
      record {
        same = p.6 ∙ ap (after (with_dropped d.responder p.0)) only.1 ∙ ap (with_dropped d.responder) none;
        fetches = fetches;
        clear = ap (λ (l : List ℕ). slice_index l 0 == 5) (sym p.5) ∙ ap (λ (o : Outcome). slice_index (body_of o) 0 == 5) only.1 ∙ clear;
      }

  not_added : (h : History) (e : Entry) → IsShutAt r h round.tag (drop 1 round.body) → MayLeadTo r h round.tag round.body (Adds e) → ⊥
  not_added h e closed may = let only = only_unopened r h round.tag round.body sealed closed (Adds e) may in absurd (let x = only.1 in cc)

  again : (answer : List ℕ) (next : History) (whole : List ℕ) → AnswersAgain r d round answer next whole → ⊥
  again answer next whole p =
      let here : IsShutAt r d.responder round.tag (drop 1 round.body) = subst (λ (o : Option (List ℕ)). IsShutAt r (judging o round.body d.responder) round.tag (drop 1 round.body)) p.0 shut in
      let only = only_unopened r d.responder round.tag round.body sealed here (Same answer) p.1 in
      absurd (let x = only.1 in cc)

  pub shut_answers : (answer : List ℕ) (next : History) (fetching : Option (List ℕ)) → Answers r d round answer next fetching → IsStill d answer next fetching
  unfolding Answers
  shut_answers answer next fetching (inl a) = plainly answer next fetching a.0 a.1
  shut_answers answer next fetching (inr (inl a)) = absurd (let p : AnswersLarge r d round answer next a.0 = a.1 in not_added (with_dropped judged p.0) p.1 (dropped_shut p.0) p.2.1)
  shut_answers answer next fetching (inr (inr (inl a))) = absurd (again answer next a.0 a.1)
  shut_answers answer next fetching (inr (inr (inr a))) = absurd (let p : Completes r d round answer next = a.0 in not_added judged p.2 shut p.4)

-- ---- At the requester.

module _ (q : ReqSetup) (h : requester_history.History) (f : FreeHere) (tag : ℕ) (body : List ℕ) (clear : (slice_index body 0 == 5) ≡ true) where
  abbrev Stays : asking.Outcome → Type 0
  Stays o = shown.after h o ≡ h

  session_stays : (id : ℕ) (ask : Ask) → Stays (hears_to q h f tag body no_draw (InSession id ask))
  session_stays id ask = subst (λ (b : Bool). Stays (cond b (Warns (unwrap_or (error_in (drop 1 body)) 0)) (taken_record q h f tag id ask (drop 1 body) no_draw))) (sym clear) refl

  by_cause : (waiting : Option Sent) (cause : Option ReqIgnored) → ((s : Sent) → waiting ≡ Some s → (id : ℕ) × (ask : Ask) × (s.aim ≡ InSession id ask)) → Stays (hears_by q h f tag body no_draw waiting cause)
  by_cause waiting (Some cause) asks = refl
  by_cause None None asks = refl
  by_cause (Some s) None asks = let at = asks s refl in subst (λ (a : Aim). Stays (hears_to q h f tag body no_draw a)) (sym at.2) (session_stays at.0 at.1)

  pub hears_none : ((s : Sent) → outstanding h ≡ Some s → (id : ℕ) × (ask : Ask) × (s.aim ≡ InSession id ask)) → Stays (hears q h false tag body f no_draw)
  unfolding hears
  hears_none asks = by_cause (outstanding h) (body_fault q (outstanding h) false tag body) asks

-- No chunk of a large request is outstanding.
not_acked : (b : Bool) (whole : List ℕ) (tag : ℕ) (m : List ℕ) (h : requester_history.History) (o : Option Sent) → ((s : Sent) → o ≡ Some s → (id : ℕ) × (ask : Ask) × (s.aim ≡ InSession id ask)) → cond b (with_ack_to whole tag m h o) h ≡ h
not_acked true whole tag m h None asks = refl
not_acked true whole tag m h (Some s) asks = let at = asks s refl in ap (with_next_piece whole tag m h) at.2
not_acked false whole tag m h o asks = refl

-- While the requester waits for the answer to a record, it takes nothing in the clear.
pub session_hears : (d : Dialogue) (tag : ℕ) (answer : List ℕ) (next : requester_history.History) → ((s : Sent) → outstanding d.requester ≡ Some s → (id : ℕ) × (ask : Ask) × (s.aim ≡ InSession id ask))
    → (slice_index answer 0 == 5) ≡ true → Hears d tag answer next → next ≡ d.requester
unfolding Hears
session_hears d tag answer next asks clear heard = by_sending d.sending heard
  where
    by_sending : (o : Option (List ℕ)) → HearsWhile o d tag answer next → next ≡ d.requester
    by_sending None x = x.2 ∙ ap (shown.after d.requester) (sym x.1.2) ∙ hears_none d.setup d.requester x.1.0 tag answer clear asks
    by_sending (Some whole) x = x ∙ not_acked (has_tag (outstanding d.requester) tag) whole tag (drop 1 answer) d.requester (outstanding d.requester) asks
