-- The request of a fetch that began late may have led to its bytes at its place exactly when it may lead to them as the
-- newest one, under another tag.
use Rattle.std.proofs.Common.{◌≡◌, ◌≢◌, ◌==◌, ◌&&◌, ◌++◌, ◌∙◌, ℕ, List, [], ◌∷◌, refl, sym, ap, subst, Bool, true, false, Option, Some, None, cond, eq-eqb, eqb-true, ne_eqb}
use Rattle.std.specs.Prelude.{MatchBool, bytes_eq, not}
use Rattle.std.proofs.lemmas.Bool.{not-true}
use Rattle.spdm_basis.proofs.Bools.{and_first, and_second}
use Rattle.check_laws.proofs.DropsShown.{dropped_may, may_drop}
use Rattle.check_late_laws.proofs.Late.Behind.{kept_passed, touch_is_told}
use Rattle.check_late_laws.proofs.Late.BehindClear.{IsFreeCode, begun_behind, behind_seen, code_with, led_back, led_behind, none_untouched, phase_drops, since_seen, terms_drops, untouched_since}
use Rattle.check_late_laws.proofs.Late.BehindSessions.{dropped_session, untouched_is_told}
use Rattle.check_late_laws.proofs.Late.LeadsElsewhere.{lead_moved}
use Rattle.check_late_laws.specs.Late.Passed.{StandsBack, touched}
use Rattle.check_late_laws.specs.Late.PassedLast.{AreSince, IsFree, LastIsInFront, WasAnew, in_front, touched_by}
use Rattle.responder_machine.specs.History.{Entry, History, Kept, kept_of}
use Rattle.responder_machine.specs.History.Entry.{Clear, Dropped}
use Rattle.responder_machine.specs.May.{MayDrop, with_dropped}
use Rattle.responder_machine.specs.Place.{is_held}
use Rattle.responder_machine.specs.Responder.Outcome.{Adds}
use Rattle.responder_machine.specs.Responder.{is_repeat}
use Rattle.responder_machine.specs.Session.{Events, is_live, session_of, stage_of}
use Rattle.responder_machine.specs.Setup.{RspSetup}
use Rattle.responder_machine.specs.Turn.{Turn, answer_in, code_in, takes}
use Rattle.spdm_grammar.specs.declared.names.request_code.TheConstants.{PSK_EXCHANGE}
use Rattle.spdm_machine.specs.Sessions.{id_in_exchange, is_past_handshake}
use Rattle.capture_machine.proofs.DropsTell.{kept_same}
use Rattle.capture_machine.specs.CapturedAnswers.{AreShown, MayHaveLed, MayLeadToEntry, request_in}
use Rattle.capture_machine.specs.LargeAnswers.{begun_with, handle_shown, id_begun, is_untouched, seen_turn}

-- ---- With its bytes it is the same request.

pub free_with : (w : List ℕ) (t : Turn) → IsFree t → IsFree (seen_turn w t)
free_with w t free = record { whole = free.whole; code = subst IsFreeCode (sym (code_with w (Some (handle_shown t)) t.effect)) free.code }

-- ---- A session that was dropped is none.

same_id : (n : ℕ) → (n == n) ≡ true
same_id n = eq-eqb n n refl

gone : (h : History) (id : ℕ) → is_held (Dropped id ∷ h) id ≡ false
gone h id =
    ap (λ (s : Events). is_live s && is_past_handshake (stage_of s)) (dropped_session id id h)
    ∙ ap (λ (b : Bool). is_live (cond b [] (session_of id h)) && is_past_handshake (stage_of (cond b [] (session_of id h)))) (same_id id)

pub other_tag : (k : Option Kept) (at tag : ℕ) (m kept reply : List ℕ) → k ≡ Some (record { tag = at; message = kept; reply = reply }) → tag ≢ at → is_repeat k tag m ≡ false
other_tag k at tag m kept reply is other =
    ap (λ (x : Option Kept). is_repeat x tag m) is ∙ ap (λ (b : Bool). b && bytes_eq kept m) (ne_eqb at tag (λ same. other (sym same)))

module _ (r : RspSetup) (h : History) (s : StandsBack h) (whole dropped : List ℕ) (other : ℕ) (free : IsFree s.turn) (anew : WasAnew h s) (apart : other ≢ s.tag) where
  abbrev m : List ℕ
  m = s.turn.message

  abbrev now : Turn
  now = seen_turn whole s.turn

  abbrev id : ℕ
  id = id_in_exchange (answer_in now.effect)

  abbrev front : Entry
  front = in_front h s other whole

  abbrev back : Entry
  back = in_front h s s.tag whole

  code : code_in now.effect ≡ code_in s.turn.effect
  code = code_with whole (Some (handle_shown s.turn)) s.turn.effect

  psk_was : takes PSK_EXCHANGE now ≡ true → takes PSK_EXCHANGE s.turn ≡ true
  psk_was is = sym (ap (λ (n : ℕ). n == PSK_EXCHANGE) code) ∙ is

  -- The session that it begins was not touched, where it begins one.
  touched_id : takes PSK_EXCHANGE now ≡ true → touched_by (id_begun front) h ≡ false → touched id h ≡ false
  touched_id psk none = sym (ap (λ (b : Bool). touched_by (cond b (Some id) None) h) psk) ∙ none

  untouched_of : (o : Option ℕ) → touched_by o h ≡ false → is_untouched None o h ≡ true
  untouched_of None none = none_untouched h
  untouched_of (Some i) none = touch_is_told h s i ∙ ap not none

  touched_of : (o : Option ℕ) → is_untouched None o h ≡ true → touched_by o h ≡ false
  touched_of None is = refl
  touched_of (Some i) is = not-true (touched i h) (sym (touch_is_told h s i) ∙ is)

  -- After these drops its id is in use at both, or at neither.
  held_drops : (ids : List ℕ) → AreShown r h (request_in front) (Adds front) ids → touched_by (id_begun front) h ≡ false → takes PSK_EXCHANGE now ≡ true
      → is_held (with_dropped h ids) id ≡ is_held (with_dropped s.before ids) id
  held_drops [] shown none psk = (untouched_is_told h s id (psk_was psk) (touched_id psk none)).0
  held_drops (i ∷ []) shown none psk =
      let is : id ≡ i = eqb-true id i (and_second (takes PSK_EXCHANGE now) (id == i) shown) in
      subst (λ (n : ℕ). is_held (Dropped n ∷ h) id ≡ is_held (Dropped n ∷ s.before) id) is (gone h id ∙ sym (gone s.before id))
  held_drops (i ∷ j ∷ ids) shown none psk = absurd shown

  drops_move : (ids : List ℕ) → AreShown r h (request_in front) (Adds front) ids → touched_by (id_begun front) h ≡ false → MayDrop h ids → MayDrop s.before ids
  drops_move [] shown none may = tt
  drops_move (i ∷ []) shown none may =
      let psk = and_first (takes PSK_EXCHANGE now) (id == i) shown in
      let is : id ≡ i = eqb-true id i (and_second (takes PSK_EXCHANGE now) (id == i) shown) in
      let told = untouched_is_told h s i (psk_was psk) (subst (λ (n : ℕ). touched n h ≡ false) is (touched_id psk none)) in
      may_drop s.before i (sym told.1 ∙ dropped_may h i may)
  drops_move (i ∷ j ∷ ids) shown none may = absurd shown

  drops_back : (ids : List ℕ) → AreShown r h (request_in front) (Adds front) ids → touched_by (id_begun front) h ≡ false → MayDrop s.before ids → MayDrop h ids
  drops_back [] shown none may = tt
  drops_back (i ∷ []) shown none may =
      let psk = and_first (takes PSK_EXCHANGE now) (id == i) shown in
      let is : id ≡ i = eqb-true id i (and_second (takes PSK_EXCHANGE now) (id == i) shown) in
      let told = untouched_is_told h s i (psk_was psk) (subst (λ (n : ℕ). touched n h ≡ false) is (touched_id psk none)) in
      may_drop h i (told.1 ∙ dropped_may s.before i may)
  drops_back (i ∷ j ∷ ids) shown none may = absurd shown

  -- What is shown depends on no history and on no tag.
  shown_back : (ids : List ℕ) → AreShown r h (request_in front) (Adds front) ids → AreShown r s.before (request_in back) (Adds back) ids
  shown_back [] shown = tt
  shown_back (i ∷ []) shown = shown
  shown_back (i ∷ j ∷ ids) shown = absurd shown

  shown_front : (ids : List ℕ) → AreShown r s.before (request_in back) (Adds back) ids → AreShown r h (request_in front) (Adds front) ids
  shown_front [] shown = tt
  shown_front (i ∷ []) shown = shown
  shown_front (i ∷ j ∷ ids) shown = absurd shown

  -- ---- Both ways.

  goes_back : MayLeadToEntry r dropped h front → touched_by (id_begun front) h ≡ false → MayLeadToEntry r dropped s.before back
  goes_back may none =
      let g : History = with_dropped h dropped in
      let k : History = with_dropped s.before dropped in (
        (
          drops_move dropped may.1 none may.0.0,
          lead_moved r g k other s.tag m now s.draw (phase_drops h s free.code dropped) (terms_drops h s free.code dropped)
              (ap (λ (x : Option Kept). is_repeat x s.tag m) (kept_same dropped s.before) ∙ anew) s.passed.taken (free_with whole s.turn free) (held_drops dropped may.1 none) may.0.1,
        ),
        shown_back dropped may.1,
      )

  goes_front : MayLeadToEntry r dropped s.before back → touched_by (id_begun front) h ≡ false → MayLeadToEntry r dropped h front
  goes_front may none =
      let g : History = with_dropped h dropped in
      let k : History = with_dropped s.before dropped in
      let shown = shown_front dropped may.1 in (
        (
          drops_back dropped shown none may.0.0,
          lead_moved r k g s.tag other m now s.draw (sym (phase_drops h s free.code dropped)) (sym (terms_drops h s free.code dropped))
              (ap (λ (x : Option Kept). is_repeat x other m) (kept_same dropped h) ∙ other_tag (kept_of h) s.tag other m s.turn.message s.turn.reply (kept_passed h s) apart)
              s.passed.taken (free_with whole s.turn free) (λ psk. sym (held_drops dropped shown none psk)) may.0.1,
        ),
        shown,
      )

  -- ---- The newest answer that was not seen is that of the request.

  module _ (since : List Entry) (are : AreSince since) where
    abbrev asked : Entry
    asked = Clear s.tag s.turn s.draw

    led_here : MayHaveLed r None whole dropped (since ++ h) → MayLeadToEntry r dropped s.before back
    led_here led =
        let one = led_behind whole dropped r since h (since_seen since are) led in
        let two = led_behind whole dropped r s.behind (asked ∷ s.before) (behind_seen s.behind s.are) (subst (MayHaveLed r None whole dropped) s.is one) in
        subst (λ (b : Bool). MatchBool b (MayLeadToEntry r dropped s.before back) (MayHaveLed r None whole dropped s.before)) s.passed.unseen two

    led_there : MayLeadToEntry r dropped s.before back → MayHaveLed r None whole dropped (since ++ h)
    led_there may =
        let one = subst (λ (b : Bool). MatchBool b (MayLeadToEntry r dropped s.before back) (MayHaveLed r None whole dropped s.before)) (sym s.passed.unseen) may in
        let two = led_back whole dropped r s.behind (asked ∷ s.before) (behind_seen s.behind s.are) one in
        led_back whole dropped r since h (since_seen since are) (subst (MayHaveLed r None whole dropped) (sym s.is) two)

    begun_is : begun_with None whole (since ++ h) ≡ id_begun front
    begun_is =
        begun_behind whole dropped since h (since_seen since are) ∙ ap (begun_with None whole) s.is
        ∙ begun_behind whole dropped s.behind (asked ∷ s.before) (behind_seen s.behind s.are) ∙ ap (λ (b : Bool). cond b (id_begun back) (begun_with None whole s.before)) s.passed.unseen

    untouched_is : is_untouched None (begun_with None whole (since ++ h)) (since ++ h) ≡ is_untouched None (id_begun front) h
    untouched_is = ap (λ (o : Option ℕ). is_untouched None o (since ++ h)) begun_is ∙ untouched_since (id_begun front) since h are

    pub forth : MayHaveLed r None whole dropped (since ++ h) × (is_untouched None (begun_with None whole (since ++ h)) (since ++ h) ≡ true) → MayLeadToEntry r dropped h (in_front h s other whole) × (touched_by (id_begun (in_front h s other whole)) h ≡ false)
    forth both =
        let none = touched_of (id_begun front) (sym untouched_is ∙ both.1) in
        (goes_front (led_here both.0) none, none)

    pub back_again : MayLeadToEntry r dropped h (in_front h s other whole) × (touched_by (id_begun (in_front h s other whole)) h ≡ false) → MayHaveLed r None whole dropped (since ++ h) × (is_untouched None (begun_with None whole (since ++ h)) (since ++ h) ≡ true)
    back_again both = (led_there (goes_back both.0 both.1), untouched_is ∙ untouched_of (id_begun front) both.1)

pub last_is_in_front : LastIsInFront
last_is_in_front r since h s whole dropped other are free anew apart =
    (forth r h s whole dropped other free anew apart since are, back_again r h s whole dropped other free anew apart since are)
