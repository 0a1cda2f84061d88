-- A request whose large response passed unseen may lead to LargeResponse elsewhere too, after the drops of all
-- sessions.
use Rattle.std.proofs.Common.{◌≡◌, ◌≤◌, ◌&&◌, ◌++◌, ◌∙◌, ℕ, zero, suc, List, [], ◌∷◌, refl, sym, ap, subst, arith, true, false, Option, None, inl, inr}
use Rattle.check_late_laws.proofs.Late.Behind.{kept_passed}
use Rattle.check_late_laws.proofs.Late.BehindClear.{IsFreeCode, code_with, phase_before, terms_before}
use Rattle.check_late_laws.proofs.Late.BehindSessions.{dropped_session}
use Rattle.check_late_laws.proofs.Late.InFront.{other_tag}
use Rattle.check_late_laws.proofs.Late.LeadsElsewhere.{lead_moved}
use Rattle.check_late_laws.specs.Late.Passed.{AreBehind, IsBehind, IsPassed}
use Rattle.check_late_laws.specs.Late.PassedLarge.{IsLedLargely, LargeIsInFront, LedElsewhere, LedGoesOn, WasLed}
use Rattle.check_late_laws.specs.Late.PassedLast.{IsFree}
use Rattle.responder_machine.proofs.Fresh.{exchange-fresh, turn_of-fresh}
use Rattle.responder_machine.specs.Answer.{Free}
use Rattle.responder_machine.specs.Handling.{turn_of}
use Rattle.responder_machine.specs.History.{Entry, History, Kept, clear_turns, kept_of, negotiation_of, phase_of}
use Rattle.responder_machine.specs.History.Entry.{Clear, Dropped}
use Rattle.responder_machine.specs.May.{with_dropped}
use Rattle.responder_machine.specs.Place.{clear_place, held_of, is_held}
use Rattle.responder_machine.specs.Responder.Outcome.{Adds}
use Rattle.responder_machine.specs.Responder.{is_repeat}
use Rattle.responder_machine.specs.Session.{Events, is_live, session_of, stage_of}
use Rattle.responder_machine.specs.Setup.{RspSetup}
use Rattle.responder_machine.specs.Turn.{Turn, answer_in, code_in, is_taken, takes}
use Rattle.spdm_grammar.specs.declared.names.request_code.TheConstants.{PSK_EXCHANGE}
use Rattle.spdm_machine.specs.Bodies.{clear_body}
use Rattle.spdm_machine.specs.Keys.{Draw}
use Rattle.spdm_machine.specs.Sessions.{id_in_exchange, is_past_handshake}
use Rattle.capture_machine.proofs.DropsTell.{clear_form, fresh_id, kept_same, turns_stay}
use Rattle.capture_machine.proofs.PlainTells.{led_clear}
use Rattle.capture_machine.specs.CapturedAnswers.{MayLeadTo}
use Rattle.capture_machine.specs.LargeAnswers.{is_large, turn_with, unseen}
use Rattle.capture_machine.specs.Rounds.{no_draw}

-- ---- Behind the drops of all four.

abbrev all : List ℕ
all = 1 ∷ 2 ∷ 3 ∷ 4 ∷ []

none_one : (h : History) → session_of 1 (with_dropped h all) ≡ []
none_one h =
    dropped_session 4 1 (Dropped 3 ∷ Dropped 2 ∷ Dropped 1 ∷ h) ∙ dropped_session 3 1 (Dropped 2 ∷ Dropped 1 ∷ h) ∙ dropped_session 2 1 (Dropped 1 ∷ h) ∙ dropped_session 1 1 h

none_two : (h : History) → session_of 2 (with_dropped h all) ≡ []
none_two h = dropped_session 4 2 (Dropped 3 ∷ Dropped 2 ∷ Dropped 1 ∷ h) ∙ dropped_session 3 2 (Dropped 2 ∷ Dropped 1 ∷ h) ∙ dropped_session 2 2 (Dropped 1 ∷ h)

none_three : (h : History) → session_of 3 (with_dropped h all) ≡ []
none_three h = dropped_session 4 3 (Dropped 3 ∷ Dropped 2 ∷ Dropped 1 ∷ h) ∙ dropped_session 3 3 (Dropped 2 ∷ Dropped 1 ∷ h)

none_four : (h : History) → session_of 4 (with_dropped h all) ≡ []
none_four h = dropped_session 4 4 (Dropped 3 ∷ Dropped 2 ∷ Dropped 1 ∷ h)

unheld : (h : History) (i : ℕ) → session_of i (with_dropped h all) ≡ [] → is_held (with_dropped h all) i ≡ false
unheld h i none = ap (λ (s : Events). is_live s && is_past_handshake (stage_of s)) none

none_held : (h : History) (i : ℕ) → 1 ≤ i → i ≤ 4 → is_held (with_dropped h all) i ≡ false
none_held h zero least most = absurd (omega (arith, least))
none_held h (suc zero) least most = unheld h 1 (none_one h)
none_held h (suc (suc zero)) least most = unheld h 2 (none_two h)
none_held h (suc (suc (suc zero))) least most = unheld h 3 (none_three h)
none_held h (suc (suc (suc (suc zero)))) least most = unheld h 4 (none_four h)
none_held h (suc (suc (suc (suc (suc n))))) least most = absurd (omega (arith, most))

-- ---- The entry.

pub added : (one other : Entry) → Adds one ≡ Adds other → one ≡ other
added one other same = cc

pub turn_is : (tag other : ℕ) (t u : Turn) (d e : Draw) → Clear tag t d ≡ Clear other u e → t ≡ u
turn_is tag other t u d e same = cc

draw_is : (tag other : ℕ) (t u : Turn) (d e : Draw) → Clear tag t d ≡ Clear other u e → d ≡ e
draw_is tag other t u d e same = cc

module _ (r : RspSetup) (g k : History) (tag other : ℕ) (u : Turn) (d : Draw) (free : IsFree u) (took : is_taken u ≡ true) (reached : phase_of (clear_turns g) ≡ phase_of (clear_turns k)) (agreed : negotiation_of (clear_turns g) ≡ negotiation_of (clear_turns k))
    (anew : is_repeat (kept_of k) other u.message ≡ false) (was : IsLedLargely r g (Clear tag u d)) where
  abbrev m : List ℕ
  m = u.message

  abbrev there : History
  there = with_dropped g was.0

  abbrev here : History
  here = with_dropped k all

  -- What it led to.
  module _ (f : Free) (most : f.id ≤ 4) (least : 1 ≤ f.id) (old : takes PSK_EXCHANGE (turn_of r (clear_place there) m f) ≡ true → is_held there (id_in_exchange (answer_in (turn_of r (clear_place there) m f).effect)) ≡ false)
      (is : was.1 ≡ Clear tag (turn_of r (clear_place there) m f) no_draw) where
    abbrev t : Turn
    t = turn_of r (clear_place there) m f

    same : Clear tag (turn_with [] None t) no_draw ≡ Clear tag u d
    same = sym (ap unseen is) ∙ was.4

    passed : turn_with [] None t ≡ u
    passed = turn_is tag tag (turn_with [] None t) u no_draw d same

    drawn : no_draw ≡ d
    drawn = draw_is tag tag (turn_with [] None t) u no_draw d same

    fits : IsFree t
    fits = record {
      whole = ap (λ (x : Turn). x.chunk) passed ∙ free.whole;
      code = subst IsFreeCode (sym (ap (λ (x : Turn). code_in x.effect) passed) ∙ code_with [] None t.effect) free.code;
    }

    room : takes PSK_EXCHANGE t ≡ true → is_held there (id_in_exchange (answer_in t.effect)) ≡ is_held here (id_in_exchange (answer_in t.effect))
    room psk =
        let fresh = exchange-fresh (held_of there) f.id t.effect psk (turn_of-fresh r (clear_place there) m f most) in
        old psk ∙ sym (ap (is_held here) fresh.0 ∙ none_held k f.id least most)

    leads_here : IsLedLargely r k (Clear other u d)
    leads_here = (
      all,
      Clear other t no_draw,
      lead_moved r there here tag other m t no_draw (ap phase_of (turns_stay was.0 g) ∙ reached ∙ sym (ap phase_of (turns_stay all k))) (ap negotiation_of (turns_stay was.0 g) ∙ agreed ∙ sym (ap negotiation_of (turns_stay all k)))
          (ap (λ (x : Option Kept). is_repeat x other m) (kept_same all k) ∙ anew) (ap is_taken passed ∙ took) fits room (subst (λ (e : Entry). MayLeadTo r there tag (clear_body m) (Adds e)) is was.2),
      ap is_large (sym is) ∙ was.3,
      ap (λ (x : Turn). Clear other x no_draw) passed ∙ ap (λ (x : Draw). Clear other u x) drawn,
    )

  pub led_moved : IsLedLargely r k (Clear other u d)
  led_moved =
      let led = led_clear r there tag (clear_body m) (Adds was.1) refl was.2 in
      elim (clear_form r there tag m led.free (Adds was.1) led.leads) [
        | inl same ↦ absurd (let x = same.1 in cc)
        | inr adds ↦ leads_here led.free led.allowed.most led.allowed.least (λ psk. fresh_id r there m led.free (clear_place there) led.allowed psk) (added was.1 (Clear tag (turn_of r (clear_place there) m led.free) no_draw) adds)
      ]

pub led_elsewhere : LedElsewhere
led_elsewhere r g k tag other t d free taken reached agreed anew was = led_moved r g k tag other t d free taken reached agreed anew was

pub large_is_in_front : LargeIsInFront
large_is_in_front r h s other free apart was =
    led_moved r s.before h s.tag other s.turn s.draw free s.passed.taken (sym (phase_before h s free.code)) (sym (terms_before h s free.code))
    (other_tag (kept_of h) s.tag other s.turn.message s.turn.message s.turn.reply (kept_passed h s) apart) was

-- ---- Entry by entry.

head_is : (e f : Entry) (l m : List Entry) → e ∷ l ≡ f ∷ m → e ≡ f
head_is e f l m is = cc

tail_is : (e f : Entry) (l m : List Entry) → e ∷ l ≡ f ∷ m → l ≡ m
tail_is e f l m is = cc

-- The newest entry is the request, or one after it.
module _ (r : RspSetup) (e : Entry) (h : History) (now : (tag : ℕ) (t : Turn) (d : Draw) → e ≡ Clear tag t d → IsPassed t → IsFree t → IsLedLargely r h e) (before : IsBehind e → WasLed r h) where
  by_behind : (es : List Entry) (tag : ℕ) (t : Turn) (d : Draw) (g : History) → e ∷ h ≡ es ++ Clear tag t d ∷ g → AreBehind es → IsPassed t → IsFree t → IsLedLargely r g (Clear tag t d)
  by_behind [] tag t d g is are passed free =
      let one : e ≡ Clear tag t d = head_is e (Clear tag t d) h g is in
      subst (λ (x : Entry). IsLedLargely r g x) one (subst (λ (x : History). IsLedLargely r x e) (tail_is e (Clear tag t d) h g is) (now tag t d one passed free))
  by_behind (x ∷ es) tag t d g is are passed free =
      let one : e ≡ x = head_is e x h (es ++ Clear tag t d ∷ g) is in
      before (subst IsBehind (sym one) are.0)
      (record { behind = es; tag = tag; turn = t; draw = d; before = g; is = tail_is e x h (es ++ Clear tag t d ∷ g) is; are = are.1; passed = passed }) free

  pub led_on : WasLed r (e ∷ h)
  led_on s free = by_behind s.behind s.tag s.turn s.draw s.before s.is s.are s.passed free

pub led_goes_on : LedGoesOn
led_goes_on r h e now before = led_on r e h now before
