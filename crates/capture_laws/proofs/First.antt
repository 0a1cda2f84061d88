-- What holds after DecryptError of which the requester is warned.
use Rattle.std.proofs.Common.{◌≡◌, ◌≢◌, ◌==◌, ◌&&◌, ◌⊎◌, ◌∙◌, ◌++◌, ℕ, List, [], ◌∷◌, refl, sym, ap, subst, drop, arith, Bool, true, false, Option, Some, None, cond, inl, inr, eq-eqb}
use Rattle.std.specs.Prelude.{bytes_eq, slice_index}
use Rattle.std.proofs.lemmas.Bool.{false≢true}
use Rattle.std.proofs.lemmas.Option.{same_Some}
use Rattle.std.proofs.lemmas.Slice.Eq.{bytes_eq-Decides}
use Rattle.capture_laws.proofs.Shut.{IsShutAt, is_shut, shut_always}
use Rattle.capture_laws.proofs.Versions.{IsAnew, get_version}
use Rattle.check_late_laws.proofs.Late.BehindClear.{IsFreeCode, code_with}
use Rattle.check_late_laws.proofs.Late.LargeFront.{turn_is}
use Rattle.check_late_laws.specs.Late.Passed.{AreBehind, StandsBack}
use Rattle.check_late_laws.specs.Late.PassedLarge.{IsLedLargely}
use Rattle.check_late_laws.specs.Late.PassedLast.{IsFree}
use Rattle.requester_machine.specs.History.{outstanding}
use Rattle.requester_machine.specs.Message.{Ask, Sent}
use Rattle.requester_machine.specs.Message.Aim.{Plain, InSession}
use Rattle.responder_machine.specs.Answer.{Free}
use Rattle.responder_machine.specs.Handling.{turn_of}
use Rattle.responder_machine.specs.History.{Entry, History, Kept, kept_of}
use Rattle.responder_machine.specs.History.Entry.{Clear, Sealed, Queued, Ticked, Dropped}
use Rattle.responder_machine.specs.May.{with_dropped}
use Rattle.responder_machine.specs.Place.{Place, clear_place}
use Rattle.responder_machine.specs.Refusal.{code_of}
use Rattle.responder_machine.specs.Responder.{Outcome, after, is_repeat, sent_by}
use Rattle.responder_machine.specs.Responder.Outcome.{Same, Adds}
use Rattle.responder_machine.specs.Setup.{RspSetup}
use Rattle.responder_machine.specs.Turn.{Turn, code_in}
use Rattle.spdm_grammar.specs.Message.RequestMessage.{GetVersion}
use Rattle.spdm_grammar.specs.Reading.{field_at, number_at}
use Rattle.spdm_grammar.specs.Requests.{get_version_layout, request_body}
use Rattle.spdm_grammar.specs.declared.names.request_code.TheConstants.{GET_MEASUREMENTS, PSK_EXCHANGE}
use Rattle.spdm_machine.specs.Bodies.{clear_body}
use Rattle.spdm_machine.specs.Keys.{Draw}
use Rattle.capture_machine.proofs.DropsTell.{clear_form}
use Rattle.capture_machine.proofs.FetchedAnswers.{turn_code}
use Rattle.capture_machine.proofs.FetchedTells.{version_reads}
use Rattle.capture_machine.proofs.Fetching.{Fetched, IsSound}
use Rattle.capture_machine.proofs.PlainTells.{ClearLed, led_clear}
use Rattle.capture_machine.specs.CapturedAnswers.{Answers, AnswersAgain, AnswersLarge, AnswersPlainly, Completes, MayLeadTo}
use Rattle.capture_machine.specs.LargeAnswers.{is_fetching, is_for_chunk, judging, place_named, turn_with, unseen, while_fetched, with_large}
use Rattle.capture_machine.specs.Rounds.{Dialogue, Round, no_draw}

-- ---- The request that stands back is not GET_VERSION.

version_other : code_of get_version ≢ GET_MEASUREMENTS
unfolding field_at number_at request_body get_version_layout
version_other = λ e. absurd (omega (arith, e))

not_free : (r : RspSetup) (p : Place) (m : List ℕ) (f : Free) (n : ℕ) → m ≡ get_version → code_in (turn_of r p m f).effect ≡ n → IsFreeCode n → ⊥
not_free r p m f n is code free =
    let at : code_in (turn_of r p get_version f).effect ≡ n = subst (λ (l : List ℕ). code_in (turn_of r p l f).effect ≡ n) is code in
    elim free [
      | inl measures ↦ version_other (turn_code r p get_version f GET_MEASUREMENTS refl version_reads.no_chunk (eq-eqb (code_in (turn_of r p get_version f).effect) GET_MEASUREMENTS (at ∙ measures)))
      | inr exchanges ↦ version_reads.no_exchange (turn_code r p get_version f PSK_EXCHANGE refl version_reads.no_chunk (eq-eqb (code_in (turn_of r p get_version f).effect) PSK_EXCHANGE (at ∙ exchanges)))
    ]

added : (one other : Entry) → Adds one ≡ Adds other → one ≡ other
added one other same = cc

led_other : (r : RspSetup) (before : History) (tag : ℕ) (t : Turn) (d : Draw) → IsFree t → IsLedLargely r before (Clear tag t d) → t.message ≡ get_version → ⊥
led_other r before tag t d free was version = by_form (clear_form r there tag t.message led.free (Adds was.1) led.leads)
  where
    there : History
    there = with_dropped before was.0

    led : ClearLed r there tag (clear_body t.message) (Adds was.1)
    led = led_clear r there tag (clear_body t.message) (Adds was.1) refl was.2

    by_form : ((b : List ℕ) × (Adds was.1 ≡ Same b)) ⊎ (Adds was.1 ≡ Adds (Clear tag (turn_of r (clear_place there) t.message led.free) no_draw)) → ⊥
    by_form (inl same) = absurd (let x = same.1 in cc)
    by_form (inr adds) =
        let u : Turn = turn_of r (clear_place there) t.message led.free in
        let passed : turn_with [] None u ≡ t = turn_is tag tag (turn_with [] None u) t no_draw d (ap unseen (sym (added was.1 (Clear tag u no_draw) adds)) ∙ was.4) in
        not_free r (clear_place there) t.message led.free (code_in t.effect) version (sym (code_with [] None u.effect) ∙ ap (λ (x : Turn). code_in x.effect) passed) free.code

and_none : (b : Bool) → (b && false) ≡ false
and_none true = refl
and_none false = refl

behind_kept : (es : List Entry) (h : History) → AreBehind es → kept_of (es ++ h) ≡ kept_of h
behind_kept [] h are = refl
behind_kept (Clear tag t d ∷ es) h are =
    ap (λ (b : Bool). cond b (Some (record { tag = tag; message = t.message; reply = t.reply })) (kept_of (es ++ h))) are.0.0 ∙ behind_kept es h are.1
behind_kept (Sealed tag m t reply d ∷ es) h are = behind_kept es h are.1
behind_kept (Dropped id ∷ es) h are = behind_kept es h are.1
behind_kept (Queued bytes ∷ es) h are = absurd are.0
behind_kept (Ticked seconds ∷ es) h are = absurd are.0

pub stands_anew : (r : RspSetup) (h : History) (s : StandsBack h) → IsFree s.turn → IsLedLargely r s.before (Clear s.tag s.turn s.draw) → IsAnew h
stands_anew r h s free was = λ tag. ap (λ (k : Option Kept). is_repeat k tag get_version) kept ∙ other tag (bytes_eq s.turn.message get_version) refl
  where
    kept : kept_of h ≡ Some (record { tag = s.tag; message = s.turn.message; reply = s.turn.reply })
    kept =
        ap kept_of s.is ∙ behind_kept s.behind (Clear s.tag s.turn s.draw ∷ s.before) s.are
        ∙ ap (λ (b : Bool). cond b (Some (record { tag = s.tag; message = s.turn.message; reply = s.turn.reply })) (kept_of s.before)) s.passed.taken

    other : (tag : ℕ) (b : Bool) → bytes_eq s.turn.message get_version ≡ b → (s.tag == tag && bytes_eq s.turn.message get_version) ≡ false
    other tag true is = absurd (led_other r s.before s.tag s.turn s.draw free was ((bytes_eq-Decides s.turn.message get_version).0 is))
    other tag false is = ap (λ (b : Bool). s.tag == tag && b) is ∙ and_none (s.tag == tag)

-- ---- What is fetched stays.

while_none : (b : Bool) (o : Option (List ℕ)) → cond b o o ≡ o
while_none true o = refl
while_none false o = refl

while_asked : (b : Bool) (w : List ℕ) → b ≡ true → cond b (Some w) None ≡ Some w
while_asked true w is = refl
while_asked false w is = absurd (false≢true is)

pub session_fetches : (d : Dialogue) (sent : Sent) (id : ℕ) (ask : Ask) → IsSound d → outstanding d.requester ≡ Some sent → sent.aim ≡ InSession id ask → while_fetched d.requester d.fetching ≡ d.fetching
session_fetches d sent id ask sound waits asks = by_fetching d.fetching refl
  where
    is_chunk : (x : Sent) → outstanding d.requester ≡ Some x → is_for_chunk x.aim ≡ true → is_fetching (outstanding d.requester) ≡ true
    is_chunk x is gets = ap is_fetching is ∙ gets

    not_version : (x : Sent) → outstanding d.requester ≡ Some x → x.aim ≡ Plain GetVersion → ⊥
    not_version x is version = absurd (let e = sym asks ∙ ap (λ (y : Sent). y.aim) (same_Some sent x (sym waits ∙ is)) ∙ version in cc)

    gets : (w : List ℕ) (tag : ℕ) (body : List ℕ) → Fetched d.requester d.responder w tag body → is_fetching (outstanding d.requester) ≡ true
    gets w tag body fetched = elim fetched.stands [
      | inl version ↦ absurd (not_version fetched.sent fetched.waits version.0)
      | inr fetch ↦ is_chunk fetched.sent fetched.waits fetch.0
    ]

    chunk : (w : List ℕ) → d.fetching ≡ Some w → is_fetching (outstanding d.requester) ≡ true
    chunk w is = let x = sound.fetched w is in gets w x.0.tag x.0.body x.2

    by_fetching : (o : Option (List ℕ)) → d.fetching ≡ o → while_fetched d.requester o ≡ o
    by_fetching None is = while_none (is_fetching (outstanding d.requester)) None
    by_fetching (Some w) is = while_asked (is_fetching (outstanding d.requester)) w (chunk w is)

-- ---- The answer.

large_dropped : (place : Option ℕ) (w : List ℕ) (id : ℕ) (h : History) → with_large place w (Dropped id ∷ h) ≡ Dropped id ∷ with_large place w h
large_dropped None w id h = refl
large_dropped (Some named) w id h = refl

large_drops : (place : Option ℕ) (w ids : List ℕ) (h : History) → with_large place w (with_dropped h ids) ≡ with_dropped (with_large place w h) ids
large_drops place w [] h = refl
large_drops place w (id ∷ ids) h = large_drops place w ids (Dropped id ∷ h) ∙ ap (λ (l : History). with_dropped l ids) (large_dropped place w id h)

judging_drops : (o : Option (List ℕ)) (body ids : List ℕ) (h : History) → judging o body (with_dropped h ids) ≡ with_dropped (judging o body h) ids
judging_drops None body ids h = refl
judging_drops (Some w) body ids h = large_drops (place_named body) w ids h

-- Sessions were dropped at most, and no session opens the record any more.
pub record IsFirst (r : RspSetup) (d : Dialogue) (round : Round) (next : History) (fetching : Option (List ℕ)) : Type 0 where
  pub dropped : List ℕ
  pub is : next ≡ with_dropped d.responder dropped
  pub fetches : fetching ≡ d.fetching
  pub shut : IsShutAt r (judging d.fetching round.body (with_dropped d.responder dropped)) round.tag (drop 1 round.body)

module _ (r : RspSetup) (d : Dialogue) (round : Round) (sealed : (slice_index round.body 0 == 5) ≡ false) (answer : List ℕ) (clear : (slice_index answer 0 == 5) ≡ true) where
  abbrev judged : History
  judged = judging d.fetching round.body d.responder

  first_plainly : (next : History) (fetching : Option (List ℕ)) → AnswersPlainly r d round answer next → fetching ≡ d.fetching → IsFirst r d round next fetching
  first_plainly next fetching p fetches =
      let h : History = with_dropped judged p.0 in
      let may : MayLeadTo r h round.tag round.body p.1 = p.2.1 in
      let none = is_shut r h round.tag round.body sealed p.1 may (ap (λ (l : List ℕ). slice_index l 0 == 5) p.5 ∙ clear) in
      let closed : IsShutAt r h round.tag (drop 1 round.body) = shut_always r h round.tag round.body sealed none.0 (subst (λ (o : Outcome). MayLeadTo r h round.tag round.body o) none.1 may) in
      record {
        dropped = p.0;
        is = p.6 ∙ ap (after (with_dropped d.responder p.0)) none.1;
        fetches = fetches;
        shut = subst (λ (l : History). IsShutAt r l round.tag (drop 1 round.body)) (sym (judging_drops d.fetching round.body p.0 d.responder)) closed;
      }

  not_added : (h : History) (e : Entry) → sent_by e ≡ answer → MayLeadTo r h round.tag round.body (Adds e) → ⊥
  not_added h e is may =
      let none = is_shut r h round.tag round.body sealed (Adds e) may (ap (λ (l : List ℕ). slice_index l 0 == 5) is ∙ clear) in
      absurd (let x = none.1 in cc)

  not_repeated : (h : History) → MayLeadTo r h round.tag round.body (Same answer) → ⊥
  not_repeated h may = let none = is_shut r h round.tag round.body sealed (Same answer) may clear in absurd (let x = none.1 in cc)

  pub first_answers : (next : History) (fetching : Option (List ℕ)) → Answers r d round answer next fetching → IsFirst r d round next fetching
  unfolding Answers
  first_answers next fetching (inl a) = first_plainly next fetching a.0 a.1
  first_answers next fetching (inr (inl a)) = absurd (let p : AnswersLarge r d round answer next a.0 = a.1 in not_added (with_dropped judged p.0) p.1 p.5 p.2.1)
  first_answers next fetching (inr (inr (inl a))) = absurd (let p : AnswersAgain r d round answer next a.0 = a.1 in not_repeated d.responder p.1)
  first_answers next fetching (inr (inr (inr a))) = absurd (let p : Completes r d round answer next = a.0 in not_added judged p.2 p.7 p.4)
