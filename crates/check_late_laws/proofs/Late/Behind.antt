-- Where the request stands whose large response passed unseen, that a repeat of it gets its reply, and which ids were
-- touched since.
use Rattle.std.proofs.Common.{◌≡◌, ◌==◌, ◌&&◌, ◌||◌, ◌++◌, ℕ, List, [], ◌∷◌, refl, sym, ap, ◌∙◌, Bool, true, false, Option, Some, None, cond, eqb-true}
use Rattle.std.specs.Prelude.{bytes_eq, not}
use Rattle.std.proofs.lemmas.Bool.{false≢true}
use Rattle.std.proofs.lemmas.Slice.Eq.{bytes_eq-Decides}
use Rattle.spdm_basis.proofs.Bools.{and_first, and_second}
use Rattle.check_late_laws.proofs.Late.WalksStand.{walk_stands}
use Rattle.check_late_laws.specs.Late.Passed.{AreBehind, IsBehind, IsPassed, RepeatIsPassed, RepeatStandsBack, StandsBack, TouchIsTold, touched}
use Rattle.responder_machine.specs.Handling.{turn_of}
use Rattle.responder_machine.specs.History.{Entry, History, Kept, kept_of}
use Rattle.responder_machine.specs.History.Entry.{Clear, Sealed, Queued, Ticked, Dropped}
use Rattle.responder_machine.specs.Place.{clear_place}
use Rattle.responder_machine.specs.Responder.{is_repeat, kept_reply, on_clear}
use Rattle.responder_machine.specs.Responder.Outcome.{Same, Adds}
use Rattle.responder_machine.specs.Turn.{Effect, Turn, is_taken}
use Rattle.spdm_machine.specs.Bodies.{clear_body}
use Rattle.spdm_machine.specs.Keys.{Draw}
use Rattle.capture_machine.proofs.PlainTells.{led_clear}
use Rattle.capture_machine.proofs.UnseenStands.{UnseenStand}
use Rattle.capture_machine.specs.LargeAnswers.{is_unseen_effect, is_untouched, repeats_large, touches}
use Rattle.capture_machine.specs.Rounds.{no_draw}

-- ---- Where it stands.

pub one_more : (e : Entry) (h : History) → IsBehind e → StandsBack h → StandsBack (e ∷ h)
one_more e h one s = record {
  behind = e ∷ s.behind;
  tag = s.tag;
  turn = s.turn;
  draw = s.draw;
  before = s.before;
  is = ap (λ (l : History). e ∷ l) s.is;
  are = (one, s.are);
  passed = s.passed;
}

back : (h : History) → UnseenStand h → repeats_large None h ≡ true → StandsBack h
back [] stand is = absurd (false≢true is)
back (Clear tag t d ∷ h) stand is = by_taken (is_taken t) refl (back h stand.1)
  where
    at : (b : Bool) → is_taken t ≡ b → cond b (is_unseen_effect t.effect) (repeats_large None h) ≡ true
    at b taken = sym (ap (λ (x : Bool). cond x (is_unseen_effect t.effect) (repeats_large None h)) taken) ∙ is

    by_taken : (b : Bool) → is_taken t ≡ b → (repeats_large None h ≡ true → StandsBack h) → StandsBack (Clear tag t d ∷ h)
    by_taken true taken rest = record { behind = []; tag = tag; turn = t; draw = d; before = h; is = refl; are = tt; passed = record { taken = taken; unseen = at true taken } }
    by_taken false taken rest = one_more (Clear tag t d) h (taken, stand.0.0 taken) (rest (at false taken))
back (Sealed tag m t reply d ∷ h) stand is = one_more (Sealed tag m t reply d) h tt (back h stand.1 is)
back (Queued bytes ∷ h) stand is = absurd stand.0
back (Ticked seconds ∷ h) stand is = absurd stand.0
back (Dropped id ∷ h) stand is = one_more (Dropped id) h tt (back h stand.1 is)

pub repeat_stands_back : RepeatStandsBack
repeat_stands_back w q older d walk is = back d.responder (walk_stands w q older d walk) is

-- ---- The repeat.

abbrev pub kept_as : ℕ → Turn → Option Kept
kept_as tag t = Some (record { tag = tag; message = t.message; reply = t.reply })

pub kept_back : (behind : List Entry) (tag : ℕ) (t : Turn) (d : Draw) (before : History) → AreBehind behind → is_taken t ≡ true → kept_of (behind ++ Clear tag t d ∷ before) ≡ kept_as tag t
kept_back [] tag t d before are taken = ap (λ (b : Bool). cond b (kept_as tag t) (kept_of before)) taken
kept_back (Clear other u x ∷ behind) tag t d before are taken =
    ap (λ (b : Bool). cond b (kept_as other u) (kept_of (behind ++ Clear tag t d ∷ before))) are.0.0 ∙ kept_back behind tag t d before are.1 taken
kept_back (Sealed other m u reply x ∷ behind) tag t d before are taken = kept_back behind tag t d before are.1 taken
kept_back (Queued bytes ∷ behind) tag t d before are taken = absurd are.0
kept_back (Ticked seconds ∷ behind) tag t d before are taken = absurd are.0
kept_back (Dropped id ∷ behind) tag t d before are taken = kept_back behind tag t d before are.1 taken

pub kept_passed : (h : History) (s : StandsBack h) → kept_of h ≡ kept_as s.tag s.turn
kept_passed h s = ap kept_of s.is ∙ kept_back s.behind s.tag s.turn s.draw s.before s.are s.passed.taken

same_of : (one other : List ℕ) → Same one ≡ Same other → other ≡ one
same_of one other is = cc

by_repeat : (k : Option Kept) (t : Turn) (at tag : ℕ) (m answer : List ℕ) (e : Entry) → k ≡ kept_as at t → cond (is_repeat k tag m) (Same (clear_body (kept_reply k))) (Adds e) ≡ Same answer
    → (tag ≡ at) × (m ≡ t.message) × (answer ≡ clear_body t.reply)
by_repeat k t at tag m answer e is leads = by_test (is_repeat k tag m) refl leads
  where
    by_test : (b : Bool) → is_repeat k tag m ≡ b → cond b (Same (clear_body (kept_reply k))) (Adds e) ≡ Same answer → (tag ≡ at) × (m ≡ t.message) × (answer ≡ clear_body t.reply)
    by_test false not_it same = absurd (cc)
    by_test true it same =
        let here : (at == tag && bytes_eq t.message m) ≡ true = sym (ap (λ (x : Option Kept). is_repeat x tag m) is) ∙ it in (
          sym (eqb-true at tag (and_first (at == tag) (bytes_eq t.message m) here)),
          sym ((bytes_eq-Decides t.message m).0 (and_second (at == tag) (bytes_eq t.message m) here)),
          same_of (clear_body (kept_reply k)) answer same ∙ ap (λ (x : Option Kept). clear_body (kept_reply x)) is,
        )

pub repeat_is_passed : RepeatIsPassed
unfolding on_clear
repeat_is_passed r h s tag m answer may =
    let led = led_clear r h tag (clear_body m) (Same answer) refl may in
    by_repeat (kept_of h) s.turn s.tag tag m answer (Clear tag (turn_of r (clear_place h) m led.free) no_draw) (kept_passed h s) led.leads

-- ---- Which ids were touched.

neither : (a u v : Bool) → u ≡ not v → (not a && u) ≡ not (a || v)
neither true u v same = refl
neither false u v same = same

touch_list : (behind : List Entry) (tag : ℕ) (t : Turn) (d : Draw) (before : History) (id : ℕ) → AreBehind behind → IsPassed t
    → is_untouched None (Some id) (behind ++ Clear tag t d ∷ before) ≡ not (touched id (behind ++ Clear tag t d ∷ before))
touch_list [] tag t d before id are passed =
    ap (λ (b : Bool). cond b true (is_untouched None (Some id) before)) passed.unseen ∙ sym (ap (λ (b : Bool). not (cond b false (touched id before))) passed.taken)
touch_list (Clear other u x ∷ behind) tag t d before id are passed =
    let g : History = behind ++ Clear tag t d ∷ before in
    ap (λ (e : Effect). cond (is_unseen_effect e) true (is_untouched None (Some id) g)) are.0.1
    ∙ touch_list behind tag t d before id are.1 passed ∙ sym (ap (λ (b : Bool). not (cond b false (touched id g))) are.0.0)
touch_list (Sealed other m u reply x ∷ behind) tag t d before id are passed =
    neither (touches (Some id) (Sealed other m u reply x)) _ _ (touch_list behind tag t d before id are.1 passed)
touch_list (Queued bytes ∷ behind) tag t d before id are passed = absurd are.0
touch_list (Ticked seconds ∷ behind) tag t d before id are passed = absurd are.0
touch_list (Dropped which ∷ behind) tag t d before id are passed =
    neither (touches (Some id) (Dropped which)) _ _ (touch_list behind tag t d before id are.1 passed)

pub touch_is_told : TouchIsTold
touch_is_told h s id =
    ap (is_untouched None (Some id)) s.is ∙ touch_list s.behind s.tag s.turn s.draw s.before id s.are s.passed ∙ sym (ap (λ (l : History). not (touched id l)) s.is)
