-- What the answer to a record brings, in the words of what it shows.
use Rattle.std.proofs.Common.{◌≡◌, ◌≢◌, ◌≤◌, ◌↔◌, ◌∙◌, ℕ, List, inl, inr, refl, sym, ap, Bool, true, false, Option, Some, None}
use Rattle.std.proofs.lemmas.Bool.{false≢true}
use Rattle.std.proofs.lemmas.Option.{none-some, same_Some}
use Rattle.std.specs.Prelude.{IfSome, slice_index}
use Rattle.responder_machine.specs.Answer.{Free}
use Rattle.responder_machine.specs.History.{History}
use Rattle.responder_machine.specs.Responder.{Outcome, after, body_of, on_record}
use Rattle.responder_machine.specs.Responder.Outcome.{Same, Unopened, Adds}
use Rattle.responder_machine.specs.Session.{id_in_record, session_of, session_terms}
use Rattle.responder_machine.specs.Setup.{RspSetup}
use Rattle.spdm_machine.specs.Bodies.{clear_body, record_body}
use Rattle.check_responder.proofs.RecordClosed.{closed_by, kinds, other_type}
use Rattle.check_responder.proofs.RecordShown.{sealed_from, sealed_history, sealed_to}
use Rattle.check_responder.proofs.RecordTold.{large_told, last_told, whole_told}
use Rattle.check_laws.specs.AnswersShown.{is_whole, values_shown_by}
use Rattle.check_responder.specs.ClearAnswers.{EndsLarge, given_of}
use Rattle.check_laws.specs.DropsShown.{IsShownAnswer}
use Rattle.check_laws.specs.LargeShown.{IsShownLarge, ends_large, large_shown, last_shown}
use Rattle.check_responder.specs.RecordAnswers.{IsGivenTo, IsRecordBrought, history_behind, whole_if}
use Rattle.check_responder.specs.ShownBy.{IsRecordGiven, IsTaken}
use Rattle.check_responder.specs.declared.given.Given.{Given}
use Rattle.check_responder.specs.declared.given.Given.TheVariants as given
use Rattle.capture_machine.specs.Rounds.{no_draw}

-- ---- Where nothing is added, an answer goes whole alone.

-- The outcome adds something to the history.
abbrev pub adds : Outcome → Bool
adds (Adds entry) = true
adds _ = false

none_large : (o : Outcome) → adds o ≡ false → is_whole o ≡ false → ⊥
none_large (Same body) none is = false≢true (sym is)
none_large (Unopened body) none is = false≢true (sym is)
none_large (Adds entry) none is = false≢true (sym none)

none_last : (h : History) (o : Outcome) → adds o ≡ false → ends_large h o ≡ true → ⊥
none_last h (Same body) none is = false≢true is
none_last h (Unopened body) none is = false≢true is
none_last h (Adds entry) none is = false≢true (sym none)

whole_of : (b : Bool) → whole_if b ≡ Some given.Whole → b ≡ true
whole_of true is = refl
whole_of false is = absurd (none-some given.Whole is)

whole_alone : (b : Bool) (kind : Given) → whole_if b ≡ Some kind → given.Whole ≡ kind
whole_alone true kind is = same_Some given.Whole kind is
whole_alone false kind is = absurd (none-some kind is)

no_large : (b : Bool) → whole_if b ≡ Some given.Large → ⊥
no_large b is = (let kind = whole_alone b given.Large is in cc)

no_last : (b : Bool) → whole_if b ≡ Some given.Last → ⊥
no_last b is = (let kind = whole_alone b given.Last is in cc)

module _ (r : RspSetup) (h : History) (tag : ℕ) (request answer : List ℕ) where
  abbrev at : Free → Outcome
  at f = on_record r h tag request f no_draw

  -- The values that it shows.
  abbrev shown : Free
  shown = values_shown_by r h tag (record_body request) answer

  large_to : IsShownLarge r h tag (record_body request) answer → IsRecordGiven r h tag request shown answer × (is_whole (at shown) ≡ false)
  unfolding large_shown
  large_to s = (record { allowed = s.0.0; short = s.0.1; body = s.2 }, s.1)

  large_from : IsRecordGiven r h tag request shown answer × (is_whole (at shown) ≡ false) → IsShownLarge r h tag (record_body request) answer
  unfolding large_shown
  large_from s = ((s.0.allowed, s.0.short, refl), s.1, s.0.body)

  last_to : EndsLarge r h tag (record_body request) answer → IsRecordGiven r h tag request shown answer × (ends_large h (at shown) ≡ true)
  unfolding last_shown
  last_to s = (record { allowed = s.0.0; short = s.0.1; body = s.2 }, s.1)

  last_from : IsRecordGiven r h tag request shown answer × (ends_large h (at shown) ≡ true) → EndsLarge r h tag (record_body request) answer
  unfolding last_shown
  last_from s = ((s.0.allowed, s.0.short, refl), s.1, s.0.body)

  pub whole_only : ((f : Free) → body_of (at f) ≡ answer → adds (at f) ≡ false) → (b : Bool) → (b ≡ true) ↔ IsShownAnswer r h tag (record_body request) answer
      → IsGivenTo r h tag (record_body request) answer (whole_if b)
  whole_only none b told = record {
    whole = (λ is. told.0 (whole_of b is), λ s. ap whole_if (told.1 s));
    large = (λ is. absurd (no_large b is), λ s. let l = large_to s in absurd (none_large (at shown) (none shown l.0.body) l.1));
    last = (λ is. absurd (no_last b is), λ s. let l = last_to s in absurd (none_last h (at shown) (none shown l.0.body) l.1));
  }

  -- ---- An answer at the values that it shows.

  decided : (f : Free) (kind : Given) (result : Option Given) → IsRecordBrought r h tag request f answer result
      → (result ≡ Some kind) ↔ (IsRecordGiven r h tag request f answer × (given_of h (at f) ≡ kind))
  decided f kind None never = (λ is. absurd (none-some kind is), λ g. absurd (never g.0))
  decided f kind (Some x) brought = (λ is. (brought.0, sym brought.1 ∙ same_Some x kind is), λ g. ap Some (brought.1 ∙ g.1))

  module _ (sealed : slice_index answer 0 ≡ 6) (taken : IsTaken r h request) (least : 16 ≤ (session_terms (session_of (id_in_record request) h)).common.to_requester.transfer) where
    pub brought_shown : (result : Option Given) → IsRecordBrought r h tag request shown answer result → IsGivenTo r h tag (record_body request) answer result
    brought_shown result brought =
        let whole = decided shown given.Whole result brought in
        let large = decided shown given.Large result brought in
        let last = decided shown given.Last result brought in
        let whole_is = whole_told r h tag request taken least shown in
        let large_is = large_told r h tag request taken least shown in
        let last_is = last_told r h tag request taken least shown in
        record {
          whole = (
            λ is. let g = whole.0 is in sealed_from r h tag request answer sealed (record { allowed = g.0.allowed; short = g.0.short; plain = whole_is.0 g.1; body = g.0.body }),
            λ s. let a = sealed_to r h tag request answer sealed s in whole.1 (record { allowed = a.allowed; short = a.short; body = a.body }, whole_is.1 a.plain),
          );
          large = (λ is. let g = large.0 is in large_from (g.0, large_is.0 g.1), λ s. let l = large_to s in large.1 (l.0, large_is.1 l.1));
          last = (λ is. let g = last.0 is in last_from (g.0, last_is.0 g.1), λ s. let l = last_to s in last.1 (l.0, last_is.1 l.1));
        }

  pub behind_shown : slice_index answer 0 ≡ 6 → (x : Given) → history_behind r h tag (record_body request) answer x ≡ after h (at shown)
  unfolding large_shown last_shown
  behind_shown sealed given.Whole = sealed_history r h tag request answer sealed
  behind_shown sealed given.Large = refl
  behind_shown sealed given.Last = refl

-- What goes whole is kept.
pub kept_whole : (K : Given → Type 0) (b : Bool) → (b ≡ true → K given.Whole) → IfSome (whole_if b) K
kept_whole K true kept = kept refl
kept_whole K false kept = tt

-- ---- Answers that are no records.

pub whole_clear : (r : RspSetup) (h : History) (tag : ℕ) (request reply : List ℕ) (b : Bool) → (b ≡ true) ↔ IsShownAnswer r h tag (record_body request) (clear_body reply)
    → IsGivenTo r h tag (record_body request) (clear_body reply) (whole_if b)
whole_clear r h tag request reply b told =
    whole_only r h tag request (clear_body reply) (λ f body. let closed = closed_by r h tag request reply f body in ap adds (closed.1 f)) b told

pub other_given : (r : RspSetup) (h : History) (tag : ℕ) (request answer : List ℕ) → slice_index answer 0 ≢ 5 → slice_index answer 0 ≢ 6 → IsGivenTo r h tag (record_body request) answer None
other_given r h tag request answer clear sealed =
    whole_only r h tag request answer
    (λ f body. let same = ap (λ (l : List ℕ). slice_index l 0) body in absurd (elim (kinds r h tag request f) [
      | inl is ↦ clear (sym same ∙ is)
      | inr is ↦ sealed (sym same ∙ is)
    ]))
    false (λ no. absurd (false≢true no), λ shown. absurd (other_type r h tag request answer clear sealed shown))
