-- An answer to a clear message is judged by what it shows.
use Rattle.std.proofs.Common.{◌≡◌, ◌==◌, ◌&&◌, ◌↔◌, ◌∙◌, ℕ, List, [], ◌∷◌, refl, sym, ap, subst, Bool, true, false, Option, Some, None, is_some, cond}
use Rattle.std.proofs.lemmas.Bool.{false≢true}
use Rattle.std.proofs.lemmas.Option.{none-some, same_Some}
use Rattle.std.specs.Prelude.{not, IfSome}
use Rattle.responder_machine.specs.Answer.{Free}
use Rattle.responder_machine.specs.Handling.{turn_of}
use Rattle.responder_machine.specs.History.{Entry, History, kept_of}
use Rattle.responder_machine.specs.History.Entry.{Clear}
use Rattle.responder_machine.specs.May.{with_dropped}
use Rattle.responder_machine.specs.Place.{Place, clear_place, held_of, inside}
use Rattle.responder_machine.specs.Refusal.{has_pending}
use Rattle.responder_machine.specs.Responder.{Outcome, after, body_of, is_repeat, kept_reply, on_clear}
use Rattle.responder_machine.specs.Responder.Outcome.{Same, Adds}
use Rattle.responder_machine.specs.Setup.{RspSetup}
use Rattle.responder_machine.specs.Turn.{Turn, takes}
use Rattle.spdm_grammar.specs.declared.names.request_code.TheConstants.{CHUNK_GET}
use Rattle.spdm_machine.specs.Bodies.{clear_body}
use Rattle.check_laws.specs.AnswersShown.{LeadsAt, clear_values, is_whole, least_values, values_for, values_shown_by}
use Rattle.check_responder.specs.ClearAnswers.{EndsLarge, IsAnsweredAt, IsGivenAt, IsGiven, first_of_held, given_of, history_given}
use Rattle.check_laws.specs.DropsShown.{IsShownAnswer, clear_drops, dropped_for, drops_shown_by, id_begun, may_be_dropped, outcome_shown, response_of}
use Rattle.check_laws.specs.LargeShown.{IsShownLarge, ends_large, large_shown, last_shown}
use Rattle.check_responder.specs.declared.given.Given.{Given}
use Rattle.check_responder.specs.declared.given.Given.TheVariants as kinds
use Rattle.capture_machine.proofs.DropsTell.{kept_same}
use Rattle.capture_machine.specs.CapturedAnswers.{is_plain}
use Rattle.capture_machine.specs.LargeAnswers.{gives_last}
use Rattle.capture_machine.specs.Rounds.{no_draw}

-- ---- What an outcome brings.

-- Of a clear entry.
abbrev pub by_parts : (large last : Bool) → Given
by_parts large last = cond large kinds.Large (cond last kinds.Last kinds.Whole)

pub whole_parts : (large last : Bool) → (not large && not last) ≡ true → by_parts large last ≡ kinds.Whole
whole_parts true last is = absurd (false≢true is)
whole_parts false true is = absurd (false≢true is)
whole_parts false false is = refl

pub parts_whole : (large last : Bool) → by_parts large last ≡ kinds.Whole → (not large && not last) ≡ true
parts_whole true last is = absurd (let h = is in cc)
parts_whole false true is = absurd (let h = is in cc)
parts_whole false false is = refl

pub parts_large : (large last : Bool) → by_parts large last ≡ kinds.Large → large ≡ true
parts_large true last is = refl
parts_large false true is = absurd (let h = is in cc)
parts_large false false is = absurd (let h = is in cc)

pub parts_last : (large last : Bool) → by_parts large last ≡ kinds.Last → (large ≡ false) × (last ≡ true)
parts_last true last is = absurd (let h = is in cc)
parts_last false true is = (refl, refl)
parts_last false false is = absurd (let h = is in cc)

-- ---- Drops change nothing that is pending in the clear.

pending_same : (b : Bool) (p q : Place) → has_pending p ≡ has_pending q → has_pending (cond b (inside p) p) ≡ has_pending (cond b (inside q) q)
pending_same true p q same = same
pending_same false p q same = same

gives_one : (id tag : ℕ) (t : Turn) (h : History) → gives_last (with_dropped h (id ∷ [])) (Clear tag t no_draw) ≡ gives_last h (Clear tag t no_draw)
gives_one id tag t h =
    let g : History = with_dropped h (id ∷ []) in
    ap (λ (b : Bool). takes CHUNK_GET t && not b) (pending_same (is_some t.chunk) (clear_place (Clear tag t no_draw ∷ g)) (clear_place (Clear tag t no_draw ∷ h)) refl)

-- No more than one session is dropped.
abbrev pub IsOne : List ℕ → Type 0
IsOne [] = Unit {0}
IsOne (id ∷ []) = Unit {0}
IsOne (id ∷ other ∷ others) = ⊥

pub gives_same : (ids : List ℕ) (tag : ℕ) (t : Turn) (h : History) → IsOne ids → gives_last (with_dropped h ids) (Clear tag t no_draw) ≡ gives_last h (Clear tag t no_draw)
gives_same [] tag t h one = refl
gives_same (id ∷ []) tag t h one = gives_one id tag t h
gives_same (id ∷ other ∷ others) tag t h one = absurd one

pub dropped_one : (h : History) (o : Option ℕ) → IsOne (dropped_for h o)
dropped_one h None = tt
dropped_one h (Some id) = by_may (may_be_dropped h id)
  where
    by_may : (b : Bool) → IsOne (cond b (id ∷ []) [])
    by_may true = tt
    by_may false = tt

pub first_one : (h : History) → IsOne (first_of_held h)
first_one h = by_tests (held_of h == 4) (may_be_dropped h 1) (may_be_dropped h 2) (may_be_dropped h 3) (may_be_dropped h 4)
  where
    by_tests : (all a b c d : Bool) → IsOne (cond all (cond a (1 ∷ []) (cond b (2 ∷ []) (cond c (3 ∷ []) (cond d (4 ∷ []) [])))) [])
    by_tests false a b c d = tt
    by_tests true true b c d = tt
    by_tests true false true c d = tt
    by_tests true false false true d = tt
    by_tests true false false false true = tt
    by_tests true false false false false = tt

-- ---- An answer that is judged at some history and values.

module _ (r : RspSetup) (tag : ℕ) (m reply : List ℕ) where
  abbrev pub at : History → Free → Outcome
  at g f = on_clear r g tag m f no_draw

  -- It is given there, and something holds of the outcome.
  abbrev pub Shape : History → Free → (Outcome → Type 0) → Type 0
  Shape g f holds = LeadsAt r g tag (clear_body m) (at g f) f × holds (at g f) × (body_of (at g f) ≡ clear_body reply)

  answered : (g : History) (f : Free) (holds : Outcome → Type 0) → Shape g f holds → IsAnsweredAt r g tag m f reply
  answered g f holds s = record { allowed = s.0.0; short = s.0.1; body = s.2 }

  -- The kind of outcome tells it.
  pub decide : (g : History) (f : Free) (holds : Outcome → Type 0) (kind : Given) (result : Option Given)
      → (body_of (at g f) ≡ clear_body reply → given_of g (at g f) ≡ kind → holds (at g f)) → (body_of (at g f) ≡ clear_body reply → holds (at g f) → given_of g (at g f) ≡ kind)
      → IsGivenAt r g tag m f reply result → (result ≡ Some kind) ↔ Shape g f holds
  decide g f holds kind None to from given = (λ is. absurd (none-some kind is), λ s. absurd (given (answered g f holds s)))
  decide g f holds kind (Some x) to from given = (
    λ is. ((given.0.allowed, given.0.short, refl), to given.0.body (sym given.1 ∙ same_Some x kind is), given.0.body),
    λ s. ap Some (given.1 ∙ from s.2 s.1),
  )

  -- What it brings, where it is given.
  brings : (g : History) (f : Free) (x kind : Given) → IsGivenAt r g tag m f reply (Some x) → given_of g (at g f) ≡ kind → x ≡ kind
  brings g f x kind given is = given.1 ∙ is

  -- ---- A repeat, and any other message.

  abbrev pub entry : History → Free → Entry
  entry g f = Clear tag (turn_of r (clear_place g) m f) no_draw

  pub repeats_at : (g : History) (f : Free) → is_repeat (kept_of g) tag m ≡ true → at g f ≡ Same (clear_body (kept_reply (kept_of g)))
  unfolding on_clear
  repeats_at g f again = ap (λ (b : Bool). cond b (Same (clear_body (kept_reply (kept_of g)))) (Adds (entry g f))) again

  pub adds_at : (g : History) (f : Free) → is_repeat (kept_of g) tag m ≡ false → at g f ≡ Adds (entry g f)
  unfolding on_clear
  adds_at g f anew = ap (λ (b : Bool). cond b (Same (clear_body (kept_reply (kept_of g)))) (Adds (entry g f))) anew

  -- The values that the answer shows.
  abbrev pub shown : History → Free
  shown g = values_shown_by r g tag (clear_body m) (clear_body reply)

  pub shown_again : (g : History) → is_repeat (kept_of g) tag m ≡ true → shown g ≡ least_values g (clear_place g)
  unfolding values_shown_by
  shown_again g again = ap (values_for r g (clear_body m) (clear_body reply)) (repeats_at g (least_values g (clear_place g)) again)

  pub shown_anew : (g : History) → is_repeat (kept_of g) tag m ≡ false → shown g ≡ clear_values r g m reply
  unfolding values_shown_by
  shown_anew g anew = ap (values_for r g (clear_body m) (clear_body reply)) (adds_at g (least_values g (clear_place g)) anew)

  pub again_still : (h : History) (ids : List ℕ) (b : Bool) → is_repeat (kept_of h) tag m ≡ b → is_repeat (kept_of (with_dropped h ids)) tag m ≡ b
  again_still h ids b is = ap (λ o. is_repeat o tag m) (kept_same ids h) ∙ is

  -- ---- The statements of what is shown, in this form.

  abbrev pub plain_in : History → Outcome → Type 0
  plain_in h o = is_plain h o ≡ true

  abbrev pub whole_not : History → Outcome → Type 0
  whole_not h o = is_whole o ≡ false

  abbrev pub ends_in : History → Outcome → Type 0
  ends_in h o = ends_large h o ≡ true

  abbrev pub drops : History → List ℕ
  drops h = clear_drops h tag m reply

  pub answer_to : (h : History) → IsShownAnswer r h tag (clear_body m) (clear_body reply) → Shape (with_dropped h (drops h)) (shown (with_dropped h (drops h))) (plain_in h)
  unfolding drops_shown_by outcome_shown
  answer_to h s = s

  pub answer_from : (h : History) → Shape (with_dropped h (drops h)) (shown (with_dropped h (drops h))) (plain_in h) → IsShownAnswer r h tag (clear_body m) (clear_body reply)
  unfolding drops_shown_by outcome_shown
  answer_from h s = s

  pub large_to : (h : History) → IsShownLarge r h tag (clear_body m) (clear_body reply) → Shape (with_dropped h (first_of_held h)) (shown (with_dropped h (first_of_held h))) (whole_not h)
  unfolding large_shown
  large_to h s = s

  pub large_from : (h : History) → Shape (with_dropped h (first_of_held h)) (shown (with_dropped h (first_of_held h))) (whole_not h) → IsShownLarge r h tag (clear_body m) (clear_body reply)
  unfolding large_shown
  large_from h s = s

  pub last_to : (h : History) → EndsLarge r h tag (clear_body m) (clear_body reply) → Shape h (shown h) (ends_in h)
  unfolding last_shown
  last_to h s = s

  pub last_from : (h : History) → Shape h (shown h) (ends_in h) → EndsLarge r h tag (clear_body m) (clear_body reply)
  unfolding last_shown
  last_from h s = s

  -- ---- A repeat.

  module _ (h : History) (again : is_repeat (kept_of h) tag m ≡ true) where
    abbrev least : Free
    least = least_values h (clear_place h)

    whole_again : given_of h (at h least) ≡ kinds.Whole
    whole_again = ap (given_of h) (repeats_at h least again)

    no_drops : drops h ≡ []
    no_drops = ap (λ (b : Bool). cond b [] (dropped_for h (id_begun (response_of reply)))) again

    plain_again : Shape (with_dropped h (drops h)) (shown (with_dropped h (drops h))) (plain_in h) ↔ Shape h least (plain_in h)
    plain_again =
        let P : List ℕ → Type 0 = λ ids. Shape (with_dropped h ids) (shown (with_dropped h ids)) (plain_in h) in
        let Q : Free → Type 0 = λ f. Shape h f (plain_in h) in
        (λ s. subst Q (shown_again h again) (subst P no_drops s), λ s. subst P (sym no_drops) (subst Q (sym (shown_again h again)) s))

    pub never_large : (g : History) (f : Free) → is_repeat (kept_of g) tag m ≡ true → Shape g f (whole_not h) → ⊥
    never_large g f more s = false≢true (sym (subst (λ (o : Outcome). is_whole o ≡ false) (repeats_at g f more) s.1))

    never_last : (f : Free) → Shape h f (ends_in h) → ⊥
    never_last f s = false≢true (subst (λ (o : Outcome). ends_large h o ≡ true) (repeats_at h f again) s.1)

    is_whole_again : (result : Option Given) (kind : Given) → IsGivenAt r h tag m least reply result → result ≡ Some kind → kind ≡ kinds.Whole
    is_whole_again None kind given is = absurd (none-some kind is)
    is_whole_again (Some x) kind given is = sym (same_Some x kind is) ∙ brings h least x kinds.Whole given whole_again

    pub judged_again : (result : Option Given) → IsGivenAt r h tag m least reply result → IsGiven r h tag m reply result
    judged_again result given =
        let whole = decide h least (plain_in h) kinds.Whole result (λ body is. ap (is_plain h) (repeats_at h least again)) (λ body is. whole_again) given in
        record {
          whole = (λ is. answer_from h (plain_again.1 (whole.0 is)), λ s. whole.1 (plain_again.0 (answer_to h s)));
          large = (
            λ is. absurd (let e = is_whole_again result kinds.Large given is in cc),
            λ s. absurd (never_large (with_dropped h (first_of_held h)) _ (again_still h (first_of_held h) true again) (large_to h s)),
          );
          last = (λ is. absurd (let e = is_whole_again result kinds.Last given is in cc), λ s. absurd (never_last (shown h) (last_to h s)));
        }

    pub behind_again : (x : Given) → IsGivenAt r h tag m least reply (Some x) → history_given r h tag m reply x ≡ after h (at h least)
    unfolding drops_shown_by outcome_shown
    behind_again x given =
        ap (history_given r h tag m reply) (brings h least x kinds.Whole given whole_again)
        ∙ ap (λ (ids : List ℕ). after (with_dropped h ids) (at (with_dropped h ids) (shown (with_dropped h ids)))) no_drops
        ∙ ap (λ (f : Free). after h (at h f)) (shown_again h again)

-- After an answer that is given it is kept of the history that it leads to.
pub kept_behind : (K : History → Type 0) (to : Given → History) (g : History) (result : Option Given) → ((x : Given) → result ≡ Some x → to x ≡ g) → IfSome result (λ x. K g) → IfSome result (λ x. K (to x))
kept_behind K to g None is kept = tt
kept_behind K to g (Some x) is kept = subst K (sym (is x refl)) kept
