-- An answer to a clear message that is no repeat is judged by what it shows.
use Rattle.std.proofs.Common.{◌≡◌, ◌==◌, ◌&&◌, ◌↔◌, ◌∙◌, ℕ, List, [], refl, sym, ap, subst, drop, Bool, true, false, Option, Some, None, cond, eqb-true}
use Rattle.std.proofs.lemmas.Bool.{false≢true, not-true}
use Rattle.std.specs.Prelude.{not}
use Rattle.responder_machine.specs.Answer.{Free}
use Rattle.responder_machine.specs.Handling.{turn_of}
use Rattle.responder_machine.specs.History.{Entry, History, kept_of}
use Rattle.responder_machine.specs.May.{with_dropped}
use Rattle.responder_machine.specs.Place.{clear_place}
use Rattle.responder_machine.specs.Responder.{Outcome, after, body_of, is_repeat}
use Rattle.responder_machine.specs.Responder.Outcome.{Adds}
use Rattle.responder_machine.specs.Setup.{RspSetup}
use Rattle.responder_machine.specs.Turn.{Turn, answer_in, code_in, takes}
use Rattle.spdm_basis.proofs.Bools.{and_first}
use Rattle.spdm_grammar.specs.declared.names.request_code.TheConstants.{CHUNK_GET, PSK_EXCHANGE}
use Rattle.spdm_machine.specs.Bodies.{clear_body}
use Rattle.spdm_machine.specs.Sessions.{id_in_exchange}
use Rattle.check_laws.proofs.DropsShown.{turn_begins}
use Rattle.check_responder.proofs.LargeReplies.{turn_tells}
use Rattle.check_responder.proofs.ShownDrops.{large_drops, small_drops}
use Rattle.check_responder.specs.JudgedResponder.{shows_large}
use Rattle.check_laws.specs.AnswersShown.{clear_values, is_whole}
use Rattle.check_responder.specs.ClearAnswers.{EndsLarge, IsGivenAt, IsGiven, dropped_before, first_of_held, given_of, history_given}
use Rattle.check_laws.specs.DropsShown.{IsShownAnswer, clear_drops, dropped_for, drops_shown_by, id_begun, outcome_shown, response_of}
use Rattle.check_laws.specs.LargeShown.{IsShownLarge, ends_large, large_shown, last_shown}
use Rattle.check_responder.specs.declared.given.Given.{Given}
use Rattle.check_responder.specs.declared.given.Given.TheVariants as kinds
use Rattle.capture_machine.proofs.SmallGets.{turn_of_whole}
use Rattle.capture_machine.specs.CapturedAnswers.{is_plain}
use Rattle.capture_machine.specs.LargeAnswers.{gives_last, is_large}
use Rattle.check_responder.proofs.ClearJudged as judging
use Rattle.check_responder.proofs.ClearJudged.{IsOne, adds_at, again_still, answer_from, answer_to, by_parts, decide, dropped_one, gives_same, large_from, large_to, last_from, last_to, parts_large, parts_last, parts_whole, shown_anew, whole_parts}

module _ (r : RspSetup) (tag : ℕ) (m reply : List ℕ) where
  abbrev at : History → Free → Outcome
  at g f = judging.at r tag m reply g f

  abbrev entry : History → Free → Entry
  entry g f = judging.entry r tag m reply g f

  abbrev shown : History → Free
  shown g = judging.shown r tag m reply g

  abbrev Shape : History → Free → (Outcome → Type 0) → Type 0
  Shape g f holds = judging.Shape r tag m reply g f holds

  abbrev plain_in : History → Outcome → Type 0
  plain_in h o = is_plain h o ≡ true

  abbrev whole_not : History → Outcome → Type 0
  whole_not h o = is_whole o ≡ false

  abbrev ends_in : History → Outcome → Type 0
  ends_in h o = ends_large h o ≡ true

  abbrev drops : History → List ℕ
  drops h = clear_drops h tag m reply

  module _ (h : History) (anew : is_repeat (kept_of h) tag m ≡ false) where
    abbrev turn : History → Free → Turn
    turn g f = turn_of r (clear_place g) m f

    -- The history after these drops, and the values that the answer shows there.
    abbrev gone : List ℕ → History
    gone ids = with_dropped h ids

    abbrev values : History → Free
    values g = clear_values r g m reply

    adds : (ids : List ℕ) (f : Free) → at (gone ids) f ≡ Adds (entry (gone ids) f)
    adds ids f = adds_at r tag m reply (gone ids) f (again_still r tag m reply h ids false anew)

    values_are : (ids : List ℕ) → shown (gone ids) ≡ values (gone ids)
    values_are ids = shown_anew r tag m reply (gone ids) (again_still r tag m reply h ids false anew)

    reply_is : (ids : List ℕ) (f : Free) → body_of (at (gone ids) f) ≡ clear_body reply → (turn (gone ids) f).reply ≡ reply
    reply_is ids f body = ap (drop 1) (ap body_of (sym (adds ids f)) ∙ body)

    -- The reply tells whether it is LargeResponse.
    large_is : (ids : List ℕ) (f : Free) → body_of (at (gone ids) f) ≡ clear_body reply → is_large (entry (gone ids) f) ≡ shows_large (response_of reply)
    large_is ids f body = sym (turn_tells r (clear_place (gone ids)) m f) ∙ ap (λ (l : List ℕ). shows_large (response_of l)) (reply_is ids f body)

    -- A chunk of a large response begins no session.
    none_begun : (ids : List ℕ) (f : Free) → body_of (at (gone ids) f) ≡ clear_body reply → takes CHUNK_GET (turn (gone ids) f) ≡ true → id_begun (response_of reply) ≡ None
    none_begun ids f body gets =
        let t : Turn = turn (gone ids) f in
        let code : code_in t.effect ≡ CHUNK_GET = eqb-true (code_in t.effect) CHUNK_GET gets in
        let small = turn_of_whole r (clear_place (gone ids)) m f refl gets in
        ap (λ (l : List ℕ). id_begun (response_of l)) (sym (reply_is ids f body)) ∙ turn_begins r (clear_place (gone ids)) m f small
        ∙ ap (λ (n : ℕ). cond (n == PSK_EXCHANGE) (Some (id_in_exchange (answer_in t.effect))) None) code

    parts_of : (ids : List ℕ) (f : Free) → given_of (gone ids) (at (gone ids) f) ≡ by_parts (is_large (entry (gone ids) f)) (gives_last (gone ids) (entry (gone ids) f))
    parts_of ids f = ap (given_of (gone ids)) (adds ids f)

    plain_parts : (ids : List ℕ) (f : Free) → is_plain h (at (gone ids) f) ≡ (not (is_large (entry (gone ids) f)) && not (gives_last h (entry (gone ids) f)))
    plain_parts ids f = ap (is_plain h) (adds ids f)

    whole_parts_of : (ids : List ℕ) (f : Free) → is_whole (at (gone ids) f) ≡ not (is_large (entry (gone ids) f))
    whole_parts_of ids f = ap is_whole (adds ids f)

    ends_parts : (ids : List ℕ) (f : Free) → ends_large h (at (gone ids) f) ≡ gives_last h (entry (gone ids) f)
    ends_parts ids f = ap (ends_large h) (adds ids f)

    last_same : (ids : List ℕ) (f : Free) → IsOne ids → gives_last (gone ids) (entry (gone ids) f) ≡ gives_last h (entry (gone ids) f)
    last_same ids f one = gives_same ids tag (turn (gone ids) f) h one

    not_true : (b : Bool) → not b ≡ false → b ≡ true
    not_true true is = refl
    not_true false is = absurd (false≢true (sym is))

    -- Where it is no LargeResponse.
    module _ (small : shows_large (response_of reply) ≡ false) where
      abbrev ids : List ℕ
      ids = dropped_for h (id_begun (response_of reply))

      abbrev f : Free
      f = values (gone ids)

      one : IsOne ids
      one = dropped_one h (id_begun (response_of reply))

      drops_are : drops h ≡ ids
      drops_are = ap (λ (b : Bool). cond b [] ids) anew

      no_large : (others : List ℕ) (k : Free) → body_of (at (gone others) k) ≡ clear_body reply → is_large (entry (gone others) k) ≡ true → ⊥
      no_large others k body large = false≢true (sym small ∙ sym (large_is others k body) ∙ large)

      whole_small : (result : Option Given) → IsGivenAt r (gone ids) tag m f reply result → (result ≡ Some kinds.Whole) ↔ IsShownAnswer r h tag (clear_body m) (clear_body reply)
      whole_small result given =
          let both = decide r tag m reply (gone ids) f (plain_in h) kinds.Whole result
          (λ body is. plain_parts ids f ∙ ap (λ (b : Bool). not (is_large (entry (gone ids) f)) && not b) (sym (last_same ids f one)) ∙ parts_whole _ _ (sym (parts_of ids f) ∙ is))
          (λ body is. parts_of ids f ∙ whole_parts _ _ (ap (λ (b : Bool). not (is_large (entry (gone ids) f)) && not b) (last_same ids f one) ∙ sym (plain_parts ids f) ∙ is)) given in
          let P : List ℕ → Type 0 = λ l. Shape (gone l) (shown (gone l)) (plain_in h) in
          let Q : Free → Type 0 = λ k. Shape (gone ids) k (plain_in h) in
          (λ is. answer_from r tag m reply h (subst P (sym drops_are) (subst Q (sym (values_are ids)) (both.0 is))), λ s. both.1 (subst Q (values_are ids) (subst P drops_are (answer_to r tag m reply h s))))

      pub large_never : IsShownLarge r h tag (clear_body m) (clear_body reply) → ⊥
      large_never s =
          let l = large_to r tag m reply h s in
          no_large (first_of_held h) (shown (gone (first_of_held h))) l.2 (not_true _ (sym (whole_parts_of (first_of_held h) (shown (gone (first_of_held h)))) ∙ l.1))

      large_small : (result : Option Given) → IsGivenAt r (gone ids) tag m f reply result → (result ≡ Some kinds.Large) ↔ IsShownLarge r h tag (clear_body m) (clear_body reply)
      large_small result given =
          let both = decide r tag m reply (gone ids) f (λ o. ⊥) kinds.Large result (λ body is. no_large ids f body (parts_large _ _ (sym (parts_of ids f) ∙ is))) (λ body none. absurd none) given in
          (λ is. absurd (both.0 is).1, λ s. absurd (large_never s))

      -- A last chunk shows no drop.
      none_dropped : (others : List ℕ) (k : Free) → body_of (at (gone others) k) ≡ clear_body reply → gives_last h (entry (gone others) k) ≡ true → ids ≡ []
      none_dropped others k body last = ap (dropped_for h) (none_begun others k body (and_first _ _ last))

      last_small : (result : Option Given) → IsGivenAt r (gone ids) tag m f reply result → (result ≡ Some kinds.Last) ↔ EndsLarge r h tag (clear_body m) (clear_body reply)
      last_small result given =
          let both = decide r tag m reply (gone ids) f (ends_in h) kinds.Last result
          (λ body is. ends_parts ids f ∙ sym (last_same ids f one) ∙ (parts_last _ _ (sym (parts_of ids f) ∙ is)).1)
          (λ body is. parts_of ids f ∙ last_parts (is_large (entry (gone ids) f)) _ (λ large. no_large ids f body large) (last_same ids f one ∙ sym (ends_parts ids f) ∙ is)) given in
          let P : List ℕ → Type 0 = λ l. Shape (gone l) (values (gone l)) (ends_in h) in
          let Q : Free → Type 0 = λ k. Shape h k (ends_in h) in (
            λ is. let s = both.0 is in last_from r tag m reply h (subst Q (sym (values_are [])) (subst P (none_dropped ids f s.2 (sym (ends_parts ids f) ∙ s.1)) s)),
            λ e. let s = last_to r tag m reply h e in both.1 (subst P (sym (none_dropped [] (shown h) s.2 (sym (ends_parts [] (shown h)) ∙ s.1))) (subst Q (values_are []) s)),
          )
        where
          last_parts : (large last : Bool) → (large ≡ true → ⊥) → last ≡ true → by_parts large last ≡ kinds.Last
          last_parts true last not_large is = absurd (not_large refl)
          last_parts false true not_large is = refl
          last_parts false false not_large is = absurd (false≢true is)

      pub judged_small : (result : Option Given) → IsGivenAt r (gone ids) tag m f reply result → IsGiven r h tag m reply result
      judged_small result given = record { whole = whole_small result given; large = large_small result given; last = last_small result given }

      pub behind_small : (x : Given) → IsGivenAt r (gone ids) tag m f reply (Some x) → history_given r h tag m reply x ≡ after (gone ids) (at (gone ids) f)
      unfolding drops_shown_by outcome_shown last_shown
      behind_small kinds.Whole g =
          ap (λ (l : List ℕ). after (gone l) (at (gone l) (shown (gone l)))) drops_are ∙ ap (λ (k : Free). after (gone ids) (at (gone ids) k)) (values_are ids)
      behind_small kinds.Large g = absurd (no_large ids f g.0.body (parts_large _ _ (sym (parts_of ids f) ∙ sym g.1)))
      behind_small kinds.Last g =
          let last = (parts_last _ _ (sym (parts_of ids f) ∙ sym g.1)).1 in
          let none = none_dropped ids f g.0.body (sym (last_same ids f one) ∙ last) in
          ap (λ (k : Free). after h (at h k)) (values_are []) ∙ sym (ap (λ (l : List ℕ). after (gone l) (at (gone l) (values (gone l)))) none)

    -- Where it is.
    module _ (large : shows_large (response_of reply) ≡ true) where
      abbrev first : List ℕ
      first = first_of_held h

      abbrev v : Free
      v = values (gone first)

      is_shown : (others : List ℕ) (k : Free) → body_of (at (gone others) k) ≡ clear_body reply → is_large (entry (gone others) k) ≡ true
      is_shown others k body = large_is others k body ∙ large

      no_whole : (others : List ℕ) (k : Free) → body_of (at (gone others) k) ≡ clear_body reply → is_large (entry (gone others) k) ≡ false → ⊥
      no_whole others k body none = false≢true (sym none ∙ is_shown others k body)

      whole_large : (result : Option Given) → IsGivenAt r (gone first) tag m v reply result → (result ≡ Some kinds.Whole) ↔ IsShownAnswer r h tag (clear_body m) (clear_body reply)
      whole_large result given =
          let both = decide r tag m reply (gone first) v (λ o. ⊥) kinds.Whole result (λ body is. no_whole first v body (not-true _ (and_first _ _ (parts_whole _ _ (sym (parts_of first v) ∙ is))))) (λ body none. absurd none) given in (
            λ is. absurd (both.0 is).1,
            λ s. let a = answer_to r tag m reply h s in absurd (no_whole (drops h) (shown (gone (drops h))) a.2 (not-true _ (and_first _ _ (sym (plain_parts (drops h) (shown (gone (drops h)))) ∙ a.1)))),
          )

      large_large : (result : Option Given) → IsGivenAt r (gone first) tag m v reply result → (result ≡ Some kinds.Large) ↔ IsShownLarge r h tag (clear_body m) (clear_body reply)
      large_large result given =
          let both = decide r tag m reply (gone first) v (whole_not h) kinds.Large result
          (λ body is. whole_parts_of first v ∙ ap not (is_shown first v body))
          (λ body is. parts_of first v ∙ ap (λ (b : Bool). by_parts b (gives_last (gone first) (entry (gone first) v))) (is_shown first v body)) given in
          let Q : Free → Type 0 = λ k. Shape (gone first) k (whole_not h) in
          (λ is. large_from r tag m reply h (subst Q (sym (values_are first)) (both.0 is)), λ s. both.1 (subst Q (values_are first) (large_to r tag m reply h s)))

      last_large : (result : Option Given) → IsGivenAt r (gone first) tag m v reply result → (result ≡ Some kinds.Last) ↔ EndsLarge r h tag (clear_body m) (clear_body reply)
      last_large result given =
          let both = decide r tag m reply (gone first) v (λ o. ⊥) kinds.Last result (λ body is. no_whole first v body (parts_last _ _ (sym (parts_of first v) ∙ is)).0) (λ body none. absurd none) given in (
            λ is. absurd (both.0 is).1,
            λ e. let s = last_to r tag m reply h e in
                absurd (no_whole [] (shown h) s.2 (turn_of_whole r (clear_place h) m (shown h) refl (and_first _ _ (sym (ends_parts [] (shown h)) ∙ s.1)))),
          )

      pub judged_large : (result : Option Given) → IsGivenAt r (gone first) tag m v reply result → IsGiven r h tag m reply result
      judged_large result given = record { whole = whole_large result given; large = large_large result given; last = last_large result given }

      pub behind_large : (x : Given) → IsGivenAt r (gone first) tag m v reply (Some x) → history_given r h tag m reply x ≡ after (gone first) (at (gone first) v)
      unfolding large_shown
      behind_large kinds.Whole g = absurd (no_whole first v g.0.body (not-true _ (and_first _ _ (parts_whole _ _ (sym (parts_of first v) ∙ sym g.1)))))
      behind_large kinds.Large g = ap (λ (k : Free). after (gone first) (at (gone first) k)) (values_are first)
      behind_large kinds.Last g = absurd (no_whole first v g.0.body (parts_last _ _ (sym (parts_of first v) ∙ sym g.1)).0)

    -- By the drops that the program tells.
    abbrev told_gone : History
    told_gone = with_dropped h (dropped_before h reply)

    abbrev GivenThere : Option Given → Type 0
    GivenThere result = IsGivenAt r told_gone tag m (values told_gone) reply result

    pub judged_anew : (result : Option Given) → GivenThere result → IsGiven r h tag m reply result
    judged_anew result = by_large (shows_large (response_of reply)) refl
      where
        P : List ℕ → Type 0
        P ids = IsGivenAt r (gone ids) tag m (values (gone ids)) reply result

        by_large : (b : Bool) → shows_large (response_of reply) ≡ b → GivenThere result → IsGiven r h tag m reply result
        by_large true large there = judged_large large result (subst P (large_drops h reply large) there)
        by_large false small there = judged_small small result (subst P (small_drops h reply small) there)

    pub behind_anew : (x : Given) → GivenThere (Some x) → history_given r h tag m reply x ≡ after told_gone (at told_gone (values told_gone))
    behind_anew x = by_large (shows_large (response_of reply)) refl
      where
        P : List ℕ → Type 0
        P ids = IsGivenAt r (gone ids) tag m (values (gone ids)) reply (Some x)

        Q : List ℕ → Type 0
        Q ids = history_given r h tag m reply x ≡ after (gone ids) (at (gone ids) (values (gone ids)))

        by_large : (b : Bool) → shows_large (response_of reply) ≡ b → GivenThere (Some x) → history_given r h tag m reply x ≡ after told_gone (at told_gone (values told_gone))
        by_large true large there = subst Q (sym (large_drops h reply large)) (behind_large large x (subst P (large_drops h reply large) there))
        by_large false small there = subst Q (sym (small_drops h reply small)) (behind_small small x (subst P (small_drops h reply small) there))
