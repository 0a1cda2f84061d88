-- Whether the verify data of an answer to a clear message are alone wrong is judged by what it shows.
use Rattle.std.proofs.Common.{◌≡◌, ◌&&◌, ◌↔◌, ◌∙◌, ℕ, List, [], ◌∷◌, refl, sym, ap, subst, Bool, true, false, cond, arith}
use Rattle.std.proofs.lemmas.Bool.{false≢true}
use Rattle.std.specs.Prelude.{not}
use Rattle.responder_machine.specs.Answer.{Free}
use Rattle.responder_machine.specs.Handling.{turn_of}
use Rattle.responder_machine.specs.History.{History, kept_of}
use Rattle.responder_machine.specs.History.Entry.{Dropped}
use Rattle.responder_machine.specs.May.{with_dropped}
use Rattle.responder_machine.specs.Place.{clear_place, place_terms}
use Rattle.responder_machine.specs.Responder.{Outcome, body_of, is_repeat}
use Rattle.responder_machine.specs.Responder.Outcome.{Adds}
use Rattle.responder_machine.specs.Setup.{RspSetup}
use Rattle.responder_machine.specs.Turn.{Turn}
use Rattle.spdm_machine.specs.Bodies.{clear_body}
use Rattle.spdm_machine.specs.Terms.{hash_len}
use Rattle.check_responder.proofs.ApartLengths.{apart_at, apart_small, turn_over}
use Rattle.check_responder.proofs.ClearAsked.{answers_so}
use Rattle.check_responder.proofs.ClearJudged.{IsOne, adds_at, again_still, at, dropped_one, entry, first_one, gives_same, parts_whole, repeats_at, shown, shown_again, shown_anew, whole_parts}
use Rattle.check_responder.proofs.ShownDrops.{large_drops, small_drops}
use Rattle.check_responder.specs.JudgedResponder.{shows_large}
use Rattle.check_laws.specs.AnswersShown.{LeadsAt, clear_values, least_values}
use Rattle.check_laws.specs.ApartShown.{IsApartShown}
use Rattle.check_responder.specs.ClearAnswers.{IsApart, IsApartAt, IsJudgedAt, dropped_before, given_of}
use Rattle.check_laws.specs.DropsShown.{clear_drops, dropped_for, drops_shown_by, id_begun, outcome_shown, response_of}
use Rattle.check_responder.specs.ShownBy.{AnswersSo}
use Rattle.check_responder.specs.declared.given.Given.TheVariants as kinds
use Rattle.check_responder.specs.declared.given.Judged.{Judged}
use Rattle.check_responder.specs.declared.given.Judged.TheVariants as judged
use Rattle.capture_machine.specs.CapturedAnswers.{is_plain}
use Rattle.capture_machine.specs.Difference.{carries_exchange, is_apart}
use Rattle.capture_machine.specs.LargeAnswers.{is_large}
use Rattle.capture_machine.specs.Rounds.{Dialogue, Round}

-- A drop changes no hash.
same_hash : (ids : List ℕ) (h : History) → hash_len (place_terms (clear_place (with_dropped h ids))) ≡ hash_len (place_terms (clear_place h))
same_hash [] h = refl
same_hash (id ∷ ids) h = same_hash ids (Dropped id ∷ h)

module _ (r : RspSetup) (tag : ℕ) (m reply : List ℕ) (h : History) where
  abbrev gone : List ℕ → History
  gone ids = with_dropped h ids

  abbrev outcome : List ℕ → Free → Outcome
  outcome ids f = at r tag m reply (gone ids) f

  abbrev size : ℕ
  size = hash_len (place_terms (clear_place h))

  -- At these drops and values.
  abbrev Shape : List ℕ → Free → Type 0
  Shape ids f =
      LeadsAt r (gone ids) tag (clear_body m) (outcome ids f) f
      × (is_plain h (outcome ids f) ≡ true)
      × (carries_exchange (body_of (outcome ids f)) ≡ true)
      × (is_apart size (body_of (outcome ids f)) (clear_body reply) ≡ true)

  abbrev drops : List ℕ
  drops = clear_drops h tag m reply

  abbrev values_at : List ℕ → Free
  values_at ids = shown r tag m reply (gone ids)

  apart_to : IsApart r h tag (clear_body m) (clear_body reply) → Shape drops (values_at drops)
  unfolding drops_shown_by outcome_shown
  apart_to s = s

  apart_from : Shape drops (values_at drops) → IsApart r h tag (clear_body m) (clear_body reply)
  unfolding drops_shown_by outcome_shown
  apart_from s = s

  -- It is so as the program tests it.
  tested : (ids : List ℕ) (f : Free) → (is_plain h (outcome ids f) ≡ true → given_of (gone ids) (outcome ids f) ≡ kinds.Whole) → Shape ids f → IsApartAt r (gone ids) tag m f reply
  tested ids f whole s = record {
    allowed = s.0.0;
    short = s.0.1;
    whole = whole s.1;
    carries = s.2;
    apart = ap (λ (n : ℕ). is_apart n (body_of (outcome ids f)) (clear_body reply)) (same_hash ids h) ∙ s.3;
  }

  shaped : (ids : List ℕ) (f : Free) → (given_of (gone ids) (outcome ids f) ≡ kinds.Whole → is_plain h (outcome ids f) ≡ true) → IsApartAt r (gone ids) tag m f reply → Shape ids f
  shaped ids f plain a =
      ((a.allowed, a.short, refl), plain a.whole, a.carries, sym (ap (λ (n : ℕ). is_apart n (body_of (outcome ids f)) (clear_body reply)) (same_hash ids h)) ∙ a.apart)

  -- ---- A repeat.

  module _ (again : is_repeat (kept_of h) tag m ≡ true) where
    abbrev least : Free
    least = least_values h (clear_place h)

    no_drops : drops ≡ []
    no_drops = ap (λ (b : Bool). cond b [] (dropped_for h (id_begun (response_of reply)))) again

    same_values : values_at [] ≡ least
    same_values = shown_again r tag m reply h again

    pub apart_again : (result : Judged) → (result ≡ judged.Apart) ↔ IsApartAt r h tag m least reply → (result ≡ judged.Apart) ↔ IsApart r h tag (clear_body m) (clear_body reply)
    apart_again result told =
        let P : List ℕ → Type 0 = λ ids. Shape ids (values_at ids) in
        let Q : Free → Type 0 = λ f. Shape [] f in
        let is = repeats_at r tag m reply h least again in (
          λ e. apart_from (subst P (sym no_drops) (subst Q (sym same_values) (shaped [] least (λ w. ap (is_plain h) is) (told.0 e)))),
          λ s. told.1 (tested [] least (λ p. ap (given_of h) is) (subst Q same_values (subst P no_drops (apart_to s)))),
        )

  -- ---- Any other message.

  module _ (anew : is_repeat (kept_of h) tag m ≡ false) where
    abbrev values : List ℕ → Free
    values ids = clear_values r (gone ids) m reply

    same_shown : (ids : List ℕ) → values_at ids ≡ values ids
    same_shown ids = shown_anew r tag m reply (gone ids) (again_still r tag m reply h ids false anew)

    adds : (ids : List ℕ) (f : Free) → outcome ids f ≡ Adds (entry r tag m reply (gone ids) f)
    adds ids f = adds_at r tag m reply (gone ids) f (again_still r tag m reply h ids false anew)

    drops_are : drops ≡ dropped_for h (id_begun (response_of reply))
    drops_are = ap (λ (b : Bool). cond b [] (dropped_for h (id_begun (response_of reply)))) anew

    whole_of : (ids : List ℕ) (f : Free) → IsOne ids → is_plain h (outcome ids f) ≡ true → given_of (gone ids) (outcome ids f) ≡ kinds.Whole
    whole_of ids f one plain =
        ap (given_of (gone ids)) (adds ids f)
        ∙ whole_parts _ _ (ap (λ (b : Bool). not (is_large (entry r tag m reply (gone ids) f)) && not b) (gives_same ids tag (turn_of r (clear_place (gone ids)) m f) h one) ∙ sym (ap (is_plain h) (adds ids f)) ∙ plain)

    plain_of : (ids : List ℕ) (f : Free) → IsOne ids → given_of (gone ids) (outcome ids f) ≡ kinds.Whole → is_plain h (outcome ids f) ≡ true
    plain_of ids f one whole =
        ap (is_plain h) (adds ids f) ∙ ap (λ (b : Bool). not (is_large (entry r tag m reply (gone ids) f)) && not b) (sym (gives_same ids tag (turn_of r (clear_place (gone ids)) m f) h one))
        ∙ parts_whole _ _ (sym (ap (given_of (gone ids)) (adds ids f)) ∙ whole)

    -- Where the answer is no LargeResponse.
    apart_other : (ids : List ℕ) → ids ≡ drops → IsOne ids → (result : Judged) → (result ≡ judged.Apart) ↔ IsApartAt r (gone ids) tag m (values ids) reply → (result ≡ judged.Apart) ↔ IsApart r h tag (clear_body m) (clear_body reply)
    apart_other ids are one result told =
        let P : List ℕ → Type 0 = λ l. Shape l (values_at l) in
        let Q : Free → Type 0 = λ f. Shape ids f in (
          λ e. apart_from (subst P are (subst Q (sym (same_shown ids)) (shaped ids (values ids) (plain_of ids (values ids) one) (told.0 e)))),
          λ s. told.1 (tested ids (values ids) (whole_of ids (values ids) one) (subst Q (same_shown ids) (subst P (sym are) (apart_to s)))),
        )

    -- LargeResponse is apart from none.
    none_apart : (ids : List ℕ) (f : Free) → shows_large (response_of reply) ≡ true → Shape ids f → ⊥
    none_apart ids f large s =
        let t : Turn = turn_of r (clear_place (gone ids)) m f in
        let body : body_of (outcome ids f) ≡ clear_body t.reply = ap body_of (adds ids f) in
        let carries : carries_exchange (clear_body t.reply) ≡ true = sym (ap carries_exchange body) ∙ s.2 in
        let apart : is_apart (hash_len (place_terms (clear_place (gone ids)))) (clear_body t.reply) (clear_body reply) ≡ true =
        ap (λ (n : ℕ). is_apart n (clear_body t.reply) (clear_body reply)) (same_hash ids h) ∙ sym (ap (λ (l : List ℕ). is_apart size l (clear_body reply)) body) ∙ s.3 in
        false≢true (sym (apart_small (clear_place (gone ids)) t.reply reply (turn_over r (clear_place (gone ids)) m f s.0.0.context) carries apart) ∙ large)

    pub apart_anew : (result : Judged) → let ids = dropped_before h reply in (result ≡ judged.Apart) ↔ IsApartAt r (gone ids) tag m (values ids) reply → (result ≡ judged.Apart) ↔ IsApart r h tag (clear_body m) (clear_body reply)
    apart_anew result = by_large (shows_large (response_of reply)) refl
      where
        ids : List ℕ
        ids = dropped_before h reply

        by_large : (b : Bool) → shows_large (response_of reply) ≡ b → (result ≡ judged.Apart) ↔ IsApartAt r (gone ids) tag m (values ids) reply → (result ≡ judged.Apart) ↔ IsApart r h tag (clear_body m) (clear_body reply)
        by_large false small told =
            apart_other ids (small_drops h reply small ∙ sym drops_are) (subst IsOne (sym (small_drops h reply small)) (dropped_one h (id_begun (response_of reply)))) result told
        by_large true large told = (
          λ e. absurd (none_apart ids (values ids) large (shaped ids (values ids) (plain_of ids (values ids) (subst IsOne (sym (large_drops h reply large)) (first_one h))) (told.0 e))),
          λ s. absurd (none_apart drops (values_at drops) large (apart_to s)),
        )

-- ---- Values that no answer has.

-- An answer that is apart from one has its code.
apart_so : (r : RspSetup) (h : History) (tag : ℕ) (m : List ℕ) (f : Free) (reply : List ℕ) → is_repeat (kept_of h) tag m ≡ false → IsApartAt r h tag m f reply → AnswersSo r h m reply f
apart_so r h tag m f reply anew a =
    let t : Turn = turn_of r (clear_place h) m f in
    let body : body_of (at r tag m reply h f) ≡ clear_body t.reply = ap body_of (adds_at r tag m reply h f anew) in
    let size : ℕ = hash_len (place_terms (clear_place h)) in
    let carries : carries_exchange (clear_body t.reply) ≡ true = sym (ap carries_exchange body) ∙ a.carries in
    let apart : is_apart size (clear_body t.reply) (clear_body reply) ≡ true = sym (ap (λ (l : List ℕ). is_apart size l (clear_body reply)) body) ∙ a.apart in
    let more = turn_over r (clear_place h) m f a.allowed.context carries in
    record { allowed = a.allowed; short = a.short; answered = apart_at size 2 (clear_body t.reply) (clear_body reply) (omega (arith, more)) apart }

pub none_judged : (r : RspSetup) (h : History) (tag : ℕ) (m : List ℕ) (f : Free) (reply : List ℕ) → is_repeat (kept_of h) tag m ≡ false → (AnswersSo r h m reply f → ⊥) → IsJudgedAt r h tag m f reply judged.Refused
none_judged r h tag m f reply anew never =
    (λ a. never (answers_so r h m tag f reply anew a), (λ e. absurd (let same = e in cc), λ a. absurd (never (apart_so r h tag m f reply anew a))))

-- It is what the laws say.
pub apart_is : (r : RspSetup) (d : Dialogue) (round : Round) (answer : List ℕ) → IsApartShown r d round answer ↔ IsApart r d.responder round.tag round.body answer
apart_is r d round answer = (λ s. s, λ s. s)
