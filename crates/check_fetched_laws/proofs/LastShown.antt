-- Whether an answer is the last chunk of a large one is determined by what both show.
use Rattle.std.proofs.Common.{◌≡◌, ◌<◌, ℕ, List, ◌∷◌, refl, sym, ap, ◌∙◌, subst, true, Option}
use Rattle.std.proofs.lemmas.Bool.{false≢true}
use Rattle.std.proofs.lemmas.Option.{same_Some}
use Rattle.std.specs.Prelude.{not}
use Rattle.responder_machine.specs.History.{Entry, History}
use Rattle.responder_machine.specs.Responder.{Outcome, after, body_of, sent_by}
use Rattle.responder_machine.specs.Responder.Outcome.{Same, Unopened, Adds}
use Rattle.responder_machine.specs.Setup.{RspSetup}
use Rattle.spdm_basis.proofs.Bools.{and_first}
use Rattle.check_laws.proofs.BodyShown.{answers_are_shown}
use Rattle.check_laws.specs.AnswersShown.{LeadsAt, values_shown_by}
use Rattle.check_laws.specs.LargeShown.{ends_large, last_shown}
use Rattle.check_fetched_laws.proofs.WholeDrops.{led_from, shown_from}
use Rattle.check_fetched_laws.specs.LastShown.{IsShownLast, LastIsShown, completed, drops_of_whole}
use Rattle.capture_machine.proofs.SmallGets.{gets_are_small}
use Rattle.capture_machine.specs.CapturedAnswers.{Completes, MayHaveLed, MayLeadTo}
use Rattle.capture_machine.specs.LargeAnswers.{begun_with, dropped_before_large, gives_last, is_untouched, judging, place_named, with_large}

-- ---- The chunk.

module _ (r : RspSetup) (g : History) (tag : ℕ) (body : List ℕ) (byte : r.beat < 256) where
  -- What the values that the answer shows lead to.
  pub last_is : (e : Entry) (answer : List ℕ) → MayLeadTo r g tag body (Adds e) → gives_last g e ≡ true → sent_by e ≡ answer
      → LeadsAt r g tag body (Adds e) (values_shown_by r g tag body answer) × (last_shown r g tag body answer ≡ Adds e)
  unfolding last_shown
  last_is e answer may last sent =
      let small = gets_are_small r g tag body e may (and_first _ _ last) in
      let leads = (answers_are_shown r g tag body (Adds e) byte (ap not small)).0 may in
      let P : List ℕ → Type 0 = λ l. LeadsAt r g tag body (Adds e) (values_shown_by r g tag body l) in
      let at = subst P sent leads in (at, at.2)

  pub last_back : (o : Outcome) (answer : List ℕ) → LeadsAt r g tag body o (values_shown_by r g tag body answer) → ends_large g o ≡ true → body_of o ≡ answer
      → (e : Entry) × (o ≡ Adds e) × MayLeadTo r g tag body (Adds e) × (gives_last g e ≡ true) × (sent_by e ≡ answer)
  unfolding MayLeadTo
  last_back (Same b) answer leads last is = absurd (false≢true last)
  last_back (Unopened b) answer leads last is = absurd (false≢true last)
  last_back (Adds e) answer leads last is = (e, refl, (values_shown_by r g tag body answer, leads.0, leads.1, leads.2), last, is)

pub last_is_shown : LastIsShown
last_is_shown r d round answer whole next byte fetching = (shown_from_last, last_from_shown)
  where
    h : History
    h = d.responder

    place : Option ℕ
    place = place_named round.body

    g : History
    g = with_large (place_named round.body) whole d.responder

    drops : List ℕ
    drops = drops_of_whole (place_named round.body) whole d.responder

    last : Outcome
    last = last_shown r g round.tag round.body answer

    judged : judging d.fetching round.body d.responder ≡ g
    judged = ap (λ (o : Option (List ℕ)). judging o round.body d.responder) fetching

    -- The history after it, by what it leads to.
    behind : Outcome → History
    behind o = after (with_large place whole (dropped_before_large place drops h)) o

    shown_from_last : Completes r d round answer next → IsShownLast r d.responder round answer whole × (next ≡ completed r d.responder round answer whole)
    shown_from_last c =
        let same : c.0 ≡ whole = same_Some c.0 whole (sym c.3 ∙ fetching) in
        let may = subst (λ (l : History). MayLeadTo r l round.tag round.body (Adds c.2)) judged c.4 in
        let gives = subst (λ (l : History). gives_last l c.2 ≡ true) judged c.5 in
        let it = last_is r g round.tag round.body byte c.2 answer may gives c.7 in
        let led = shown_from r place whole c.1 byte h (subst (λ (l : List ℕ). MayHaveLed r place l c.1 h) same c.6) in (
          record {
            leads = subst (λ (o : Outcome). LeadsAt r g round.tag round.body o (values_shown_by r g round.tag round.body answer)) (sym it.1) it.0;
            last = subst (λ (o : Outcome). ends_large g o ≡ true) (sym it.1) gives;
            body = ap body_of it.1 ∙ c.7;
            led = led.1;
            untouched = subst (λ (l : List ℕ). is_untouched place (begun_with place l h) h ≡ true) same c.9;
          },
          c.8 ∙ ap (λ (l : List ℕ). c.2 ∷ with_large place l (dropped_before_large place c.1 h)) same
              ∙ ap (λ (l : List ℕ). c.2 ∷ with_large place whole (dropped_before_large place l h)) led.0 ∙ sym (ap behind it.1),
        )

    last_from_shown : IsShownLast r d.responder round answer whole × (next ≡ completed r d.responder round answer whole) → Completes r d round answer next
    last_from_shown shown =
        let s = shown.0 in
        let back = last_back r g round.tag round.body byte last answer s.leads s.last s.body in (
          whole,
          drops,
          back.0,
          fetching,
          subst (λ (l : History). MayLeadTo r l round.tag round.body (Adds back.0)) (sym judged) back.2,
          subst (λ (l : History). gives_last l back.0 ≡ true) (sym judged) back.3,
          led_from r place whole drops byte h (refl, s.led),
          back.4,
          shown.1 ∙ ap behind back.1,
          s.untouched,
        )
