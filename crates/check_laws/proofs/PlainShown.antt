-- What an answer that goes whole leads to is a function of what it shows.
use Rattle.std.proofs.Common.{◌≡◌, ◌<◌, ◌==◌, ℕ, List, refl, sym, ap, ◌∙◌, subst, true}
use Rattle.std.specs.Prelude.{slice_index}
use Rattle.responder_machine.specs.Answer.{Free}
use Rattle.responder_machine.specs.History.{History}
use Rattle.responder_machine.specs.May.{on_body, place_for, with_dropped}
use Rattle.responder_machine.specs.Responder.{Outcome, after, body_of}
use Rattle.responder_machine.specs.Responder.Outcome.{Same, Unopened, Adds}
use Rattle.responder_machine.specs.Setup.{RspSetup}
use Rattle.spdm_basis.proofs.Bools.{and_first}
use Rattle.check_laws.proofs.BodyShown.{answers_are_shown}
use Rattle.check_laws.proofs.DropsShown.{drops_are, drops_back}
use Rattle.check_laws.specs.AnswersShown.{LeadsAt, is_whole, values_shown_by}
use Rattle.check_laws.specs.DropsShown.{IsShownAnswer, PlainIsShown, drops_shown_by, outcome_shown}
use Rattle.capture_machine.specs.CapturedAnswers.{AnswersPlainly, AreShown, MayLeadAfter, MayLeadTo, is_plain}
use Rattle.capture_machine.specs.LargeAnswers.{judging}
use Rattle.capture_machine.specs.Rounds.{no_draw}

pub plain_whole : (h : History) (o : Outcome) → is_plain h o ≡ true → is_whole o ≡ true
plain_whole h (Same b) plain = refl
plain_whole h (Unopened b) plain = refl
plain_whole h (Adds e) plain = and_first _ _ plain

-- An outcome at the drops and values that its body shows is the one that is shown.
outcome_is : (r : RspSetup) (h : History) (tag : ℕ) (body : List ℕ) (ids : List ℕ) (o : Outcome) → drops_shown_by r h tag body (body_of o) ≡ ids
    → LeadsAt r (with_dropped h ids) tag body o (values_shown_by r (with_dropped h ids) tag body (body_of o)) → outcome_shown r h tag body (body_of o) ≡ o
unfolding outcome_shown
outcome_is r h tag body ids o drops leads =
    ap (λ (l : List ℕ). on_body r (with_dropped h l) tag body (values_shown_by r (with_dropped h l) tag body (body_of o)) no_draw) drops ∙ leads.2

module _ (r : RspSetup) (h : History) (tag : ℕ) (body : List ℕ) (byte : r.beat < 256) where
  -- What may be led to after these drops is what is shown.
  pub shown_from : (ids : List ℕ) (o : Outcome) → MayLeadAfter r h ids tag body o → AreShown r h body o ids → is_plain h o ≡ true
      → (drops_shown_by r h tag body (body_of o) ≡ ids) × (outcome_shown r h tag body (body_of o) ≡ o) × IsShownAnswer r h tag body (body_of o)
  unfolding MayLeadTo drops_shown_by
  shown_from ids o may shown plain =
      let leads = (answers_are_shown r (with_dropped h ids) tag body o byte (plain_whole h o plain)).0 may.1 in
      let drops : drops_shown_by r h tag body (body_of o) ≡ ids = drops_are r h tag body (slice_index body 0 == 5) ids may.1.0 (place_for (with_dropped h ids) body) o may.0 may.1.1 may.1.3 shown plain in
      let same : outcome_shown r h tag body (body_of o) ≡ o = outcome_is r h tag body ids o drops leads in
      let value : List ℕ → Free = λ l. values_shown_by r (with_dropped h l) tag body (body_of o) in
      let P : List ℕ → Type 0 = λ l. LeadsAt r (with_dropped h l) tag body o (value l) in
      let Q : Outcome → Type 0 = λ x. LeadsAt r (with_dropped h (drops_shown_by r h tag body (body_of o))) tag body x (value (drops_shown_by r h tag body (body_of o))) × (is_plain h x ≡ true) × (body_of x ≡ body_of o) in
      (drops, same, subst Q (sym same) (subst P (sym drops) leads, plain, refl))

  -- And back.
  pub shown_back : (answer : List ℕ) → IsShownAnswer r h tag body answer → let ids = drops_shown_by r h tag body answer in
      MayLeadAfter r h ids tag body (outcome_shown r h tag body answer) × AreShown r h body (outcome_shown r h tag body answer) ids
  unfolding MayLeadTo drops_shown_by
  shown_back answer shown =
      let ids : List ℕ = drops_shown_by r h tag body answer in
      let o : Outcome = outcome_shown r h tag body answer in
      let f : Free = values_shown_by r (with_dropped h ids) tag body answer in
      let back = drops_back r h tag body (slice_index body 0 == 5) ids f o shown.0.2 shown.1 (ap (drops_shown_by r h tag body) (sym shown.2)) in
      ((back.0, (f, shown.0.0, shown.0.1, shown.0.2)), back.1)

pub plain_is_shown : PlainIsShown
plain_is_shown r d round answer next byte = (to_shown, from_shown)
  where
    h : History
    h = judging d.fetching round.body d.responder

    to_shown : AnswersPlainly r d round answer next → IsShownAnswer r h round.tag round.body answer
        × (next ≡ after (with_dropped d.responder (drops_shown_by r h round.tag round.body answer)) (outcome_shown r h round.tag round.body answer))
    to_shown a =
        let known = shown_from r h round.tag round.body byte a.0 a.1 a.2 a.3 a.4 in
        let P : List ℕ → Type 0 = λ l. IsShownAnswer r h round.tag round.body l
        × (next ≡ after (with_dropped d.responder (drops_shown_by r h round.tag round.body l)) (outcome_shown r h round.tag round.body l)) in
        subst P a.5 (known.2, a.6 ∙ ap (λ (l : List ℕ). after (with_dropped d.responder l) a.1) (sym known.0) ∙ ap (after (with_dropped d.responder (drops_shown_by r h round.tag round.body (body_of a.1)))) (sym known.1))

    from_shown : IsShownAnswer r h round.tag round.body answer × (next ≡ after (with_dropped d.responder (drops_shown_by r h round.tag round.body answer)) (outcome_shown r h round.tag round.body answer))
        → AnswersPlainly r d round answer next
    from_shown shown =
        let back = shown_back r h round.tag round.body byte answer shown.0 in
        (drops_shown_by r h round.tag round.body answer, outcome_shown r h round.tag round.body answer, back.0, back.1, shown.0.1, shown.0.2, shown.1)
