-- Which answers begin a large response is determined by what they show.
use Rattle.std.proofs.Common.{◌≡◌, ◌<◌, ◌==◌, ◌&&◌, ℕ, List, [], ◌∷◌, refl, sym, ap, ◌∙◌, subst, Bool, true, false, cond}
use Rattle.std.specs.Prelude.{not, slice_index}
use Rattle.std.proofs.lemmas.Bool.{false≢true}
use Rattle.responder_machine.specs.Answer.{Free}
use Rattle.responder_machine.specs.History.{Entry, History}
use Rattle.responder_machine.specs.May.{MayDrop, with_dropped}
use Rattle.responder_machine.specs.Place.{held_of}
use Rattle.responder_machine.specs.Responder.{Outcome, body_of, sent_by}
use Rattle.responder_machine.specs.Responder.Outcome.{Same, Unopened, Adds}
use Rattle.responder_machine.specs.Setup.{RspSetup}
use Rattle.check_laws.proofs.BodyShown.{large_are_shown}
use Rattle.check_laws.proofs.LargeDrops.{drops_chosen}
use Rattle.check_laws.proofs.LargeFits.{large_fits}
use Rattle.check_laws.proofs.LargeLed.{large_leads}
use Rattle.check_laws.specs.AnswersShown.{LeadsAt, is_whole, values_shown_by}
use Rattle.check_laws.specs.LargeShown.{IsShownLarge, LargeIsShown, begun_large, drops_before, first_dropped, large_shown, whole_of}
use Rattle.capture_machine.proofs.LargeTells.{large_next}
use Rattle.capture_machine.specs.CapturedAnswers.{AnswersLarge, MayLeadAfter, MayLeadTo}
use Rattle.capture_machine.specs.LargeAnswers.{IsLargeAnswer, unseen, is_large, judging, place_of}

module _ (r : RspSetup) (h : History) (tag : ℕ) (body : List ℕ) where
  abbrev chosen : List ℕ
  chosen = cond (held_of h == 4) (first_dropped h (1 ∷ 2 ∷ 3 ∷ 4 ∷ [])) []

  abbrev drops : List ℕ
  drops = drops_before h body

  -- Both tests, one after the other.
  drops_are : drops ≡ cond (slice_index body 0 == 5) chosen []
  drops_are = by_type (slice_index body 0 == 5)
    where
      by_type : (b : Bool) → cond (b && held_of h == 4) (first_dropped h (1 ∷ 2 ∷ 3 ∷ 4 ∷ [])) [] ≡ cond b chosen []
      by_type true = refl
      by_type false = refl

  drops_may : drops ≡ cond (slice_index body 0 == 5) chosen [] → MayDrop h drops
  drops_may are = subst (MayDrop h) (sym are) (by_type (slice_index body 0 == 5))
    where
      by_type : (b : Bool) → MayDrop h (cond b chosen [])
      by_type true = (drops_chosen h [] tt).may
      by_type false = tt

  module _ (byte : r.beat < 256) where
    abbrev value : List ℕ → Free
    value answer = values_shown_by r (with_dropped h drops) tag body answer

    abbrev IsIt : List ℕ → Outcome → Type 0
    IsIt answer o = LeadsAt r (with_dropped h drops) tag body o (value answer) × (is_whole o ≡ false) × (body_of o ≡ answer)

    -- What may be led to after some drops is what is shown.
    shown_from : (ids : List ℕ) (e : Entry) (next older : History) → MayLeadAfter r h ids tag body (Adds e) → is_large e ≡ true → next ≡ unseen e ∷ older
        → IsShownLarge r h tag body (sent_by e) × (next ≡ begun_large older (large_shown r h tag body (sent_by e)))
    unfolding large_shown MayLeadTo
    shown_from ids e next older may large is =
        let there = large_leads r h ids chosen tag body e (drops_chosen h ids may.0) may.1 large in
        let leads : MayLeadTo r (with_dropped h drops) tag body (Adds there.other) = subst (λ (l : List ℕ). MayLeadTo r (with_dropped h l) tag body (Adds there.other)) (sym drops_are) there.may in
        let known = large_are_shown r (with_dropped h drops) tag body there.other byte there.large leads in
        let other : Entry = known.0 in
        let at : LeadsAt r (with_dropped h drops) tag body (Adds other) (value (sent_by e)) = subst (λ (l : List ℕ). LeadsAt r (with_dropped h drops) tag body (Adds other) (value l)) there.sent known.1 in
        let same : large_shown r h tag body (sent_by e) ≡ Adds other = at.2 in
        let sent : sent_by other ≡ sent_by e = known.3 ∙ there.sent in
        let erased : unseen e ∷ older ≡ unseen other ∷ older = later ids e other may (drops_may drops_are, (value (sent_by e), at.0, at.1, at.2)) (sym sent) older in
        (subst (IsIt (sent_by e)) (sym same) (at, ap not known.2, sent), is ∙ erased ∙ ap (begun_large older) (sym same))
      where
        later : (ids : List ℕ) (e other : Entry) → MayLeadAfter r h ids tag body (Adds e) → MayLeadAfter r h drops tag body (Adds other) → sent_by e ≡ sent_by other → (older : History) → unseen e ∷ older ≡ unseen other ∷ older
        later ids e other one two same older = ap (λ (x : Entry). x ∷ older) (cc (large_next r h ids drops tag body e other one two same))

    shown_back : (o : Outcome) (answer : List ℕ) (next older : History) → IsIt answer o → next ≡ begun_large older o
        → (whole : List ℕ) × ((ids : List ℕ) × (e : Entry) × MayLeadAfter r h ids tag body (Adds e) × (is_large e ≡ true) × IsLargeAnswer (place_of h e) whole × (sent_by e ≡ answer) × (next ≡ unseen e ∷ older))
    unfolding MayLeadTo
    shown_back (Same b) answer next older it is = absurd (false≢true (sym it.1))
    shown_back (Unopened b) answer next older it is = absurd (false≢true (sym it.1))
    shown_back (Adds e) answer next older it is =
        let large : is_large e ≡ true = not_not (is_large e) it.1 in
        let may : MayLeadTo r (with_dropped h drops) tag body (Adds e) = (value answer, it.0.0, it.0.1, it.0.2) in
        let fits = large_fits r h tag body e large chosen (subst (λ (l : List ℕ). MayLeadTo r (with_dropped h l) tag body (Adds e)) drops_are may) in
        (whole_of e, (drops, e, (drops_may drops_are, may), large, fits, it.2, is))
      where
        not_not : (b : Bool) → not b ≡ false → b ≡ true
        not_not true is = refl
        not_not false is = absurd (false≢true (sym is))

pub large_is_shown : LargeIsShown
large_is_shown r d round answer next byte = (to_shown, from_shown)
  where
    h : History
    h = judging d.fetching round.body d.responder

    to_shown : (whole : List ℕ) × AnswersLarge r d round answer next whole
        → IsShownLarge r h round.tag round.body answer × (next ≡ begun_large d.responder (large_shown r h round.tag round.body answer))
    to_shown a =
        let P : List ℕ → Type 0 = λ l. IsShownLarge r h round.tag round.body l × (next ≡ begun_large d.responder (large_shown r h round.tag round.body l)) in
        subst P a.1.5 (shown_from r h round.tag round.body byte a.1.0 a.1.1 next d.responder a.1.2 a.1.3 a.1.6)

    from_shown : IsShownLarge r h round.tag round.body answer × (next ≡ begun_large d.responder (large_shown r h round.tag round.body answer))
        → (whole : List ℕ) × AnswersLarge r d round answer next whole
    from_shown shown = shown_back r h round.tag round.body byte (large_shown r h round.tag round.body answer) answer next d.responder shown.0 shown.1
