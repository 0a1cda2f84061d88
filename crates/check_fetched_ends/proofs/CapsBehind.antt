-- What each answer leaves of the capabilities that the responder told.
use Rattle.std.proofs.Common.{◌≡◌, ◌∙◌, ℕ, List, [], ◌∷◌, refl, sym, ap, subst, Bool, true, false, Option, Some, None, cond, inl, inr}
use Rattle.std.proofs.lemmas.Bool.{false≢true}
use Rattle.check_fetched_ends.proofs.CapsStand.{Behind, KeptCaps, entry_behind, large_sizes, both, same_behind, same_by, unopened_behind, unseen_behind}
use Rattle.check_fetched_laws.proofs.SizesSeen.{SameSizes}
use Rattle.check_late_laws.proofs.NoCaps.{EntryCaps, NoCaps}
use Rattle.responder_machine.specs.History.{Entry, History, Kept, clear_turns, kept_of}
use Rattle.responder_machine.specs.History.Entry.{Clear, Sealed, Queued, Ticked, Dropped}
use Rattle.responder_machine.specs.May.{with_dropped}
use Rattle.responder_machine.specs.Responder.{Outcome, after, body_of}
use Rattle.responder_machine.specs.Responder.Outcome.{Same, Unopened, Adds}
use Rattle.responder_machine.specs.Setup.{RspSetup}
use Rattle.responder_machine.specs.Turn.{Turn, is_taken}
use Rattle.capture_machine.proofs.DropsTell.{kept_same, turns_stay}
use Rattle.capture_machine.proofs.FetchedTells.{kept_large}
use Rattle.capture_machine.specs.CapturedAnswers.{Answers, MayLeadTo}
use Rattle.capture_machine.specs.LargeAnswers.{dropped_before_large, is_unseen_in, judging, place_named, with_large}
use Rattle.capture_machine.specs.Rounds.{Dialogue, Round}

-- ---- Histories under an answer.

judging_sizes : (o : Option (List ℕ)) (body : List ℕ) (h : History) → NoCaps h → SameSizes (clear_turns (judging o body h)) (clear_turns h)
judging_sizes None body h caps = same_by (clear_turns h) (clear_turns h) refl
judging_sizes (Some w) body h caps = large_sizes (place_named body) w h caps

judging_kept : (o : Option (List ℕ)) (body : List ℕ) (h : History) → kept_of (judging o body h) ≡ kept_of h
judging_kept None body h = refl
judging_kept (Some w) body h = kept_large (place_named body) w h

dropped_caps : (ids : List ℕ) (h : History) → NoCaps h → NoCaps (with_dropped h ids)
dropped_caps [] h caps = caps
dropped_caps (id ∷ ids) h caps = dropped_caps ids (Dropped id ∷ h) (tt, caps)

module _ (place : Option ℕ) (ids : List ℕ) where
  caps_by : (e : Entry) (h : History) (b : Bool) → EntryCaps e → NoCaps h → NoCaps (dropped_before_large place ids h) → NoCaps (cond b (e ∷ with_dropped h ids) (e ∷ dropped_before_large place ids h))
  caps_by e h true one caps before = (one, dropped_caps ids h caps)
  caps_by e h false one caps before = (one, before)

  before_caps : (h : History) → NoCaps h → NoCaps (dropped_before_large place ids h)
  before_caps [] caps = tt
  before_caps (e ∷ h) caps = caps_by e h (is_unseen_in place e) caps.0 caps.1 (before_caps h caps.1)

  -- What is in front stays.
  turns_front : (e : Entry) (g h : History) → clear_turns g ≡ clear_turns h → clear_turns (e ∷ g) ≡ clear_turns (e ∷ h)
  turns_front (Clear tag t d) g h same = ap (λ (l : List Turn). t ∷ l) same
  turns_front (Sealed tag m t reply d) g h same = same
  turns_front (Queued bytes) g h same = same
  turns_front (Ticked seconds) g h same = same
  turns_front (Dropped id) g h same = same

  kept_front : (e : Entry) (g h : History) → kept_of g ≡ kept_of h → kept_of (e ∷ g) ≡ kept_of (e ∷ h)
  kept_front (Clear tag t d) g h same = ap (cond (is_taken t) (Some (record { tag = tag; message = t.message; reply = t.reply }))) same
  kept_front (Sealed tag m t reply d) g h same = same
  kept_front (Queued bytes) g h same = same
  kept_front (Ticked seconds) g h same = same
  kept_front (Dropped id) g h same = same

  turns_by : (e : Entry) (h : History) (b : Bool) → clear_turns (dropped_before_large place ids h) ≡ clear_turns h → clear_turns (cond b (e ∷ with_dropped h ids) (e ∷ dropped_before_large place ids h)) ≡ clear_turns (e ∷ h)
  turns_by e h true same = turns_front e (with_dropped h ids) h (turns_stay ids h)
  turns_by e h false same = turns_front e (dropped_before_large place ids h) h same

  before_turns : (h : History) → clear_turns (dropped_before_large place ids h) ≡ clear_turns h
  before_turns [] = refl
  before_turns (e ∷ h) = turns_by e h (is_unseen_in place e) (before_turns h)

  kept_by : (e : Entry) (h : History) (b : Bool) → kept_of (dropped_before_large place ids h) ≡ kept_of h → kept_of (cond b (e ∷ with_dropped h ids) (e ∷ dropped_before_large place ids h)) ≡ kept_of (e ∷ h)
  kept_by e h true same = kept_front e (with_dropped h ids) h (kept_same ids h)
  kept_by e h false same = kept_front e (dropped_before_large place ids h) h same

  before_kept : (h : History) → kept_of (dropped_before_large place ids h) ≡ kept_of h
  before_kept [] = refl
  before_kept (e ∷ h) = kept_by e h (is_unseen_in place e) (before_kept h)

-- ---- An answer.

module _ (r : RspSetup) (d : Dialogue) (round : Round) (answer : List ℕ) (caps : NoCaps d.responder) (all : KeptCaps d.responder) where
  abbrev h : History
  h = d.responder

  abbrev k : History
  k = judging d.fetching round.body d.responder

  sizes : SameSizes (clear_turns k) (clear_turns h)
  sizes = judging_sizes d.fetching round.body h caps

  keeps : kept_of k ≡ kept_of h
  keeps = judging_kept d.fetching round.body h

  dropped_sizes : (ids : List ℕ) (g : History) → SameSizes (clear_turns (with_dropped g ids)) (clear_turns g)
  dropped_sizes ids g = same_by _ _ (turns_stay ids g)

  with_sizes : (ids : List ℕ) → SameSizes (clear_turns (with_dropped k ids)) (clear_turns (with_dropped h ids))
  with_sizes ids = both _ _ _ (both _ _ _ (dropped_sizes ids k) sizes) (same_by _ _ (sym (turns_stay ids h)))

  outcome_behind : (ids : List ℕ) (o : Outcome) → MayLeadTo r (with_dropped k ids) round.tag round.body o → Behind h (after (with_dropped h ids) o) round.body (body_of o)
  outcome_behind ids (Same b) may = same_behind r (with_dropped k ids) (with_dropped h ids) h round.tag round.body (kept_same ids k ∙ keeps) (dropped_sizes ids h) (kept_same ids h) all b may
  outcome_behind ids (Unopened b) may = unopened_behind r (with_dropped k ids) (with_dropped h ids) h round.tag round.body (kept_same ids k ∙ keeps) (dropped_sizes ids h) (kept_same ids h) all b may
  outcome_behind ids (Adds e) may = entry_behind r (with_dropped k ids) (with_dropped h ids) h round.tag round.body (with_sizes ids) (dropped_sizes ids h) (kept_same ids h) all e may

  pub answers_behind : (next : History) (fetching : Option (List ℕ)) → Answers r d round answer next fetching → Behind h next round.body answer
  unfolding Answers
  answers_behind next fetching (inl (a, same)) =
      subst (λ (l : List ℕ). Behind h next round.body l) a.5 (subst (λ (g : History). Behind h g round.body (body_of a.1)) (sym a.6) (outcome_behind a.0 a.1 a.2.1))
  answers_behind next fetching (inr (inl (whole, a, same))) =
      subst (λ (l : List ℕ). Behind h next round.body l) a.5
      (subst (λ (g : History). Behind h g round.body (body_of (Adds a.1))) (sym a.6) (unseen_behind r (with_dropped k a.0) h h round.tag round.body (both _ _ _ (dropped_sizes a.0 k) sizes) (same_by (clear_turns h) (clear_turns h) refl) refl all a.1 a.2.1 a.3))
  answers_behind next fetching (inr (inr (inl (whole, a, same)))) =
      subst (λ (g : History). Behind h g round.body answer) (sym a.4) (same_behind r h h h round.tag round.body refl (same_by (clear_turns h) (clear_turns h) refl) refl all answer a.1)
  answers_behind next fetching (inr (inr (inr (a, same)))) =
      let place : Option ℕ = place_named round.body in
      let g : History = with_large place a.0 (dropped_before_large place a.1 h) in
      let under : SameSizes (clear_turns g) (clear_turns h) =
      both _ _ _ (large_sizes place a.0 (dropped_before_large place a.1 h) (before_caps place a.1 h caps)) (same_by _ _ (before_turns place a.1 h)) in
      let judged : SameSizes (clear_turns k) (clear_turns g) = both _ _ _ sizes (record { phase = sym under.phase; caps = record { asked = sym under.caps.asked; told = sym under.caps.told } }) in
      subst (λ (l : List ℕ). Behind h next round.body l) a.7
      (subst (λ (x : History). Behind h x round.body (body_of (Adds a.2))) (sym a.8)
      (entry_behind r k g h round.tag round.body judged under (kept_large place a.0 (dropped_before_large place a.1 h) ∙ before_kept place a.1 h) all a.2 a.4))
