-- An answer to a record that its session takes: what it leads to is an entry, and shows no session that was dropped.
use Rattle.std.proofs.Common.{◌≡◌, ◌==◌, ◌&&◌, ◌||◌, ℕ, List, [], ◌∷◌, sym, ap, ◌∙◌, drop, Bool, true, false, Some, None, cond, inl, inr}
use Rattle.std.specs.Prelude.{slice_index}
use Rattle.std.proofs.lemmas.Bool.{false≢true, not-true}
use Rattle.spdm_basis.proofs.Bools.{and_first, and_second}
use Rattle.check_responder.proofs.KeysKept.{LeadsBy, record_leads}
use Rattle.check_responder.specs.AnswerKeys.{is_taken_in, will_take}
use Rattle.check_responder.specs.JudgedResponder.{history_shown}
use Rattle.check_laws.specs.AnswersShown.{LeadsAt, values_shown_by}
use Rattle.check_laws.specs.DropsShown.{clear_drops, drops_shown_by, may_be_dropped, outcome_shown, record_drops}
use Rattle.check_laws.specs.KeptChanges.{is_kept_record, taken_shown}
use Rattle.responder_machine.specs.Answer.{Free}
use Rattle.responder_machine.specs.History.{Entry, History, ended_of}
use Rattle.responder_machine.specs.May.{on_body, with_dropped}
use Rattle.responder_machine.specs.Responder.{after, on_clear, on_record, repeats, sealed_entry}
use Rattle.responder_machine.specs.Responder.Outcome.{Adds}
use Rattle.responder_machine.specs.Session.{Events, id_in_record, last_of, session_of}
use Rattle.responder_machine.specs.Setup.{RspSetup}
use Rattle.responder_session.specs.Took.{turn_in}
use Rattle.capture_machine.specs.CapturedAnswers.{MayLeadTo, belongs_to}
use Rattle.capture_machine.specs.Rounds.{no_draw}

module _ (r : RspSetup) (g : History) (tag : ℕ) (body answer : List ℕ) (type : (slice_index body 0 == 5) ≡ false) (will : will_take r g body ≡ true) where
  abbrev m : List ℕ
  m = drop 1 body

  abbrev s : Events
  s = session_of (id_in_record (drop 1 body)) g

  -- The entry that it leads to at some values.
  abbrev pub entry_at : Free → Entry
  entry_at f = sealed_entry r s f tag m no_draw (turn_in r s f m)

  taken : is_taken_in r s (repeats (ended_of g) m) m ≡ true
  taken = and_second _ _ will

  pub not_kept : is_kept_record g m ≡ false
  not_kept =
      let ended : repeats (ended_of g) m ≡ false = not-true _ (and_first _ _ taken) in
      let last : repeats (last_of s) m ≡ false = not-true _ (and_first _ _ (and_second _ _ taken)) in
      ap (λ (b : Bool). b || repeats (last_of s) m) ended ∙ last

  record_adds : (f : Free) → on_record r g tag m f no_draw ≡ Adds (entry_at f)
  record_adds f = by_leads (record_leads r g tag m f no_draw)
    where
      by_leads : LeadsBy r g tag m f no_draw s (is_taken_in r s (repeats (ended_of g) m) m) (on_record r g tag m f no_draw) → on_record r g tag m f no_draw ≡ Adds (entry_at f)
      by_leads (inl stays) = absurd (false≢true (sym stays.1 ∙ taken))
      by_leads (inr adds) = adds.0

  pub body_adds : (f : Free) → on_body r g tag body f no_draw ≡ Adds (entry_at f)
  body_adds f = ap (λ (b : Bool). cond b (on_clear r g tag m f no_draw) (on_record r g tag m f no_draw)) type ∙ record_adds f

  -- The one at the values that the answer shows.
  abbrev pub entry : Entry
  entry = entry_at (values_shown_by r g tag body answer)

  pub taken_is : (slice_index answer 0 == 5) ≡ false → taken_shown g body answer ≡ Some (id_in_record m)
  taken_is sealed =
      ap (λ (b : Bool). cond (b || (slice_index answer 0 == 5 || is_kept_record g m)) None (Some (id_in_record m))) type
      ∙ ap (λ (b : Bool). cond (b || is_kept_record g m) None (Some (id_in_record m))) sealed ∙ ap (λ (b : Bool). cond b None (Some (id_in_record m))) not_kept

  pub no_drops : (slice_index answer 0 == 5) ≡ false → drops_shown_by r g tag body answer ≡ []
  unfolding drops_shown_by
  no_drops sealed =
      ap (λ (b : Bool). cond b (clear_drops g tag m (drop 1 answer)) (record_drops r g m answer)) type
      ∙ ap (λ (b : Bool). cond (b && (belongs_to r s m && may_be_dropped g (id_in_record m))) (id_in_record m ∷ []) []) sealed

  pub shown_adds : (slice_index answer 0 == 5) ≡ false → outcome_shown r g tag body answer ≡ Adds entry
  unfolding outcome_shown
  shown_adds sealed =
      ap (λ (l : List ℕ). on_body r (with_dropped g l) tag body (values_shown_by r (with_dropped g l) tag body answer) no_draw) (no_drops sealed) ∙ body_adds (values_shown_by r g tag body answer)

  pub shown_behind : (slice_index answer 0 == 5) ≡ false → history_shown r g tag body answer ≡ entry ∷ g
  shown_behind sealed =
      ap (λ (l : List ℕ). after (with_dropped g l) (outcome_shown r g tag body answer)) (no_drops sealed) ∙ ap (after g) (shown_adds sealed)

  -- It may lead to it.
  pub may_lead : LeadsAt r g tag body (on_body r g tag body (values_shown_by r g tag body answer) no_draw) (values_shown_by r g tag body answer) → MayLeadTo r g tag body (Adds entry)
  unfolding MayLeadTo
  may_lead leads = (values_shown_by r g tag body answer, leads.0, leads.1, body_adds (values_shown_by r g tag body answer))
