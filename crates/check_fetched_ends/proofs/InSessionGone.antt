-- What is kept after a chunk of a large response that is fetched in a session.
use Rattle.std.proofs.Common.{◌≡◌, ◌<◌, ◌==◌, ◌&&◌, ℕ, List, [], ◌∷◌, refl, sym, ap, ◌∙◌, subst, drop, Bool, true, false, Some, None, cond, eqb-true}
use Rattle.std.specs.Prelude.{not, slice_index}
use Rattle.std.proofs.lemmas.Bool.{not-false, not-true}
use Rattle.mctp_framing.specs.Cutting.{RouteFields}
use Rattle.check_ends.proofs.InTurn.{AnswersInTurn}
use Rattle.check_responder.specs.AnswerKeys.{StandFor, will_take}
use Rattle.check_responder.specs.declared.answer_keys.AnswerKeys.{AnswerKeys}
use Rattle.check_laws.specs.ChangeLaws.{AnswerAccepts, WholeAnswerChanges}
use Rattle.check_laws.specs.Changes.{IsChange, IsStep, views_in}
use Rattle.check_laws.specs.DropsShown.{IsShownAnswer}
use Rattle.check_laws.specs.Keeping.{restored}
use Rattle.check_laws.specs.KeptChanges.{accepted_from, taken_shown}
use Rattle.check_laws.specs.RepliesShown.{responder_for}
use Rattle.check_laws.specs.declared.change.Change.{Change}
use Rattle.check_fetched_laws.specs.JudgedFor.{session_with}
use Rattle.check_late_laws.specs.Fetching.{Fetching, IsFetchingOf, MayStand}
use Rattle.requester_machine.specs.May.{IsSetUp}
use Rattle.requester_machine.specs.Setup.{ReqSetup}
use Rattle.responder_machine.specs.History.{Entry, History}
use Rattle.responder_machine.specs.Place.{place_terms, session_place}
use Rattle.responder_machine.specs.Refusal.{has_pending}
use Rattle.responder_machine.specs.Responder.Outcome.{Adds}
use Rattle.responder_machine.specs.Session.{Events, after_record, id_in_record, session_of, session_terms, when_live}
use Rattle.responder_machine.specs.Session.Event.{Heard}
use Rattle.responder_machine.specs.Turn.{Turn, code_in, takes}
use Rattle.spdm_basis.proofs.Bools.{and_second}
use Rattle.spdm_grammar.specs.declared.names.request_code.TheConstants.{CHUNK_GET, END_SESSION}
use Rattle.capture_machine.proofs.SeenAnswers.{led_stands}
use Rattle.capture_machine.proofs.UnseenStands.{UnseenStand}
use Rattle.capture_machine.specs.LargeAnswers.{place_of, takes_get, with_large}
use Rattle.world_machine.specs.Setup.{Configuration}
use Rattle.check_fetched_ends.proofs.ChangesOn.{accepted_on, asked_on}
use Rattle.check_fetched_ends.proofs.InSessionRecord.{behind_is, e, id_is, leads, next, still_plain, unseen_stand}
use Rattle.check_late_laws.proofs.Late.QuietSteps.{none_accepted, quiet_step}
use Rattle.check_fetched_laws.proofs.RecordTaken.{taken_is}
use Rattle.check_fetched_laws.proofs.SeenKeys.{keys_unseen, views_alike}

-- ---- The session.

terms_live : (s : Events) (m : List ℕ) (t : Turn) (reply : List ℕ) → session_terms (when_live s (Heard m t reply)) ≡ session_terms s
terms_live [] m t reply = refl
terms_live (x ∷ s) m t reply = refl

-- CHUNK_GET ends no session.
get_goes_on : (t : Turn) → takes CHUNK_GET t ≡ true → takes END_SESSION t ≡ false
get_goes_on t gets = ap (λ (n : ℕ). n == END_SESSION) (eqb-true (code_in t.effect) CHUNK_GET gets)

terms_after : (s : Events) (m : List ℕ) (t : Turn) (reply : List ℕ) (b : Bool) → takes CHUNK_GET t ≡ true → session_terms (cond b (after_record s m t reply) s) ≡ session_terms s
terms_after s m t reply true gets = ap (λ (b : Bool). session_terms (cond b [] (when_live s (Heard m t reply)))) (get_goes_on t gets) ∙ terms_live s m t reply
terms_after s m t reply false gets = refl

module _ (w : Configuration) (q : ReqSetup) (older : List (List ℕ)) (f : Fetching) (route : RouteFields) (answer : List ℕ) (byte : w.responder.beat < 256) (limits : IsSetUp f.kept.setup) (own : IsFetchingOf w q older f) (turn : AnswersInTurn f.kept route answer)
    (id : ℕ) (at : f.at ≡ Some id) (type : (slice_index turn.round.body 0 == 5) ≡ false) (v : List ℕ) (stand : MayStand f v)
    (will : will_take (responder_for w f.kept) (with_large (Some id) v f.kept.responder) turn.round.body ≡ true) (sealed : (slice_index answer 0 == 5) ≡ false)
    (shown : IsShownAnswer (responder_for w f.kept) (with_large (Some id) v f.kept.responder) turn.round.tag turn.round.body answer) where
  abbrev h : History
  h = f.kept.responder

  abbrev given : History
  given = with_large (Some id) v h

  abbrev added : Entry
  added = e w q older f route answer byte limits own turn id at type v stand will sealed shown

  abbrev kept_next : Fetching
  kept_next = next w q older f route answer byte limits own turn id at type v stand will sealed shown

  behind : with_large (Some id) v (added ∷ h) ≡ added ∷ given
  behind = behind_is w q older f route answer byte limits own turn id at type v stand will sealed shown

  pub none_next : UnseenStand (added ∷ h)
  none_next =
      (led_stands _ given turn.round.tag turn.round.body added (leads w q older f route answer byte limits own turn id at type v stand will sealed shown), unseen_stand w q older f route answer byte limits own turn id at type v stand)

  pub keys_next : (keys : AnswerKeys) → StandFor keys (responder_for w f.kept) (added ∷ given) → StandFor keys (responder_for w f.kept) (added ∷ h)
  keys_next keys is = keys_unseen keys _ id v (added ∷ h) none_next (subst (StandFor keys _) (sym behind) is)

  -- ---- The table.

  pub change_next : AnswerAccepts → WholeAnswerChanges → (change : Change) → change.begun ≡ None → change.accepted ≡ accepted_from f.kept turn.round.tag answer
      → change.answered ≡ taken_shown given turn.round.body answer → change.asked ≡ None → change.views ≡ views_in (added ∷ given) → IsChange change (restored f.kept) (restored kept_next.kept)
  change_next accepts law change begun accepted answered asked views =
      let whole = law (restored f.kept) (restored kept_next.kept) [] (Adds added) refl in record {
        begun = begun ∙ sym whole.0;
        accepted = accepted ∙ sym (accepted_on f.kept (added ∷ h) route.tag turn.round answer turn.answers.0 turn.answers.1 accepts);
        answered = answered ∙ taken_is (responder_for w f.kept) given turn.round.tag turn.round.body answer type will sealed ∙ sym whole.1;
        asked = asked ∙ sym (asked_on f.kept (added ∷ h) route.tag turn.round answer turn.answers.0 turn.answers.1);
        views = views ∙ ap views_in (sym behind) ∙ views_alike id v (added ∷ h) none_next;
      }

  pub step_next : AnswerAccepts → WholeAnswerChanges → IsStep (restored f.kept) (restored kept_next.kept)
  step_next accepts law =
      quiet_step (restored f.kept) (restored kept_next.kept) refl (law (restored f.kept) (restored kept_next.kept) [] (Adds added) refl).0
      (accepted_on f.kept (added ∷ h) route.tag turn.round answer turn.answers.0 turn.answers.1 accepts ∙ none_accepted f.kept turn.round.tag answer turn.body sealed)

  -- ---- What is left to be given.

  module _ (gets : takes_get added ≡ true) where
    pub pending_next : has_pending (session_place (session_with id (added ∷ h) v)) ≡ true
    pending_next =
        let left : has_pending (place_of (added ∷ given) added) ≡ true =
        not-false _ (not-true _ (sym (ap (λ (b : Bool). not (b && not (has_pending (place_of (added ∷ given) added)))) gets) ∙ and_second _ _ (still_plain w q older f route answer byte limits own turn id at type v stand will sealed shown))) in
        ap (λ (l : History). has_pending (session_place (session_of id l))) behind
        ∙ ap (λ (n : ℕ). has_pending (session_place (session_of n (added ∷ given)))) (sym (id_is w q older f route answer byte limits own turn id at type v stand)) ∙ left

    pub sizes_next : (session_terms (session_with id h v)).common ≡ (place_terms f.place).common → (session_terms (session_with id (added ∷ h) v)).common ≡ (place_terms f.place).common
    unfolding session_of
    sizes_next same =
        ap (λ (l : History). (session_terms (session_of id l)).common) behind
        ∙ ap (λ t. t.common) (terms_after (session_of id given) _ _ _ (id_in_record (drop 1 turn.round.body) == id) gets) ∙ same
