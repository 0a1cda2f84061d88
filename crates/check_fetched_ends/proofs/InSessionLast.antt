-- The last chunk of a large response that is fetched in a session.
use Rattle.std.proofs.Common.{◌≡◌, ◌<◌, ◌+◌, ◌&&◌, ℕ, List, [], ◌∷◌, refl, sym, ap, ◌∙◌, subst, length, Bool, true, false, Option, Some, None, Ok, cond, inr}
use Rattle.std.specs.Prelude.{◌||◌, not}
use Rattle.std.proofs.lemmas.Bool.{false≢true}
use Rattle.std.proofs.lemmas.Option.{same_Some}
use Rattle.mctp_framing.specs.Cutting.{RouteFields}
use Rattle.mctp_framing.specs.Gathering.Gathered.{Whole}
use Rattle.check_ends.proofs.InTurn.{AnswersInTurn}
use Rattle.check_responder.specs.AnswerKeys.{StandFor}
use Rattle.check_responder.specs.JudgedResponder.{IsAnswerer}
use Rattle.check_requester.specs.JudgedRequester.{IsAsker}
use Rattle.check_responder.specs.ClearAnswers.{EndsLarge}
use Rattle.check_requester.specs.HeardKept.{asks_upon, heard_kept}
use Rattle.check_ends.specs.declared.party.Party.{Party}
use Rattle.check_laws.specs.AnswersShown.{values_shown_by}
use Rattle.check_laws.specs.ChangeLaws.{AnswerAccepts, LastChunkChanges, answered_by, begun_by, begun_by_large}
use Rattle.check_laws.specs.Changes.{IsChange, IsStep, answered_between, begun_between, views_in}
use Rattle.check_laws.specs.Keeping.{Kept, restored}
use Rattle.check_laws.specs.KeptChanges.{accepted_from, taken_shown}
use Rattle.check_laws.specs.LargeShown.{last_shown}
use Rattle.check_laws.specs.RepliesShown.{answered, responder_for}
use Rattle.check_laws.specs.Rows as rows_of
use Rattle.check_laws.specs.Rows.{StandsForRows}
use Rattle.check_laws.specs.declared.change.Change.{Change}
use Rattle.check_laws.specs.declared.verdict.Seen.{Seen}
use Rattle.check_fetched_laws.proofs.LastShown.{last_is_shown}
use Rattle.check_fetched_laws.specs.LastShown.{IsShownLast, IsShownWhole, completed, drops_of_whole, drops_with}
use Rattle.check_late_laws.specs.Fetching.{Fetching, IsFetchingOf, MayStand, dialogue_of}
use Rattle.check_late_laws.specs.FetchingLaws.{EndsFetching}
use Rattle.requester_machine.specs.History.{outstanding}
use Rattle.requester_machine.specs.May.{IsSetUp}
use Rattle.requester_machine.specs.Setup.{ReqSetup}
use Rattle.responder_machine.specs.History.{Entry, History}
use Rattle.responder_machine.specs.History.Entry.{Clear, Sealed, Queued, Ticked, Dropped}
use Rattle.responder_machine.specs.Responder.{after}
use Rattle.responder_machine.specs.Responder.Outcome.{Adds}
use Rattle.responder_machine.specs.Setup.{RspSetup}
use Rattle.capture_machine.specs.Capture.{RepliesBy}
use Rattle.capture_machine.specs.CapturedAnswers.{Answers, Completes}
use Rattle.capture_machine.specs.LargeAnswers.{begun_with, dropped_before_large, id_begun, is_fetching, is_unseen_in, is_untouched, place_named, seen, touches, while_fetched, with_large}
use Rattle.capture_machine.specs.Rounds.{Dialogue, Round}
use Rattle.capture_machine.specs.SessionTable.{Row, number_from}
use Rattle.world_machine.specs.Setup.{Configuration}
use Rattle.check_fetched_ends.proofs.ChangesOn.{accepted_on, asked_on}
use Rattle.check_fetched_ends.proofs.HeardOn.{IsHeardOn, heard_on}
use Rattle.check_fetched_ends.proofs.InSessionRecord.{place_is}
use Rattle.check_late_laws.proofs.Late.QuietSteps.{none_accepted, quiet_step}
use Rattle.check_fetched_laws.proofs.RecordTaken.{body_adds, entry_at, taken_is}
use Rattle.check_fetched_ends.specs.Fetched.{IsRepliedTo, rows_upon}
use Rattle.check_fetched_ends.specs.InSession.{IsFetchedIn, IsMeasuredBy, IsReadIn}
use Rattle.check_fetched_ends.specs.declared.session_fetch.in_session.InSession.{InSession}
use Rattle.check_fetched_ends.specs.declared.upon.Upon.TheVariants as upon

-- ---- A large answer of a session begins none, and shows no drop.

module _ (id : ℕ) (v : List ℕ) where
  begun_by_step : (e : Entry) (h : History) (b : Bool) → is_unseen_in (Some id) e ≡ b → begun_with (Some id) v h ≡ None → cond b (id_begun (seen v e)) (begun_with (Some id) v h) ≡ None
  begun_by_step e h false is rest = rest
  begun_by_step (Sealed tag m t reply d) h true is rest = refl
  begun_by_step (Clear tag t d) h true is rest = absurd (false≢true is)
  begun_by_step (Queued bytes) h true is rest = absurd (false≢true is)
  begun_by_step (Ticked seconds) h true is rest = absurd (false≢true is)
  begun_by_step (Dropped which) h true is rest = absurd (false≢true is)

  none_begun : (h : History) → begun_with (Some id) v h ≡ None
  none_begun [] = refl
  none_begun (e ∷ h) = begun_by_step e h (is_unseen_in (Some id) e) refl (none_begun h)

  untouched_by : (b : Bool) (e : Entry) (h : History) → is_untouched (Some id) None h ≡ true → cond b true (not (touches None e) && is_untouched (Some id) None h) ≡ true
  untouched_by true e h rest = refl
  untouched_by false e h rest = rest

  all_untouched : (h : History) → is_untouched (Some id) None h ≡ true
  all_untouched [] = refl
  all_untouched (e ∷ h) = untouched_by (is_unseen_in (Some id) e) e h (all_untouched h)

  pub untouched_is : (h : History) → is_untouched (Some id) (begun_with (Some id) v h) h ≡ true
  untouched_is h = ap (λ (o : Option ℕ). is_untouched (Some id) o h) (none_begun h) ∙ all_untouched h

  drops_step : (e : Entry) (h : History) (b : Bool) → is_unseen_in (Some id) e ≡ b → drops_of_whole (Some id) v h ≡ [] → cond b (drops_with h (seen v e)) (drops_of_whole (Some id) v h) ≡ []
  drops_step e h false is rest = rest
  drops_step (Sealed tag m t reply d) h true is rest = refl
  drops_step (Clear tag t d) h true is rest = absurd (false≢true is)
  drops_step (Queued bytes) h true is rest = absurd (false≢true is)
  drops_step (Ticked seconds) h true is rest = absurd (false≢true is)
  drops_step (Dropped which) h true is rest = absurd (false≢true is)

  none_dropped : (h : History) → drops_of_whole (Some id) v h ≡ []
  none_dropped [] = refl
  none_dropped (e ∷ h) = drops_step e h (is_unseen_in (Some id) e) refl (none_dropped h)

  before_step : (b : Bool) (e : Entry) (h : History) → dropped_before_large (Some id) [] h ≡ h → cond b (e ∷ h) (e ∷ dropped_before_large (Some id) [] h) ≡ e ∷ h
  before_step true e h rest = refl
  before_step false e h rest = ap (λ (l : History). e ∷ l) rest

  before_none : (h : History) → dropped_before_large (Some id) [] h ≡ h
  before_none [] = refl
  before_none (e ∷ h) = before_step (is_unseen_in (Some id) e) e h (before_none h)

  begins_step : (e : Entry) (h : History) (b : Bool) → is_unseen_in (Some id) e ≡ b → begun_by_large (Some id) v h ≡ None → cond b (begun_by (Adds (seen v e))) (begun_by_large (Some id) v h) ≡ None
  begins_step e h false is rest = rest
  begins_step (Sealed tag m t reply d) h true is rest = refl
  begins_step (Clear tag t d) h true is rest = absurd (false≢true is)
  begins_step (Queued bytes) h true is rest = absurd (false≢true is)
  begins_step (Ticked seconds) h true is rest = absurd (false≢true is)
  begins_step (Dropped which) h true is rest = absurd (false≢true is)

  pub begins_none : (h : History) → begun_by_large (Some id) v h ≡ None
  begins_none [] = refl
  begins_none (e ∷ h) = begins_step e h (is_unseen_in (Some id) e) refl (begins_none h)

-- ---- The last chunk.

module _ (w : Configuration) (q : ReqSetup) (older : List (List ℕ)) (rows : List Row) (f : Fetching) (route : RouteFields) (answer : List ℕ) (byte : w.responder.beat < 256) (limits : IsSetUp f.kept.setup) (own : IsFetchingOf w q older f) (turn : AnswersInTurn f.kept route answer)
    (party : Party) (fetched : InSession) (message whole : List ℕ) (read : IsReadIn party fetched w q f rows turn.round.body answer message whole) where
  abbrev k : Kept
  k = f.kept

  abbrev r : RspSetup
  r = responder_for w f.kept

  abbrev h : History
  h = f.kept.responder

  abbrev g : History
  g = with_large (Some fetched.id) whole f.kept.responder

  abbrev round : Round
  round = turn.round

  abbrev pub stand : MayStand f whole
  stand = subst (MayStand f) read.same read.kept.stands

  place : place_named round.body ≡ Some fetched.id
  place = place_is w q older f route answer byte limits own turn fetched.id read.kept.at read.record_is whole stand

  -- The entry that it leads to.
  abbrev pub last_entry : Entry
  last_entry = entry_at r g round.tag round.body answer read.record_is read.read.taken (values_shown_by r g round.tag round.body answer)

  pub last_adds : last_shown r g round.tag round.body answer ≡ Adds last_entry
  unfolding last_shown
  last_adds = body_adds r g round.tag round.body answer read.record_is read.read.taken (values_shown_by r g round.tag round.body answer)

  -- What is kept after it.
  abbrev pub last_kept : Kept
  last_kept = heard_kept k (last_entry ∷ g) route.tag round answer

  module _ (ends : EndsLarge (responder_for w f.kept) (with_large (Some fetched.id) whole f.kept.responder) turn.round.tag turn.round.body answer) (measured : IsMeasuredBy (responder_for w f.kept) fetched.op whole) where
    shown_last : IsShownLast r h round answer whole
    shown_last =
        let it : (o : Option ℕ) → o ≡ Some fetched.id → EndsLarge r (with_large o whole h) round.tag round.body answer = λ o is. subst (λ (x : Option ℕ). EndsLarge r (with_large x whole h) round.tag round.body answer) (sym is) ends in
        let there = it (place_named round.body) place in record {
          leads = there.0;
          last = there.1;
          body = there.2;
          led = subst (λ (o : Option ℕ). IsShownWhole r o whole h) (sym place) ((read.kept.asks whole stand.0).1 measured);
          untouched = subst (λ (o : Option ℕ). is_untouched o (begun_with o whole h) h ≡ true) (sym place) (untouched_is fetched.id whole h);
        }

    completed_is : completed r h round answer whole ≡ last_entry ∷ g
    completed_is =
        ap (λ (o : Option ℕ). after (with_large o whole (dropped_before_large o (drops_of_whole o whole h) h)) (last_shown r (with_large o whole h) round.tag round.body answer)) place
        ∙ ap (λ (l : List ℕ). after (with_large (Some fetched.id) whole (dropped_before_large (Some fetched.id) l h)) (last_shown r g round.tag round.body answer)) (none_dropped fetched.id whole h)
        ∙ ap (λ (l : History). after (with_large (Some fetched.id) whole l) (last_shown r g round.tag round.body answer)) (before_none fetched.id whole h)
        ∙ ap (after g) last_adds

    completes : Completes r (dialogue_of f whole) round answer (last_entry ∷ g)
    completes = (last_is_shown r (dialogue_of f whole) round answer whole (last_entry ∷ g) byte refl).1 (shown_last, sym completed_is)

    module _ (idle : asks_upon f.kept route.tag answer ≡ false) where
      heard : IsHeardOn f.kept (dialogue_of f whole) route.tag turn.round answer (last_entry ∷ g)
      heard = heard_on w q older k limits (Some whole, own.all whole stand, own.kept) route.tag round answer turn.answers.0 turn.answers.1 (Some whole) (last_entry ∷ g)

      abbrev behind : Dialogue
      behind = record (dialogue_of f whole) { requester = heard.history; responder = last_entry ∷ g; fetching = while_fetched heard.history None; round = Some (answered round) }

      awaits_none : is_fetching (outstanding heard.history) ≡ false
      awaits_none = heard.asks ∙ idle

      replies : RepliesBy w (dialogue_of f whole) (Whole route answer) behind
      unfolding Answers
      replies =
          (turn.body, turn.owner, (round, turn.answers.0, turn.answers.1, turn.answers.2, (last_entry ∷ g, None, inr (inr (inr (completes, refl))), (heard.history, heard.hears, refl, ap (λ (b : Bool). not b || false) awaits_none))))

      pub ends_fetching : EndsFetching w f (Whole route answer) last_kept
      ends_fetching = (whole, behind, stand, replies, ap (λ (b : Bool). cond b None None) awaits_none, sym heard.kept)

      -- ---- The table.

      changes : LastChunkChanges → (begun_between (restored k) (restored last_kept) ≡ None) × (answered_between (restored k) (restored last_kept) ≡ answered_by (Adds last_entry))
      changes chunks =
          let law = chunks w q older (dialogue_of f whole) (restored last_kept) round answer (own.all whole stand) turn.answers.0 completes in
          let same : completes.0 ≡ whole = sym (same_Some whole completes.0 completes.3) in
          let first : completes.2 ≡ last_entry = sym (ap (λ (l : History). first_of l last_entry) completes.8) in
          (law.0 ∙ ap (λ (o : Option ℕ). begun_by_large o completes.0 h) place ∙ begins_none fetched.id completes.0 h, law.1 ∙ ap (λ (x : Entry). answered_by (Adds x)) first)
        where
          first_of : History → Entry → Entry
          first_of [] x = x
          first_of (y ∷ l) x = y

      pub step_last : AnswerAccepts → LastChunkChanges → IsStep (restored f.kept) (restored last_kept)
      step_last accepts chunks =
          quiet_step (restored f.kept) (restored last_kept) refl (changes chunks).0
          (accepted_on f.kept (last_entry ∷ g) route.tag turn.round answer turn.answers.0 turn.answers.1 accepts ∙ none_accepted f.kept turn.round.tag answer turn.body read.sealed)

      pub change_last : AnswerAccepts → LastChunkChanges → (change : Change) → change.begun ≡ None → change.accepted ≡ accepted_from f.kept turn.round.tag answer
          → change.answered ≡ taken_shown g turn.round.body answer → change.asked ≡ None → change.views ≡ views_in (last_entry ∷ g) → IsChange change (restored f.kept) (restored last_kept)
      change_last accepts chunks change begun accepted answered_is asked views = record {
        begun = begun ∙ sym (changes chunks).0;
        accepted = accepted ∙ sym (accepted_on f.kept (last_entry ∷ g) route.tag turn.round answer turn.answers.0 turn.answers.1 accepts);
        answered = answered_is ∙ taken_is r g turn.round.tag turn.round.body answer read.record_is read.read.taken read.sealed ∙ sym (changes chunks).1;
        asked = asked ∙ sym (asked_on f.kept (last_entry ∷ g) route.tag turn.round answer turn.answers.0 turn.answers.1);
        views = views;
      }

      pub ended_on : (new : Party) (newly : InSession) (table : List Seen) → IsAsker new.asker q last_kept → IsAnswerer new.answerer r (last_entry ∷ g) → StandFor new.keys r (last_entry ∷ g) → new.number ≡ number_from 1 q.eid w.requesters
          → rows_of.StandFor new.places (restored last_kept) (rows_upon f.kept last_kept rows) → StandsForRows table w (length older + 1) (rows_upon f.kept last_kept rows)
          → IsRepliedTo w q older rows f route answer (Ok upon.Ended) new (IsFetchedIn new newly w q) table
      ended_on new newly table asker answerer keys number places stands =
          (last_kept, ends_fetching, record { asker = asker; answerer = answerer; keys = keys; number = number; places = places }, stands)
