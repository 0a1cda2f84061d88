-- VERSION ends the large response that is fetched in the clear.
use Rattle.std.proofs.Common.{◌≡◌, ◌+◌, ◌<◌, ◌==◌, ◌||◌, ◌∙◌, ℕ, List, [], ◌∷◌, refl, sym, ap, subst, length, Bool, true, false, Option, Some, None, cond, inl, Ok}
use Rattle.std.specs.Prelude.{not}
use Rattle.mctp_framing.specs.Cutting.{RouteFields}
use Rattle.mctp_framing.specs.Gathering.Gathered.{Whole}
use Rattle.check_ends.proofs.InTurn.{AnswersInTurn}
use Rattle.check_responder.specs.AnswerKeys.{StandFor}
use Rattle.check_responder.specs.JudgedResponder.{IsAnswerer}
use Rattle.check_requester.specs.JudgedRequester.{Carries, IsAsker}
use Rattle.check_requester.specs.HeardKept.{asks_upon, heard_kept}
use Rattle.check_responder.specs.declared.answer_keys.AnswerKeys.{AnswerKeys}
use Rattle.check_ends.specs.declared.party.Party.{Party}
use Rattle.check_laws.specs.ChangeLaws.{AnswerAccepts, WholeAnswerChanges}
use Rattle.check_laws.specs.Changes.{IsChange, IsStep, views_in}
use Rattle.check_laws.specs.Keeping.{Kept, restored}
use Rattle.check_laws.specs.KeptChanges.{accepted_from}
use Rattle.check_laws.specs.RepliesShown.{answered, responder_for}
use Rattle.check_laws.specs.Rows as rows_of
use Rattle.check_laws.specs.Rows.{StandsForRows}
use Rattle.check_laws.specs.declared.change.Change.{Change}
use Rattle.check_laws.specs.declared.verdict.Seen.{Seen}
use Rattle.check_fetched_laws.proofs.ClearViews.{keys_stand_on}
use Rattle.check_fetched_laws.proofs.MeanwhileClear.{version_goes}
use Rattle.check_fetched_laws.proofs.VersionGiven.{version_is_given}
use Rattle.check_fetched_laws.specs.StandsAlike.{version_entry}
use Rattle.check_fetched_ends.proofs.ChangesOn.{accepted_on, asked_on}
use Rattle.check_fetched_ends.proofs.HeardOn.{IsHeardOn, heard_on}
use Rattle.check_fetched_ends.proofs.HeldOn.{carries}
use Rattle.check_late_laws.proofs.Late.QuietSteps.{quiet_step}
use Rattle.check_late_laws.proofs.Late.VersionHeard.{version_accepts_none}
use Rattle.check_fetched_ends.proofs.VersionRound.{AwaitsVersion, anew_with, awaits_version}
use Rattle.check_fetched_ends.specs.Fetched.{IsRepliedTo, rows_upon}
use Rattle.check_fetched_ends.specs.Held.{IsHeldIn}
use Rattle.check_fetched_ends.specs.declared.clear_fetch.held.Held.{Held}
use Rattle.check_fetched_ends.specs.declared.upon.Upon.TheVariants as upon
use Rattle.check_late_laws.specs.Fetching.{Fetching, IsFetchingOf, dialogue_of}
use Rattle.check_late_laws.specs.FetchingLaws.{EndsFetching}
use Rattle.requester_machine.specs.History.{outstanding}
use Rattle.requester_machine.specs.May.{IsSetUp}
use Rattle.requester_machine.specs.Setup.{ReqSetup}
use Rattle.responder_machine.specs.Answer.{version_answer}
use Rattle.responder_machine.specs.History.{History}
use Rattle.responder_machine.specs.Responder.Outcome.{Adds}
use Rattle.responder_machine.specs.Setup.{RspSetup}
use Rattle.spdm_grammar.specs.Message.RequestMessage.{GetVersion}
use Rattle.spdm_grammar.specs.Requests.{canonical_request}
use Rattle.spdm_grammar.specs.Responses.{canonical_response}
use Rattle.spdm_machine.specs.Bodies.{clear_body}
use Rattle.capture_machine.proofs.AimsHeard.{hears_version}
use Rattle.check_laws.proofs.OneWalk.{walks_alike}
use Rattle.capture_machine.proofs.Fetching.{IsSound}
use Rattle.capture_machine.specs.Capture.{RepliesBy}
use Rattle.capture_machine.specs.CapturedAnswers.{Answers, AnswersPlainly}
use Rattle.capture_machine.specs.LargeAnswers.{is_fetching, while_fetched}
use Rattle.capture_machine.specs.Rounds.{Dialogue, Round}
use Rattle.capture_machine.specs.SessionTable.{Row, number_from}
use Rattle.world_machine.specs.Setup.{Configuration}

off_by : (b : Bool) → (b ≡ true → ⊥) → b ≡ false
off_by true never = absurd (never refl)
off_by false never = refl

known_by : (b : Bool) → (not b || true) ≡ true
known_by true = refl
known_by false = refl

module _ (w : Configuration) (q : ReqSetup) (older : List (List ℕ)) (rows : List Row) (f : Fetching) (own : IsFetchingOf w q older f) (party : Party) (held : Held) (kept : IsHeldIn party held w q f rows) (route : RouteFields) (answer : List ℕ) (limits : IsSetUp f.kept.setup) (turn : AnswersInTurn f.kept route answer)
    (version : turn.round.body ≡ clear_body (canonical_request GetVersion)) where
  abbrev r : RspSetup
  r = responder_for w f.kept

  abbrev h : History
  h = f.kept.responder

  abbrev round : Round
  round = turn.round

  abbrev v : List ℕ
  v = own.stands.0

  abbrev pub behind : History
  behind = version_entry turn.round.tag ∷ f.kept.responder

  abbrev pub next : Kept
  next = heard_kept f.kept behind route.tag turn.round answer

  awaits : AwaitsVersion w q older rows f own party held kept round turn.answers.0 version
  awaits = awaits_version w q older rows f own party held kept round turn.answers.0 version

  -- The keys follow it.
  pub keys_behind : (seen : AnswerKeys) → StandFor seen (responder_for w f.kept) f.kept.responder → StandFor seen (responder_for w f.kept) behind
  keys_behind seen keys = keys_stand_on seen r (version_entry round.tag ∷ []) h (tt, tt) keys

  -- ---- The table.

  pub accepts_none : accepted_from f.kept turn.round.tag answer ≡ None
  accepts_none = version_accepts_none f.kept round.tag answer awaits.sent awaits.waits awaits.aims

  module _ (accepts : AnswerAccepts) (law : WholeAnswerChanges) where
    pub version_change : (change : Change) → change.begun ≡ None → change.accepted ≡ None → change.answered ≡ None → change.asked ≡ None → change.views ≡ views_in behind → IsChange change (restored f.kept) (restored next)
    version_change change begun accepted taken asked views =
        let changes = law (restored f.kept) (restored next) [] (Adds (version_entry round.tag)) refl in record {
          begun = begun ∙ sym changes.0;
          accepted = accepted ∙ sym (accepted_on f.kept behind route.tag round answer turn.answers.0 turn.answers.1 accepts ∙ accepts_none);
          answered = taken ∙ sym changes.1;
          asked = asked ∙ sym (asked_on f.kept behind route.tag round answer turn.answers.0 turn.answers.1);
          views = views;
        }

    pub version_step : IsStep (restored f.kept) (restored next)
    version_step =
        let changes = law (restored f.kept) (restored next) [] (Adds (version_entry round.tag)) refl in
        quiet_step (restored f.kept) (restored next) refl changes.0 (accepted_on f.kept behind route.tag round answer turn.answers.0 turn.answers.1 accepts ∙ accepts_none)

  -- ---- It ends.

  module _ (given : answer ≡ clear_body (canonical_response version_answer)) where
    plainly : AnswersPlainly r (dialogue_of f v) round answer behind
    plainly = (version_goes version_is_given r (dialogue_of f v) v round answer behind refl version (anew_with w q older rows f own party held kept round turn.answers.0 version v)).1 (given, refl)

    carried : Carries w q older f.kept
    carried = carries w q older rows f own party held kept

    heard : IsHeardOn f.kept (dialogue_of f v) route.tag round answer behind
    heard = heard_on w q older f.kept limits carried route.tag round answer turn.answers.0 turn.answers.1 (Some v) behind

    sound : IsSound (dialogue_of f v)
    sound = (walks_alike w q older (dialogue_of f v) (dialogue_of f v) (own.all v own.stands.1) (own.all v own.stands.1)).one

    fetches_none : is_fetching (outstanding heard.history) ≡ false
    fetches_none =
        off_by (is_fetching (outstanding heard.history))
        (hears_version (dialogue_of f v) route.tag answer round.body heard.history awaits.sent (sound.asker round turn.answers.0) awaits.waits awaits.aims heard.hears)

    abbrev then_is : Dialogue
    then_is = record (dialogue_of f v) { requester = heard.history; responder = behind; fetching = while_fetched heard.history (Some v); round = Some (answered round) }

    replies : RepliesBy w (dialogue_of f v) (Whole route answer) then_is
    unfolding Answers
    replies =
        (turn.body, turn.owner, (round, turn.answers.0, turn.answers.1, turn.answers.2, (behind, Some v, inl (plainly, refl), (heard.history, heard.hears, refl, known_by (is_fetching (outstanding heard.history))))))

    ends : EndsFetching w f (Whole route answer) next
    ends = (v, then_is, own.stands.1, replies, ap (λ (b : Bool). cond b (Some v) None) fetches_none, sym heard.kept)

    pub ended_version : (new : Party) (stands : Fetching → List Row → Type 0) (table : List Seen) → IsAsker new.asker q next → IsAnswerer new.answerer (responder_for w f.kept) behind → StandFor new.keys (responder_for w f.kept) behind → new.number ≡ number_from 1 q.eid w.requesters
        → rows_of.StandFor new.places (restored next) (rows_upon f.kept next rows) → StandsForRows table w (length older + 1) (rows_upon f.kept next rows) → IsRepliedTo w q older rows f route answer (Ok upon.Ended) new stands table
    ended_version new stands table asker answerer keys number places rows_stand =
        (next, ends, record { asker = asker; answerer = answerer; keys = keys; number = number; places = places }, rows_stand)
