-- What is reported of an answer in a session that gives no chunk of the large one.
use Rattle.std.proofs.Common.{◌≡◌, ◌<◌, ◌+◌, ◌-◌, ◌^◌, ◌==◌, ℕ, List, [], ◌∷◌, refl, sym, ap, ◌∙◌, subst, drop, length, arith, Bool, true, false, Option, Some, None, Ok, Err, inl, inr, is_none, is_some}
use Rattle.std.specs.Prelude.{not, slice_index}
use Rattle.std.proofs.lemmas.Bool.{false≢true}
use Rattle.std.proofs.lemmas.Option.{none-some}
use Rattle.mctp_framing.specs.Cutting.{RouteFields}
use Rattle.mctp_framing.specs.Gathering.Gathered.{Whole}
use Rattle.spdm_basis.proofs.Bools.{and_first}
use Rattle.check_requester.proofs.FewMessages.{after_more, dropped_same}
use Rattle.check_ends.proofs.InTurn.{AnswersInTurn}
use Rattle.check_ends.proofs.KeptTyped.{kept_body}
use Rattle.check_responder.specs.AnswerKeys.{StandFor}
use Rattle.check_responder.specs.JudgedResponder.{IsAnswerer, history_shown}
use Rattle.check_requester.specs.JudgedRequester.{Carries, IsAsker}
use Rattle.check_responder.specs.ClearAnswers.{EndsLarge}
use Rattle.check_requester.specs.HeardKept.{asks_upon}
use Rattle.check_responder.specs.RecordAnswers.{IsGivenTo, history_behind}
use Rattle.check_responder.specs.declared.judged_responder.JudgedResponder.{JudgedResponder}
use Rattle.check_responder.specs.declared.given.Given.{Given}
use Rattle.check_responder.specs.declared.given.Given.TheVariants as given
use Rattle.check_ends.specs.declared.party.Party.{Party}
use Rattle.check_laws.proofs.AnswerChanges.{kept_answer_changes}
use Rattle.check_laws.proofs.OneWalk.{walks_alike}
use Rattle.check_laws.specs.AnswersShown.{values_shown_by}
use Rattle.check_laws.specs.ChangeLaws.{AnswerAccepts, WholeAnswerChanges, answered_by, begun_by}
use Rattle.check_laws.specs.Changes.{IsChange, IsStep, views_in}
use Rattle.check_laws.specs.DropsShown.{IsShownAnswer, drops_shown_by, outcome_shown}
use Rattle.check_laws.specs.Judged.{why_of}
use Rattle.check_laws.specs.Order.{body_in, tag_in}
use Rattle.check_laws.specs.Keeping.{Kept, restored}
use Rattle.check_laws.specs.KeptChanges.{IsAnswerStep, accepted_from, taken_shown}
use Rattle.check_laws.specs.LargeShown.{IsShownLarge, ends_large, last_shown}
use Rattle.check_laws.specs.RepliesShown.{answered_from, no_values, replied, responder_for}
use Rattle.check_laws.specs.Rows as rows_of
use Rattle.check_laws.specs.Rows.{StandsForRows}
use Rattle.check_laws.specs.declared.change.Change.{Change}
use Rattle.check_laws.specs.declared.verdict.Seen.{Seen}
use Rattle.responder_core.specs.Sessions.{IsViewOf}
use Rattle.check_fetched_laws.specs.JudgedFor.{session_with}
use Rattle.check_late_laws.proofs.PlainLaws.{Now, now}
use Rattle.check_late_laws.proofs.PlainLaws.Now.{Version, Chunk}
use Rattle.check_late_laws.specs.Fetching.{Fetching, IsFetchingOf, MayStand, dialogue_of}
use Rattle.requester_machine.specs.History.{outstanding}
use Rattle.requester_machine.specs.May.{IsSetUp}
use Rattle.requester_machine.specs.Setup.{ReqSetup}
use Rattle.responder_machine.specs.Answer.{Free}
use Rattle.responder_machine.specs.BoundLaws.{messages_of}
use Rattle.responder_machine.specs.History.{History, kept_of}
use Rattle.responder_machine.specs.May.{on_body, with_dropped}
use Rattle.responder_machine.specs.Place.{place_terms, session_place}
use Rattle.responder_machine.specs.Refusal.{has_pending}
use Rattle.responder_machine.specs.Responder.Outcome.{Same, Unopened, Adds}
use Rattle.responder_machine.specs.Responder.{Outcome, after, body_of, is_repeat}
use Rattle.responder_machine.specs.Session.{session_of, session_terms}
use Rattle.responder_machine.specs.Setup.{RspSetup}
use Rattle.spdm_grammar.specs.declared.told.why.Why as declared
use Rattle.spdm_grammar.specs.Message.RequestMessage.{GetVersion}
use Rattle.spdm_grammar.specs.Requests.{canonical_request}
use Rattle.spdm_grammar.specs.declared.told.session_view.SessionView.{SessionView}
use Rattle.spdm_machine.specs.Bodies.{record_body}
use Rattle.capture_machine.proofs.Fetching.{IsSound}
use Rattle.capture_machine.specs.CapturedAnswers.{MayLeadTo}
use Rattle.capture_machine.specs.Difference.{reply_why}
use Rattle.capture_machine.specs.LargeAnswers.{is_fetching, takes_get, with_large}
use Rattle.capture_machine.specs.Rounds.{Round, no_draw}
use Rattle.capture_machine.specs.SessionTable.{Row, number_from}
use Rattle.world_machine.specs.Setup.{Configuration}
use Rattle.check_late_laws.proofs.Late.AcceptsNone.{record_accepts}
use Rattle.check_fetched_ends.proofs.AsksTold.{plain_ends}
use Rattle.check_fetched_ends.proofs.BegunGiven.{none_begun}
use Rattle.check_fetched_ends.proofs.BegunTold.{six_again}
use Rattle.check_fetched_ends.proofs.ChangesOn.{accepted_on, asked_on}
use Rattle.check_fetched_ends.proofs.InSessionRefused.{refused}
use Rattle.check_fetched_ends.proofs.OthersKept.{answer_then, asks_then, behind, clear_then, goes, ids, large_then, leads, next, outcome, plainly, stands_then, unseen_then}
use Rattle.check_fetched_ends.proofs.OthersLeft.{left_is, sizes_then}
use Rattle.check_fetched_ends.proofs.OthersStop.{uncounted_then}
use Rattle.check_fetched_ends.proofs.OthersSame.{is_none_with}
use Rattle.check_late_laws.proofs.Late.QuietSteps.{quiet_step}
use Rattle.check_fetched_laws.proofs.SeenKeys.{keys_unseen, views_alike}
use Rattle.check_fetched_ends.specs.Fetched.{IsRepliedTo, rows_upon}
use Rattle.check_fetched_ends.specs.InSession.{IsFetchedIn}
use Rattle.check_fetched_ends.specs.SessionOthers.{IsOtherAnswer, left_then}
use Rattle.check_fetched_ends.specs.declared.session_fetch.in_session.InSession.{InSession}
use Rattle.check_fetched_ends.specs.declared.upon.Upon.TheVariants as upon

-- What is asked of an option.
pub none_of : (o : Option ℕ) (b : Bool) → is_some o ≡ not b → b ≡ is_none o
none_of None true is = refl
none_of None false is = absurd (false≢true is)
none_of (Some n) true is = absurd (false≢true (sym is))
none_of (Some n) false is = refl

module _ (w : Configuration) (q : ReqSetup) (older : List (List ℕ)) (rows : List Row) (f : Fetching) (route : RouteFields) (answer : List ℕ) (byte : w.responder.beat < 256) (limits : IsSetUp f.kept.setup) (own : IsFetchingOf w q older f) (turn : AnswersInTurn f.kept route answer)
    (party : Party) (fetched : InSession) (kept : IsFetchedIn party fetched w q f rows) (refuses : Bool) (other : IsOtherAnswer (responder_for w f.kept) fetched f turn.round answer refuses) where
  abbrev k : Kept
  k = f.kept

  abbrev r : RspSetup
  r = responder_for w f.kept

  abbrev h : History
  h = f.kept.responder

  abbrev round : Round
  round = turn.round

  abbrev g : History
  g = with_large (Some fetched.id) kept.whole f.kept.responder

  pub carries : Carries w q older f.kept
  carries = (Some kept.whole, own.all kept.whole kept.stands, own.kept)

  -- The requester awaits a chunk.
  pub awaits : true ≡ is_fetching (outstanding (restored f.kept).requester)
  awaits = by_now (now w q older f own round turn.answers.0 kept.whole kept.stands)
    where
      by_now : Now f round kept.whole → true ≡ is_fetching (outstanding (restored f.kept).requester)
      by_now (Version is) = absurd (false≢true (sym other.record_is ∙ ap (λ (l : List ℕ). slice_index l 0 == 5) is))
      by_now (Chunk gets fetch) = sym gets

  own_body : (request : List ℕ) → request ≡ drop 1 round.body → record_body request ≡ round.body
  own_body request is = ap record_body is ∙ six_again round.body other.record_is (kept_body w q older k round carries turn.answers.0)

  pub given_is : (request : List ℕ) (result : Option Given) → request ≡ drop 1 turn.round.body → IsGivenTo (responder_for w f.kept) (with_large (Some fetched.id) kept.whole f.kept.responder) turn.round.tag (record_body request) answer result
      → IsGivenTo (responder_for w f.kept) (with_large (Some fetched.id) kept.whole f.kept.responder) turn.round.tag turn.round.body answer result
  given_is request result is told = subst (λ (b : List ℕ). IsGivenTo r g round.tag b answer result) (own_body request is) told

  pub behind_given : (new : JudgedResponder) (request : List ℕ) → request ≡ drop 1 turn.round.body → IsAnswerer new (responder_for w f.kept) (history_behind (responder_for w f.kept) (with_large (Some fetched.id) kept.whole f.kept.responder) turn.round.tag (record_body request) answer given.Whole)
      → IsAnswerer new (responder_for w f.kept) (history_shown (responder_for w f.kept) (with_large (Some fetched.id) kept.whole f.kept.responder) turn.round.tag turn.round.body answer)
  behind_given new request is stands = subst (λ (b : List ℕ). IsAnswerer new r (history_shown r g round.tag b answer)) (own_body request is) stands

  -- After LargeResponse.
  pub behind_large : (new : JudgedResponder) (request : List ℕ) → request ≡ drop 1 turn.round.body → IsAnswerer new (responder_for w f.kept) (history_behind (responder_for w f.kept) (with_large (Some fetched.id) kept.whole f.kept.responder) turn.round.tag (record_body request) answer given.Large)
      → IsAnswerer new (responder_for w f.kept) (history_behind (responder_for w f.kept) (with_large (Some fetched.id) kept.whole f.kept.responder) turn.round.tag turn.round.body answer given.Large)
  behind_large new request is stands = subst (λ (b : List ℕ). IsAnswerer new r (history_behind r g round.tag b answer given.Large)) (own_body request is) stands

  -- ---- It is refused.

  -- It is no last chunk.
  pub no_last : EndsLarge (responder_for w f.kept) (with_large (Some fetched.id) kept.whole f.kept.responder) turn.round.tag turn.round.body answer → ⊥
  unfolding MayLeadTo
  no_last ends = by_outcome (last_shown r g round.tag round.body answer) (values_shown_by r g round.tag round.body answer, ends.0.0, ends.0.1, ends.0.2) ends.1 ends.2
    where
      by_outcome : (o : Outcome) → MayLeadTo r g round.tag round.body o → ends_large g o ≡ true → body_of o ≡ answer → ⊥
      by_outcome (Same b) may last sends = false≢true last
      by_outcome (Unopened b) may last sends = false≢true last
      by_outcome (Adds e) may last sends =
          false≢true (sym (other.none kept.whole e (record { stands = kept.stands; leads = may; sends = sends })) ∙ and_first (takes_get e) _ last)

  pub refused_other : (result : Option Given) → IsGivenTo (responder_for w f.kept) (with_large (Some fetched.id) kept.whole f.kept.responder) turn.round.tag turn.round.body answer result → (result ≡ Some given.Whole → ⊥) → (result ≡ Some given.Large → ⊥)
      → (why : declared.Why) → why_of why ≡ reply_why (responder_for w f.kept) (record (restored f.kept) { responder = with_large (Some fetched.id) kept.whole f.kept.responder }) answer (Some turn.round)
      → (new : Party) (stands : Fetching → List Row → Type 0) (table : List Seen) → IsRepliedTo w q older rows f route answer (Err why) new stands table
  refused_other result told plain large why is new stands table =
      refused w q older rows f route answer byte limits own turn fetched.id kept.at other.record_is fetched.least fetched.most fetched.op kept.lengths kept.asks kept.whole kept.stands why is
      (is_none_with w q older rows f route answer byte limits own turn party fetched kept refuses other (λ shown. plain (told.whole.1 shown)) (λ shown. large (told.large.1 shown))) new stands table

  -- ---- It goes on.

  module _ (shown : IsShownAnswer (responder_for w f.kept) (with_large (Some fetched.id) kept.whole f.kept.responder) turn.round.tag turn.round.body answer) where
    abbrev leads_to : Outcome
    leads_to = outcome w q older rows f route answer byte limits own turn party fetched kept refuses other shown

    abbrev pub then : History
    then = behind w q older rows f route answer byte limits own turn party fetched kept refuses other shown

    abbrev pub then_kept : Fetching
    then_kept = next w q older rows f route answer byte limits own turn party fetched kept refuses other shown

    pub few_then : messages_of (with_large (Some fetched.id) kept.whole f.kept.responder) < 2 ^ 64 - 1 → messages_of (history_shown (responder_for w f.kept) (with_large (Some fetched.id) kept.whole f.kept.responder) turn.round.tag turn.round.body answer) < 2 ^ 64
    few_then small =
        let l : List ℕ = ids w q older rows f route answer byte limits own turn party fetched kept refuses other shown in
        let same = dropped_same l g in
        let more = after_more (with_dropped g l) leads_to in
        omega (arith, small, same, more)

    -- The keys, of the history with these bytes.
    pub keys_then : (seen : Option Round) → seen ≡ Some turn.round → (new : Party)
        → ((ids : List ℕ) (v : Free) → IsAnswerer new.answerer r (after (with_dropped g ids) (on_body r (with_dropped g ids) (tag_in seen) (body_in seen) v no_draw)) → StandFor new.keys r (after (with_dropped g ids) (on_body r (with_dropped g ids) (tag_in seen) (body_in seen) v no_draw)))
        → IsAnswerer new.answerer r (history_shown r g round.tag round.body answer) → StandFor new.keys r (history_shown r g round.tag round.body answer)
    unfolding outcome_shown
    keys_then seen is new follow answerer =
        let l : List ℕ = drops_shown_by r g round.tag round.body answer in
        let v : Free = values_shown_by r (with_dropped g l) round.tag round.body answer in
        let K : Option Round → Type 0 = λ o. IsAnswerer new.answerer r (after (with_dropped g l) (on_body r (with_dropped g l) (tag_in o) (body_in o) v no_draw)) → StandFor new.keys r (after (with_dropped g l) (on_body r (with_dropped g l) (tag_in o) (body_in o) v no_draw)) in
        subst K is (follow l v) answerer

    -- What it shows is what it changes.
    steps : WholeAnswerChanges → (begun_by leads_to ≡ None) × (taken_shown g round.body answer ≡ answered_by leads_to)
    unfolding answered_from
    steps law =
        let at : Kept = record k { responder = g } in
        let l : List ℕ = ids w q older rows f route answer byte limits own turn party fetched kept refuses other shown in
        let step : IsAnswerStep at round answer (replied w at route.tag round answer) = kept_answer_changes w at route.tag round answer (turn.answers.0, turn.answers.1, turn.answers.2) shown in
        let whole = law (restored at) (restored (replied w at route.tag round answer)) l leads_to refl in
        (sym whole.0 ∙ step.begun ∙ sym (none_begun g round.tag round.body answer other.record_is), sym step.answered ∙ whole.1)

    pub taken_is : WholeAnswerChanges → (taken : Option ℕ) → taken ≡ taken_shown (with_large (Some fetched.id) kept.whole f.kept.responder) turn.round.body answer → taken ≡ answered_by leads_to
    taken_is law taken is = is ∙ (steps law).1

    pub change_then : AnswerAccepts → WholeAnswerChanges → (change : Change) → change.begun ≡ None → change.accepted ≡ accepted_from f.kept turn.round.tag answer
        → change.answered ≡ taken_shown (with_large (Some fetched.id) kept.whole f.kept.responder) turn.round.body answer → change.asked ≡ None
        → change.views ≡ views_in (history_shown (responder_for w f.kept) (with_large (Some fetched.id) kept.whole f.kept.responder) turn.round.tag turn.round.body answer) → IsChange change (restored f.kept) (restored then_kept.kept)
    change_then accepts law change begun accepted answered asked views =
        let l : List ℕ = ids w q older rows f route answer byte limits own turn party fetched kept refuses other shown in
        let whole = law (restored k) (restored then_kept.kept) l leads_to refl in
        let its = steps law in record {
          begun = begun ∙ sym its.0 ∙ sym whole.0;
          accepted = accepted ∙ sym (accepted_on k then route.tag round answer turn.answers.0 turn.answers.1 accepts);
          answered = answered ∙ its.1 ∙ sym whole.1;
          asked = asked ∙ sym (asked_on k then route.tag round answer turn.answers.0 turn.answers.1);
          views = views ∙ ap views_in (sym (large_then w q older rows f route answer byte limits own turn party fetched kept refuses other shown)) ∙ views_alike fetched.id kept.whole then (unseen_then w q older rows f route answer byte limits own turn party fetched kept refuses other shown);
        }

    -- The requester accepts no session by it.
    accepts_none : accepted_from f.kept turn.round.tag answer ≡ None
    unfolding accepted_from
    accepts_none =
        let sound : IsSound (dialogue_of f kept.whole) = (walks_alike w q older (dialogue_of f kept.whole) (dialogue_of f kept.whole) (own.all kept.whole kept.stands) (own.all kept.whole kept.stands)).one in
        record_accepts k.setup (restored k).requester no_values round.tag answer no_draw round.body (sound.asker round turn.answers.0) other.record_is

    pub step_then : AnswerAccepts → WholeAnswerChanges → IsStep (restored f.kept) (restored then_kept.kept)
    step_then accepts law =
        let l : List ℕ = ids w q older rows f route answer byte limits own turn party fetched kept refuses other shown in
        let whole = law (restored k) (restored then_kept.kept) l leads_to refl in
        quiet_step (restored k) (restored then_kept.kept) refl (whole.0 ∙ (steps law).0) (accepted_on k then route.tag round answer turn.answers.0 turn.answers.1 accepts ∙ accepts_none)

    -- The requester asks for no chunk: nothing is fetched after it.
    pub ended_then : (new : Party) (newly : InSession) (table : List Seen) → IsAsker new.asker q then_kept.kept → IsAnswerer new.answerer (responder_for w f.kept) then
        → StandFor new.keys (responder_for w f.kept) (history_shown (responder_for w f.kept) (with_large (Some fetched.id) kept.whole f.kept.responder) turn.round.tag turn.round.body answer) → new.number ≡ number_from 1 q.eid w.requesters
        → rows_of.StandFor new.places (restored then_kept.kept) (rows_upon f.kept then_kept.kept rows) → StandsForRows table w (length older + 1) (rows_upon f.kept then_kept.kept rows) → asks_upon f.kept route.tag answer ≡ false
        → IsRepliedTo w q older rows f route answer (Ok upon.Ended) new (IsFetchedIn new newly w q) table
    ended_then new newly table asker answerer keys number places entries stops =
        let large = large_then w q older rows f route answer byte limits own turn party fetched kept refuses other shown in (
          then_kept.kept,
          plain_ends w q older f route answer limits own turn.body turn.owner turn.round turn.answers kept.whole then kept.stands (plainly w q older rows f route answer byte limits own turn party fetched kept refuses other shown) stops,
          record {
            asker = asker;
            answerer = answerer;
            keys = keys_unseen new.keys r fetched.id kept.whole then (unseen_then w q older rows f route answer byte limits own turn party fetched kept refuses other shown) (subst (StandFor new.keys r) (sym large) keys);
            number = number;
            places = places;
          },
          entries,
        )

    -- What the calls leave.
    module _ (view : Option SessionView) (viewed : IsViewOf view (session_of fetched.id (history_shown (responder_for w f.kept) (with_large (Some fetched.id) kept.whole f.kept.responder) turn.round.tag turn.round.body answer))) (taken : Option ℕ) (takes_it : taken ≡ answered_by leads_to) (left : Bool) (left_as : left ≡ left_then fetched.left (is_some view) (is_none taken) refuses) where
      pub fetched_then : (new : Party) (table : List Seen) → IsAsker new.asker q then_kept.kept → IsAnswerer new.answerer (responder_for w f.kept) (history_shown (responder_for w f.kept) (with_large (Some fetched.id) kept.whole f.kept.responder) turn.round.tag turn.round.body answer)
          → StandFor new.keys (responder_for w f.kept) (history_shown (responder_for w f.kept) (with_large (Some fetched.id) kept.whole f.kept.responder) turn.round.tag turn.round.body answer) → new.number ≡ number_from 1 q.eid w.requesters
          → rows_of.StandFor new.places (restored then_kept.kept) (rows_upon f.kept then_kept.kept rows) → StandsForRows table w (length older + 1) (rows_upon f.kept then_kept.kept rows) → asks_upon f.kept route.tag answer ≡ true
          → IsRepliedTo w q older rows f route answer (Ok upon.Fetched) new (IsFetchedIn new (record fetched { left = left }) w q) table
      fetched_then new table asker answerer keys number places entries asks =
          let large = large_then w q older rows f route answer byte limits own turn party fetched kept refuses other shown in (
            then_kept,
            goes w q older rows f route answer byte limits own turn party fetched kept refuses other shown asks,
            record {
              beside = record {
                asker = asker;
                keys = keys_unseen new.keys r fetched.id kept.whole then (unseen_then w q older rows f route answer byte limits own turn party fetched kept refuses other shown) (subst (StandFor new.keys r) (sym large) keys);
                number = number;
                places = places;
              };
              at = kept.at;
              answer = answer_then w q older rows f route answer byte limits own turn party fetched kept refuses other shown;
              lengths = kept.lengths;
              asks = asks_then w q older rows f route answer byte limits own turn party fetched kept refuses other shown;
              found = kept.found;
              whole = kept.whole;
              stands = stands_then w q older rows f route answer byte limits own turn party fetched kept refuses other shown;
              judges = subst (IsAnswerer new.answerer r) (sym large) answerer;
              pending = left_is w q older rows f route answer byte limits own turn party fetched kept refuses other shown view viewed taken takes_it ∙ sym left_as;
              uncounted = λ none live. uncounted_then w q older rows f route answer byte limits own turn party fetched kept refuses other shown view viewed taken takes_it left left_as none live;
              sizes = λ some. sizes_then w q older rows f route answer byte limits own turn party fetched kept refuses other shown view viewed taken takes_it (sym left_as ∙ some);
              room = kept.room;
              anew = λ tag. ap (λ o. is_repeat o tag (canonical_request GetVersion)) (clear_then w q older rows f route answer byte limits own turn party fetched kept refuses other shown) ∙ kept.anew tag;
            },
            entries,
          )
