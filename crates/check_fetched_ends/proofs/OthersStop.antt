-- An answer in a session that gives no chunk of the large one, and in response to which the requester asks for none:
-- the connection stands for the history in which the large response was not seen.
use Rattle.std.proofs.Common.{◌≡◌, ◌≢◌, ◌<◌, ◌&&◌, ℕ, List, [], ◌∷◌, refl, sym, ap, ◌∙◌, subst, drop, Bool, true, false, Option, Some, None, is_none, is_some}
use Rattle.std.proofs.lemmas.Bool.{false≢true}
use Rattle.mctp_framing.specs.Cutting.{RouteFields}
use Rattle.spdm_basis.proofs.Bools.{and_first}
use Rattle.check_ends.proofs.InTurn.{AnswersInTurn}
use Rattle.check_responder.specs.JudgedResponder.{IsAnswerer, history_shown}
use Rattle.check_responder.specs.declared.judged_responder.JudgedResponder.{JudgedResponder}
use Rattle.check_ends.specs.declared.party.Party.{Party}
use Rattle.check_laws.specs.ChangeLaws.{answered_by}
use Rattle.check_laws.specs.DropsShown.{IsShownAnswer}
use Rattle.check_laws.specs.RepliesShown.{responder_for}
use Rattle.responder_core.specs.Sessions.{IsViewOf}
use Rattle.check_fetched_laws.specs.JudgedFor.{IsMeasured, JudgesFor, session_with}
use Rattle.check_late_laws.specs.Fetching.{Fetching, IsFetchingOf}
use Rattle.requester_machine.specs.May.{IsSetUp}
use Rattle.requester_machine.specs.Setup.{ReqSetup}
use Rattle.responder_machine.specs.History.{Entry, History}
use Rattle.responder_machine.specs.May.{with_dropped}
use Rattle.responder_machine.specs.Place.{session_place}
use Rattle.responder_machine.specs.Refusal.{has_pending}
use Rattle.responder_machine.specs.Responder.Outcome.{Same, Unopened, Adds}
use Rattle.responder_machine.specs.Responder.{Outcome, after}
use Rattle.responder_machine.specs.Session.{Events, is_live, session_of}
use Rattle.responder_machine.specs.Session.Event.{Heard}
use Rattle.responder_machine.specs.Setup.{RspSetup}
use Rattle.responder_machine.specs.Turn.{handle_in, is_taken, takes}
use Rattle.responder_session.specs.Pending.{IsUncounted}
use Rattle.spdm_grammar.specs.declared.messages.error_code.ErrorCode.{ErrorCode}
use Rattle.spdm_grammar.specs.declared.names.request_code.TheConstants.{CHUNK_GET}
use Rattle.spdm_grammar.specs.declared.told.session_view.SessionView.{SessionView}
use Rattle.capture_machine.proofs.EventsAlike.{live_alike}
use Rattle.capture_machine.proofs.FetchedSessions.{ended_fetched, sessions_fetched}
use Rattle.capture_machine.proofs.FetchedTells.{kept_large}
use Rattle.capture_machine.specs.LargeAnswers.{with_large}
use Rattle.capture_machine.specs.SessionTable.{Row}
use Rattle.world_machine.specs.Setup.{Configuration}
use Rattle.check_fetched_ends.proofs.InSessionPut.{measured}
use Rattle.check_fetched_ends.proofs.LeftBefore.{apart, one, two, unseen_is}
use Rattle.check_fetched_laws.proofs.MeasuredStays.{measured_stays}
use Rattle.check_fetched_ends.proofs.OtherBytes.{flipped}
use Rattle.check_fetched_ends.proofs.OthersKept.{behind, ids, large_then, outcome, unseen_then}
use Rattle.check_fetched_laws.proofs.OthersLed.{IsSealed, pending_behind}
use Rattle.check_fetched_ends.proofs.OthersLeft.{left_is, live_view, none_view, sealed, session_stays, session_then, stays_then, turn_gets, turn_small, unseen_session, unseen_stays, was_live}
use Rattle.check_late_laws.proofs.Late.SeenAlike.{live_alike as seen_live}
use Rattle.check_fetched_laws.proofs.SeenGone.{gone_stands, other_session}
use Rattle.check_late_laws.proofs.Late.SeenSessions.{seen_alike}
use Rattle.check_fetched_laws.proofs.SizesSeen.{session_queue, session_turns}
use Rattle.check_fetched_laws.proofs.Uncounted.{uncounted_first, uncounted_more}
use Rattle.check_fetched_ends.specs.InSession.{IsFetchedIn}
use Rattle.check_fetched_ends.specs.SessionOthers.{IsOtherAnswer, MayForget, left_then}
use Rattle.check_fetched_ends.specs.declared.session_fetch.in_session.InSession.{InSession}

-- Where something is pending, there is a session.
pending_live : (s : Events) → has_pending (session_place s) ≡ true → is_live s ≡ true
pending_live [] pending = absurd (false≢true pending)
pending_live (x ∷ s) pending = refl

taken_by : (o : Option ErrorCode) → (is_some o && true) ≡ false → is_none o ≡ true
taken_by None is = refl
taken_by (Some code) is = absurd (false≢true (sym is))

module _ (w : Configuration) (q : ReqSetup) (older : List (List ℕ)) (rows : List Row) (f : Fetching) (route : RouteFields) (answer : List ℕ) (byte : w.responder.beat < 256) (limits : IsSetUp f.kept.setup) (own : IsFetchingOf w q older f) (turn : AnswersInTurn f.kept route answer)
    (party : Party) (fetched : InSession) (kept : IsFetchedIn party fetched w q f rows) (refuses : Bool) (other : IsOtherAnswer (responder_for w f.kept) fetched f turn.round answer refuses)
    (shown : IsShownAnswer (responder_for w f.kept) (with_large (Some fetched.id) kept.whole f.kept.responder) turn.round.tag turn.round.body answer)
    (view : Option SessionView) (viewed : IsViewOf view (session_of fetched.id (history_shown (responder_for w f.kept) (with_large (Some fetched.id) kept.whole f.kept.responder) turn.round.tag turn.round.body answer)))
    (taken : Option ℕ) (takes_it : taken ≡ answered_by (outcome w q older rows f route answer byte limits own turn party fetched kept refuses other shown))
    (left : Bool) (left_as : left ≡ left_then fetched.left (is_some view) (is_none taken) refuses) where
  abbrev r : RspSetup
  r = responder_for w f.kept

  abbrev h : History
  h = f.kept.responder

  abbrev id : ℕ
  id = fetched.id

  abbrev x : List ℕ
  x = kept.whole

  abbrev g : History
  g = with_large (Some fetched.id) kept.whole f.kept.responder

  abbrev dropped : List ℕ
  dropped = ids w q older rows f route answer byte limits own turn party fetched kept refuses other shown

  abbrev leads_to : Outcome
  leads_to = outcome w q older rows f route answer byte limits own turn party fetched kept refuses other shown

  abbrev pub then : History
  then = behind w q older rows f route answer byte limits own turn party fetched kept refuses other shown

  large_is : with_large (Some id) x then ≡ history_shown r g turn.round.tag turn.round.body answer
  large_is = large_then w q older rows f route answer byte limits own turn party fetched kept refuses other shown

  pending_is : has_pending (session_place (session_with id then x)) ≡ left
  pending_is = left_is w q older rows f route answer byte limits own turn party fetched kept refuses other shown view viewed taken takes_it ∙ sym left_as

  -- What judges with these bytes.
  pub judges_then : (answerer : JudgedResponder) → IsAnswerer answerer (responder_for w f.kept) (history_shown (responder_for w f.kept) (with_large (Some fetched.id) kept.whole f.kept.responder) turn.round.tag turn.round.body answer)
      → JudgesFor answerer.connection (responder_for w f.kept) then (Some fetched.id) kept.whole
  judges_then answerer is = subst (IsAnswerer answerer r) (sym large_is) is

  -- ---- A chunk is left behind it.

  module _ (some : left ≡ true) where
    was_left : fetched.left ≡ true
    was_left = and_first fetched.left _ (and_first (fetched.left && is_some view) _ (sym left_as ∙ some))

    more_then : has_pending (session_place (session_with id then x)) ≡ true
    more_then = pending_is ∙ some

    live_then : is_live (session_with id then x) ≡ true
    live_then = pending_live (session_with id then x) more_then

    live_with : (v : List ℕ) → is_live (session_with id then v) ≡ true
    live_with v =
        sym (live_alike (session_with id then x) (session_with id then v)
        (sessions_fetched id (Some id) x v then (record { id = id; at = refl; stand = unseen_then w q older rows f route answer byte limits own turn party fetched kept refuses other shown })))
        ∙ live_then

    measured_then : (v : List ℕ) → IsMeasured id h v → IsMeasured id then v
    measured_then v = measured_stays id h then v (stays_then w q older rows f route answer byte limits own turn party fetched kept refuses other shown more_then live_then v (live_with v))

    one_measured : IsMeasured fetched.id then kept.whole
    one_measured = measured_then x (one w q older rows f route answer byte limits own turn party fetched kept refuses other was_left)

    other_measured : IsMeasured fetched.id then (flipped kept.whole)
    other_measured = measured_then (flipped x) (two w q older rows f route answer byte limits own turn party fetched kept refuses other was_left)

  -- ---- None is left, and the session is live.

  module _ (gone : left ≡ false) (live : is_live (session_with id then x) ≡ true) where
    own_live : is_live (session_of id then) ≡ true
    own_live = sym (seen_live (session_with id then x) (session_of id then) (seen_alike id id x then (unseen_then w q older rows f route answer byte limits own turn party fetched kept refuses other shown))) ∙ live

    none_then : has_pending (session_place (session_with id then x)) ≡ false
    none_then = pending_is ∙ gone

    -- Nothing was taken.
    idle_by : (b : Bool) → fetched.left ≡ b → (o : Outcome) → leads_to ≡ o → after (with_dropped g dropped) o ≡ with_dropped g dropped → after (with_dropped h dropped) o ≡ with_dropped h dropped
        → IsUncounted (session_with id then x) (session_of id then)
    idle_by b was o is none own_none =
        let same : session_with id then x ≡ session_with id h x = session_stays w q older rows f route answer byte limits own turn party fetched kept refuses other shown (ap (after (with_dropped g dropped)) is ∙ none) live in
        let own_same : session_of id then ≡ session_of id h = unseen_stays w q older rows f route answer byte limits own turn party fetched kept refuses other shown (ap (after (with_dropped h dropped)) is ∙ own_none) own_live in
        by_left b was same own_same
      where
        by_left : (c : Bool) → fetched.left ≡ c → session_with id then x ≡ session_with id h x → session_of id then ≡ session_of id h → IsUncounted (session_with id then x) (session_of id then)
        by_left true was same own_same = absurd (false≢true (sym none_then ∙ ap (λ (y : Events). has_pending (session_place y)) same ∙ kept.pending ∙ was))
        by_left false was same own_same =
            subst (λ (y : Events). IsUncounted y (session_of id then)) (sym same) (subst (IsUncounted (session_with id h x)) (sym own_same) (kept.uncounted was (sym (ap is_live same) ∙ live)))

    -- A record was.
    module _ (e : Entry) (is : leads_to ≡ Adds e) where
      abbrev its : IsSealed r g turn.round.tag turn.round.body e
      its = sealed w q older rows f route answer byte limits own turn party fetched kept refuses other shown e is

      gets_none : takes CHUNK_GET its.turn ≡ false
      gets_none = turn_gets w q older rows f route answer byte limits own turn party fetched kept refuses other shown e is

      goes_small : is_some (handle_in its.turn.effect) ≡ false
      goes_small = turn_small w q older rows f route answer byte limits own turn party fetched kept refuses other shown e is

      session_is : session_with id then x ≡ Heard (drop 1 turn.round.body) its.turn its.reply ∷ session_with id h x
      session_is = session_then w q older rows f route answer byte limits own turn party fetched kept refuses other shown e is live

      own_is : session_of id then ≡ Heard (drop 1 turn.round.body) its.turn its.reply ∷ session_of id h
      own_is = unseen_session w q older rows f route answer byte limits own turn party fetched kept refuses other shown e is own_live

      -- It was not refused, where a chunk was left before it.
      was_taken : fetched.left ≡ true → is_taken its.turn ≡ true
      was_taken was =
          taken_by its.turn.refused
          (sym (ap (λ (b : Bool). is_some its.turn.refused && b) (kept.pending ∙ was)) ∙ sym (pending_behind (session_with id h x) (drop 1 turn.round.body) its.turn its.reply gets_none goes_small)
          ∙ sym (ap (λ (y : Events). has_pending (session_place y)) session_is) ∙ none_then)

      behind_by : (b : Bool) → fetched.left ≡ b → IsUncounted (Heard (drop 1 turn.round.body) its.turn its.reply ∷ session_with id h x) (Heard (drop 1 turn.round.body) its.turn its.reply ∷ session_of id h)
      behind_by true was =
          subst (λ (y : Events). IsUncounted (Heard (drop 1 turn.round.body) its.turn its.reply ∷ session_with id h x) (Heard (drop 1 turn.round.body) its.turn its.reply ∷ y)) (sym (unseen_is w q older rows f route answer byte limits own turn party fetched kept refuses other was))
          (uncounted_first (drop 1 turn.round.body) its.turn its.reply (session_with id h x) (ap is_some (one w q older rows f route answer byte limits own turn party fetched kept refuses other was).large) (one w q older rows f route answer byte limits own turn party fetched kept refuses other was).measured (was_taken was) gets_none goes_small)
      behind_by false was =
          uncounted_more (drop 1 turn.round.body) its.turn its.reply (session_with id h x) (session_of id h) gets_none goes_small
          (kept.uncounted was (was_live w q older rows f route answer byte limits own turn party fetched kept refuses other shown e is live))

      entry_uncounted : IsUncounted (session_with id then x) (session_of id then)
      entry_uncounted =
          subst (λ (y : Events). IsUncounted y (session_of id then)) (sym session_is)
          (subst (IsUncounted (Heard (drop 1 turn.round.body) its.turn its.reply ∷ session_with id h x)) (sym own_is) (behind_by fetched.left refl))

    by_outcome : (o : Outcome) → leads_to ≡ o → IsUncounted (session_with id then x) (session_of id then)
    by_outcome (Same b) is = idle_by fetched.left refl (Same b) is refl refl
    by_outcome (Unopened b) is = idle_by fetched.left refl (Unopened b) is refl refl
    by_outcome (Adds e) is = entry_uncounted e is

    pub uncounted_then : IsUncounted (session_with fetched.id then kept.whole) (session_of fetched.id then)
    uncounted_then = by_outcome leads_to refl

  -- ---- It may be forgotten.

  may_by : (b c : Bool) → left ≡ b → is_some view ≡ c → MayForget id then x b c
  may_by true c some is = (flipped x, apart w q older rows f route answer byte limits own turn party fetched kept refuses other (was_left some), one_measured some, other_measured some)
  may_by false true none is = record {
    own = uncounted_then none (ap (λ (l : History). is_live (session_of id l)) large_is ∙ live_view view _ viewed is);
    others = λ i other_id. other_session i id x then other_id;
    turns = session_turns id x then;
    kept = kept_large (Some id) x then;
    ended = ended_fetched (Some id) x then;
    queue = session_queue id x then;
  }
  may_by false false none is = λ c s judges.
      gone_stands c s id x then (unseen_then w q older rows f route answer byte limits own turn party fetched kept refuses other shown) (ap (session_of id) large_is ∙ none_view view _ viewed is) judges

  pub may_forget : MayForget fetched.id then kept.whole left (is_some view)
  may_forget = may_by left (is_some view) refl refl
