-- LargeResponse again in a session: what is kept after it, whether the requester asks for a chunk in response to it or
-- not.
use Rattle.std.proofs.Common.{◌≡◌, ◌≤◌, ◌<◌, ◌+◌, ◌==◌, ◌&&◌, ◌||◌, ◌∙◌, ℕ, List, [], ◌∷◌, refl, sym, ap, subst, drop, take, length, arith, Bool, true, false, Option, Some, None, is_some, is_none, cond, inl, inr}
use Rattle.std.specs.Int.{div_ceil}
use Rattle.std.specs.Prelude.{nat_lt, not, slice_index, bytes_eq}
use Rattle.std.proofs.lemmas.Bool.{and_parts, false≢true}
use Rattle.std.proofs.lemmas.Bool.Decides.{nat_tests}
use Rattle.std.proofs.lemmas.List.{length-replicate}
use Rattle.std.proofs.lemmas.Option.{same_Some}
use Rattle.std.proofs.lemmas.Slice.Eq.{bytes_eq-Decides}
use Rattle.check_responder.proofs.AnyAnswers.{session_few}
use Rattle.check_requester.proofs.CarriedBy.{keeps_carries}
use Rattle.check_ends.proofs.InTurn.{AnswersInTurn}
use Rattle.check_responder.proofs.RecordAnswered.{session_sized}
use Rattle.check_responder.specs.AnswerKeys.{StandFor, will_take}
use Rattle.check_responder.specs.JudgedResponder.{IsAnswerer}
use Rattle.check_requester.specs.JudgedRequester.{Carries, IsAsker}
use Rattle.check_requester.specs.HeardKept.{asks_upon, heard_kept}
use Rattle.check_responder.specs.ShownBy.{HasFewBlocks}
use Rattle.check_ends.specs.declared.party.Party.{Party}
use Rattle.check_laws.proofs.KeptAnswers.{kept_is_restored}
use Rattle.check_laws.proofs.LeastValues.{least_allowed}
use Rattle.check_laws.specs.AnswersShown.{least_values}
use Rattle.check_laws.specs.ChangeLaws.{AnswerAccepts}
use Rattle.check_laws.specs.Changes.{IsChange, IsStep, answered_in, views_in}
use Rattle.check_laws.specs.Keeping.{Keeps, Kept, RepliesKept, kept_of, restored}
use Rattle.check_laws.specs.KeptChanges.{accepted_from}
use Rattle.check_laws.specs.RepliesShown.{answered, responder_for}
use Rattle.check_laws.specs.Rows as rows_of
use Rattle.check_laws.specs.Rows.{StandsForRows}
use Rattle.check_laws.specs.Walks.{Walks}
use Rattle.check_laws.specs.declared.change.Change.{Change}
use Rattle.responder_core.specs.Connected as connected
use Rattle.responder_core.specs.LateFetch.{history_pending}
use Rattle.responder_core.specs.Pending.{passes}
use Rattle.responder_core.specs.declared.connected.Connection.{Connection}
use Rattle.check_fetched_laws.proofs.VersionWalks.{walks_form}
use Rattle.check_fetched_laws.specs.JudgedFor.{session_with}
use Rattle.check_fetched_ends.proofs.AgainReads.{asked_again, large_again, session_is, shown}
use Rattle.check_fetched_ends.proofs.AgainStands.{asks_for, inner, its}
use Rattle.check_fetched_ends.proofs.AgainTold.{answer_is, request_is, was_unseen}
use Rattle.check_fetched_laws.proofs.AnewSessions.{IsReady, live_ready}
use Rattle.check_fetched_ends.proofs.BegunStands.{ceil_some}
use Rattle.check_fetched_ends.proofs.BegunTold.{six_again}
use Rattle.check_fetched_ends.proofs.ChangesOn.{accepted_on, asked_on}
use Rattle.check_fetched_ends.proofs.EndedApart.{ended_apart}
use Rattle.check_fetched_ends.proofs.HeardOn.{heard_on}
use Rattle.check_late_laws.proofs.Late.MeasuredTurns.{large_turn}
use Rattle.check_fetched_laws.proofs.NewestLed.{NewestLed, newest_led}
use Rattle.check_fetched_laws.proofs.NewestStands.{NewestIs, newest_is}
use Rattle.check_late_laws.proofs.Late.QuietSteps.{none_accepted, quiet_step}
use Rattle.check_fetched_ends.specs.AgainBegins.{IsAgainInRecord}
use Rattle.check_fetched_ends.specs.AgainRead.{IsAskedIn, IsKeptIn, IsLargeAgain, last_message}
use Rattle.check_fetched_ends.specs.Fetched.{rows_upon}
use Rattle.check_fetched_ends.specs.InSession.{AreLengths, AsksFor, IsFetchedIn}
use Rattle.check_fetched_ends.specs.declared.session_fetch.in_session.InSession.{InSession}
use Rattle.chunking.specs.Cutting.{unit_of}
use Rattle.check_late_laws.specs.Fetching.{Fetching, HasSize, MayStand, bytes_given, number_given, number_of, size_told}
use Rattle.check_late_laws.specs.FetchingLaws.{BeginsFetching}
use Rattle.check_late_laws.proofs.Late.SessionNewest.{again_is_newest}
use Rattle.check_late_laws.proofs.Late.WalksStand.{walk_stands}
use Rattle.check_late_laws.specs.Late.AgainInSession.{newest_with}
use Rattle.mctp_framing.specs.Cutting.{RouteFields}
use Rattle.mctp_framing.specs.Gathering.Gathered.{Whole}
use Rattle.requester_machine.specs.History.{outstanding}
use Rattle.requester_machine.specs.May.{IsSetUp}
use Rattle.requester_machine.specs.Setup.{ReqSetup}
use Rattle.responder_machine.specs.Answer.{Free}
use Rattle.responder_machine.specs.History.{History, KeptRecord, clear_turns, ended_of, phase_of}
use Rattle.responder_machine.specs.May.{IsAllowed, on_body, place_for}
use Rattle.responder_machine.specs.Place.{Place, clear_place, place_terms, session_place}
use Rattle.responder_machine.specs.Records.{opened, opening_fault}
use Rattle.responder_machine.specs.Refusal.{has_pending}
use Rattle.responder_machine.specs.Responder.{Outcome, in_session, in_session_by, kept_record, on_clear, on_record, repeats, to_session}
use Rattle.responder_machine.specs.Responder.Outcome.{Same}
use Rattle.responder_machine.specs.Session.{Events, id_in_record, is_live, last_of, session_of, session_terms, turns_of}
use Rattle.responder_machine.specs.Session.Event.{Heard}
use Rattle.responder_machine.specs.Setup.{RspSetup}
use Rattle.responder_machine.specs.Turn.{Turn}
use Rattle.responder_session.specs.LastRead.{is_last, reply_opened}
use Rattle.responder_session.specs.LateFetch.{IsNewestUnseen, turn_pending}
use Rattle.spdm_basis.specs.declared.causes.record_fault.RecordFault.{RecordFault}
use Rattle.spdm_grammar.specs.Fields.{zeros}
use Rattle.spdm_grammar.specs.Message.RequestMessage.{GetMeasurements}
use Rattle.spdm_grammar.specs.declared.names.TheConstants.{MAX_MESSAGE_SIZE}
use Rattle.spdm_grammar.specs.declared.told.phase.Phase.{Phase}
use Rattle.spdm_machine.specs.Bodies.{record_body}
use Rattle.capture_machine.proofs.PlacesServed.{named_session}
use Rattle.capture_machine.proofs.UnseenStands.{UnseenStand}
use Rattle.capture_machine.specs.CapturedAnswers.{Answers, AnswersAgain, AnswersPlainly, MayLeadTo, clear_answer, record_answer}
use Rattle.capture_machine.specs.LargeAnswers.{IsLargeAnswer, is_fetching, is_unseen_effect, place_again, place_named, repeats_large, seen_turn, turn_with, while_fetched, with_large}
use Rattle.capture_machine.specs.Rounds.{Dialogue, Round, no_draw}
use Rattle.capture_machine.specs.SessionTable.{Row, begun_count, last_begun, number_from}
use Rattle.world_machine.specs.Setup.{Configuration}

same_op : (a b : ℕ) → Some (GetMeasurements a) ≡ Some (GetMeasurements b) → a ≡ b
same_op a b same = cc

is_last_some : (o : Option KeptRecord) (m reply : List ℕ) → is_last o m reply ≡ true → is_some o ≡ true
is_last_some None m reply is = absurd (false≢true is)
is_last_some (Some kept) m reply is = refl

repeats_last : (o : Option KeptRecord) (m reply : List ℕ) → is_last o m reply ≡ true → repeats o m ≡ true
repeats_last None m reply is = absurd (false≢true is)
repeats_last (Some kept) m reply is = (and_parts (bytes_eq kept.sealed m) _ is).0

some_repeats : (o : Option KeptRecord) (m : List ℕ) → repeats o m ≡ true → is_some o ≡ true
some_repeats None m is = absurd (false≢true is)
some_repeats (Some kept) m is = refl

-- ---- What a repeat gets.

repeat_same : (r : RspSetup) (phase : Phase) (s : Events) (f : Free) (tag : ℕ) (m : List ℕ) → repeats (last_of s) m ≡ true → to_session r phase s f tag m no_draw ≡ Same (record_body (kept_record (last_of s)))
repeat_same r phase [] f tag m again = absurd (false≢true again)
repeat_same r phase (e ∷ s) f tag m again = ap (λ (b : Bool). cond b (Same (record_body (kept_record (last_of (e ∷ s))))) (to_session_rest r phase (e ∷ s) f tag m)) again
  where
    to_session_rest : RspSetup → Phase → Events → Free → ℕ → List ℕ → Outcome
    to_session_rest r phase s f tag m = in_session r phase s f tag m no_draw

again_same : (r : RspSetup) (h : History) (f : Free) (tag : ℕ) (m : List ℕ) → repeats (ended_of h) m ≡ false → repeats (last_of (session_of (id_in_record m) h)) m ≡ true
    → on_record r h tag m f no_draw ≡ Same (record_body (kept_record (last_of (session_of (id_in_record m) h))))
unfolding on_record
again_same r h f tag m anew again =
    ap (λ (b : Bool). cond b (Same (record_body (kept_record (ended_of h)))) (to_session r (phase_of (clear_turns h)) (session_of (id_in_record m) h) f tag m no_draw)) anew
    ∙ repeat_same r (phase_of (clear_turns h)) (session_of (id_in_record m) h) f tag m again

-- ---- Some bytes go by chunks.

zeros_long : (n : ℕ) → length (zeros n) ≡ n
zeros_long n = length-replicate {A = ℕ} n 0

module _ (w : Configuration) (q : ReqSetup) (older : List (List ℕ)) (k : Kept) (route : RouteFields) (answer : List ℕ) (byte : w.responder.beat < 256) (limits : IsSetUp k.setup) (keeps : Keeps w q older k) (turn : AnswersInTurn k route answer)
    (type : (slice_index turn.round.body 0 == 5) ≡ false) where
  abbrev r : RspSetup
  r = responder_for w k

  abbrev h : History
  h = k.responder

  abbrev round : Round
  round = turn.round

  abbrev m : List ℕ
  m = drop 1 turn.round.body

  abbrev id : ℕ
  id = id_in_record (drop 1 turn.round.body)

  abbrev s : Events
  s = session_of (id_in_record (drop 1 turn.round.body)) k.responder

  carries : Carries w q older k
  carries = keeps_carries w q older k keeps

  walk : Walks w q older (restored k)
  walk = (kept_is_restored w q older k keeps).0

  stand : UnseenStand k.responder
  stand = walk_stands w q older (restored k) walk

  led : (n : ℕ) → NewestLed (responder_for w k) n k.responder
  led = newest_led w q older (restored k) walk

  -- The newest record, where the session took one.
  newest : is_some (last_of s) ≡ true → NewestIs (responder_for w k) id k.responder
  newest some = newest_is r id h stand (led id) some

  -- ---- It is read again where it comes again.

  module _ (behind : History) (whole : List ℕ) (again : AnswersAgain (responder_for w k) (restored k) turn.round answer behind whole) where
    named : place_named round.body ≡ Some id
    named = named_session round.body type

    large : repeats_large (Some id) h ≡ true
    large = subst (λ (p : Option ℕ). repeats_large p h ≡ true) named again.2

    -- It leads to its reply again, so it is the last record.
    leads : (f : Free) × (on_record r h round.tag m f no_draw ≡ Same answer)
    unfolding MayLeadTo
    leads = (again.1.0, sym (ap (λ (b : Bool). cond b (on_clear r h round.tag m again.1.0 no_draw) (on_record r h round.tag m again.1.0 no_draw)) type) ∙ again.1.3)

    anew : repeats (ended_of h) m ≡ false
    anew = by_ended (repeats (ended_of h) m) refl
      where
        by_ended : (b : Bool) → repeats (ended_of h) m ≡ b → repeats (ended_of h) m ≡ false
        by_ended false is = is
        by_ended true is = absurd (false≢true (sym (ended_apart r m h (led id) is) ∙ large))

    kept : (repeats (last_of s) m ≡ true) × (record_body (kept_record (last_of s)) ≡ answer)
    unfolding on_record in_session
    kept = by_session s (sym (ap (λ (b : Bool). cond b (Same (record_body (kept_record (ended_of h)))) (to_session r (phase_of (clear_turns h)) s leads.0 round.tag m no_draw)) anew) ∙ leads.1)
      where
        same_body : (a b : List ℕ) → Same a ≡ Same b → a ≡ b
        same_body a b same = cc

        by_repeat : (x : Events) (b : Bool) → repeats (last_of x) m ≡ b → cond b (Same (record_body (kept_record (last_of x)))) (in_session r (phase_of (clear_turns h)) x leads.0 round.tag m no_draw) ≡ Same answer
            → (repeats (last_of x) m ≡ true) × (record_body (kept_record (last_of x)) ≡ answer)
        by_repeat x true is same = (is, same_body _ answer same)
        by_repeat x false is same = absurd (not_same x (opening_fault r.psk x m) same)
          where
            not_same : (x : Events) (o : Option RecordFault) → in_session_by r (phase_of (clear_turns h)) x leads.0 round.tag m no_draw o ≡ Same answer → ⊥
            not_same x None same = cc
            not_same x (Some fault) same = cc

        by_session : (x : Events) → to_session r (phase_of (clear_turns h)) x leads.0 round.tag m no_draw ≡ Same answer → (repeats (last_of x) m ≡ true) × (record_body (kept_record (last_of x)) ≡ answer)
        by_session [] same = absurd (let x = same in cc)
        by_session (e ∷ x) same = by_repeat (e ∷ x) (repeats (last_of (e ∷ x)) m) refl same

    pub is : NewestIs r id h
    is = newest (some_repeats (last_of s) m kept.0)

    pub un : is_unseen_effect is.t.effect ≡ true
    un = sym is.large ∙ large

    last_is : last_of s ≡ Some (record { sealed = is.m; reply = is.reply })
    last_is = ap (λ (x : Events). last_of x) is.session

    m_is : is.m ≡ m
    m_is = (bytes_eq-Decides is.m m).0 (sym (ap (λ (o : Option KeptRecord). repeats o m) last_is) ∙ kept.0)

    reply_is : is.reply ≡ drop 1 answer
    reply_is = ap (λ (l : List ℕ). drop 1 l) (ap (λ (o : Option KeptRecord). record_body (kept_record o)) (sym last_is) ∙ kept.1)

    pub read_again : IsLargeAgain (responder_for w k) k.responder (drop 1 turn.round.body) (drop 1 answer) is.led.free.handle
    read_again =
        subst (λ (l : List ℕ). IsLargeAgain r h m l is.led.free.handle) reply_is
        (subst (λ (l : List ℕ). IsLargeAgain r h l is.reply is.led.free.handle) m_is (large_again r id h is un (ap (repeats (ended_of h)) m_is ∙ anew)))

    pub asks_again : IsAskedIn (responder_for w k) (session_of (id_in_record (drop 1 turn.round.body)) k.responder) (last_message (responder_for w k) k.responder (drop 1 turn.round.body)) (its r id h is un).op
    asks_again =
        subst (λ (l : List ℕ). IsAskedIn r (session_of (id_in_record l) h) (last_message r h l) (its r id h is un).op) m_is (asked_again r id h is un (ap (repeats (ended_of h)) m_is ∙ anew))

  -- It is a record.
  pub never_clear : (slice_index answer 0 == 5) ≡ true → IsAgainInRecord w k route.tag answer → ⊥
  never_clear clear came =
      let same : came.round ≡ turn.round = same_Some came.round turn.round (sym came.answers.0 ∙ turn.answers.0) in
      let again = subst (λ (x : Round). AnswersAgain r (restored k) x answer came.behind came.whole) same came.again in
      false≢true (ap (λ (l : List ℕ). slice_index l 0 == 5) (kept came.behind came.whole again).1 ∙ clear)

  -- Where it is not read again, it is none.
  pub never_again : ((op handle : ℕ) → IsLargeAgain (responder_for w k) k.responder (drop 1 turn.round.body) (drop 1 answer) handle
      → IsAskedIn (responder_for w k) (session_of (id_in_record (drop 1 turn.round.body)) k.responder) (last_message (responder_for w k) k.responder (drop 1 turn.round.body)) op → ⊥) → IsAgainInRecord w k route.tag answer → ⊥
  never_again never came =
      let same : came.round ≡ turn.round = same_Some came.round turn.round (sym came.answers.0 ∙ turn.answers.0) in
      let again = subst (λ (x : Round). AnswersAgain r (restored k) x answer came.behind came.whole) same came.again in
      never (its r id h (is came.behind came.whole again) (un came.behind came.whole again)).op (is came.behind came.whole again).led.free.handle (read_again came.behind came.whole again) (asks_again came.behind came.whole again)

  -- ---- What is kept behind it.

  abbrev pub next : Fetching
  next = record { kept = heard_kept k k.responder route.tag turn.round answer; at = place_named turn.round.body; place = place_again (place_named turn.round.body) k.responder k.responder }

  pub at_is : next.at ≡ Some id
  at_is = named_session round.body type

  -- The table is told that nothing changed but what the requester has of it.
  pub again_change : AnswerAccepts → (change : Change) → change.begun ≡ None → change.accepted ≡ accepted_from k turn.round.tag answer → change.answered ≡ None → change.asked ≡ None → change.views ≡ views_in k.responder
      → IsChange change (restored k) (restored next.kept)
  again_change accepts change begun accepted answered asked views = record {
    begun = begun ∙ sym (not_more (begun_count h));
    accepted = accepted ∙ sym (accepted_on k h route.tag turn.round answer turn.answers.0 turn.answers.1 accepts);
    answered = answered ∙ sym (ap (λ (b : Bool). cond b (answered_in h) None) (none_less (length h)));
    asked = asked ∙ sym (asked_on k h route.tag turn.round answer turn.answers.0 turn.answers.1);
    views = views;
  }
    where
      none_less : (n : ℕ) → nat_lt n n ≡ false
      none_less n = grind (arith, nat_tests)

      not_more : (n : ℕ) → cond (nat_lt n n) (Some (last_begun h)) None ≡ None
      not_more n = ap (λ (b : Bool). cond b (Some (last_begun h)) None) (none_less n)

  pub again_step : (slice_index answer 0 == 5) ≡ false → AnswerAccepts → IsStep (restored k) (restored next.kept)
  again_step sealed accepts =
      quiet_step (restored k) (restored next.kept) refl (none_new (begun_count h))
      (accepted_on k h route.tag turn.round answer turn.answers.0 turn.answers.1 accepts ∙ none_accepted k turn.round.tag answer turn.body sealed)
    where
      none_less : (n : ℕ) → nat_lt n n ≡ false
      none_less n = grind (arith, nat_tests)

      none_new : (n : ℕ) → cond (nat_lt n n) (Some (last_begun h)) None ≡ None
      none_new n = ap (λ (b : Bool). cond b (Some (last_begun h)) None) (none_less n)

  -- ---- Where it is read again.

  module _ (sealed : (slice_index answer 0 == 5) ≡ false) (handle : ℕ) (blocks : HasFewBlocks (responder_for w k)) (connection : Connection) (sized : connected.StandsFor connection (responder_for w k) k.responder) (reads : IsLargeAgain (responder_for w k) k.responder (drop 1 turn.round.body) (drop 1 answer) handle) where
    last : is_last (last_of s) m (drop 1 answer) ≡ true
    last = (and_parts (is_last (last_of s) m (drop 1 answer)) _ reads.reads).0

    n : NewestIs r id h
    n = newest (is_last_some (last_of s) m (drop 1 answer) last)

    unseen : is_unseen_effect n.t.effect ≡ true
    unseen = was_unseen r id h n m (drop 1 answer) handle refl reads

    sent : record_body (kept_record (last_of s)) ≡ answer
    sent = ap (λ (x : Events). record_body (kept_record (last_of x))) n.session ∙ ap record_body (answer_is r id h n m (drop 1 answer) handle refl reads) ∙ six_again answer sealed turn.body

    -- It is not taken.
    pub not_taken : will_take (responder_for w k) k.responder turn.round.body ≡ false
    not_taken =
        let again = repeats_last (last_of s) m (drop 1 answer) last in
        ap (λ (b : Bool). not b && (not (repeats (ended_of h) m) && (not (repeats (last_of s) m) && (is_live s && is_none (opening_fault r.psk s m))))) type
        ∙ ap (λ (b : Bool). not b && (not (repeats (last_of s) m) && (is_live s && is_none (opening_fault r.psk s m)))) reads.anew
        ∙ ap (λ (b : Bool). not b && (is_live s && is_none (opening_fault r.psk s m))) again

    pub stays : (f : Free) → on_body r h turn.round.tag turn.round.body f no_draw ≡ Same answer
    stays f =
        ap (λ (b : Bool). cond b (on_clear r h round.tag m f no_draw) (on_record r h round.tag m f no_draw)) type
        ∙ again_same r h f round.tag m reads.anew (repeats_last (last_of s) m (drop 1 answer) last) ∙ ap Same sent

    may : MayLeadTo r h round.tag round.body (Same answer)
    unfolding MayLeadTo
    may =
        let f : Free = least_values h (session_place s) in
        let place : place_for h round.body ≡ session_place s = ap (λ (b : Bool). cond b (clear_place h) (session_place s)) type in
        let few = session_few r h s (drop 1 (opened r.psk s m)) blocks (session_sized connection r h id sized) in (
          f,
          subst (λ (p : Place). IsAllowed h p f) (sym place) (least_allowed h (session_place s) [] (omega arith)),
          subst (λ (b : Bool). length (cond b (clear_answer r (clear_place h) m f) (record_answer r s m f)) ≤ MAX_MESSAGE_SIZE) (sym type) few,
          stays f,
        )

    goes_large : repeats_large (place_named round.body) h ≡ true
    goes_large = subst (λ (p : Option ℕ). repeats_large p h ≡ true) (sym at_is) (n.large ∙ unseen)

    abbrev place : Place
    place = session_place (session_of (id_in_record (drop 1 turn.round.body)) k.responder)

    place_is : next.place ≡ place
    place_is = ap (λ (p : Option ℕ). place_again p h h) at_is ∙ n.place h

    -- It goes on.
    plain : AnswersPlainly r (restored k) round answer h
    plain = ([], Same answer, (tt, may), tt, refl, refl, refl)

    pub passes_again : asks_upon k route.tag answer ≡ false → RepliesKept w k (Whole route answer) (heard_kept k k.responder route.tag turn.round answer)
    unfolding Answers
    passes_again idle =
        let heard = heard_on w q older k limits carries route.tag round answer turn.answers.0 turn.answers.1 None h in
        let quiet = heard.asks ∙ idle in
        let d : Dialogue = record (restored k) { requester = heard.history; responder = h; fetching = while_fetched heard.history None; round = Some (answered round) } in
        let none : while_fetched heard.history None ≡ None = either_none (is_fetching (outstanding heard.history)) None refl in (
          d,
          (turn.body, turn.owner, (round, turn.answers.0, turn.answers.1, turn.answers.2, (h, None, inl (plain, refl), (heard.history, heard.hears, refl, ap (λ (b : Bool). not b || false) quiet)))),
          none,
          sym heard.kept ∙ ap (λ (o : Option (List ℕ)). kept_of (record d { fetching = o })) (sym none),
        )
      where
        either_none : (b : Bool) (o : Option (List ℕ)) → o ≡ None → cond b o None ≡ None
        either_none true o none = none
        either_none false o none = refl

    -- Or a fetch begins.
    module _ (whole : List ℕ) (fits : IsLargeAnswer (session_place (session_of (id_in_record (drop 1 turn.round.body)) k.responder)) whole) where
      pub begins_again : asks_upon k route.tag answer ≡ true → BeginsFetching w k (Whole route answer) next
      begins_again asks =
          let heard = heard_on w q older k limits carries route.tag round answer turn.answers.0 turn.answers.1 None h in
          let given : AnswersAgain r (restored k) round answer h whole = (refl, may, goes_large, subst (λ (p : Place). IsLargeAnswer p whole) (sym place_is) fits, refl) in
          (turn.body, turn.owner, (round, turn.answers, (h, next.place, inr ((whole, given), refl), (heard.history, heard.hears, heard.asks ∙ asks, ap (λ (x : Kept). record next { kept = x }) (sym heard.kept)))))

    -- ---- And this stands for it.

    module _ (fetched : InSession) (kept_in : IsKeptIn (responder_for w k) (session_of (id_in_record (drop 1 turn.round.body)) k.responder) (id_in_record (drop 1 turn.round.body)) (last_message (responder_for w k) k.responder (drop 1 turn.round.body)) fetched) where
      abbrev o : Events
      o = session_of (id_in_record n.m) n.before

      abbrev went : Turn
      went = large_turn r o (inner r id h n unseen) (its r id h n unseen).op (its r id h n unseen).asks n.led.free

      abbrev T : Turn
      T = turn_with [] None went

      session : s ≡ Heard n.m T n.reply ∷ o
      session = session_is r id h n unseen

      handle_is : handle ≡ n.led.free.handle
      handle_is =
          reads.handle_is ∙ ap (λ (l : List ℕ). slice_index l 5)
          (ap (λ (x : Events). reply_opened r.psk x (drop 1 answer)) session ∙ ap (reply_opened r.psk (Heard n.m T n.reply ∷ o)) (sym (answer_is r id h n m (drop 1 answer) handle refl reads)) ∙ shown r id h n unseen)

      op_is : fetched.op ≡ (its r id h n unseen).op
      op_is =
          let same : n.m ≡ m = request_is r id h n m (drop 1 answer) handle refl reads in
          let asked = subst (λ (l : List ℕ). IsAskedIn r (session_of (id_in_record l) h) (last_message r h l) (its r id h n unseen).op) same (asked_again r id h n unseen (ap (repeats (ended_of h)) same ∙ reads.anew)) in
          same_op fetched.op (its r id h n unseen).op (sym kept_in.asked.asks ∙ asked.asks)

      -- Zeros of the least length are sent in chunks.
      abbrev pub bytes : List ℕ
      bytes = zeros fetched.least

      long : length bytes ≡ fetched.least
      long = zeros_long fetched.least

      pub bytes_fit : IsLargeAnswer (session_place (session_of (id_in_record (drop 1 turn.round.body)) k.responder)) (zeros fetched.least)
      bytes_fit =
          let range = (kept_in.lengths kept_in.asked.some.0).0 kept_in.asked.some.1 in
          let low = range.0 in
          let high = range.1 in
          (kept_in.lengths bytes).1 (omega (arith, long), omega (arith, long, low, high))

      more : (a b : ℕ) → nat_lt a b ≡ true → a < b
      more a b is = grind (arith, nat_tests)

      pub bytes_long : (session_terms (session_of (id_in_record (drop 1 turn.round.body)) k.responder)).common.to_requester.transfer < length (zeros fetched.least) + 16
      bytes_long = (let over = more (session_terms s).common.to_requester.transfer (0 + length bytes) bytes_fit.0 in omega (arith, over))

      pub newest_unseen : IsNewestUnseen (turns_of (session_of (id_in_record (drop 1 turn.round.body)) k.responder))
      newest_unseen = subst (λ (x : Events). IsNewestUnseen (turns_of x)) (sym session) (record { taken = refl; measures = refl; unseen = refl })

      -- The history in which they are pending again.
      pub pending_is : history_pending id (zeros fetched.least) handle k.responder ≡ with_large (Some id) (zeros fetched.least) k.responder
      pending_is =
          let turn_is = (its r id h n unseen).turn in
          n.changed unseen (ap passes turn_is) (turn_pending bytes handle) bytes
          (ap (turn_pending bytes handle) turn_is ∙ ap (λ (i : ℕ). turn_pending bytes i T) handle_is ∙ sym (ap (seen_turn bytes) turn_is))

      last_some : is_some (last_of s) ≡ true
      last_some = is_last_some (last_of s) m (drop 1 answer) last

      given : session_with id h bytes ≡ Heard n.m (seen_turn bytes T) n.reply ∷ o
      given = again_is_newest w q older (restored k) id bytes walk (n.large ∙ unseen) last_some ∙ ap (newest_with bytes) session

      left_is : has_pending (session_place (session_with id h bytes)) ≡ true
      left_is =
          let room = kept_in.asked.wide in
          let unit : ℕ = unit_of (session_terms o).common.to_requester.transfer in
          let terms : (session_terms s).common.to_requester.transfer ≡ (session_terms o).common.to_requester.transfer = ap (λ (x : Events). (session_terms x).common.to_requester.transfer) session in
          let some : nat_lt 0 (div_ceil (length bytes + 4) unit) ≡ true = ceil_some (length bytes) unit (omega (arith, room, terms)) in
          ap (λ (x : Events). has_pending (session_place x)) given ∙ ap (λ (b : Bool). is_some (cond b (Some bytes) None)) some

      sizes_are : (session_terms (session_with id h bytes)).common ≡ (place_terms next.place).common
      sizes_are =
          ap (λ (x : Events). (session_terms x).common) given ∙ ap (λ (x : Events). (session_terms x).common) (sym session) ∙ ap (λ (p : Place). (place_terms p).common) (sym place_is)

      ready : IsReady w.responder.transfer h
      ready = live_ready w.responder.transfer id h (walks_form w.responder.transfer w refl q older (restored k) walk) stand (ap is_live session)

      none_came : number_of next ≡ 0
      none_came = ap (λ (p : Option ℕ). number_given p h) at_is ∙ n.none unseen

      stands : MayStand next bytes
      stands = (
        subst (λ (p : Place). IsLargeAnswer p bytes) (sym place_is) bytes_fit,
        subst (λ (x : Option ℕ). HasSize x bytes) (sym (ap (λ (p : Option ℕ). size_told p h) at_is ∙ n.no_size unseen)) tt,
        subst (λ (l : List ℕ). take (length l) bytes ≡ l) (sym (ap (λ (p : Option ℕ). bytes_given p h) at_is ∙ n.no_bytes unseen)) refl,
      )

      module _ (rows : List Row) (new : Party) (asker : IsAsker new.asker q next.kept) (keys : StandFor new.keys (responder_for w k) k.responder) (number : new.number ≡ number_from 1 q.eid w.requesters)
          (places : rows_of.StandFor new.places (restored next.kept) (rows_upon k next.kept rows)) (made : connected.StandsFor new.answerer.connection (responder_for w k) (history_pending fetched.id (zeros fetched.least) handle k.responder)) where
        judged : IsAnswerer new.answerer r (with_large (Some fetched.id) bytes h)
        judged = subst (λ (i : ℕ). connected.StandsFor new.answerer.connection r (history_pending i bytes handle h) → connected.StandsFor new.answerer.connection r (with_large (Some i) bytes h)) (sym kept_in.id_is)
            (subst (connected.StandsFor new.answerer.connection r) pending_is) made

        pub again_stands : IsFetchedIn new fetched w q next (rows_upon k next.kept rows)
        again_stands = record {
          beside = record { asker = asker; keys = keys; number = number; places = places };
          at = at_is ∙ ap Some (sym kept_in.id_is);
          answer = kept_in.none next none_came;
          lengths = subst (λ (p : Place). AreLengths p fetched.least fetched.most) (sym place_is) kept_in.lengths;
          asks = subst (λ (i : ℕ). AsksFor r i next.place fetched.op h) (sym kept_in.id_is) (subst (λ (x : ℕ). AsksFor r id next.place x h) (sym op_is)
              (subst (λ (p : Option ℕ). AsksFor r id (place_again p h h) (its r id h n unseen).op h) (sym at_is) (asks_for r id h n unseen byte)));
          found = kept_in.asked.found;
          whole = bytes;
          stands = stands;
          judges = judged;
          pending = subst (λ (i : ℕ). has_pending (session_place (session_with i h bytes)) ≡ true) (sym kept_in.id_is) left_is ∙ sym kept_in.left;
          uncounted = λ none live. absurd (false≢true (sym none ∙ kept_in.left));
          sizes = λ some. subst (λ (i : ℕ). (session_terms (session_with i h bytes)).common ≡ (place_terms next.place).common) (sym kept_in.id_is) sizes_are;
          room = ready.room;
          anew = ready.anew;
        }
