-- GET_VERSION in place of a chunk of a large response that is fetched in a session: VERSION ends the fetch, and all
-- sessions.
use Rattle.std.proofs.Common.{◌≡◌, ◌≤◌, ◌<◌, ◌+◌, ◌-◌, ◌^◌, ◌==◌, ◌&&◌, ◌||◌, ◌%◌, ℕ, List, [], ◌∷◌, refl, sym, ap, ◌∙◌, subst, drop, length, Bool, true, false, Option, Some, None, Ok, Err, cond, inl, inr, arith}
use Rattle.std.specs.Prelude.{not, slice_index}
use Rattle.std.proofs.lemmas.Bool.{false≢true, false_from_ne_true}
use Rattle.std.proofs.lemmas.Option.{none-some, same_Some}
use Rattle.mctp_framing.specs.Cutting.{RouteFields}
use Rattle.mctp_framing.specs.Gathering.Gathered.{Whole}
use Rattle.check_requester.proofs.FewMessages.{after_more}
use Rattle.check_ends.proofs.InTurn.{AnswersInTurn}
use Rattle.check_responder.specs.AnswerKeys.{IsComingKey, StandFor, is_taken_in, will_take}
use Rattle.check_responder.specs.JudgedResponder.{IsAnswerer, history_shown}
use Rattle.check_requester.specs.JudgedRequester.{IsAsker}
use Rattle.check_requester.specs.HeardKept.{heard_kept}
use Rattle.check_responder.specs.declared.judged_responder.JudgedResponder.{JudgedResponder}
use Rattle.check_ends.specs.declared.party.Party.{Party}
use Rattle.check_laws.proofs.OneWalk.{walks_alike}
use Rattle.check_laws.specs.ChangeLaws.{AnswerAccepts, WholeAnswerChanges}
use Rattle.check_laws.specs.Changes.{IsChange, IsStep, views_in}
use Rattle.check_laws.specs.Judged.{why_of}
use Rattle.check_laws.specs.Keeping.{Kept, restored}
use Rattle.check_laws.specs.KeptChanges.{accepted_from}
use Rattle.check_laws.specs.LargeShown.{ends_large}
use Rattle.check_laws.specs.Order.{body_in, tag_in}
use Rattle.check_laws.specs.RepliesShown.{answered, no_values, responder_for}
use Rattle.check_laws.specs.Rows as rows_of
use Rattle.check_laws.specs.Rows.{StandsForRows}
use Rattle.check_laws.specs.declared.change.Change.{Change}
use Rattle.check_laws.specs.declared.verdict.Seen.{Seen}
use Rattle.responder_core.specs.Connected.{HasSizesAt}
use Rattle.check_fetched_laws.proofs.ClearStands.{version_ends_all}
use Rattle.check_fetched_laws.proofs.MeanwhileClear.{version_begins_none, version_goes}
use Rattle.check_fetched_laws.proofs.VersionGiven.{version_is_given}
use Rattle.check_fetched_laws.specs.StandsAlike.{IsAnew, version_entry}
use Rattle.check_late_laws.proofs.NoCaps.{walks_caps}
use Rattle.check_late_laws.proofs.PlainLaws.{Now, now}
use Rattle.check_late_laws.proofs.PlainLaws.Now.{Version, Chunk}
use Rattle.check_late_laws.specs.Fetching.{Fetching, IsFetchingOf, MayStand, dialogue_of}
use Rattle.check_late_laws.specs.FetchingLaws.{EndsFetching}
use Rattle.requester_machine.specs.History.{outstanding}
use Rattle.requester_machine.specs.May.{IsSetUp}
use Rattle.requester_machine.specs.Message.{Sent}
use Rattle.requester_machine.specs.Message.Aim.{Plain}
use Rattle.requester_machine.specs.Setup.{ReqSetup}
use Rattle.responder_machine.specs.Answer.{Free, version_answer}
use Rattle.responder_machine.specs.BoundLaws.{messages_of}
use Rattle.responder_machine.specs.History.{Entry, History, clear_turns, ended_of, kept_of}
use Rattle.responder_machine.specs.LargeMessages.{larges_of}
use Rattle.responder_machine.specs.May.{on_body, with_dropped}
use Rattle.responder_machine.specs.Responder.{Outcome, after, is_repeat, repeats}
use Rattle.responder_machine.specs.Responder.Outcome.{Adds}
use Rattle.responder_machine.specs.Session.{id_in_record, session_of}
use Rattle.responder_machine.specs.Setup.{RspSetup}
use Rattle.spdm_grammar.specs.declared.told.why.Why as declared
use Rattle.spdm_grammar.specs.Message.RequestMessage.{GetVersion}
use Rattle.spdm_grammar.specs.Requests.{canonical_request}
use Rattle.spdm_grammar.specs.Responses.{canonical_response}
use Rattle.spdm_machine.specs.Bodies.{clear_body}
use Rattle.capture_machine.proofs.AimsHeard.{hears_version}
use Rattle.capture_machine.proofs.FetchedTells.{kept_large}
use Rattle.capture_machine.proofs.Fetching.{IsSound}
use Rattle.capture_machine.proofs.PlacesServed.{named_clear}
use Rattle.capture_machine.proofs.UnseenStands.{UnseenStand}
use Rattle.capture_machine.specs.Capture.{RepliesBy}
use Rattle.capture_machine.specs.CapturedAnswers.{Answers, AnswersPlainly, MayLeadTo}
use Rattle.capture_machine.specs.Difference.{AreRepliesApart, CompletesApart, GoesApart, carries_exchange, reply_why}
use Rattle.capture_machine.specs.LargeAnswers.{is_fetching, place_named, while_fetched, with_large}
use Rattle.capture_machine.specs.Rounds.{Dialogue, Round, no_draw}
use Rattle.capture_machine.specs.SessionTable.{Row, number_from}
use Rattle.world_machine.specs.Setup.{Configuration}
use Rattle.check_late_laws.proofs.Late.AcceptsNone.{version_accepts}
use Rattle.check_fetched_ends.proofs.ChangesOn.{accepted_on, asked_on}
use Rattle.check_fetched_ends.proofs.HeardOn.{IsHeardOn, heard_on}
use Rattle.check_fetched_ends.proofs.InSessionTold.{few_large}
use Rattle.check_fetched_ends.proofs.NoneGoesOn.{IsNone, refused_by}
use Rattle.check_late_laws.proofs.Late.QuietSteps.{quiet_step}
use Rattle.check_fetched_laws.proofs.SizesSeen.{clear_sized, session_queue, session_turns}
use Rattle.check_fetched_laws.proofs.VersionShown.{leads_version, version_body}
use Rattle.check_fetched_ends.specs.Fetched.{IsRepliedTo, rows_upon}
use Rattle.check_fetched_ends.specs.declared.upon.Upon.TheVariants as upon

pub own_few : (id : ℕ) (x : List ℕ) (h : History) → messages_of (with_large (Some id) x h) < 2 ^ 64 - 1 → messages_of h < 2 ^ 64 - 1
own_few id x h small = (let same = few_large (Some id) x h in omega (arith, same, small))

module _ (w : Configuration) (q : ReqSetup) (older : List (List ℕ)) (rows : List Row) (f : Fetching) (route : RouteFields) (answer : List ℕ) (byte : w.responder.beat < 256) (limits : IsSetUp f.kept.setup) (own : IsFetchingOf w q older f) (turn : AnswersInTurn f.kept route answer)
    (id : ℕ) (at : f.at ≡ Some id) (x : List ℕ) (stand : MayStand f x) (clear : (slice_index turn.round.body 0 == 5) ≡ true)
    (room : 4 ≤ (responder_for w f.kept).transfer) (anew : (tag : ℕ) → is_repeat (kept_of f.kept.responder) tag (canonical_request GetVersion) ≡ false) (sized : HasSizesAt (responder_for w f.kept) (clear_turns f.kept.responder)) where
  abbrev k : Kept
  k = f.kept

  abbrev r : RspSetup
  r = responder_for w f.kept

  abbrev h : History
  h = f.kept.responder

  abbrev round : Round
  round = turn.round

  abbrev one : Entry
  one = version_entry turn.round.tag

  -- ---- The request.

  no_place : place_named round.body ≡ f.at → ⊥
  no_place same = none-some id (sym (named_clear round.body clear) ∙ same ∙ at)

  pub is_version : turn.round.body ≡ clear_body (canonical_request GetVersion)
  is_version = by_now (now w q older f own round turn.answers.0 x stand)
    where
      by_now : Now f round x → round.body ≡ clear_body (canonical_request GetVersion)
      by_now (Version is) = is
      by_now (Chunk gets fetch) = absurd (no_place (ap (λ (o : Option Round). place_named (body_in o)) (sym turn.answers.0) ∙ own.there gets))

  sound : IsSound (dialogue_of f x)
  sound = (walks_alike w q older (dialogue_of f x) (dialogue_of f x) (own.all x stand) (own.all x stand)).one

  pub own_stand : UnseenStand f.kept.responder
  own_stand = sound.unseen

  pub own_anew : IsAnew (responder_for w f.kept) f.kept.responder turn.round.tag
  own_anew = record { room = room; anew = anew round.tag; sized = sized }

  -- It is no repeat with any bytes in the place of a large response.
  anew_at : (v : List ℕ) → IsAnew r (with_large None v h) round.tag
  anew_at v = record {
    room = room;
    anew = ap (λ o. is_repeat o round.tag (canonical_request GetVersion)) (kept_large None v h) ∙ anew round.tag;
    sized = clear_sized r v h (walks_caps w q older (dialogue_of f x) (own.all x stand)) sized;
  }

  pub anew_given : IsAnew (responder_for w f.kept) (with_large (Some id) x f.kept.responder) turn.round.tag
  anew_given = record {
    room = room;
    anew = ap (λ o. is_repeat o round.tag (canonical_request GetVersion)) (kept_large (Some id) x h) ∙ anew round.tag;
    sized = subst (HasSizesAt r) (sym (session_turns id x h)) sized;
  }

  -- ---- Any other answer.

  pub none_goes : (answer ≡ version_body → ⊥) → IsNone w q older rows f route answer turn
  none_goes other = record {
    plain = λ v may next a. other ((version_goes version_is_given r (dialogue_of f v) v round answer next refl is_version (anew_at v)).0 a).0;
    large = λ v may next whole a. (version_begins_none version_is_given r (dialogue_of f v) v round answer next whole refl is_version (anew_at v)).0 a;
    last = λ v may next a. absurd ((version_begins_none version_is_given r (dialogue_of f v) v round answer next [] refl is_version (anew_at v)).1 a);
  }

  apart_never : (v other : List ℕ) (next : History) (fetching : Option (List ℕ)) → Answers r (dialogue_of f v) round other next fetching → carries_exchange other ≡ true → ⊥
  unfolding Answers
  apart_never v other next fetching (inl a) carries = false≢true (sym (ap carries_exchange ((version_goes version_is_given r (dialogue_of f v) v round other next refl is_version (anew_at v)).0 a.0).0) ∙ carries)
  apart_never v other next fetching (inr (inl a)) carries = (version_begins_none version_is_given r (dialogue_of f v) v round other next a.0 refl is_version (anew_at v)).0 a.1
  apart_never v other next fetching (inr (inr (inl a))) carries = none-some v (sym a.1.0)
  apart_never v other next fetching (inr (inr (inr a))) carries = (version_begins_none version_is_given r (dialogue_of f v) v round other next [] refl is_version (anew_at v)).1 a.0

  given_none : (g : History) (o : Outcome) → o ≡ Adds one → ends_large g o ≡ true → ⊥
  given_none g o same ends = false≢true (sym (ap (ends_large g) same) ∙ ends)

  completes_never : (v : List ℕ) → CompletesApart r (dialogue_of f v) round answer → ⊥
  completes_never v c =
      let named : place_named round.body ≡ None = named_clear round.body clear in
      let may : MayLeadTo r (with_large None v h) round.tag round.body (Adds c.3) = subst (λ (o : Option ℕ). MayLeadTo r (with_large o v h) round.tag round.body (Adds c.3)) named c.5 in
      let same = leads_version r (with_large None v h) [] round.tag round.body (Adds c.3) is_version (anew_at v) may in
      given_none (with_large (place_named round.body) v h) (Adds c.3) same c.6

  never_apart : (v : List ℕ) → MayStand f v → GoesApart r (dialogue_of f v) (Whole route answer) → ⊥
  never_apart v may c = elim (subst (λ (o : Option Round). AreRepliesApart r (dialogue_of f v) o answer) turn.answers.0 c.1) [
    | inl replies ↦ apart_never v replies.0 replies.1 replies.2 replies.3 replies.4
    | inr completes ↦ completes_never v completes
  ]

  pub other_refused : (answer ≡ version_body → ⊥) → (why : declared.Why) → why_of why ≡ reply_why (responder_for w f.kept) (record (restored f.kept) { responder = with_large (Some id) x f.kept.responder }) answer (Some turn.round)
      → (new : Party) (stands : Fetching → List Row → Type 0) (table : List Seen) → IsRepliedTo w q older rows f route answer (Err why) new stands table
  other_refused other why is new stands table = refused_by w q older rows f route answer turn never_apart sound.unseen id x why is limits own (none_goes other) new stands table

  -- ---- VERSION.

  -- No record comes.
  pub none_coming : IsComingKey (responder_for w f.kept) f.kept.responder turn.round.body None
  none_coming = ap (λ (b : Bool). not b && is_taken_in r (session_of (id_in_record (drop 1 round.body)) h) (repeats (ended_of h) (drop 1 round.body)) (drop 1 round.body)) clear

  -- What is handed in leads to its entry.
  pub given_values : Free
  unfolding MayLeadTo
  given_values = ((version_is_given r h round.tag (Adds one) own_anew).1 refl).0

  pub adds_there : (seen : Option Round) → seen ≡ Some turn.round
      → after (with_dropped f.kept.responder []) (on_body (responder_for w f.kept) (with_dropped f.kept.responder []) (tag_in seen) (body_in seen) given_values no_draw) ≡ version_entry turn.round.tag ∷ f.kept.responder
  unfolding MayLeadTo given_values
  adds_there seen is =
      ap (λ (o : Option Round). after h (on_body r h (tag_in o) (body_in o) given_values no_draw)) is
      ∙ ap (λ (b : List ℕ). after h (on_body r h round.tag b given_values no_draw)) is_version ∙ ap (after h) ((version_is_given r h round.tag (Adds one) own_anew).1 refl).3

  -- A connection that stands for the history with some bytes stands for the one without.
  pub stands_behind : (new : JudgedResponder) → IsAnswerer new (responder_for w f.kept) (version_entry turn.round.tag ∷ with_large (Some id) x f.kept.responder) → IsAnswerer new (responder_for w f.kept) (version_entry turn.round.tag ∷ f.kept.responder)
  stands_behind new stands =
      version_ends_all new.connection r round.tag (with_large (Some id) x h) h (session_queue id x h) (ap (λ l. larges_of l % 256) (session_turns id x h)) stands

  pub few_behind : messages_of f.kept.responder < 2 ^ 64 - 1 → messages_of (version_entry turn.round.tag ∷ f.kept.responder) < 2 ^ 64
  few_behind small = (let more = after_more h (Adds one) in omega (arith, small, more))

  module _ (is : answer ≡ version_body) where
    heard : IsHeardOn f.kept (dialogue_of f x) route.tag turn.round answer (one ∷ h)
    heard = heard_on w q older k limits (Some x, own.all x stand, own.kept) route.tag round answer turn.answers.0 turn.answers.1 (Some x) (one ∷ h)

    -- The requester awaits no chunk any more.
    idle : is_fetching (outstanding heard.history) ≡ false
    idle = false_from_ne_true (is_fetching (outstanding heard.history)) never
      where
        never : is_fetching (outstanding heard.history) ≡ true → ⊥
        never gets =
            let old = sound.fetched x refl in
            let same : old.0 ≡ round = same_Some old.0 round (sym old.1 ∙ turn.answers.0) in
            elim old.2.stands [
              | inl version ↦ hears_version (dialogue_of f x) route.tag answer old.0.body heard.history old.2.sent (sound.asker old.0 old.1) old.2.waits version.0 heard.hears gets
              | inr fetch ↦ no_place (ap (λ (o : Option Round). place_named (body_in o)) (sym turn.answers.0) ∙ own.there (ap is_fetching old.2.waits ∙ fetch.0))
            ]

    abbrev pub next : Kept
    next = heard_kept f.kept (version_entry turn.round.tag ∷ f.kept.responder) route.tag turn.round answer

    abbrev behind : Dialogue
    behind = record (dialogue_of f x) { requester = heard.history; responder = one ∷ h; fetching = while_fetched heard.history (Some x); round = Some (answered round) }

    plainly : AnswersPlainly r (dialogue_of f x) round answer (one ∷ h)
    plainly = (version_goes version_is_given r (dialogue_of f x) x round answer (one ∷ h) refl is_version (anew_at x)).1 (is, refl)

    replies : RepliesBy w (dialogue_of f x) (Whole route answer) behind
    unfolding Answers
    replies =
        (turn.body, turn.owner, (round, turn.answers.0, turn.answers.1, turn.answers.2, (one ∷ h, Some x, inl (plainly, refl), (heard.history, heard.hears, refl, ap (λ (b : Bool). not b || true) idle))))

    ends : EndsFetching w f (Whole route answer) next
    ends = (x, behind, stand, replies, ap (λ (b : Bool). cond b (Some x) None) idle, sym heard.kept)

    -- ---- The table.

    -- The requester asked for VERSION, and accepts no session by it.
    aims : (sent : Sent) → outstanding (restored f.kept).requester ≡ Some sent → sent.aim ≡ Plain GetVersion
    aims sent waits =
        let old = sound.fetched x refl in
        let same : old.2.sent ≡ sent = same_Some old.2.sent sent (sym old.2.waits ∙ waits) in
        elim old.2.stands [
          | inl version ↦ subst (λ (s : Sent). s.aim ≡ Plain GetVersion) same version.0
          | inr fetch ↦ absurd (no_place (ap (λ (o : Option Round). place_named (body_in o)) (sym turn.answers.0) ∙ own.there (ap is_fetching old.2.waits ∙ fetch.0)))
        ]

    accepts_none : accepted_from f.kept turn.round.tag answer ≡ None
    unfolding accepted_from
    accepts_none = version_accepts k.setup (restored k).requester no_values round.tag answer no_draw aims

    pub step_is : AnswerAccepts → WholeAnswerChanges → IsStep (restored f.kept) (restored next)
    step_is accepts law =
        let whole = law (restored k) (restored next) [] (Adds one) refl in
        quiet_step (restored k) (restored next) refl whole.0 (accepted_on k (one ∷ h) route.tag round answer turn.answers.0 turn.answers.1 accepts ∙ accepts_none)

    pub change_is : AnswerAccepts → WholeAnswerChanges → (change : Change) → change.begun ≡ None → change.accepted ≡ accepted_from f.kept turn.round.tag answer → change.answered ≡ None → change.asked ≡ None
        → change.views ≡ views_in (version_entry turn.round.tag ∷ f.kept.responder) → IsChange change (restored f.kept) (restored next)
    change_is accepts law change begun accepted none asked views =
        let whole = law (restored k) (restored next) [] (Adds one) refl in record {
          begun = begun ∙ sym whole.0;
          accepted = accepted ∙ sym (accepted_on k (one ∷ h) route.tag round answer turn.answers.0 turn.answers.1 accepts);
          answered = none ∙ sym whole.1;
          asked = asked ∙ sym (asked_on k (one ∷ h) route.tag round answer turn.answers.0 turn.answers.1);
          views = views;
        }

    pub ended_on : (new : Party) (stands : Fetching → List Row → Type 0) (table : List Seen) → IsAsker new.asker q next → IsAnswerer new.answerer (responder_for w f.kept) (version_entry turn.round.tag ∷ f.kept.responder)
        → StandFor new.keys (responder_for w f.kept) (version_entry turn.round.tag ∷ f.kept.responder) → new.number ≡ number_from 1 q.eid w.requesters
        → rows_of.StandFor new.places (restored next) (rows_upon f.kept next rows) → StandsForRows table w (length older + 1) (rows_upon f.kept next rows)
        → IsRepliedTo w q older rows f route answer (Ok upon.Ended) new stands table
    ended_on new stands table asker answerer keys number places entries =
        (next, ends, record { asker = asker; answerer = answerer; keys = keys; number = number; places = places }, entries)
