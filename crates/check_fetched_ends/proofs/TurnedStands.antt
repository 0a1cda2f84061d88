-- LargeResponse in answer to a record, while another large response is fetched in its session: what the calls leave
-- stands for what is kept after it.
use Rattle.std.proofs.Common.{◌≡◌, ◌≢◌, ◌<◌, ◌+◌, ◌-◌, ◌^◌, ◌==◌, ◌&&◌, ◌∙◌, ℕ, List, ◌∷◌, refl, sym, ap, subst, drop, length, arith, Bool, true, false, Some, None, cond, Ok, is_none, is_some}
use Rattle.std.specs.Prelude.{nat_lt, not, slice_index}
use Rattle.std.proofs.lemmas.Bool.{false≢true}
use Rattle.mctp_framing.specs.Cutting.{RouteFields}
use Rattle.spdm_basis.proofs.Bools.{and_first, and_second}
use Rattle.std.specs.Int.{div_ceil}
use Rattle.check_requester.proofs.FewMessages.{after_more}
use Rattle.check_ends.proofs.InTurn.{AnswersInTurn}
use Rattle.check_ends.proofs.KeptTyped.{kept_body}
use Rattle.check_responder.specs.AnswerKeys.{StandFor, will_take}
use Rattle.check_responder.specs.JudgedResponder.{IsAnswerer}
use Rattle.check_requester.specs.JudgedRequester.{IsAsker}
use Rattle.check_requester.specs.HeardKept.{asks_upon}
use Rattle.check_ends.specs.declared.party.Party.{Party}
use Rattle.check_laws.specs.ChangeLaws.{AnswerAccepts, LargeAnswerChanges}
use Rattle.check_laws.specs.Changes.{IsChange, IsStep, views_in}
use Rattle.check_laws.specs.Keeping.{restored}
use Rattle.check_laws.specs.KeptChanges.{accepted_from, taken_shown}
use Rattle.check_laws.specs.LargeShown.{IsShownLarge, whole_of}
use Rattle.check_laws.specs.RepliesShown.{responder_for}
use Rattle.check_laws.specs.Rows as rows_of
use Rattle.check_laws.specs.Rows.{StandsForRows}
use Rattle.check_laws.specs.declared.change.Change.{Change}
use Rattle.check_laws.specs.declared.verdict.Seen.{Seen}
use Rattle.chunking.specs.Cutting.{unit_of}
use Rattle.responder_core.specs.Pending.{IsUncounted, history_unseen}
use Rattle.check_fetched_laws.specs.JudgedFor.{session_with}
use Rattle.check_late_laws.specs.Fetching.{Fetching, IsFetchingOf, number_of}
use Rattle.check_late_laws.specs.LargeAnswers.{StandsFor}
use Rattle.measurements.specs.Records.{is_missing}
use Rattle.responder_rules.specs.LargeAnswer.{last_takes}
use Rattle.requester_machine.specs.May.{IsSetUp}
use Rattle.requester_machine.specs.Setup.{ReqSetup}
use Rattle.responder_machine.specs.Answer.{Free, request_at}
use Rattle.responder_machine.specs.BoundLaws.{messages_of}
use Rattle.responder_machine.specs.History.{Entry, History, clear_turns, ended_of, kept_of, queue_of}
use Rattle.responder_machine.specs.LargeMessages.{large_of, larges_of}
use Rattle.responder_machine.specs.Place.{place_terms, session_place}
use Rattle.responder_machine.specs.Records.{opened, opening_fault, reply_record}
use Rattle.responder_machine.specs.Refusal.{has_pending}
use Rattle.responder_machine.specs.Responder.{inner_reply, repeats}
use Rattle.responder_machine.specs.Responder.Outcome.{Adds}
use Rattle.responder_machine.specs.Session.{Events, id_in_record, is_live, last_of, session_of, session_terms, turns_of}
use Rattle.responder_machine.specs.Session.Event.{Heard}
use Rattle.responder_machine.specs.Setup.{RspSetup, inventory_of}
use Rattle.responder_machine.specs.Turn.{Turn}
use Rattle.responder_session.specs.Pending as sessions
use Rattle.responder_session.specs.Pending.{IsAlike}
use Rattle.spdm_grammar.specs.Message.RequestMessage.{GetMeasurements}
use Rattle.spdm_grammar.specs.declared.names.request_code.TheConstants.{GET_MEASUREMENTS}
use Rattle.spdm_machine.specs.Bodies.{record_body}
use Rattle.spdm_machine.specs.Terms.{Terms}
use Rattle.capture_machine.proofs.FetchedSessions.{ended_fetched}
use Rattle.capture_machine.proofs.FetchedTells.{kept_large}
use Rattle.capture_machine.specs.LargeAnswers.{unseen, with_large}
use Rattle.capture_machine.specs.Rounds.{Round, no_draw}
use Rattle.capture_machine.specs.SessionTable.{Row, number_from}
use Rattle.world_machine.specs.Setup.{Configuration}
use Rattle.check_fetched_ends.proofs.BeginsThere.{f0}
use Rattle.check_fetched_ends.proofs.BegunStands.{behind_entry, ceil_some}
use Rattle.check_fetched_ends.proofs.BegunTold.{six_again}
use Rattle.check_fetched_ends.proofs.BegunUnfetched.{unseen_newest}
use Rattle.check_fetched_ends.proofs.ChangesOn.{accepted_on, asked_on}
use Rattle.check_fetched_ends.proofs.InSessionRecord.{id_is}
use Rattle.check_fetched_ends.proofs.LeftBefore.{one, unseen_is}
use Rattle.check_late_laws.proofs.Late.MeasuredTurns.{large_turn}
use Rattle.check_late_laws.proofs.Late.QuietSteps.{none_accepted, quiet_step}
use Rattle.check_fetched_laws.proofs.RecordTaken.{taken_is}
use Rattle.check_late_laws.proofs.Late.SeenAlike.{SeenAlike, live_alike, terms_alike}
use Rattle.check_fetched_laws.proofs.SeenGone.{other_session}
use Rattle.check_fetched_laws.proofs.SizesSeen.{session_queue, session_turns}
use Rattle.check_fetched_ends.proofs.TurnedBehind.{all, at_is, both_is, carries, ended, ends, judged_is, keys_turned, next, none_came, stands, turned, turns, views_turned}
use Rattle.check_fetched_ends.proofs.TurnedThere.{asks_too, sent}
use Rattle.check_fetched_laws.proofs.Uncounted.{pending_alike, pending_counts, uncounted_turned}
use Rattle.check_fetched_ends.specs.Fetched.{IsRepliedTo, rows_upon}
use Rattle.check_fetched_ends.specs.InSession.{AreLengths, AsksFor, IsFetchedIn}
use Rattle.check_fetched_ends.specs.SessionOthers.{IsOtherAnswer}
use Rattle.check_fetched_ends.specs.declared.session_fetch.in_session.InSession.{InSession}
use Rattle.check_fetched_ends.specs.declared.upon.Upon.TheVariants as upon

-- A session, and the same in which one answer less went by LargeResponse.
record IsLess (y z : Events) : Type 0 where
  pub alike : IsAlike y z
  pub count : larges_of (turns_of y) ≡ larges_of (turns_of z) + 1

module _ (w : Configuration) (q : ReqSetup) (older : List (List ℕ)) (rows : List Row) (f : Fetching) (route : RouteFields) (answer : List ℕ) (byte : w.responder.beat < 256) (limits : IsSetUp f.kept.setup) (own : IsFetchingOf w q older f) (turn : AnswersInTurn f.kept route answer)
    (party : Party) (fetched : InSession) (kept : IsFetchedIn party fetched w q f rows) (refuses : Bool) (other : IsOtherAnswer (responder_for w f.kept) fetched f turn.round answer refuses)
    (will : will_take (responder_for w f.kept) (with_large (Some fetched.id) kept.whole f.kept.responder) turn.round.body ≡ true)
    (large : IsShownLarge (responder_for w f.kept) (with_large (Some fetched.id) kept.whole f.kept.responder) turn.round.tag turn.round.body answer) (op : ℕ)
    (asks : request_at (session_place (session_of (id_in_record (drop 1 turn.round.body)) (with_large (Some fetched.id) kept.whole f.kept.responder))) (drop 1 (opened (responder_for w f.kept).psk (session_of (id_in_record (drop 1 turn.round.body)) (with_large (Some fetched.id) kept.whole f.kept.responder)) (drop 1 turn.round.body)))
    ≡ Some (GetMeasurements op))
    (wide : 12 < (session_terms (session_of (id_in_record (drop 1 turn.round.body)) (with_large (Some fetched.id) kept.whole f.kept.responder))).common.to_requester.transfer) where
  abbrev r : RspSetup
  r = responder_for w f.kept

  abbrev h : History
  h = f.kept.responder

  abbrev round : Round
  round = turn.round

  abbrev m : List ℕ
  m = drop 1 turn.round.body

  abbrev x : List ℕ
  x = kept.whole

  abbrev g : History
  g = with_large (Some fetched.id) kept.whole f.kept.responder

  abbrev id : ℕ
  id = id_in_record (drop 1 turn.round.body)

  abbrev s : Events
  s = session_of id g

  abbrev u : Events
  u = session_of id h

  abbrev e : Entry
  e = turned w q older rows f route answer byte limits own turn party fetched kept refuses other will large op asks

  abbrev v : Free
  v = f0 r g turn.round.tag turn.round.body answer other.record_is will large

  abbrev t : Turn
  t = large_turn r s (opened r.psk s m) op asks v

  abbrev reply : List ℕ
  reply = reply_record r.psk s t (inner_reply t) v.pad

  abbrev n : Fetching
  n = next w q older rows f route answer byte limits own turn party fetched kept refuses other will large op asks

  same_id : id_in_record (drop 1 turn.round.body) ≡ fetched.id
  same_id = id_is w q older f route answer byte limits own turn fetched.id kept.at other.record_is x kept.stands

  six : record_body (drop 1 turn.round.body) ≡ turn.round.body
  six = six_again round.body other.record_is (kept_body w q older f.kept round (carries w q older rows f route answer byte limits own turn party fetched kept refuses other will large op asks) turn.answers.0)

  live : is_live s ≡ true
  live =
      let fault : Bool = is_none (opening_fault r.psk s m) in
      let fresh : Bool = not (repeats (last_of s) m) in
      and_first (is_live s) fault (and_second fresh (is_live s && fault) (and_second (not (repeats (ended_of g) m)) (fresh && (is_live s && fault)) (and_second (not (slice_index turn.round.body 0 == 5)) (not (repeats (ended_of g) m) && (fresh && (is_live s && fault))) will)))

  alike : SeenAlike (session_of id g) (session_of id h)
  alike = all w q older rows f route answer byte limits own turn party fetched kept refuses other will large op asks id

  live_too : is_live u ≡ true
  live_too = sym (live_alike s u alike) ∙ live

  -- ---- The first answer is not counted any more.

  less : IsLess (session_of fetched.id g) (session_of fetched.id h)
  less = by_left fetched.left refl
    where
      by_left : (b : Bool) → fetched.left ≡ b → IsLess (session_of fetched.id g) (session_of fetched.id h)
      by_left true was =
          let it = one w q older rows f route answer byte limits own turn party fetched kept refuses other was in
          subst (IsLess (session_of fetched.id g)) (sym (unseen_is w q older rows f route answer byte limits own turn party fetched kept refuses other was))
          (record { alike = pending_alike (session_of fetched.id g) it.measured; count = pending_counts (session_of fetched.id g) (ap is_some it.large) })
      by_left false was =
          let it = kept.uncounted was (subst (λ (i : ℕ). is_live (session_of i g) ≡ true) same_id live) in record { alike = it.alike; count = it.large.count }

  own_less : IsLess s u
  own_less = subst (λ (i : ℕ). IsLess (session_of i g) (session_of i h)) (sym same_id) less

  own_uncounted : sessions.IsUncounted (session_of id (e ∷ g)) (session_of id (e ∷ h))
  own_uncounted =
      behind_entry (λ (y : Events). sessions.IsUncounted y (session_of id (e ∷ h))) id m t reply round.tag no_draw g refl refl live
      (behind_entry (λ (y : Events). sessions.IsUncounted (Heard m t reply ∷ s) y) id m t reply round.tag no_draw h refl refl live_too
      (uncounted_turned m t reply s u refl refl refl own_less.alike own_less.count))

  abbrev both : with_large (Some fetched.id) x (e ∷ h) ≡ e ∷ g
  both = both_is w q older rows f route answer byte limits own turn party fetched kept refuses other will large op asks

  pub uncounted : (i : ℕ) → i ≡ id_in_record (drop 1 turn.round.body) → IsUncounted i (e ∷ with_large (Some fetched.id) kept.whole f.kept.responder) (e ∷ f.kept.responder)
  uncounted i is = record {
    own = subst (λ (j : ℕ). sessions.IsUncounted (session_of j (e ∷ g)) (session_of j (e ∷ h))) (sym is) own_uncounted;
    others = λ j apart. ap (session_of j) (sym both) ∙ other_session j fetched.id x (e ∷ h) (λ same. apart (same ∙ sym same_id ∙ sym is));
    turns = ap clear_turns (sym both) ∙ session_turns fetched.id x (e ∷ h);
    kept = ap kept_of (sym both) ∙ kept_large (Some fetched.id) x (e ∷ h);
    ended = ap ended_of (sym both) ∙ ended_fetched (Some fetched.id) x (e ∷ h);
    queue = ap queue_of (sym both) ∙ session_queue fetched.id x (e ∷ h);
  }

  -- ---- The new one may be forgotten.

  pub large_there : (i : ℕ) → i ≡ id_in_record (drop 1 turn.round.body) → is_some (large_of (turns_of (session_of i (e ∷ f.kept.responder)))) ≡ true
  large_there i is =
      subst (λ (j : ℕ). is_some (large_of (turns_of (session_of j (e ∷ h)))) ≡ true) (sym is)
      (behind_entry (λ (y : Events). is_some (large_of (turns_of y)) ≡ true) id m t reply round.tag no_draw h refl refl live_too refl)

  pub measures_there : (i : ℕ) → i ≡ id_in_record (drop 1 turn.round.body) → last_takes GET_MEASUREMENTS (turns_of (session_of i (e ∷ f.kept.responder))) ≡ true
  measures_there i is =
      subst (λ (j : ℕ). last_takes GET_MEASUREMENTS (turns_of (session_of j (e ∷ h))) ≡ true) (sym is)
      (behind_entry (λ (y : Events). last_takes GET_MEASUREMENTS (turns_of y) ≡ true) id m t reply round.tag no_draw h refl refl live_too refl)

  pub forgot : (i : ℕ) → i ≡ id_in_record (drop 1 turn.round.body) → history_unseen i (e ∷ f.kept.responder) ≡ unseen e ∷ f.kept.responder
  forgot i is = unseen_newest i e h (sym is, refl, refl)

  -- ---- What the table is told.

  pub sealed : (slice_index answer 0 == 5) ≡ false
  sealed = ap (λ (l : List ℕ). slice_index l 0 == 5) (sym (sent g h (all w q older rows f route answer byte limits own turn party fetched kept refuses other will large op asks) (ended w q older rows f route answer byte limits own turn party fetched kept refuses other will large op asks) r byte round.tag round.body answer other.record_is will large op asks))

  pub few_turned : messages_of (with_large (Some fetched.id) kept.whole f.kept.responder) < 2 ^ 64 - 1 → messages_of (e ∷ with_large (Some fetched.id) kept.whole f.kept.responder) < 2 ^ 64
  few_turned small = (let more = after_more g (Adds e) in omega (arith, small, more))

  module _ (accepts : AnswerAccepts) (law : LargeAnswerChanges) where
    pub turned_change : (change : Change) → change.begun ≡ None → change.accepted ≡ accepted_from f.kept turn.round.tag answer → change.answered ≡ taken_shown (with_large (Some fetched.id) kept.whole f.kept.responder) turn.round.body answer → change.asked ≡ None
        → change.views ≡ views_in (e ∷ with_large (Some fetched.id) kept.whole f.kept.responder) → IsChange change (restored f.kept) (restored n.kept)
    turned_change change begun accepted answered asked views =
        let changes = law (restored f.kept) (restored n.kept) e refl in record {
          begun = begun ∙ sym changes.0;
          accepted = accepted ∙ sym (accepted_on f.kept (unseen e ∷ h) route.tag turn.round answer turn.answers.0 turn.answers.1 accepts);
          answered = answered ∙ taken_is r g turn.round.tag turn.round.body answer other.record_is will sealed ∙ sym changes.1;
          asked = asked ∙ sym (asked_on f.kept (unseen e ∷ h) route.tag turn.round answer turn.answers.0 turn.answers.1);
          views = views ∙ views_turned w q older rows f route answer byte limits own turn party fetched kept refuses other will large op asks;
        }

    pub turned_step : IsStep (restored f.kept) (restored n.kept)
    turned_step =
        quiet_step (restored f.kept) (restored n.kept) refl (law (restored f.kept) (restored n.kept) e refl).0
        (accepted_on f.kept (unseen e ∷ h) route.tag turn.round answer turn.answers.0 turn.answers.1 accepts ∙ none_accepted f.kept turn.round.tag answer turn.body sealed)

  -- ---- What is kept.

  same_terms : session_terms s ≡ session_terms u
  same_terms = terms_alike s u alike

  wide_too : 12 < (session_terms u).common.to_requester.transfer
  wide_too = subst (λ (y : Terms). 12 < y.common.to_requester.transfer) same_terms wide

  judged : with_large (Some id) (whole_of e) (unseen e ∷ h) ≡ e ∷ h
  judged = judged_is w q older rows f route answer byte limits own turn party fetched kept refuses other will large op asks

  -- A chunk is left to be given there.
  pending_is : has_pending (session_place (session_with id (unseen e ∷ h) (whole_of e))) ≡ true
  pending_is =
      let unit : ℕ = unit_of (session_terms u).common.to_requester.transfer in
      let some : nat_lt 0 (div_ceil (length (whole_of e) + 4) unit) ≡ true = ceil_some (length (whole_of e)) unit (omega (arith, wide_too)) in
      ap (λ (l : History). has_pending (session_place (session_of id l))) judged
      ∙ behind_entry (λ (y : Events). has_pending (session_place y) ≡ true) id m t reply round.tag no_draw h refl refl live_too (ap (λ (b : Bool). is_some (cond b (Some (whole_of e)) None)) some)

  sizes_are : (session_terms (session_with id (unseen e ∷ h) (whole_of e))).common ≡ (place_terms n.place).common
  sizes_are =
      ap (λ (l : History). (session_terms (session_of id l)).common) judged
      ∙ behind_entry (λ (y : Events). (session_terms y).common ≡ (session_terms u).common) id m t reply round.tag no_draw h refl refl live_too refl
      ∙ sym (ap (λ (y : Terms). y.common) same_terms)

  asked : AsksFor r id n.place op n.kept.responder
  asked whole fits =
      asks_too g h (all w q older rows f route answer byte limits own turn party fetched kept refuses other will large op asks) (ended w q older rows f route answer byte limits own turn party fetched kept refuses other will large op asks) r byte round.tag round.body answer other.record_is will large op asks
      (restored f.kept) six whole fits

  module _ (new : Party) (newly : InSession) (table : List Seen) (asker : IsAsker new.asker q n.kept) (answerer : IsAnswerer new.answerer (responder_for w f.kept) (e ∷ f.kept.responder)) (keys : StandFor new.keys (responder_for w f.kept) (e ∷ with_large (Some fetched.id) kept.whole f.kept.responder))
      (number : new.number ≡ number_from 1 q.eid w.requesters) (places : rows_of.StandFor new.places (restored n.kept) (rows_upon f.kept n.kept rows)) (entries : StandsForRows table w (length older + 1) (rows_upon f.kept n.kept rows))
      (fetches : asks_upon f.kept route.tag answer ≡ true) (id_new : newly.id ≡ id_in_record (drop 1 turn.round.body)) (op_is : newly.op ≡ op)
      (lengths : AreLengths (session_place s) newly.least newly.most) (came : (y : Fetching) → number_of y ≡ 0 → StandsFor newly.answer y) (left : newly.left ≡ true) (found : is_missing op (inventory_of (responder_for w f.kept)) ≡ false) where
    abbrev here : newly.id ≡ fetched.id
    here = id_new ∙ same_id

    pub turned_told : IsRepliedTo w q older rows f route answer (Ok upon.Turned) new (IsFetchedIn new newly w q) table
    turned_told = (
      n,
      turns w q older rows f route answer byte limits own turn party fetched kept refuses other will large op asks fetches,
      record {
        beside = record { asker = asker; keys = keys_turned w q older rows f route answer byte limits own turn party fetched kept refuses other will large op asks new.keys keys; number = number; places = places };
        at = at_is w q older rows f route answer byte limits own turn party fetched kept refuses other will large op asks ∙ ap Some (sym here);
        answer = came n (none_came w q older rows f route answer byte limits own turn party fetched kept refuses other will large op asks);
        lengths = lengths;
        asks = subst (λ (i : ℕ). AsksFor r i n.place newly.op n.kept.responder) (sym id_new) (subst (λ (o : ℕ). AsksFor r id n.place o n.kept.responder) (sym op_is) asked);
        found = subst (λ (o : ℕ). is_missing o (inventory_of r) ≡ false) (sym op_is) found;
        whole = whole_of e;
        stands = stands w q older rows f route answer byte limits own turn party fetched kept refuses other will large op asks;
        judges = subst (λ (i : ℕ). IsAnswerer new.answerer r (with_large (Some i) (whole_of e) n.kept.responder)) (sym id_new) (subst (IsAnswerer new.answerer r) (sym judged) answerer);
        pending = subst (λ (i : ℕ). has_pending (session_place (session_with i n.kept.responder (whole_of e))) ≡ true) (sym id_new) pending_is ∙ sym left;
        uncounted = λ none live. absurd (false≢true (sym none ∙ left));
        sizes = λ some. subst (λ (i : ℕ). (session_terms (session_with i n.kept.responder (whole_of e))).common ≡ (place_terms n.place).common) (sym id_new) sizes_are;
        room = kept.room;
        anew = kept.anew;
      },
      entries,
    )

  -- The requester asks for no chunk: nothing is fetched.
  module _ (new : Party) (newly : InSession) (table : List Seen) (asker : IsAsker new.asker q n.kept) (answerer : IsAnswerer new.answerer (responder_for w f.kept) (unseen e ∷ f.kept.responder)) (keys : StandFor new.keys (responder_for w f.kept) (e ∷ with_large (Some fetched.id) kept.whole f.kept.responder))
      (number : new.number ≡ number_from 1 q.eid w.requesters) (places : rows_of.StandFor new.places (restored n.kept) (rows_upon f.kept n.kept rows)) (entries : StandsForRows table w (length older + 1) (rows_upon f.kept n.kept rows)) (idle : asks_upon f.kept route.tag answer ≡ false) where
    pub turned_ended : IsRepliedTo w q older rows f route answer (Ok upon.Ended) new (IsFetchedIn new newly w q) table
    turned_ended = (
      n.kept,
      ends w q older rows f route answer byte limits own turn party fetched kept refuses other will large op asks idle,
      record { asker = asker; answerer = answerer; keys = keys_turned w q older rows f route answer byte limits own turn party fetched kept refuses other will large op asks new.keys keys; number = number; places = places },
      entries,
    )
