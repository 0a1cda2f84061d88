-- LargeResponse in answer to a record, while another large response is fetched in its session: what goes on with it.
use Rattle.std.proofs.Common.{◌≡◌, ◌<◌, ◌+◌, ◌==◌, ◌&&◌, ◌||◌, ◌∙◌, ℕ, List, [], ◌∷◌, ◌++◌, refl, sym, ap, subst, drop, take, length, Bool, true, false, Option, Some, None, cond, inl, inr}
use Rattle.std.specs.Prelude.{not, slice_index}
use Rattle.mctp_framing.specs.Cutting.{RouteFields}
use Rattle.mctp_framing.specs.Gathering.Gathered.{Whole}
use Rattle.check_ends.proofs.InTurn.{AnswersInTurn}
use Rattle.check_responder.specs.AnswerKeys.{StandFor, will_take}
use Rattle.check_responder.specs.JudgedResponder.{IsAnswerer}
use Rattle.check_requester.specs.JudgedRequester.{Carries}
use Rattle.check_requester.specs.HeardKept.{asks_upon, heard_kept}
use Rattle.check_responder.specs.RecordAnswers.{history_behind}
use Rattle.check_responder.specs.declared.answer_keys.AnswerKeys.{AnswerKeys}
use Rattle.check_responder.specs.declared.judged_responder.JudgedResponder.{JudgedResponder}
use Rattle.check_responder.specs.declared.given.Given.TheVariants as given
use Rattle.check_ends.specs.declared.party.Party.{Party}
use Rattle.check_laws.proofs.LargeShown.{large_is_shown}
use Rattle.check_laws.specs.Changes.{views_in}
use Rattle.check_laws.specs.Keeping.{Kept}
use Rattle.check_laws.specs.LargeShown.{IsShownLarge, begun_large, drops_before, first_dropped, large_shown, whole_of}
use Rattle.check_laws.specs.Order.{body_in, tag_in}
use Rattle.check_laws.specs.RepliesShown.{answered, responder_for}
use Rattle.check_fetched_laws.proofs.BegunJudged.{begins_judging}
use Rattle.check_late_laws.specs.Fetching.{Fetching, HasSize, IsFetchingOf, MayStand, answer_by, bytes_given, bytes_in, dialogue_of, gives_in, number_given, number_of, size_in, size_told}
use Rattle.check_late_laws.specs.FetchingLaws.{EndsFetching, TurnsFetching, place_in}
use Rattle.requester_machine.specs.History.{outstanding}
use Rattle.requester_machine.specs.May.{IsSetUp}
use Rattle.requester_machine.specs.Setup.{ReqSetup}
use Rattle.responder_machine.specs.Answer.{request_at}
use Rattle.responder_machine.specs.History.{Entry, History, ended_of}
use Rattle.responder_machine.specs.May.{on_body, with_dropped}
use Rattle.responder_machine.specs.Place.{held_of, session_place}
use Rattle.responder_machine.specs.Records.{opened}
use Rattle.responder_machine.specs.Responder.{Outcome, after}
use Rattle.responder_machine.specs.Session.{id_in_record, session_of}
use Rattle.responder_machine.specs.Setup.{RspSetup}
use Rattle.spdm_grammar.specs.Message.RequestMessage.{GetMeasurements}
use Rattle.capture_machine.proofs.FetchedSessions.{ended_fetched}
use Rattle.capture_machine.proofs.PlacesServed.{named_session}
use Rattle.capture_machine.proofs.SeenAnswers.{led_seen}
use Rattle.capture_machine.proofs.UnseenStands.{UnseenStand, old_in}
use Rattle.capture_machine.specs.Capture.{RepliesBy}
use Rattle.capture_machine.specs.CapturedAnswers.{Answers, AnswersLarge}
use Rattle.capture_machine.specs.LargeAnswers.{is_fetching, is_unseen_in, judging, place_named, seen, unseen, while_fetched, with_large}
use Rattle.capture_machine.specs.Rounds.{Dialogue, Round, no_draw}
use Rattle.capture_machine.specs.SessionTable.{Row}
use Rattle.world_machine.specs.Setup.{Configuration}
use Rattle.check_fetched_ends.proofs.BeginsThere.{big, e0, f0, leads, on_is, shown_is, unseen_is}
use Rattle.check_fetched_ends.proofs.HeardOn.{IsHeardOn, heard_on}
use Rattle.check_fetched_ends.proofs.InSessionRecord.{unseen_stand}
use Rattle.check_fetched_ends.proofs.OthersSame.{judged_at, place_at}
use Rattle.check_late_laws.proofs.Late.SeenAlike.{SeenAlike}
use Rattle.check_fetched_laws.proofs.SeenKeys.{keys_unseen, views_alike}
use Rattle.check_late_laws.proofs.Late.SeenSessions.{seen_alike}
use Rattle.check_fetched_ends.specs.InSession.{IsFetchedIn}
use Rattle.check_fetched_ends.specs.SessionOthers.{IsOtherAnswer}
use Rattle.check_fetched_ends.specs.declared.session_fetch.in_session.InSession.{InSession}

module _ (w : Configuration) (q : ReqSetup) (older : List (List ℕ)) (rows : List Row) (f : Fetching) (route : RouteFields) (answer : List ℕ) (byte : w.responder.beat < 256) (limits : IsSetUp f.kept.setup) (own : IsFetchingOf w q older f) (turn : AnswersInTurn f.kept route answer)
    (party : Party) (fetched : InSession) (kept : IsFetchedIn party fetched w q f rows) (refuses : Bool) (other : IsOtherAnswer (responder_for w f.kept) fetched f turn.round answer refuses)
    (will : will_take (responder_for w f.kept) (with_large (Some fetched.id) kept.whole f.kept.responder) turn.round.body ≡ true)
    (large : IsShownLarge (responder_for w f.kept) (with_large (Some fetched.id) kept.whole f.kept.responder) turn.round.tag turn.round.body answer) (op : ℕ)
    (asks : request_at (session_place (session_of (id_in_record (drop 1 turn.round.body)) (with_large (Some fetched.id) kept.whole f.kept.responder))) (drop 1 (opened (responder_for w f.kept).psk (session_of (id_in_record (drop 1 turn.round.body)) (with_large (Some fetched.id) kept.whole f.kept.responder)) (drop 1 turn.round.body)))
    ≡ Some (GetMeasurements op)) where
  abbrev k : Kept
  k = f.kept

  abbrev r : RspSetup
  r = responder_for w f.kept

  abbrev h : History
  h = f.kept.responder

  abbrev round : Round
  round = turn.round

  abbrev x : List ℕ
  x = kept.whole

  abbrev g : History
  g = with_large (Some fetched.id) kept.whole f.kept.responder

  abbrev id : ℕ
  id = id_in_record (drop 1 turn.round.body)

  abbrev type : (slice_index turn.round.body 0 == 5) ≡ false
  type = other.record_is

  pub carries : Carries w q older f.kept
  carries = (Some kept.whole, own.all kept.whole kept.stands, own.kept)

  -- ---- The histories with the bytes of the answer before it, and without.

  pub none : UnseenStand f.kept.responder
  none = unseen_stand w q older f route answer byte limits own turn fetched.id kept.at other.record_is x kept.stands

  pub all : (i : ℕ) → SeenAlike (session_of i (with_large (Some fetched.id) kept.whole f.kept.responder)) (session_of i f.kept.responder)
  all i = seen_alike i fetched.id x h none

  pub ended : ended_of (with_large (Some fetched.id) kept.whole f.kept.responder) ≡ ended_of f.kept.responder
  ended = ended_fetched (Some fetched.id) x h

  judged : judging (Some x) round.body h ≡ g
  judged = judged_at w q older rows f route answer byte limits own turn party fetched kept refuses other x kept.stands

  -- ---- What it leads to.

  abbrev pub turned : Entry
  turned = e0 (responder_for w f.kept) (with_large (Some fetched.id) kept.whole f.kept.responder) turn.round.tag turn.round.body answer other.record_is will large op asks

  abbrev e : Entry
  e = turned

  old_turned : is_unseen_in (Some fetched.id) turned ≡ false
  old_turned = old_in (Some fetched.id) e (led_seen r g round.tag round.body e (leads r g round.tag round.body answer type will large op asks))

  abbrev pub next : Fetching
  next = record {
    kept = heard_kept f.kept (unseen turned ∷ f.kept.responder) route.tag turn.round answer;
    at = place_named turn.round.body;
    place = place_in (with_large (Some fetched.id) kept.whole f.kept.responder) (unseen turned ∷ f.kept.responder);
  }

  pub at_is : next.at ≡ Some fetched.id
  at_is = place_at w q older rows f route answer byte limits own turn party fetched kept refuses other x kept.stands

  answers_large : (whole : List ℕ) × AnswersLarge r (dialogue_of f x) round answer (unseen e ∷ h) whole
  answers_large =
      (large_is_shown r (dialogue_of f x) round answer (unseen e ∷ h) byte).1
      (subst (λ (l : History). IsShownLarge r l round.tag round.body answer × (unseen e ∷ h ≡ begun_large h (large_shown r l round.tag round.body answer))) (sym judged)
      (large, sym (ap (begun_large h) (shown_is r g round.tag round.body answer type will large op asks))))

  heard : IsHeardOn f.kept (dialogue_of f kept.whole) route.tag turn.round answer (unseen turned ∷ f.kept.responder)
  heard = heard_on w q older k limits carries route.tag round answer turn.answers.0 turn.answers.1 (Some x) (unseen e ∷ h)

  -- The requester asks for a chunk: it is fetched from then on.
  pub turns : asks_upon f.kept route.tag answer ≡ true → TurnsFetching w f (Whole route answer) next
  turns asks =
      let place : next.place ≡ place_in (judging (Some x) round.body h) (unseen e ∷ h) = ap (λ (l : History). place_in l (unseen e ∷ h)) (sym judged) in
      (turn.body, turn.owner, (round, turn.answers, (x, unseen e ∷ h, next.place, kept.stands, inl (answers_large, place), (heard.history, heard.hears, heard.asks ∙ asks, ap (λ (y : Kept). record next { kept = y }) (sym heard.kept)))))

  -- It asks for none: nothing is.
  module _ (idle : asks_upon f.kept route.tag answer ≡ false) where
    abbrev behind : Dialogue
    behind = record (dialogue_of f kept.whole) { requester = heard.history; responder = unseen turned ∷ f.kept.responder; fetching = while_fetched heard.history (Some answers_large.0); round = Some (answered turn.round) }

    awaits_none : is_fetching (outstanding heard.history) ≡ false
    awaits_none = heard.asks ∙ idle

    replies : RepliesBy w (dialogue_of f x) (Whole route answer) behind
    unfolding Answers
    replies =
        (turn.body, turn.owner, (round, turn.answers.0, turn.answers.1, turn.answers.2, (unseen e ∷ h, Some answers_large.0, inr (inl (answers_large.0, answers_large.1, refl)), (heard.history, heard.hears, refl, ap (λ (b : Bool). not b || true) awaits_none))))

    pub ends : EndsFetching w f (Whole route answer) next.kept
    ends = (x, behind, kept.stands, replies, ap (λ (b : Bool). cond b (Some answers_large.0) None) awaits_none, sym heard.kept)

  -- ---- No chunk of it came.

  unseen_here : is_unseen_in next.at (unseen e) ≡ true
  unseen_here = ap (λ (o : Option ℕ). is_unseen_in o (unseen e)) (named_session round.body type) ∙ unseen_is r g round.tag round.body answer type will large op asks

  pub none_came : number_of next ≡ 0
  none_came = ap (λ (b : Bool). cond b 0 (cond (gives_in next.at (unseen e)) (number_given next.at h + 1) (number_given next.at h))) unseen_here

  none_told : size_told next.at (unseen e ∷ h) ≡ None
  none_told = ap (λ (b : Bool). cond b None (cond (gives_in next.at (unseen e) && number_given next.at h == 0) (Some (size_in (answer_by (unseen e)))) (size_told next.at h))) unseen_here

  no_bytes : bytes_given next.at (unseen e ∷ h) ≡ []
  no_bytes = ap (λ (b : Bool). cond b [] (cond (gives_in next.at (unseen e)) (bytes_given next.at h ++ bytes_in (number_given next.at h) (answer_by (unseen e))) (bytes_given next.at h))) unseen_here

  pub stands : MayStand next (whole_of turned)
  stands = (
    big r g round.tag round.body answer type will large op asks,
    subst (λ (o : Option ℕ). HasSize o (whole_of e)) (sym none_told) tt,
    subst (λ (l : List ℕ). take (length l) (whole_of e) ≡ l) (sym no_bytes) refl,
  )

  -- ---- What stands for the history with both answers, and for the one without the first.

  pub judged_is : with_large (Some (id_in_record (drop 1 turn.round.body))) (whole_of turned) (unseen turned ∷ f.kept.responder) ≡ turned ∷ f.kept.responder
  judged_is =
      ap (λ (o : Option ℕ). with_large o (whole_of e) (unseen e ∷ h)) (sym (named_session round.body type))
      ∙ begins_judging r g h round.tag round.body e (leads r g round.tag round.body answer type will large op asks) refl

  pub both_is : with_large (Some fetched.id) kept.whole (turned ∷ f.kept.responder) ≡ turned ∷ with_large (Some fetched.id) kept.whole f.kept.responder
  both_is = ap (λ (b : Bool). cond b (seen x e ∷ h) (e ∷ with_large (Some fetched.id) x h)) old_turned

  pub none_behind : UnseenStand (unseen turned ∷ f.kept.responder)
  none_behind = (λ is. (refl, record { taken = refl; other = refl }), none)

  none_seen : UnseenStand (e ∷ h)
  none_seen = (λ is. (refl, record { taken = refl; other = refl }), none)

  pub keys_turned : (keys : AnswerKeys) → StandFor keys (responder_for w f.kept) (turned ∷ with_large (Some fetched.id) kept.whole f.kept.responder) → StandFor keys (responder_for w f.kept) (unseen turned ∷ f.kept.responder)
  keys_turned keys stand =
      keys_unseen keys r id (whole_of e) (unseen e ∷ h) none_behind (subst (StandFor keys r) (sym judged_is) (keys_unseen keys r fetched.id x (e ∷ h) none_seen (subst (StandFor keys r) (sym both_is) stand)))

  pub views_turned : views_in (turned ∷ with_large (Some fetched.id) kept.whole f.kept.responder) ≡ views_in (unseen turned ∷ f.kept.responder)
  views_turned =
      ap views_in (sym both_is) ∙ views_alike fetched.id x (e ∷ h) none_seen ∙ ap views_in (sym judged_is) ∙ views_alike id (whole_of e) (unseen e ∷ h) none_behind

  -- ---- The history with both answers, as the calls tell it.

  no_drops : drops_before g round.body ≡ []
  no_drops = ap (λ (b : Bool). cond (b && held_of g == 4) (first_dropped g (1 ∷ 2 ∷ 3 ∷ 4 ∷ [])) []) type

  pub both_behind : (new : JudgedResponder) → IsAnswerer new (responder_for w f.kept) (history_behind (responder_for w f.kept) (with_large (Some fetched.id) kept.whole f.kept.responder) turn.round.tag turn.round.body answer given.Large)
      → IsAnswerer new (responder_for w f.kept) (turned ∷ with_large (Some fetched.id) kept.whole f.kept.responder)
  both_behind new is =
      subst (λ (o : Outcome). IsAnswerer new r (after g o)) (shown_is r g round.tag round.body answer type will large op asks)
      (subst (λ (l : List ℕ). IsAnswerer new r (after (with_dropped g l) (large_shown r g round.tag round.body answer))) no_drops is)

  pub both_added : (seen : Option Round) → seen ≡ Some turn.round
      → after (with_dropped (with_large (Some fetched.id) kept.whole f.kept.responder) []) (on_body (responder_for w f.kept) (with_dropped (with_large (Some fetched.id) kept.whole f.kept.responder) []) (tag_in seen) (body_in seen) (f0 (responder_for w f.kept) (with_large (Some fetched.id) kept.whole f.kept.responder) turn.round.tag turn.round.body answer other.record_is will large) no_draw)
      ≡ turned ∷ with_large (Some fetched.id) kept.whole f.kept.responder
  both_added seen is =
      ap (λ (o : Option Round). after g (on_body r g (tag_in o) (body_in o) (f0 r g round.tag round.body answer type will large) no_draw)) is ∙ ap (after g) (on_is r g round.tag round.body answer type will large op asks)
