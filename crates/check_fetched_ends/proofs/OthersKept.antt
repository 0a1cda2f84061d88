-- What an answer in a session leads to that gives no chunk of the large one, and that goes whole.
use Rattle.std.proofs.Common.{◌≡◌, ◌<◌, ◌==◌, ◌&&◌, ◌||◌, ◌↔◌, ℕ, List, [], ◌∷◌, refl, sym, ap, ◌∙◌, subst, Bool, true, false, Option, Some, cond, inl}
use Rattle.std.specs.Prelude.{MatchBool, not}
use Rattle.mctp_framing.specs.Cutting.{RouteFields}
use Rattle.mctp_framing.specs.Gathering.Gathered.{Whole}
use Rattle.check_ends.proofs.InTurn.{AnswersInTurn}
use Rattle.check_responder.specs.JudgedResponder.{history_shown}
use Rattle.check_requester.specs.HeardKept.{asks_upon, heard_kept}
use Rattle.check_ends.specs.declared.party.Party.{Party}
use Rattle.check_laws.proofs.PlainShown.{plain_is_shown}
use Rattle.check_laws.specs.AnswersShown.{values_shown_by}
use Rattle.check_laws.specs.DropsShown.{IsShownAnswer, drops_shown_by, outcome_shown}
use Rattle.check_laws.specs.Keeping.{Kept, kept_of as kept_between}
use Rattle.check_laws.specs.RepliesShown.{answered, responder_for}
use Rattle.check_fetched_laws.specs.LastShown.{IsShownEntry, IsShownWhole}
use Rattle.check_late_laws.proofs.Stood.{IsSame, back_same, same_stands}
use Rattle.check_late_laws.specs.Fetching.{Fetching, IsFetchingOf, MayStand, dialogue_of}
use Rattle.check_late_laws.specs.FetchingLaws.{GoesFetching}
use Rattle.check_late_laws.specs.LargeAnswers.{StandsFor}
use Rattle.requester_machine.specs.History.{outstanding}
use Rattle.requester_machine.specs.May.{IsSetUp}
use Rattle.requester_machine.specs.Setup.{ReqSetup}
use Rattle.responder_machine.specs.History.{Entry, History, kept_of}
use Rattle.responder_machine.specs.History.Entry.{Dropped}
use Rattle.responder_machine.specs.May.{with_dropped}
use Rattle.responder_machine.specs.Place.{Place}
use Rattle.responder_machine.specs.Responder.Outcome.{Same, Unopened, Adds}
use Rattle.responder_machine.specs.Responder.{Outcome, after, body_of}
use Rattle.responder_machine.specs.Setup.{RspSetup}
use Rattle.capture_machine.proofs.DropsTell.{kept_same}
use Rattle.capture_machine.proofs.SeenAnswers.{led_seen, led_stands}
use Rattle.capture_machine.proofs.UnseenStands.{UnseenStand, dropped_stand, old_in}
use Rattle.capture_machine.specs.Capture.{RepliesBy}
use Rattle.capture_machine.specs.CapturedAnswers.{Answers, AnswersPlainly, MayLeadTo}
use Rattle.capture_machine.specs.LargeAnswers.{is_fetching, is_unseen_in, seen, while_fetched, with_large}
use Rattle.capture_machine.specs.Rounds.{Dialogue, Round}
use Rattle.capture_machine.specs.SessionTable.{Row}
use Rattle.world_machine.specs.Setup.{Configuration}
use Rattle.check_fetched_ends.proofs.HeardOn.{IsHeardOn, heard_on}
use Rattle.check_fetched_ends.proofs.InSessionRecord.{unseen_stand}
use Rattle.check_fetched_laws.proofs.OthersLed.{sealed_in}
use Rattle.check_fetched_ends.proofs.OthersSame.{judged_at, same_on}
use Rattle.check_fetched_ends.specs.InSession.{AsksFor, IsFetchedIn, IsMeasuredBy}
use Rattle.check_fetched_ends.specs.SessionOthers.{IsOtherAnswer}
use Rattle.check_fetched_ends.specs.declared.session_fetch.in_session.InSession.{InSession}

-- ---- Drops leave what is asked here.

pub dropped_large : (id : ℕ) (x : List ℕ) (ids : List ℕ) (l : History) → with_large (Some id) x (with_dropped l ids) ≡ with_dropped (with_large (Some id) x l) ids
dropped_large id x [] l = refl
dropped_large id x (i ∷ ids) l = dropped_large id x ids (Dropped i ∷ l)

dropped_asks : (r : RspSetup) (id : ℕ) (p : Place) (op : ℕ) (ids : List ℕ) (l : History) → AsksFor r id p op l → AsksFor r id p op (with_dropped l ids)
dropped_asks r id p op [] l asks = asks
dropped_asks r id p op (i ∷ ids) l asks = dropped_asks r id p op ids (Dropped i ∷ l) asks

module _ (w : Configuration) (q : ReqSetup) (older : List (List ℕ)) (rows : List Row) (f : Fetching) (route : RouteFields) (answer : List ℕ) (byte : w.responder.beat < 256) (limits : IsSetUp f.kept.setup) (own : IsFetchingOf w q older f) (turn : AnswersInTurn f.kept route answer)
    (party : Party) (fetched : InSession) (kept : IsFetchedIn party fetched w q f rows) (refuses : Bool) (other : IsOtherAnswer (responder_for w f.kept) fetched f turn.round answer refuses)
    (shown : IsShownAnswer (responder_for w f.kept) (with_large (Some fetched.id) kept.whole f.kept.responder) turn.round.tag turn.round.body answer) where
  abbrev k : Kept
  k = f.kept

  abbrev r : RspSetup
  r = responder_for w f.kept

  abbrev h : History
  h = f.kept.responder

  abbrev round : Round
  round = turn.round

  abbrev id : ℕ
  id = fetched.id

  abbrev x : List ℕ
  x = kept.whole

  abbrev g : History
  g = with_large (Some fetched.id) kept.whole f.kept.responder

  abbrev pub ids : List ℕ
  ids = drops_shown_by (responder_for w f.kept) (with_large (Some fetched.id) kept.whole f.kept.responder) turn.round.tag turn.round.body answer

  abbrev pub outcome : Outcome
  outcome = outcome_shown (responder_for w f.kept) (with_large (Some fetched.id) kept.whole f.kept.responder) turn.round.tag turn.round.body answer

  -- The history after it.
  abbrev pub behind : History
  behind = after (with_dropped f.kept.responder ids) outcome

  pub leads : MayLeadTo (responder_for w f.kept) (with_dropped (with_large (Some fetched.id) kept.whole f.kept.responder) ids) turn.round.tag turn.round.body outcome
  unfolding MayLeadTo
  leads = (values_shown_by r (with_dropped g ids) round.tag round.body answer, shown.0.0, shown.0.1, shown.0.2)

  pub plainly : AnswersPlainly (responder_for w f.kept) (dialogue_of f kept.whole) turn.round answer behind
  plainly =
      (plain_is_shown r (dialogue_of f x) round answer behind byte).1
      (subst (λ (l : History). IsShownAnswer r l round.tag round.body answer × (behind ≡ after (with_dropped h (drops_shown_by r l round.tag round.body answer)) (outcome_shown r l round.tag round.body answer)))
      (sym (judged_at w q older rows f route answer byte limits own turn party fetched kept refuses other x kept.stands)) (shown, refl))

  same : IsSame f.at behind h
  same = same_on w q older rows f route answer byte limits own turn party fetched kept refuses other x kept.stands behind plainly

  -- ---- What is kept behind it.

  abbrev pub next : Fetching
  next = record f { kept = heard_kept f.kept behind route.tag turn.round answer }

  pub stands_then : MayStand next kept.whole
  stands_then = same_stands f.place f.at h behind x (back_same f.at behind h same) kept.stands

  pub answer_then : StandsFor fetched.answer next
  answer_then = record { size = kept.answer.size ∙ sym same.size; number = kept.answer.number ∙ sym same.number; bytes = kept.answer.bytes ∙ sym same.bytes }

  -- An entry was seen.
  seen_by : (e : Entry) → MayLeadTo r (with_dropped g ids) round.tag round.body (Adds e) → is_unseen_in (Some id) e ≡ false
  seen_by e may = old_in (Some id) e (led_seen r (with_dropped g ids) round.tag round.body e may)

  large_by : (o : Outcome) → MayLeadTo r (with_dropped g ids) round.tag round.body o → with_large (Some id) x (after (with_dropped h ids) o) ≡ after (with_dropped g ids) o
  large_by (Same b) may = dropped_large id x ids h
  large_by (Unopened b) may = dropped_large id x ids h
  large_by (Adds e) may =
      ap (λ (b : Bool). cond b (seen x e ∷ with_dropped h ids) (e ∷ with_large (Some id) x (with_dropped h ids))) (seen_by e may) ∙ ap (λ (l : History). e ∷ l) (dropped_large id x ids h)

  -- The connection stands for it with these bytes.
  pub large_then : with_large (Some fetched.id) kept.whole behind ≡ history_shown (responder_for w f.kept) (with_large (Some fetched.id) kept.whole f.kept.responder) turn.round.tag turn.round.body answer
  large_then = large_by outcome leads

  asks_by : (o : Outcome) → MayLeadTo r (with_dropped g ids) round.tag round.body o → AsksFor r id f.place fetched.op (after (with_dropped h ids) o)
  asks_by (Same b) may = dropped_asks r id f.place fetched.op ids h kept.asks
  asks_by (Unopened b) may = dropped_asks r id f.place fetched.op ids h kept.asks
  asks_by (Adds e) may = λ v fits.
      subst (λ (b : Bool). MatchBool b (IsShownEntry r (with_dropped h ids) (seen v e)) (IsShownWhole r (Some id) v (with_dropped h ids)) ↔ IsMeasuredBy r fetched.op v)
      (sym (seen_by e may)) (dropped_asks r id f.place fetched.op ids h kept.asks v fits)

  pub asks_then : AsksFor (responder_for w f.kept) fetched.id f.place fetched.op behind
  asks_then = asks_by outcome leads

  unseen_by : (o : Outcome) → MayLeadTo r (with_dropped g ids) round.tag round.body o → UnseenStand (after (with_dropped h ids) o)
  unseen_by (Same b) may = dropped_stand ids h (unseen_stand w q older f route answer byte limits own turn id kept.at other.record_is x kept.stands)
  unseen_by (Unopened b) may = dropped_stand ids h (unseen_stand w q older f route answer byte limits own turn id kept.at other.record_is x kept.stands)
  unseen_by (Adds e) may =
      (led_stands r (with_dropped g ids) round.tag round.body e may, dropped_stand ids h (unseen_stand w q older f route answer byte limits own turn id kept.at other.record_is x kept.stands))

  pub unseen_then : UnseenStand behind
  unseen_then = unseen_by outcome leads

  clear_by : (o : Outcome) → MayLeadTo r (with_dropped g ids) round.tag round.body o → kept_of (after (with_dropped h ids) o) ≡ kept_of h
  clear_by (Same b) may = kept_same ids h
  clear_by (Unopened b) may = kept_same ids h
  clear_by (Adds e) may = ap (λ (y : Entry). kept_of (y ∷ with_dropped h ids)) (sealed_in r (with_dropped g ids) round.tag round.body e other.record_is may).is ∙ kept_same ids h

  -- No request in the clear was taken.
  pub clear_then : kept_of behind ≡ kept_of f.kept.responder
  clear_then = clear_by outcome leads

  -- ---- It goes on.

  pub heard : IsHeardOn f.kept (dialogue_of f kept.whole) route.tag turn.round answer behind
  heard = heard_on w q older k limits (Some x, own.all x kept.stands, own.kept) route.tag round answer turn.answers.0 turn.answers.1 (Some x) behind

  pub goes : asks_upon f.kept route.tag answer ≡ true → GoesFetching w f (Whole route answer) next
  goes asks =
      (turn.body, turn.owner, (round, turn.answers, (x, behind, kept.stands, plainly, (heard.history, heard.hears, heard.asks ∙ asks, ap (λ (y : Kept). record f { kept = y }) (sym heard.kept)))))

  abbrev pub dialogue_then : Dialogue
  dialogue_then = record (dialogue_of f kept.whole) { requester = heard.history; responder = behind; fetching = while_fetched heard.history (Some kept.whole); round = Some (answered turn.round) }

  some_known : (b : Bool) → (not b || true) ≡ true
  some_known true = refl
  some_known false = refl

  pub replies : RepliesBy w (dialogue_of f kept.whole) (Whole route answer) dialogue_then
  unfolding Answers
  replies =
      (turn.body, turn.owner, (round, turn.answers.0, turn.answers.1, turn.answers.2, (behind, Some x, inl (plainly, refl), (heard.history, heard.hears, refl, some_known (is_fetching (outstanding heard.history))))))

  pub kept_then : kept_between dialogue_then ≡ next.kept
  kept_then = heard.kept
