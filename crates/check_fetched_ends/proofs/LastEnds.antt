-- The last chunk of a large response that is held, of bytes to which its request leads: the fetch ends by it.
use Rattle.std.proofs.Common.{◌≡◌, ◌≢◌, ◌<◌, ◌+◌, ◌^◌, ◌==◌, ◌&&◌, ◌||◌, ◌∙◌, ℕ, List, [], ◌∷◌, refl, sym, ap, subst, length, Bool, true, false, Option, Some, None, Ok, cond, inr, arith}
use Rattle.std.specs.Prelude.{not}
use Rattle.std.proofs.lemmas.Option.{same_Some}
use Rattle.mctp_framing.specs.Cutting.{RouteFields}
use Rattle.mctp_framing.specs.Gathering.Gathered.{Whole}
use Rattle.check_ends.proofs.InTurn.{AnswersInTurn}
use Rattle.check_responder.specs.AnswerKeys.{StandFor}
use Rattle.check_responder.specs.JudgedResponder.{IsAnswerer}
use Rattle.check_requester.specs.JudgedRequester.{Carries, IsAsker}
use Rattle.check_requester.specs.HeardKept.{asks_upon, heard_kept}
use Rattle.check_responder.specs.declared.answer_keys.AnswerKeys.{AnswerKeys}
use Rattle.check_responder.specs.declared.judged_responder.JudgedResponder.{JudgedResponder}
use Rattle.check_ends.specs.declared.party.Party.{Party}
use Rattle.check_laws.proofs.AnswerSteps.{taken_same}
use Rattle.check_laws.proofs.StepsOfWalks.{replies_moved, walks_held}
use Rattle.check_laws.proofs.StepsOfWalks.{IsMoved}
use Rattle.check_laws.specs.ChangeLaws.{AnswerAccepts, LastChunkChanges, answered_by, begun_by, begun_by_large}
use Rattle.check_laws.specs.Changes.{IsChange, IsStep, answered_between, begun_between, views_in}
use Rattle.check_laws.specs.Keeping.{Kept, restored}
use Rattle.check_laws.specs.KeptChanges.{accepted_from}
use Rattle.check_laws.specs.RepliesShown.{answered, responder_for}
use Rattle.check_laws.specs.Rows as rows_of
use Rattle.check_laws.specs.Rows.{StandsForRows}
use Rattle.check_laws.specs.declared.change.Change.{Change}
use Rattle.check_laws.specs.declared.verdict.Seen.{Seen}
use Rattle.responder_core.specs.Connected as connected
use Rattle.responder_core.specs.declared.connected.Connection.{Connection}
use Rattle.check_fetched_laws.specs.LastShown.{IsShownEntry, drops_with}
use Rattle.check_fetched_ends.proofs.ChangesOn.{accepted_on, asked_on}
use Rattle.check_fetched_ends.proofs.FrontHeld.{begun_held, given_messages}
use Rattle.check_fetched_ends.proofs.HeardOn.{IsHeardOn, heard_on}
use Rattle.check_fetched_ends.proofs.HeldOn.{carries}
use Rattle.check_fetched_ends.proofs.HeldRounds.{place}
use Rattle.check_fetched_ends.proofs.LastInClear.{last_ends}
use Rattle.check_fetched_ends.proofs.LastRound as last
use Rattle.check_fetched_ends.proofs.LastWhole.{answer_seen}
use Rattle.check_fetched_ends.specs.Fetched.{IsRepliedTo, rows_upon}
use Rattle.check_fetched_ends.specs.Held.{IsHeldIn, IsShownChunk, StandsBefore, filled_with, repeats_held}
use Rattle.check_fetched_ends.specs.LastHeld.{begun_if}
use Rattle.check_fetched_ends.specs.LastMarked.{IsUnmarked}
use Rattle.check_fetched_ends.specs.declared.clear_fetch.held.Held.{Held}
use Rattle.check_fetched_ends.specs.declared.clear_fetch.shown.Shown.TheVariants as shown
use Rattle.check_fetched_ends.specs.declared.upon.Upon.TheVariants as upon
use Rattle.check_late_laws.specs.Fetching.{Fetching, IsFetchingOf, MayStand, dialogue_of}
use Rattle.check_late_laws.specs.FetchingLaws.{EndsFetching}
use Rattle.requester_machine.specs.History.{outstanding}
use Rattle.requester_machine.specs.May.{IsSetUp}
use Rattle.requester_machine.specs.Setup.{ReqSetup}
use Rattle.responder_machine.specs.BoundLaws.{messages_of}
use Rattle.responder_machine.specs.History.{Entry, History}
use Rattle.responder_machine.specs.History.Entry.{Clear}
use Rattle.responder_machine.specs.Responder.Outcome.{Adds}
use Rattle.responder_machine.specs.Setup.{RspSetup}
use Rattle.responder_machine.specs.Turn.{Turn, answer_in, takes}
use Rattle.spdm_grammar.specs.Message.RequestMessage.{GetVersion}
use Rattle.spdm_grammar.specs.Requests.{canonical_request}
use Rattle.spdm_grammar.specs.declared.names.request_code.TheConstants.{PSK_EXCHANGE}
use Rattle.spdm_machine.specs.Bodies.{clear_body}
use Rattle.spdm_machine.specs.Sessions.{id_in_exchange}
use Rattle.capture_machine.proofs.FetchedSessions.{takes_with}
use Rattle.capture_machine.specs.Capture.{RepliesBy}
use Rattle.capture_machine.specs.CapturedAnswers.{Answers, Completes}
use Rattle.capture_machine.specs.LargeAnswers.{handle_shown, is_fetching, place_named, seen, seen_turn, while_fetched}
use Rattle.capture_machine.specs.Rounds.{Dialogue, Round, no_draw}
use Rattle.capture_machine.specs.SessionTable.{Row, number_from}
use Rattle.world_machine.specs.Setup.{Configuration}

-- ---- Nothing hangs on the room that the responder has to answer in.

abbrev pub moved_before : (old new : JudgedResponder) (keys : AnswerKeys) (held : Held) (r : RspSetup) (h : History) → new.connection ≡ old.connection → StandsBefore old keys held r h → StandsBefore new keys held r h
moved_before old new keys held r h same b = record {
  gets = b.gets;
  turn = b.turn;
  before = b.before;
  left = b.left;
  behind = b.behind;
  are = b.are;
  unseen = b.unseen;
  left_is = b.left_is;
  led = b.led;
  sized = b.sized;
  stands = subst (λ (x : Connection). connected.StandsFor x r b.left) (sym same) b.stands;
  keys = b.keys;
  request = b.request;
  reply = b.reply;
  newest = b.newest;
}

module _ (w : Configuration) (q : ReqSetup) (older : List (List ℕ)) (rows : List Row) (f : Fetching) (own : IsFetchingOf w q older f) (party : Party) (held : Held) (kept : IsHeldIn party held w q f rows) (route : RouteFields) (answer : List ℕ) (limits : IsSetUp f.kept.setup) (turn : AnswersInTurn f.kept route answer)
    (other : turn.round.body ≢ clear_body (canonical_request GetVersion)) (anew : repeats_held held turn.round.tag turn.round.body ≡ false) (shows : IsShownChunk held turn.round.body answer shown.Last) (byte : w.responder.beat < 256) where
  abbrev r : RspSetup
  r = responder_for w f.kept

  abbrev h : History
  h = f.kept.responder

  abbrev k : Kept
  k = f.kept

  abbrev round : Round
  round = turn.round

  abbrev t : Turn
  t = kept.before.turn

  abbrev v : List ℕ
  v = filled_with held answer

  abbrev stand : MayStand f v
  stand = last.stand w q older rows f own party held kept turn.round turn.answers.0 other anew answer shows byte

  abbrev pub behind : History
  behind = last.behind w q older rows f own party held kept turn.round turn.answers.0 other anew answer shows byte

  abbrev pub next : Kept
  next = heard_kept f.kept behind route.tag turn.round answer

  pub behind_few : messages_of f.kept.responder + 1 < 2 ^ 64 → messages_of behind < 2 ^ 64
  behind_few less =
      let same = given_messages v (drops_with kept.before.before (seen v (Clear held.tag t no_draw))) h in
      omega (arith, less, same)

  module _ (led : IsShownEntry (responder_for w f.kept) kept.before.before (seen (filled_with held answer) (Clear held.tag kept.before.turn no_draw)))
      (unmarked : IsUnmarked held.late kept.before.before (seen (filled_with held answer) (Clear held.tag kept.before.turn no_draw))) where
    pub completes : Completes (responder_for w f.kept) (dialogue_of f (filled_with held answer)) turn.round answer behind
    completes =
        (last_ends w q older rows f own party held kept round turn.answers.0 other anew v stand byte answer
        (last.is_chunk w q older rows f own party held kept round turn.answers.0 other anew answer shows byte) (last.none_left w q older rows f own party held kept round turn.answers.0 other anew answer shows byte) behind).1 (led, unmarked, refl)

    carried : Carries w q older f.kept
    carried = carries w q older rows f own party held kept

    heard : IsHeardOn f.kept (dialogue_of f v) route.tag round answer behind
    heard = heard_on w q older f.kept limits carried route.tag round answer turn.answers.0 turn.answers.1 (Some v) behind

    module _ (idle : asks_upon f.kept route.tag answer ≡ false) where
      abbrev then_is : Dialogue
      then_is = record (dialogue_of f v) { requester = heard.history; responder = behind; fetching = while_fetched heard.history None; round = Some (answered round) }

      awaits_none : is_fetching (outstanding heard.history) ≡ false
      awaits_none = heard.asks ∙ idle

      replies : RepliesBy w (dialogue_of f v) (Whole route answer) then_is
      unfolding Answers
      replies =
          (turn.body, turn.owner, (round, turn.answers.0, turn.answers.1, turn.answers.2, (behind, None, inr (inr (inr (completes, refl))), (heard.history, heard.hears, refl, ap (λ (x : Bool). not x || false) awaits_none))))

      pub ends : EndsFetching w f (Whole route answer) next
      ends = (v, then_is, stand, replies, ap (λ (x : Bool). cond x None None) awaits_none, sym heard.kept)

      -- ---- The table.

      abbrev asked : Entry
      asked = Clear held.tag t no_draw

      begins_by : (exchange : Bool) → takes PSK_EXCHANGE t ≡ exchange → begun_by (Adds (seen v asked)) ≡ begun_if exchange v
      begins_by exchange is =
          ap (λ (x : Bool). at (x && not (length (answer_in (seen_turn v t).effect) == 0)) (id_in_exchange (answer_in (seen_turn v t).effect))) (takes_with v (Some (handle_shown t)) PSK_EXCHANGE t ∙ is)
          ∙ ap (λ (l : List ℕ). at (exchange && not (length l == 0)) (id_in_exchange l)) (answer_seen v (handle_shown t) t.effect kept.before.unseen.0) ∙ by_parts exchange (length v == 0)
        where
          at : Bool → ℕ → Option ℕ
          at x id = cond x (Some id) None

          by_parts : (x y : Bool) → at (x && not y) (id_in_exchange v) ≡ cond x (cond y None (Some (id_in_exchange v))) None
          by_parts true true = refl
          by_parts true false = refl
          by_parts false y = refl

      changes : LastChunkChanges → (begun_between (restored k) (restored next) ≡ begun_by (Adds (seen v asked))) × (answered_between (restored k) (restored next) ≡ None)
      changes chunks =
          let law = chunks w q older (dialogue_of f v) (restored next) round answer (own.all v stand) turn.answers.0 completes in
          let same : completes.0 ≡ v = sym (same_Some v completes.0 completes.3) in
          let none : place_named round.body ≡ None = place w q older rows f own party held kept round turn.answers.0 other in
          let newest : completes.2 ≡ first_of behind completes.2 = sym (ap (λ (l : History). first_of l completes.2) completes.8) in (
            law.0 ∙ ap (λ (o : Option ℕ). begun_by_large o completes.0 h) none ∙ ap (λ (l : List ℕ). begun_by_large None l h) same
                ∙ begun_held held.late held.tag t kept.before.gets kept.before.before h v kept.before.behind kept.before.are kept.before.unseen,
            law.1 ∙ ap (λ (x : Entry). answered_by (Adds x)) newest,
          )
        where
          first_of : History → Entry → Entry
          first_of [] x = x
          first_of (y ∷ l) x = y

      pub step_last : AnswerAccepts → IsStep (restored f.kept) (restored next)
      step_last accepts =
          let moved : IsMoved (dialogue_of f v) then_is = replies_moved w (dialogue_of f v) (Whole route answer) then_is (walks_held w q older (dialogue_of f v) (own.all v stand)) replies in
          let after : Dialogue = record (restored k) { requester = heard.history; responder = behind; round = Some (answered round) } in
          let there = taken_same (restored k) after in
          let all : (x : Kept) → x ≡ next → IsStep (restored k) (restored x) → IsStep (restored k) (restored next) = λ x same step. subst (λ (y : Kept). IsStep (restored k) (restored y)) same step in
          all _ heard.kept (record { setup = refl; live = moved.begins.live; few = moved.begins.few; accepted = λ id takes. moved.accepts id (sym there ∙ takes) })

      pub change_last : AnswerAccepts → LastChunkChanges → (exchange : Bool) → takes PSK_EXCHANGE kept.before.turn ≡ exchange → (change : Change) → change.begun ≡ begun_if exchange (filled_with held answer) → change.accepted ≡ accepted_from f.kept turn.round.tag answer
          → change.answered ≡ None → change.asked ≡ None → change.views ≡ views_in behind → IsChange change (restored f.kept) (restored next)
      change_last accepts chunks exchange is change begun accepted answered_is asked views = record {
        begun = begun ∙ sym (begins_by exchange is) ∙ sym (changes chunks).0;
        accepted = accepted ∙ sym (accepted_on f.kept behind route.tag turn.round answer turn.answers.0 turn.answers.1 accepts);
        answered = answered_is ∙ sym (changes chunks).1;
        asked = asked ∙ sym (asked_on f.kept behind route.tag turn.round answer turn.answers.0 turn.answers.1);
        views = views;
      }

      -- ---- What is kept.

      pub ended_on : (new : Party) (stands : Fetching → List Row → Type 0) (table : List Seen) → IsAsker new.asker q next → IsAnswerer new.answerer (responder_for w f.kept) behind → StandFor new.keys (responder_for w f.kept) behind → new.number ≡ number_from 1 q.eid w.requesters
          → rows_of.StandFor new.places (restored next) (rows_upon f.kept next rows) → StandsForRows table w (length older + 1) (rows_upon f.kept next rows) → IsRepliedTo w q older rows f route answer (Ok upon.Ended) new stands table
      ended_on new stands table asker answerer keys number places rows_stand =
          (next, ends, record { asker = asker; answerer = answerer; keys = keys; number = number; places = places }, rows_stand)
