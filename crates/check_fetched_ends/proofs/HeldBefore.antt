-- After LargeResponse in the clear the connection stands for what its request left of the sessions before it.
use Rattle.std.proofs.Common.{◌≡◌, ◌<◌, ◌∙◌, ◌==◌, ◌++◌, ℕ, List, [], ◌∷◌, refl, sym, ap, subst, true, false, Option, None}
use Rattle.std.specs.Prelude.{slice_index}
use Rattle.mctp_framing.specs.Cutting.{RouteFields}
use Rattle.check_ends.proofs.InTurn.{AnswersInTurn}
use Rattle.check_responder.specs.AnswerKeys as answer_keys
use Rattle.check_requester.specs.JudgedRequester.{Carries}
use Rattle.check_responder.specs.declared.answer_keys.AnswerKeys.{AnswerKeys}
use Rattle.check_responder.specs.declared.judged_responder.JudgedResponder.{JudgedResponder}
use Rattle.check_laws.specs.Changes.{views_in}
use Rattle.check_laws.specs.Keeping.{Kept}
use Rattle.check_laws.specs.LargeShown.{IsShownLarge}
use Rattle.check_laws.specs.RepliesShown.{responder_for}
use Rattle.responder_core.specs.Connected as connected
use Rattle.check_fetched_laws.proofs.ClearViews.{keys_stand_on, views_are_left}
use Rattle.check_fetched_laws.specs.ClearSessions.{IsLeftBy, IsUnseenRequest}
use Rattle.check_fetched_ends.proofs.HeldBegins.{IsBegunHere, behind, begun_here, led_here}
use Rattle.check_fetched_ends.specs.Held.{HasGets, IsLedTo, StandsBefore}
use Rattle.check_fetched_ends.specs.declared.clear_fetch.held.Held.{Held}
use Rattle.check_late_laws.specs.declared.late_fetch.marks.Marks.{Marks}
use Rattle.requester_machine.specs.May.{IsSetUp}
use Rattle.requester_machine.specs.Setup.{ReqSetup}
use Rattle.responder_machine.specs.History.{Entry, History, kept_of}
use Rattle.responder_machine.specs.History.Entry.{Clear}
use Rattle.responder_machine.specs.Turn.{Turn}
use Rattle.capture_machine.specs.LargeAnswers.{turn_with}
use Rattle.capture_machine.specs.Rounds.{no_draw}
use Rattle.world_machine.specs.Setup.{Configuration}

module _ (w : Configuration) (q : ReqSetup) (older : List (List ℕ)) (k : Kept) (route : RouteFields) (answer : List ℕ) (byte : w.responder.beat < 256) (limits : IsSetUp k.setup) (carries : Carries w q older k) (turn : AnswersInTurn k route answer)
    (type : (slice_index turn.round.body 0 == 5) ≡ true) (large : IsShownLarge (responder_for w k) k.responder turn.round.tag turn.round.body answer) where
  abbrev pub here : IsBegunHere w q older k route answer byte limits carries turn type large
  here = begun_here w q older k route answer byte limits carries turn type large

  abbrev pub left_turn : Turn
  left_turn = turn_with [] None here.turned

  abbrev pub Left : (left : History) → Type 0
  Left left = IsLeftBy (Clear turn.round.tag left_turn no_draw) k.responder left

  pub stands_begun : (seen : JudgedResponder) (seen_keys : AnswerKeys) (held : Held) (left : History) → held.tag ≡ turn.round.tag → held.late ≡ None → Left left
      → connected.StandsFor seen.connection (responder_for w k) left → answer_keys.StandFor seen_keys (responder_for w k) left
      → here.turned.message ≡ held.request → here.turned.reply ≡ held.reply → held.newest ≡ kept_of (behind w q older k route answer byte limits carries turn type large)
      → StandsBefore seen seen_keys held (responder_for w k) (behind w q older k route answer byte limits carries turn type large)
  stands_begun seen seen_keys held left tag late left_is stands keys request reply newest = record {
    gets = [];
    turn = left_turn;
    before = k.responder;
    left = left;
    behind =
        subst (λ (o : Option Marks). HasGets o held.tag left_turn [] k.responder (behind w q older k route answer byte limits carries turn type large)) (sym late)
        (here.added ∙ ap (λ (n : ℕ). Clear n left_turn no_draw ∷ k.responder) (sym tag));
    are = tt;
    unseen = subst (λ (n : ℕ). IsUnseenRequest (Clear n left_turn no_draw)) (sym tag) here.unseen;
    left_is = subst (λ (n : ℕ). IsLeftBy (Clear n left_turn no_draw) k.responder left) (sym tag) left_is;
    led = subst (λ (n : ℕ). IsLedTo (responder_for w k) k.responder (Clear n left_turn no_draw)) (sym tag) (led_here w q older k route answer byte limits carries turn type large);
    sized = here.sized;
    stands = stands;
    keys = keys;
    request = request;
    reply = reply;
    newest = newest;
  }

  -- The keys stand for it too.
  pub keys_begun : (seen_keys : AnswerKeys) → answer_keys.StandFor seen_keys (responder_for w k) k.responder → answer_keys.StandFor seen_keys (responder_for w k) (behind w q older k route answer byte limits carries turn type large)
  keys_begun seen_keys keys =
      subst (answer_keys.StandFor seen_keys (responder_for w k)) (sym here.added) (keys_stand_on seen_keys (responder_for w k) (Clear turn.round.tag left_turn no_draw ∷ []) k.responder (tt, tt) keys)

  -- What is shown of the sessions after it is what was left.
  pub views_begun : (left : History) → Left left → views_in (behind w q older k route answer byte limits carries turn type large) ≡ views_in left
  views_begun left left_is = ap views_in here.added ∙ views_are_left [] (Clear turn.round.tag left_turn no_draw) k.responder left tt here.unseen left_is
