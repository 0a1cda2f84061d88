-- What the table of sessions is told of an answer that goes whole.
use Rattle.std.proofs.Common.{◌≡◌, ◌-◌, ◌^◌, ◌<◌, ◌∙◌, ℕ, List, sym, length, None, false, arith}
use Rattle.mctp_framing.specs.Cutting.{RouteFields}
use Rattle.mctp_framing.specs.Gathering.Gathered.{Whole}
use Rattle.requester_machine.specs.May.{IsSetUp}
use Rattle.requester_machine.specs.Setup.{ReqSetup}
use Rattle.responder_machine.specs.BoundLaws.{messages_of}
use Rattle.responder_machine.specs.History.{History}
use Rattle.responder_machine.specs.May.{with_dropped}
use Rattle.responder_machine.specs.Setup.{RspSetup}
use Rattle.check_laws.proofs.AnswerChanges.{kept_answer_changes}
use Rattle.check_laws.proofs.AnswerSteps.{kept_answer_is_step}
use Rattle.check_laws.specs.Changes.{IsChange, IsStep, views_in}
use Rattle.check_laws.specs.DropsShown.{IsShownAnswer, drops_shown_by, outcome_shown}
use Rattle.check_laws.specs.KeptChanges.{IsAnswerStep, accepted_from, begun_shown, taken_shown}
use Rattle.check_laws.specs.Keeping.{Keeps, Kept, restored}
use Rattle.check_laws.specs.RepliesShown.{answered_from, responder_for}
use Rattle.check_laws.specs.declared.change.Change.{Change}
use Rattle.check_requester.proofs.FewMessages.{after_more, dropped_same}
use Rattle.check_ends.proofs.InTurn.{AnswersInTurn}
use Rattle.check_requester.proofs.CarriedBy.{keeps_carries}
use Rattle.check_ends.proofs.PartyReplied.{few_messages, whole_kept, whole_replies}
use Rattle.check_responder.specs.JudgedResponder.{history_shown}
use Rattle.check_requester.specs.HeardKept.{asks_upon}
use Rattle.capture_machine.specs.Rounds.{Round}
use Rattle.capture_machine.specs.SessionTable.{Row}
use Rattle.world_machine.specs.Setup.{Configuration}

module _ (w : Configuration) (q : ReqSetup) (older : List (List ℕ)) (k : Kept) (route : RouteFields) (answer : List ℕ) (byte : w.responder.beat < 256) (limits : IsSetUp k.setup) (keeps : Keeps w q older k) (turn : AnswersInTurn k route answer)
    (rows : List Row) (shown : IsShownAnswer (responder_for w k) k.responder turn.round.tag turn.round.body answer) where
  abbrev r : RspSetup
  r = responder_for w k

  abbrev h : History
  h = k.responder

  abbrev round : Round
  round = turn.round

  abbrev next : Kept
  next = whole_kept w q older k route answer byte limits keeps turn rows

  abbrev behind : History
  behind = history_shown r h round.tag round.body answer

  steps : IsAnswerStep k round answer next
  unfolding answered_from
  steps = kept_answer_changes w k route.tag round answer turn.answers shown

  pub is_step : asks_upon k route.tag answer ≡ false → IsStep (restored k) (restored next)
  is_step idle = kept_answer_is_step w q older k next (Whole route answer) keeps (whole_replies w q older k route answer byte limits keeps turn rows shown idle)

  pub is_change : (change : Change) → change.begun ≡ begun_shown h round.tag round.body answer → change.accepted ≡ accepted_from k round.tag answer → change.answered ≡ taken_shown h round.body answer → change.asked ≡ None → change.views ≡ views_in behind
      → IsChange change (restored k) (restored next)
  is_change change begun accepted answered asked views = record {
    begun = begun ∙ sym steps.begun;
    accepted = accepted ∙ sym steps.accepted;
    answered = answered ∙ sym steps.answered;
    asked = asked ∙ sym steps.asked;
    views = views;
  }

  -- No more than one message came.
  pub few_behind : length older < 2 ^ 64 - 1 → messages_of behind < 2 ^ 64
  few_behind few =
      let ids : List ℕ = drops_shown_by r h round.tag round.body answer in
      let before = few_messages w q older k (keeps_carries w q older k keeps) few in
      let same = dropped_same ids h in
      let more = after_more (with_dropped h ids) (outcome_shown r h round.tag round.body answer) in
      omega (arith, before, same, more)
