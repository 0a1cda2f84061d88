-- The marks stand on after each packet that goes on in a walk.
use Rattle.std.proofs.Common.{◌≡◌, ◌≤◌, ◌==◌, ◌&&◌, ◌||◌, ◌∙◌, ℕ, List, [], ◌∷◌, refl, sym, ap, subst, drop, Bool, true, false, Option, Some, None, Result, Ok, Err, cond, inl, inr}
use Rattle.std.specs.Prelude.{MatchBool, slice_index}
use Rattle.std.proofs.lemmas.Option.{same_Some}
use Rattle.check_ends.specs.Conversation.{IsAnswer, IsRequest}
use Rattle.check_laws.proofs.OneWalk.{walks_alike}
use Rattle.check_laws.specs.Order.{is_answer, is_request}
use Rattle.check_laws.specs.Walks.{StepsBy, StepsTo, Walks}
use Rattle.check_fetched_ends.proofs.MarksMoved.{answer_moves}
use Rattle.check_laws.proofs.StepsOfWalks.{walks_held}
use Rattle.check_fetched_ends.specs.Marked.{AnswerMovesMarks, MarksStand, touched_behind}
use Rattle.check_late_laws.specs.Late.Marking as marking
use Rattle.check_late_laws.specs.Late.Passed.{touched}
use Rattle.check_late_laws.specs.declared.late_fetch.marks.Marks.{Marks}
use Rattle.mctp_framing.specs.Cutting.{RouteFields}
use Rattle.mctp_framing.specs.Gathering.{Gathered}
use Rattle.mctp_framing.specs.Gathering.Gathered.{Whole}
use Rattle.mctp_framing.specs.Packet.{PacketFields, parsed}
use Rattle.requester_machine.specs.Setup.{ReqSetup}
use Rattle.responder_machine.specs.History.{History}
use Rattle.responder_machine.specs.Setup.{towards}
use Rattle.spdm_basis.specs.declared.PacketFault.{PacketFault}
use Rattle.spdm_machine.specs.Packets.{gathered_from}
use Rattle.capture_machine.specs.Capture.{AsksBy, RepliesBy}
use Rattle.capture_machine.specs.Rounds.{Dialogue, Round}
use Rattle.world_machine.specs.Setup.{Configuration, known_of}

-- ---- One walk tells of each.

pub one_walk_marks : (seen : Marks) (w : Configuration) (q : ReqSetup) (older : List (List ℕ)) (d : Dialogue) → Walks w q older d → marking.StandsFor seen d.responder → MarksStand seen w q older
one_walk_marks seen w q older d walk stands = λ e other. subst (marking.StandsFor seen) (walks_alike w q older d e walk other).alike.responder stands

-- ---- A packet's step.

module _ (w : Configuration) (q : ReqSetup) (older : List (List ℕ)) (packet : List ℕ) (route : RouteFields) where
  pub answered_step : (answer : List ℕ) → IsAnswer w q older packet route answer → (before after : Dialogue) → StepsTo w q.eid older before packet after → RepliesBy w before (Whole route answer) after
  unfolding StepsTo
  answered_step answer at before after step =
      let p : PacketFields = at.fields in
      let came = subst (λ (x : Result PacketFields PacketFault). StepsBy w q.eid older before after x) at.parses step in
      let answers = subst (λ (b : Bool). MatchBool b (AsksBy before (gathered_from w.responder.eid q.eid older p) after) (MatchBool (is_answer w.responder.eid q.eid p) (RepliesBy w before (gathered_from q.eid w.responder.eid older p) after) (after ≡ before))) at.other came in
      let replies = subst (λ (b : Bool). MatchBool b (RepliesBy w before (gathered_from q.eid w.responder.eid older p) after) (after ≡ before)) at.goes answers in
      subst (λ (g : Gathered). RepliesBy w before g after) at.whole replies

  pub asked_step : (body : List ℕ) → IsRequest w q older packet route body → (before after : Dialogue) → StepsTo w q.eid older before packet after → AsksBy before (Whole route body) after
  unfolding StepsTo
  asked_step body at before after step =
      let p : PacketFields = at.fields in
      let came = subst (λ (x : Result PacketFields PacketFault). StepsBy w q.eid older before after x) at.parses step in
      let asks = subst (λ (b : Bool). MatchBool b (AsksBy before (gathered_from w.responder.eid q.eid older p) after) (MatchBool (is_answer w.responder.eid q.eid p) (RepliesBy w before (gathered_from q.eid w.responder.eid older p) after) (after ≡ before))) at.comes came in
      subst (λ (g : Gathered). AsksBy before g after) at.whole asks

-- A request leaves what the responder took.
asked_same : (before after : Dialogue) (route : RouteFields) (body : List ℕ) → AsksBy before (Whole route body) after → after.responder ≡ before.responder
asked_same before after route body asks = elim asks.2 [ inl copies ↦ ap (λ (x : Dialogue). x.responder) copies.4 | inr begins ↦ ap (λ (x : Dialogue). x.responder) begins.2.3 ]

pub asked_marks : (seen : Marks) (w : Configuration) (q : ReqSetup) (older : List (List ℕ)) (packet : List ℕ) (route : RouteFields) (body : List ℕ) → IsRequest w q older packet route body → MarksStand seen w q older → MarksStand seen w q (packet ∷ older)
asked_marks seen w q older packet route body at stands = λ d walk.
    let step = asked_step w q older packet route body at walk.0 d walk.2 in
    subst (marking.StandsFor seen) (sym (asked_same walk.0 d route body step)) (stands walk.0 walk.1)

-- ---- An answer.

pub answer_moves_marks : AnswerMovesMarks
answer_moves_marks w q older packet route answer before after round at walk step is id =
    let c = (answered_step w q older packet route answer at before after step).2 in
    let same : c.0 ≡ round = same_Some c.0 round (sym c.1 ∙ is) in
    let next : c.4.0 ≡ after.responder = sym (ap (λ (x : Dialogue). x.responder) c.4.3.2) in
    let unseen = (walks_held w q older before walk).sound.unseen in
    subst (λ (x : Round). touched id after.responder ≡ touched_behind before.responder after.responder x.tag x.body answer id) same
    (subst (λ (l : History). touched id l ≡ touched_behind before.responder l c.0.tag c.0.body answer id) next (answer_moves (towards w.responder (known_of before.setup)) before c.0 answer c.4.0 c.4.1 unseen c.4.2 id))
