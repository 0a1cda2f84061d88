-- Packets of others leave the marks, and so do packets after which more of a body is awaited.
use Rattle.std.proofs.Common.{◌≡◌, ◌≢◌, ◌<◌, ◌⊎◌, ◌∙◌, ℕ, List, ◌∷◌, refl, sym, ap, subst, Bool, true, false, Result, Ok, Err, inl, inr}
use Rattle.std.specs.Prelude.{MatchBool}
use Rattle.check_laws.specs.Order.{is_answer, is_request}
use Rattle.check_laws.specs.Walks.{StepsBy, StepsTo, Walks}
use Rattle.check_fetched_ends.specs.JudgedEnds.{AwaitingEndsStay, OtherEndsStay}
use Rattle.check_fetched_ends.specs.Marked.{MarksStand}
use Rattle.check_fetched_ends.specs.MarkedEnds.{AwaitingMarkedStay, OtherMarkedStay}
use Rattle.check_late_laws.specs.Late.Marking as marking
use Rattle.check_late_laws.specs.declared.late_fetch.marks.Marks.{Marks}
use Rattle.mctp_framing.specs.Gathering.{Gathered}
use Rattle.mctp_framing.specs.Gathering.Gathered.{More}
use Rattle.mctp_framing.specs.Packet.{PacketFields, parsed}
use Rattle.requester_machine.specs.Setup.{ReqSetup}
use Rattle.responder_machine.specs.History.{History}
use Rattle.spdm_basis.specs.declared.PacketFault.{PacketFault}
use Rattle.spdm_machine.specs.Packets.{gathered_from}
use Rattle.capture_machine.specs.Capture.{AsksBy, RepliesBy}
use Rattle.capture_machine.specs.Rounds.{Dialogue}
use Rattle.world_machine.specs.Setup.{Configuration}

module _ (w : Configuration) (q : ReqSetup) (older : List (List ℕ)) (packet : List ℕ) (p : PacketFields) (parses : parsed packet ≡ Ok p) where
  -- A packet's step, by whose it is.
  abbrev Steps : (asks answers : Bool) → (before after : Dialogue) → Type 0
  Steps asks answers before after =
      MatchBool asks (AsksBy before (gathered_from w.responder.eid q.eid older p) after) (MatchBool answers (RepliesBy w before (gathered_from q.eid w.responder.eid older p) after) (after ≡ before))

  step_of : (before after : Dialogue) → StepsTo w q.eid older before packet after → Steps (is_request w.responder.eid q.eid p) (is_answer w.responder.eid q.eid p) before after
  unfolding StepsTo
  step_of before after step = subst (λ (x : Result PacketFields PacketFault). StepsBy w q.eid older before after x) parses step

  -- Where each step leaves what is between the two, the marks stand on.
  marks_on : (seen : Marks) → ((before after : Dialogue) → Steps (is_request w.responder.eid q.eid p) (is_answer w.responder.eid q.eid p) before after → after ≡ before) → MarksStand seen w q older → MarksStand seen w q (packet ∷ older)
  marks_on seen same stands = λ d walk.
      subst (λ (x : Dialogue). marking.StandsFor seen x.responder) (sym (same walk.0 d (step_of walk.0 d walk.2))) (stands walk.0 walk.1)

  pub other_marks : (seen : Marks) → is_request w.responder.eid q.eid p ≡ false → is_answer w.responder.eid q.eid p ≡ false → MarksStand seen w q older → MarksStand seen w q (packet ∷ older)
  other_marks seen not nor stands = marks_on seen (λ before after step. subst (λ (b : Bool). Steps false b before after) nor (subst (λ (b : Bool). Steps b (is_answer w.responder.eid q.eid p) before after) not step)) stands

  pub awaiting_marks : (seen : Marks)
      → ((is_request w.responder.eid q.eid p ≡ true) × (gathered_from w.responder.eid q.eid older p ≡ More))
      ⊎ ((is_request w.responder.eid q.eid p ≡ false) × (is_answer w.responder.eid q.eid p ≡ true) × (gathered_from q.eid w.responder.eid older p ≡ More))
      → MarksStand seen w q older → MarksStand seen w q (packet ∷ older)
  awaiting_marks seen (inl c) stands =
      marks_on seen (λ before after step. subst (λ (g : Gathered). AsksBy before g after) c.1 (subst (λ (b : Bool). Steps b (is_answer w.responder.eid q.eid p) before after) c.0 step)) stands
  awaiting_marks seen (inr c) stands =
      marks_on seen
      (λ before after step. subst (λ (g : Gathered). RepliesBy w before g after) c.2 (subst (λ (b : Bool). Steps false b before after) c.1 (subst (λ (b : Bool). Steps b (is_answer w.responder.eid q.eid p) before after) c.0 step)))
      stands

pub other_marked : OtherEndsStay → OtherMarkedStay
other_marked ends seen w q older packet p before after rows apart parses not nor stands =
    (ends seen.ends w q older packet p before after rows apart parses not nor stands.0, other_marks w q older packet p parses seen.marks not nor stands.1)

pub awaiting_marked : AwaitingEndsStay → AwaitingMarkedStay
awaiting_marked ends seen w q older packet p rows byte parses c stands =
    (ends seen.ends w q older packet p rows byte parses c stands.0, awaiting_marks w q older packet p parses seen.marks c stands.1)
