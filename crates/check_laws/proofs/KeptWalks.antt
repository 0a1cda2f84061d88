-- What each step keeps holds behind a walk.
use Rattle.std.proofs.Common.{◌≡◌, ℕ, List, [], ◌∷◌, sym, subst, Bool, true, false, Ok, Err, Result}
use Rattle.std.specs.Prelude.{MatchBool}
use Rattle.mctp_framing.specs.Packet.{PacketFields, parsed}
use Rattle.requester_machine.specs.Setup.{ReqSetup}
use Rattle.spdm_basis.specs.declared.PacketFault.{PacketFault}
use Rattle.spdm_machine.specs.Packets.{gathered_from}
use Rattle.check_laws.proofs.Steadily.{IsSteady}
use Rattle.check_laws.specs.Order.{is_answer, is_request}
use Rattle.check_laws.specs.Walks.{StepsBy, StepsTo, Walks}
use Rattle.capture_machine.specs.Capture.{AsksBy, RepliesBy}
use Rattle.capture_machine.specs.Rounds.{Dialogue}
use Rattle.world_machine.specs.Setup.{Configuration}

steps_keep : (w : Configuration) (P : Dialogue → Type 0) → IsSteady w P → (eid : ℕ) (older : List (List ℕ)) (d next : Dialogue) (r : Result PacketFields PacketFault) → StepsBy w eid older d next r → P d → P next
steps_keep w P steady eid older d next (Err fault) step here = subst P (sym step) here
steps_keep w P steady eid older d next (Ok p) step here = by_ends (is_request w.responder.eid eid p) (is_answer w.responder.eid eid p) step
  where
    by_ends : (b c : Bool) → MatchBool b (AsksBy d (gathered_from w.responder.eid eid older p) next) (MatchBool c (RepliesBy w d (gathered_from eid w.responder.eid older p) next) (next ≡ d)) → P next
    by_ends true c asks = steady.asks d (gathered_from w.responder.eid eid older p) next here asks
    by_ends false true replies = steady.replies d (gathered_from eid w.responder.eid older p) next here replies
    by_ends false false same = subst P (sym same) here

pub walks_keep : (w : Configuration) (P : Dialogue → Type 0) → IsSteady w P → (q : ReqSetup) (older : List (List ℕ)) (d : Dialogue) → Walks w q older d → P d
unfolding StepsTo
walks_keep w P steady q [] d walk = subst P (sym walk) (steady.begins q)
walks_keep w P steady q (packet ∷ older) d walk = steps_keep w P steady q.eid older walk.0 d (parsed packet) walk.2 (walks_keep w P steady q older walk.0 walk.1)
