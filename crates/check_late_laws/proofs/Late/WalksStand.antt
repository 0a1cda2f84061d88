-- In each walk a clear message that was not taken had no effect, nothing is queued, and no time passes.
use Rattle.std.proofs.Common.{◌≡◌, ℕ, List, [], ◌∷◌, sym, subst, Bool, true, false, Result, Ok, Err}
use Rattle.std.specs.Prelude.{MatchBool}
use Rattle.check_laws.specs.Order.{is_answer, is_request}
use Rattle.check_laws.specs.Walks.{StepsBy, StepsTo, Walks}
use Rattle.mctp_framing.specs.Packet.{PacketFields, parsed}
use Rattle.requester_machine.specs.Setup.{ReqSetup}
use Rattle.spdm_basis.specs.declared.PacketFault.{PacketFault}
use Rattle.spdm_machine.specs.Packets.{gathered_from}
use Rattle.capture_machine.proofs.Fetching.{IsSound, asks_sound, begins_sound, replies_sound}
use Rattle.capture_machine.proofs.UnseenStands.{UnseenStand}
use Rattle.capture_machine.specs.Capture.{AsksBy, RepliesBy}
use Rattle.capture_machine.specs.Rounds.{Dialogue}
use Rattle.world_machine.specs.Setup.{Configuration}

pub step_sound : (w : Configuration) (eid : ℕ) (older : List (List ℕ)) (d next : Dialogue) (r : Result PacketFields PacketFault) → IsSound d → StepsBy w eid older d next r → IsSound next
step_sound w eid older d next (Err fault) sound step = subst IsSound (sym step) sound
step_sound w eid older d next (Ok p) sound step = by_ends (is_request w.responder.eid eid p) (is_answer w.responder.eid eid p) step
  where
    by_ends : (b c : Bool) → MatchBool b (AsksBy d (gathered_from w.responder.eid eid older p) next) (MatchBool c (RepliesBy w d (gathered_from eid w.responder.eid older p) next) (next ≡ d)) → IsSound next
    by_ends true c asks = asks_sound d (gathered_from w.responder.eid eid older p) next sound asks
    by_ends false true replies = replies_sound w d (gathered_from eid w.responder.eid older p) next sound replies
    by_ends false false same = subst IsSound (sym same) sound

pub walk_sound : (w : Configuration) (q : ReqSetup) (older : List (List ℕ)) (d : Dialogue) → Walks w q older d → IsSound d
unfolding StepsTo
walk_sound w q [] d walk = subst IsSound (sym walk) (begins_sound q)
walk_sound w q (packet ∷ older) d walk = step_sound w q.eid older walk.0 d (parsed packet) (walk_sound w q older walk.0 walk.1) walk.2

pub walk_stands : (w : Configuration) (q : ReqSetup) (older : List (List ℕ)) (d : Dialogue) → Walks w q older d → UnseenStand d.responder
walk_stands w q older d walk = (walk_sound w q older d walk).unseen
