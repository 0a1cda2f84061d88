-- What each walk keeps of its two ends.
use Rattle.std.proofs.Common.{◌≡◌, ◌∙◌, ℕ, List, [], ◌∷◌, sym, subst, inl, inr, Bool, true, false, Result, Ok, Err, Some}
use Rattle.std.specs.Prelude.{MatchBool}
use Rattle.std.proofs.lemmas.Option.{same_Some}
use Rattle.mctp_framing.specs.Packet.{PacketFields, parsed}
use Rattle.spdm_basis.specs.declared.PacketFault.{PacketFault}
use Rattle.spdm_machine.specs.Packets.{gathered_from}
use Rattle.requester_machine.specs.Setup.{ReqSetup}
use Rattle.check_laws.specs.Order.{is_answer, is_request}
use Rattle.check_laws.specs.Walks.{StepsBy, StepsTo, Walks}
use Rattle.capture_machine.proofs.FetchedTold.{Stands}
use Rattle.capture_machine.proofs.Fetching.{IsSound, asks_sound, begins_sound, replies_sound}
use Rattle.capture_machine.specs.Capture.{AsksBy, RepliesBy}
use Rattle.capture_machine.specs.Rounds.{Dialogue, Round}
use Rattle.world_machine.specs.Setup.{Configuration}
use Rattle.check_late_laws.proofs.Late.WalksStand.{step_sound}

pub walks_sound : (w : Configuration) (q : ReqSetup) (older : List (List ℕ)) (d : Dialogue) → Walks w q older d → IsSound d
unfolding StepsTo
walks_sound w q [] d walk = subst IsSound (sym walk) (begins_sound q)
walks_sound w q (packet ∷ older) d walk = step_sound w q.eid older walk.0 d (parsed packet) (walks_sound w q older walk.0 walk.1) walk.2

-- Of the large response that is fetched.
pub walk_stands : (c : Configuration) (q : ReqSetup) (older : List (List ℕ)) (d : Dialogue) (w : List ℕ) (round : Round) → Walks c q older d → d.fetching ≡ Some w → d.round ≡ Some round → Stands d.responder w round.tag round.body
walk_stands c q older d w round walk fetching at =
    let old = (walks_sound c q older d walk).fetched w fetching in
    let same : old.0 ≡ round = same_Some old.0 round (sym old.1 ∙ at) in
    subst (λ (x : Round). Stands d.responder w x.tag x.body) same (elim old.2.stands [ inl version ↦ inl version.1 | inr fetch ↦ inr fetch.1 ])
