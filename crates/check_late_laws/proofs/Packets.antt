-- One packet more: what it makes of a walk.
use Rattle.std.proofs.Common.{◌≡◌, ◌∷◌, ℕ, List, sym, subst, Bool, true, false, Result, Ok}
use Rattle.std.specs.Prelude.{MatchBool}
use Rattle.mctp_framing.specs.Packet.{PacketFields, parsed}
use Rattle.requester_machine.specs.Setup.{ReqSetup}
use Rattle.spdm_basis.specs.declared.PacketFault.{PacketFault}
use Rattle.spdm_machine.specs.Packets.{gathered_from}
use Rattle.check_laws.proofs.KeptAnswers.{goes_to}
use Rattle.check_laws.proofs.KeptSteps.{comes_from}
use Rattle.check_laws.proofs.PairWalks.{it_made, of_it}
use Rattle.check_laws.specs.Order.{is_answer, is_request}
use Rattle.check_laws.specs.Walks.{StepsBy, StepsTo, Walks}
use Rattle.capture_machine.specs.Capture.{AsksBy, RepliesBy}
use Rattle.capture_machine.specs.Rounds.{Dialogue}
use Rattle.world_machine.specs.Setup.{Configuration}

module _ (w : Configuration) (q : ReqSetup) (older : List (List ℕ)) (packet : List ℕ) (p : PacketFields) (parses : parsed packet ≡ Ok p) where
  abbrev Steps : Dialogue → Dialogue → Type 0
  Steps b n = StepsBy w q.eid older b n (Ok p)

  goes : (b n : Dialogue) → Walks w q older b → Steps b n → Walks w q (packet ∷ older) n
  unfolding StepsTo
  goes b n walk step = (b, walk, subst (λ (r : Result PacketFields PacketFault). StepsBy w q.eid older b n r) (sym parses) step)

  came : (n : Dialogue) → Walks w q (packet ∷ older) n → (b : Dialogue) × Walks w q older b × Steps b n
  unfolding StepsTo
  came n walk = (walk.0, walk.1, subst (λ (r : Result PacketFields PacketFault). StepsBy w q.eid older walk.0 n r) parses walk.2)

  -- A request.
  module _ (is : is_request w.responder.eid q.eid p ≡ true) where
    pub goes_asked : (b n : Dialogue) → Walks w q older b → AsksBy b (gathered_from w.responder.eid q.eid older p) n → Walks w q (packet ∷ older) n
    goes_asked b n walk asks = goes b n walk (of_it w older q.eid p b n true (comes_from w q.eid p is) asks)

    pub came_asked : (n : Dialogue) → Walks w q (packet ∷ older) n → (b : Dialogue) × Walks w q older b × AsksBy b (gathered_from w.responder.eid q.eid older p) n
    came_asked n walk = let from = came n walk in (from.0, from.1, it_made w older q.eid p from.0 n true (comes_from w q.eid p is) from.2)

  -- An answer.
  module _ (is : is_answer w.responder.eid q.eid p ≡ true) where
    pub goes_replied : (b n : Dialogue) → Walks w q older b → RepliesBy w b (gathered_from q.eid w.responder.eid older p) n → Walks w q (packet ∷ older) n
    goes_replied b n walk replies = goes b n walk (of_it w older q.eid p b n false (goes_to w q.eid p is) replies)

    pub came_replied : (n : Dialogue) → Walks w q (packet ∷ older) n → (b : Dialogue) × Walks w q older b × RepliesBy w b (gathered_from q.eid w.responder.eid older p) n
    came_replied n walk = let from = came n walk in (from.0, from.1, it_made w older q.eid p from.0 n false (goes_to w q.eid p is) from.2)

  -- A packet of others.
  module _ (not : is_request w.responder.eid q.eid p ≡ false) (nor : is_answer w.responder.eid q.eid p ≡ false) where
    abbrev Answered : Dialogue → Dialogue → Bool → Type 0
    Answered b n x = MatchBool x (RepliesBy w b (gathered_from q.eid w.responder.eid older p) n) (n ≡ b)

    abbrev Asked : Dialogue → Dialogue → Bool → Type 0
    Asked b n x = MatchBool x (AsksBy b (gathered_from w.responder.eid q.eid older p) n) (Answered b n (is_answer w.responder.eid q.eid p))

    pub goes_past : (b n : Dialogue) → Walks w q older b → n ≡ b → Walks w q (packet ∷ older) n
    goes_past b n walk same = goes b n walk (subst (Asked b n) (sym not) (subst (Answered b n) (sym nor) same))

    pub came_past : (n : Dialogue) → Walks w q (packet ∷ older) n → Walks w q older n
    came_past n walk =
        let from = came n walk in
        let same : n ≡ from.0 = subst (Answered from.0 n) nor (subst (Asked from.0 n) not from.2) in
        subst (Walks w q older) (sym same) from.1
