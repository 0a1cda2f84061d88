-- Why a packet is refused depends on the one requester that it comes from or goes to. This project's own.
use Rattle.std.specs.Prelude.{◌≡◌, ◌↔◌, ◌==◌, ℕ, List, find, true, Some, Ok}
use Rattle.mctp_framing.specs.Gathering.{Gathered}
use Rattle.mctp_framing.specs.Packet.{PacketFields, parsed}
use Rattle.requester_machine.specs.Setup.{ReqSetup}
use Rattle.responder_machine.specs.Setup.{towards}
use Rattle.spdm_machine.specs.Packets.{gathered_from}
use Rattle.check_laws.specs.Judged.{AreApart}
use Rattle.check_laws.specs.Order.{is_answer, is_request}
use Rattle.check_laws.specs.Walks.{HaveWalks, Walks, all_between}
use Rattle.capture_machine.specs.Difference.{ComesApart, GoesApart, IsReason, Why, comes_why, goes_why}
use Rattle.capture_machine.specs.Difference.Why.{BadVerify}
use Rattle.capture_machine.specs.Rounds.{Dialogue}
use Rattle.world_machine.specs.Setup.{Configuration, known_of}

-- This requester is one of those that are set up, the first with its endpoint.
abbrev pub IsOneOf : Configuration → ReqSetup → Type 0
IsOneOf w q = find (λ (o : ReqSetup). o.eid == q.eid) w.requesters ≡ Some q

-- ---- A request.

-- Some walk of the requester leaves the verify data of a request alone wrong.
abbrev pub IsAskedApart : Configuration → ReqSetup → List (List ℕ) → Gathered → Type 0
IsAskedApart w q older g = (d : Dialogue) × Walks w q older d × ComesApart d g

-- Why what it sends is refused.
abbrev pub IsAskedReason : Configuration → ReqSetup → List (List ℕ) → Gathered → Why → Type 0
IsAskedReason w q older g BadVerify = IsAskedApart w q older g
IsAskedReason w q older g why =
    (IsAskedApart w q older g → ⊥) × ((d : Dialogue) × Walks w q older d × (comes_why d g ≡ Some why))

-- That is the reason.
abbrev pub AskedReasonIsEach : Type 0
AskedReasonIsEach = (w : Configuration) (q : ReqSetup) (older : List (List ℕ)) (packet : List ℕ) (p : PacketFields) (why : Why)
    → AreApart w.responder.eid w.requesters → IsOneOf w q
    → HaveWalks w older w.requesters → all_between w older ≡ true
    → parsed packet ≡ Ok p → is_request w.responder.eid q.eid p ≡ true
    → IsReason w older packet why ↔ IsAskedReason w q older (gathered_from w.responder.eid q.eid older p) why

-- ---- An answer.

-- Some walk of the requester leaves the verify data of an answer to it alone wrong.
abbrev pub IsAnsweredApart : Configuration → ReqSetup → List (List ℕ) → Gathered → Type 0
IsAnsweredApart w q older g = (d : Dialogue) × Walks w q older d × GoesApart (towards w.responder (known_of q)) d g

-- Why an answer to it is refused.
abbrev pub IsAnsweredReason : Configuration → ReqSetup → List (List ℕ) → Gathered → Why → Type 0
IsAnsweredReason w q older g BadVerify = IsAnsweredApart w q older g
IsAnsweredReason w q older g why =
    (IsAnsweredApart w q older g → ⊥) × ((d : Dialogue) × Walks w q older d × (goes_why (towards w.responder (known_of q)) d g ≡ Some why))

-- That is the reason.
abbrev pub AnsweredReasonIsEach : Type 0
AnsweredReasonIsEach = (w : Configuration) (q : ReqSetup) (older : List (List ℕ)) (packet : List ℕ) (p : PacketFields) (why : Why)
    → AreApart w.responder.eid w.requesters → IsOneOf w q
    → HaveWalks w older w.requesters → all_between w older ≡ true
    → parsed packet ≡ Ok p → is_answer w.responder.eid q.eid p ≡ true
    → IsReason w older packet why ↔ IsAnsweredReason w q older (gathered_from q.eid w.responder.eid older p) why
