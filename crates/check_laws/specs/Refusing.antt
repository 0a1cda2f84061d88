-- Why a packet is refused is determined by what is kept. This project's own.
use Rattle.std.specs.Prelude.{◌≡◌, ◌↔◌, ℕ, List, [], ◌∷◌, map, true, Some}
use Rattle.mctp_framing.specs.Gathering.{Gathered}
use Rattle.mctp_framing.specs.Packet.{parsed}
use Rattle.requester_machine.specs.Setup.{ReqSetup}
use Rattle.responder_machine.specs.Setup.{towards}
use Rattle.check_laws.specs.Judged.{AreApart}
use Rattle.check_laws.specs.Keeping.{Keeps, Kept, restored}
use Rattle.check_laws.specs.Walks.{Walks, all_between}
use Rattle.capture_machine.specs.Difference.{ComesApart, GoesApart, IsApartBy, IsReason, Why, comes_why, goes_why, why_by}
use Rattle.capture_machine.specs.Difference.Why.{BadVerify}
use Rattle.capture_machine.specs.Rounds.{Dialogue}
use Rattle.world_machine.specs.Setup.{Configuration, known_of}

-- Each walk gives a refused request, and a refused answer, the reason that is determined by what is kept, but for wrong
-- verify data.
abbrev pub KeptTellsWhy : Type 0
KeptTellsWhy = (w : Configuration) (q : ReqSetup) (older : List (List ℕ)) (k : Kept) (d : Dialogue) (g : Gathered)
    → Keeps w q older k → Walks w q older d
    → (comes_why d g ≡ comes_why (restored k) g)
    × (goes_why (towards w.responder (known_of q)) d g ≡ goes_why (towards w.responder (known_of q)) (restored k) g)

-- The verify data of a request, and of an answer, are alone wrong in each walk where they are by what is kept, and in
-- no other.
abbrev pub KeptTellsApart : Type 0
KeptTellsApart = (w : Configuration) (q : ReqSetup) (older : List (List ℕ)) (k : Kept) (d : Dialogue) (g : Gathered)
    → Keeps w q older k → Walks w q older d
    → (ComesApart d g ↔ ComesApart (restored k) g)
    × (GoesApart (towards w.responder (known_of q)) d g ↔ GoesApart (towards w.responder (known_of q)) (restored k) g)

-- ---- All requesters.

-- This is kept of each of these requesters, in their order.
abbrev pub KeepEach : Configuration → List (List ℕ) → List ReqSetup → List Kept → Type 0
KeepEach w older [] [] = Unit {0}
KeepEach w older (q ∷ qs) (k ∷ ks) = Keeps w q older k × KeepEach w older qs ks
KeepEach w older _ _ = ⊥

-- Why a packet is refused, by what is kept.
abbrev pub IsKeptReason : Configuration → List (List ℕ) → List ℕ → List Kept → Why → Type 0
IsKeptReason w older packet ks BadVerify = IsApartBy w older (map restored ks) (parsed packet)
IsKeptReason w older packet ks why =
    (IsApartBy w older (map restored ks) (parsed packet) → ⊥) × (why_by w older (map restored ks) (parsed packet) ≡ Some why)

-- That is the reason, while no large message is in progress with any requester.
abbrev pub KeptTellsReason : Type 0
KeptTellsReason = (w : Configuration) (older : List (List ℕ)) (packet : List ℕ) (ks : List Kept) (why : Why)
    → AreApart w.responder.eid w.requesters → all_between w older ≡ true → KeepEach w older w.requesters ks
    → IsReason w older packet why ↔ IsKeptReason w older packet ks why
