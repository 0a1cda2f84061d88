-- What is kept after an answer, where no large response is fetched after it, is a function of what was kept before it
-- and of what the answer shows. This project's own.
use Rattle.std.specs.Prelude.{◌≡◌, ◌<◌, ◌⊎◌, ◌↔◌, ℕ, List, false, Some}
use Rattle.mctp_framing.specs.Gathering.{Gathered}
use Rattle.mctp_framing.specs.Gathering.Gathered.{Whole}
use Rattle.requester_machine.specs.History.{outstanding}
use Rattle.requester_machine.specs.May.{IsSetUp}
use Rattle.requester_machine.specs.Setup.{ReqSetup}
use Rattle.check_laws.specs.Keeping.{Keeps, Kept, RepliesKept, kept_of, restored}
use Rattle.check_laws.specs.LargeShown.{IsShownLarge, begun_large, large_shown}
use Rattle.check_laws.specs.RepliesShown.{AnswersRound, PlainlyKept, answered, heard_from, responder_for}
use Rattle.capture_machine.specs.Capture.{IsBody}
use Rattle.capture_machine.specs.LargeAnswers.{is_fetching}
use Rattle.capture_machine.specs.Rounds.{Round}
use Rattle.world_machine.specs.Setup.{Configuration}

-- ---- LargeResponse that the requester does not take, so nothing is fetched.

-- What is kept after it.
abbrev pub begun : Configuration → Kept → ℕ → Round → (answer : List ℕ) → Kept
begun w k tag round answer = kept_of (record (restored k) {
  requester = heard_from k tag answer;
  responder = begun_large k.responder (large_shown (responder_for w k) k.responder round.tag round.body answer);
  round = Some (answered round);
})

-- It may be given by what it shows, and the requester asks for no chunk after it.
abbrev pub UnfetchedKept : Configuration → Kept → Gathered → Kept → Type 0
UnfetchedKept w k (Whole route answer) next =
    IsBody answer × (route.owner ≡ false)
    × ((round : Round) × AnswersRound k route.tag round
    × IsShownLarge (responder_for w k) k.responder round.tag round.body answer
    × (is_fetching (outstanding (heard_from k route.tag answer)) ≡ false)
    × (next ≡ begun w k route.tag round answer))
UnfetchedKept w k _ next = ⊥

-- ---- The law.

-- A packet for the requester goes on from what is kept, with no large response fetched after it, exactly when it does
-- so in one of these two ways. The heartbeat period is a byte.
abbrev pub RepliesAreTold : Type 0
RepliesAreTold = (w : Configuration) (q : ReqSetup) (older : List (List ℕ)) (k next : Kept) (g : Gathered)
    → w.responder.beat < 256 → IsSetUp k.setup → Keeps w q older k
    → RepliesKept w k g next ↔ (PlainlyKept w k g next ⊎ UnfetchedKept w k g next)
