-- What is kept after an answer that goes whole is a function of what was kept before it and of what the answer shows.
-- This project's own.
use Rattle.std.specs.Prelude.{◌≡◌, ◌<◌, ◌-◌, ◌⊎◌, ◌↔◌, ℕ, List, [], false, true, Option, Some, None}
use Rattle.mctp_framing.specs.Gathering.{Gathered}
use Rattle.mctp_framing.specs.Gathering.Gathered.{Whole, More, Dropped}
use Rattle.requester_machine.specs.Commands.{Free}
use Rattle.requester_machine.specs.Hearing.{hears}
use Rattle.requester_machine.specs.History as requester_history
use Rattle.requester_machine.specs.May.{IsSetUp}
use Rattle.requester_machine.specs.Setup.{ReqSetup}
use Rattle.requester_machine.specs.Shown as shown
use Rattle.responder_machine.specs.History.{History}
use Rattle.responder_machine.specs.May.{with_dropped}
use Rattle.responder_machine.specs.Responder.{after}
use Rattle.responder_machine.specs.Setup.{RspSetup, towards}
use Rattle.check_laws.specs.DropsShown.{IsShownAnswer, drops_shown_by, outcome_shown}
use Rattle.check_laws.specs.Keeping.{Keeps, Kept, RepliesKept, kept_of, restored}
use Rattle.capture_machine.specs.Capture.{IsBody}
use Rattle.capture_machine.specs.CapturedAnswers.{AnswersLarge, Hears}
use Rattle.capture_machine.specs.LargeAnswers.{is_fetching}
use Rattle.capture_machine.specs.Rounds.{Round, no_draw}
use Rattle.world_machine.specs.Setup.{Configuration, known_of}

-- The responder towards the requester of which this is kept.
abbrev pub responder_for : Configuration → Kept → RspSetup
responder_for w k = towards w.responder (known_of k.setup)

-- A round of which one more request was answered.
abbrev pub answered : Round → Round
answered round = record round { waiting = round.waiting - 1; answered = true }

-- An answer has the tag of the last round, in which a request has none yet.
abbrev pub AnswersRound : Kept → ℕ → Round → Type 0
AnswersRound k tag round = (k.round ≡ Some round) × (round.tag ≡ tag) × (0 < round.waiting)

-- ---- An answer that goes whole.

-- What the requester sends on an answer has no padding in what is kept, and nothing else depends on these values.
abbrev pub no_values : Free
no_values = record { id = 1; context = []; opaque = []; pad = [] }

-- The requester's history after an answer.
unfoldable pub heard_from : Kept → ℕ → (answer : List ℕ) → requester_history.History
heard_from k tag answer = shown.after (restored k).requester (hears k.setup (restored k).requester false tag answer no_values no_draw)

-- The responder's history after it.
unfoldable pub answered_from : Configuration → Kept → Round → (answer : List ℕ) → History
answered_from w k round answer =
    let r = responder_for w k in
    after (with_dropped k.responder (drops_shown_by r k.responder round.tag round.body answer)) (outcome_shown r k.responder round.tag round.body answer)

-- What is kept after it.
abbrev pub replied : Configuration → Kept → ℕ → Round → (answer : List ℕ) → Kept
replied w k tag round answer = kept_of (record (restored k) {
  requester = heard_from k tag answer;
  responder = answered_from w k round answer;
  round = Some (answered round);
})

-- An answer that may be given by what it shows, and in response to which the requester asks for no chunk; nothing else
-- is left to be found.
abbrev pub PlainlyKept : Configuration → Kept → Gathered → Kept → Type 0
PlainlyKept w k (Whole route answer) next =
    IsBody answer × (route.owner ≡ false)
    × ((round : Round) × AnswersRound k route.tag round
    × IsShownAnswer (responder_for w k) k.responder round.tag round.body answer
    × (is_fetching (requester_history.outstanding (heard_from k route.tag answer)) ≡ false)
    × (next ≡ replied w k route.tag round answer))
PlainlyKept w k More next = next ≡ k
PlainlyKept w k (Dropped cause) next = ⊥

-- ---- LargeResponse.

-- What LargeResponse makes of what is kept, where the requester asks for no chunk in response to it.
abbrev pub LargelyKept : Configuration → Kept → Gathered → Kept → Type 0
LargelyKept w k (Whole route answer) next =
    IsBody answer × (route.owner ≡ false)
    × ((round : Round) × AnswersRound k route.tag round
    × ((h : History) × (whole : List ℕ) × AnswersLarge (responder_for w k) (restored k) round answer h whole
    × ((g : requester_history.History) × Hears (restored k) route.tag answer g
    × (is_fetching (requester_history.outstanding g) ≡ false)
    × (next ≡ kept_of (record (restored k) { requester = g; responder = h; round = Some (answered round) })))))
LargelyKept w k _ next = ⊥

-- ---- The law.

-- A packet for the requester goes on from what is kept exactly when it does so in one of these ways. The heartbeat
-- period is a byte.
abbrev pub RepliesAreShown : Type 0
RepliesAreShown = (w : Configuration) (q : ReqSetup) (older : List (List ℕ)) (k next : Kept) (g : Gathered)
    → w.responder.beat < 256 → IsSetUp k.setup → Keeps w q older k
    → RepliesKept w k g next ↔ (PlainlyKept w k g next ⊎ LargelyKept w k g next)
