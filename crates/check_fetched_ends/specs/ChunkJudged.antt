-- What is reported of a chunk of a large response that is fetched in a session. This project's own.
use Rattle.std.specs.Prelude.{◌≡◌, ℕ, List, Option, Some, None, Ok, true}
use Rattle.mctp_framing.specs.Cutting.{RouteFields}
use Rattle.requester_machine.specs.Setup.{ReqSetup}
use Rattle.responder_machine.specs.History.{History}
use Rattle.responder_machine.specs.Setup.{RspSetup}
use Rattle.check_responder.specs.ClearAnswers.{EndsLarge}
use Rattle.check_requester.specs.HeardKept.{asks_upon}
use Rattle.check_ends.specs.declared.party.Party.{Party}
use Rattle.check_laws.specs.DropsShown.{IsShownAnswer}
use Rattle.check_laws.specs.Keeping.{Kept}
use Rattle.check_laws.specs.RepliesShown.{responder_for}
use Rattle.check_laws.specs.declared.verdict.Seen.{Seen}
use Rattle.check_fetched_ends.specs.Fetched.{IsRepliedTo}
use Rattle.check_fetched_ends.specs.InSession.{IsMeasuredBy}
use Rattle.check_fetched_ends.specs.declared.session_fetch.in_session.InSession.{InSession}
use Rattle.check_fetched_ends.specs.declared.upon.Upon.{Upon}
use Rattle.check_late_laws.specs.Fetching.{Fetching}
use Rattle.capture_machine.specs.LargeAnswers.{with_large}
use Rattle.capture_machine.specs.Rounds.{Round}
use Rattle.capture_machine.specs.SessionTable.{Row}
use Rattle.world_machine.specs.Setup.{Configuration}

-- It is not right by what it shows: not the next chunk of these bytes, and where it is the last one of MEASUREMENTS,
-- the requester asks for a chunk in response to it.
pub record IsNoChunk (r : RspSetup) (h : History) (k : Kept) (op : ℕ) (round : Round) (answer whole : List ℕ) : Type 0 where
  pub next : IsShownAnswer r h round.tag round.body answer → ⊥
  pub last : EndsLarge r h round.tag round.body answer → IsMeasuredBy r op whole → asks_upon k round.tag answer ≡ true

-- It goes on, or is told apart; or it is not right.
abbrev pub IsChunkJudged : Configuration → ReqSetup → List (List ℕ) → List Row → Fetching → RouteFields → (answer whole : List ℕ) → InSession
    → Option Upon → (new : Party) → (stands : Fetching → List Row → Type 0) → (table : List Seen) → Type 0
IsChunkJudged w q older rows f route answer whole fetched None new stands table =
    (round : Round) × (f.kept.round ≡ Some round)
    × IsNoChunk (responder_for w f.kept) (with_large (Some fetched.id) whole f.kept.responder) f.kept fetched.op round answer whole
IsChunkJudged w q older rows f route answer whole fetched (Some told) new stands table = IsRepliedTo w q older rows f route answer (Ok told) new stands table
