-- What is reported of an answer, by what is kept of a requester and the responder. This project's own.
use Rattle.std.specs.Prelude.{◌≡◌, ◌⊎◌, ℕ, List, true, Some, Result, Ok, Err}
use Rattle.mctp_framing.specs.Cutting.{RouteFields}
use Rattle.mctp_framing.specs.Gathering.{Gathered}
use Rattle.mctp_framing.specs.Gathering.Gathered.{Whole}
use Rattle.requester_machine.specs.Setup.{ReqSetup}
use Rattle.responder_machine.specs.Setup.{RspSetup}
use Rattle.spdm_grammar.specs.declared.told.why.Why as declared
use Rattle.check_responder.specs.ClearAnswers.{EndsLarge}
use Rattle.check_laws.specs.DropsShown.{IsShownAnswer}
use Rattle.check_laws.specs.Judged.{why_of}
use Rattle.check_laws.specs.Keeping.{Kept, RepliesKept, restored}
use Rattle.check_laws.specs.LargeShown.{IsShownLarge}
use Rattle.check_requester.specs.HeardKept.{asks_upon}
use Rattle.check_ends.specs.Party.{StandBehind}
use Rattle.check_laws.specs.RepliesShown.{AnswersRound, responder_for}
use Rattle.check_laws.specs.declared.verdict.Seen.{Seen}
use Rattle.check_ends.specs.declared.continuation.Continuation.{Continuation}
use Rattle.check_ends.specs.declared.continuation.Continuation.TheVariants as onward
use Rattle.check_ends.specs.declared.party.Party.{Party}
use Rattle.capture_machine.specs.Capture.{RepliesBy}
use Rattle.capture_machine.specs.Difference.{GoesApart, Why, goes_why}
use Rattle.capture_machine.specs.Difference.Why.{BadVerify}
use Rattle.capture_machine.specs.Rounds.{Dialogue, Round}
use Rattle.capture_machine.specs.SessionTable.{Row}
use Rattle.world_machine.specs.Setup.{Configuration}

-- ---- What is told.

-- Why an answer is refused, by what is kept.
abbrev pub IsGoingWhy : RspSetup → Kept → Gathered → Why → Type 0
IsGoingWhy r k g BadVerify = GoesApart r (restored k) g
IsGoingWhy r k g why = (GoesApart r (restored k) g → ⊥) × (goes_why r (restored k) g ≡ Some why)

-- It begins a large response, or ends one.
abbrev pub IsPartOfLarge : Configuration → Kept → ℕ → (answer : List ℕ) → Type 0
IsPartOfLarge w k tag answer =
    (round : Round) × AnswersRound k tag round
    × (IsShownLarge (responder_for w k) k.responder round.tag round.body answer
    ⊎ EndsLarge (responder_for w k) k.responder round.tag round.body answer)

-- It goes whole by what it shows, and the requester asks for a chunk in response to it. So it is LargeResponse again,
-- by which a fetch begins, or it does not go on.
abbrev pub IsAskedUpon : Configuration → Kept → ℕ → (answer : List ℕ) → Type 0
IsAskedUpon w k tag answer =
    (round : Round) × AnswersRound k tag round
    × IsShownAnswer (responder_for w k) k.responder round.tag round.body answer
    × (asks_upon k tag answer ≡ true)

-- Of an answer that goes on, likewise. Where the requester asks for a chunk in response to it, the reason is that for
-- which it is refused where it does not go on.
abbrev pub RepliesOnward : Configuration → ReqSetup → List (List ℕ) → List Row → Kept → RouteFields → (answer : List ℕ) → Continuation
    → (new : Party) → (table : List Seen) → Type 0
RepliesOnward w q older rows k route answer onward.Kept new table =
    (next : Kept) × RepliesKept w k (Whole route answer) next × StandBehind new table w q older rows k next
RepliesOnward w q older rows k route answer onward.Large new table = IsPartOfLarge w k route.tag answer
RepliesOnward w q older rows k route answer (onward.Asked why) new table =
    IsAskedUpon w k route.tag answer × IsGoingWhy (responder_for w k) k (Whole route answer) (why_of why)

-- Of an answer: it goes on, or it is refused, and then why: it begins no fetch either.
abbrev pub IsReplied : Configuration → ReqSetup → List (List ℕ) → List Row → Kept → RouteFields → (answer : List ℕ)
    → Result Continuation declared.Why → (new : Party) → (table : List Seen) → Type 0
IsReplied w q older rows k route answer (Ok on) new table = RepliesOnward w q older rows k route answer on new table
IsReplied w q older rows k route answer (Err why) new table =
    ((next : Dialogue) → RepliesBy w (restored k) (Whole route answer) next → ⊥) × IsGoingWhy (responder_for w k) k (Whole route answer) (why_of why)
