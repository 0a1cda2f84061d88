-- What is reported of LargeResponse that comes again in a session, while nothing is fetched. This project's own.
use Rattle.std.specs.Prelude.{◌≡◌, ◌+◌, ◌==◌, ℕ, List, length, slice_index, false}
use Rattle.mctp_framing.specs.Cutting.{RouteFields}
use Rattle.mctp_framing.specs.Gathering.Gathered.{Whole}
use Rattle.requester_machine.specs.Setup.{ReqSetup}
use Rattle.responder_machine.specs.History.{History}
use Rattle.check_ends.specs.Party.{IsParty, StandBehind}
use Rattle.check_ends.specs.declared.party.Party.{Party}
use Rattle.check_laws.specs.Keeping.{Kept, RepliesKept, restored}
use Rattle.check_laws.specs.RepliesShown.{AnswersRound, responder_for}
use Rattle.check_laws.specs.Rows.{StandsForRows}
use Rattle.check_laws.specs.declared.verdict.Seen.{Seen}
use Rattle.check_fetched_ends.specs.Fetched.{rows_upon}
use Rattle.check_fetched_ends.specs.InSession.{IsFetchedIn}
use Rattle.check_fetched_ends.specs.declared.session_fetch.again_begins.BegunAgain.{BegunAgain}
use Rattle.check_fetched_ends.specs.declared.session_fetch.again_begins.BegunAgain.TheVariants as begun
use Rattle.check_late_laws.specs.Fetching.{Fetching}
use Rattle.check_late_laws.specs.FetchingLaws.{BeginsFetching}
use Rattle.capture_machine.specs.CapturedAnswers.{AnswersAgain}
use Rattle.capture_machine.specs.Rounds.{Round}
use Rattle.capture_machine.specs.SessionTable.{Row}
use Rattle.world_machine.specs.Setup.{Configuration}
use Rattle.spdm_grammar.specs.declared.names.message_type.TheConstants.{SPDM}

-- The answer to a record is LargeResponse again, whose large response was not seen.
pub record IsAgainInRecord (w : Configuration) (k : Kept) (tag : ℕ) (answer : List ℕ) : Type 0 where
  pub round : Round
  pub answers : AnswersRound k tag round
  pub record_is : (slice_index round.body 0 == SPDM) ≡ false
  pub whole : List ℕ
  pub behind : History
  pub again : AnswersAgain (responder_for w k) (restored k) round answer behind whole

-- It is no such answer, and nothing was done; or the requester asks for no chunk in response to it, and it goes on; or
-- a fetch begins, and this stands for what is kept from then on, and so does the table. The responder's history stays.
abbrev pub IsBegunAgain : Configuration → ReqSetup → List (List ℕ) → List Row → Kept → RouteFields → (answer : List ℕ)
    → BegunAgain → (new : Party) → (before after : List Seen) → Type 0
IsBegunAgain w q older rows k route answer begun.Not new before after =
    (IsAgainInRecord w k route.tag answer → ⊥) × IsParty new w q k rows × (after ≡ before)
IsBegunAgain w q older rows k route answer begun.Passed new before after =
    (next : Kept) × RepliesKept w k (Whole route answer) next × StandBehind new after w q older rows k next
    × (next.responder ≡ k.responder)
IsBegunAgain w q older rows k route answer (begun.Fetching fetched) new before after =
    (next : Fetching) × BeginsFetching w k (Whole route answer) next
    × IsFetchedIn new fetched w q next (rows_upon k next.kept rows)
    × StandsForRows after w (length older + 1) (rows_upon k next.kept rows)
    × (next.kept.responder ≡ k.responder)
