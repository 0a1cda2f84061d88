-- What is reported of an answer while nothing is fetched: whether a fetch begins by it in a session. This project's
-- own.
use Rattle.std.specs.Prelude.{◌≡◌, ◌+◌, ◌==◌, ℕ, List, length, slice_index, Bool, true, false, Some, Result, Ok}
use Rattle.mctp_framing.specs.Cutting.{RouteFields}
use Rattle.mctp_framing.specs.Gathering.Gathered.{Whole}
use Rattle.requester_machine.specs.Setup.{ReqSetup}
use Rattle.check_ends.specs.Party.{IsParty}
use Rattle.check_ends.specs.PartyReplies.{IsReplied}
use Rattle.check_ends.specs.declared.continuation.Continuation.{Continuation}
use Rattle.check_ends.specs.declared.continuation.Continuation.TheVariants as onward
use Rattle.check_ends.specs.declared.party.Party.{Party}
use Rattle.check_laws.specs.Keeping.{Kept}
use Rattle.check_laws.specs.LargeShown.{IsShownLarge}
use Rattle.check_laws.specs.RepliesShown.{AnswersRound, responder_for}
use Rattle.check_laws.specs.Rows.{StandsForRows}
use Rattle.check_laws.specs.declared.verdict.Seen.{Seen}
use Rattle.check_fetched_ends.specs.Fetched.{rows_upon}
use Rattle.check_fetched_ends.specs.InSession.{IsFetchedIn}
use Rattle.check_fetched_ends.specs.declared.session_fetch.in_session_begins.BegunIn.{BegunIn}
use Rattle.check_fetched_ends.specs.declared.session_fetch.in_session_begins.BegunIn.TheVariants as begun
use Rattle.check_late_laws.specs.Fetching.{Fetching}
use Rattle.check_late_laws.specs.FetchingLaws.{BeginsFetching}
use Rattle.spdm_grammar.specs.declared.told.why.Why as declared
use Rattle.capture_machine.specs.Rounds.{Round}
use Rattle.capture_machine.specs.SessionTable.{Row}
use Rattle.world_machine.specs.Setup.{Configuration}
use Rattle.spdm_grammar.specs.declared.names.message_type.TheConstants.{SPDM}

-- The answer to a record is LargeResponse by what it shows.
abbrev pub IsLargeInRecord : Configuration → Kept → ℕ → (answer : List ℕ) → Type 0
IsLargeInRecord w k tag answer =
    (round : Round) × AnswersRound k tag round × ((slice_index round.body 0 == SPDM) ≡ false)
    × IsShownLarge (responder_for w k) k.responder round.tag round.body answer

-- Where a part of a large response is left, it is no such answer.
abbrev pub IsLeftOther : Configuration → Kept → ℕ → (answer : List ℕ) → Result Continuation declared.Why → Type 0
IsLeftOther w k tag answer (Ok onward.Large) = IsLargeInRecord w k tag answer → ⊥
IsLeftOther w k tag answer other = Unit {0}

-- It is no LargeResponse to a record, nothing is told, and what is kept stays; a fetch begins, and this stands for what is kept
-- from then on, and so does the table; or what is told as where none begins, of an answer to a record.
abbrev pub IsBegunIn : Configuration → ReqSetup → List (List ℕ) → List Row → Kept → RouteFields → (answer : List ℕ)
    → BegunIn → (new : Party) → (before after : List Seen) → Type 0
IsBegunIn w q older rows k route answer begun.Not new before after =
    (IsLargeInRecord w k route.tag answer → ⊥) × IsParty new w q k rows × (after ≡ before)
IsBegunIn w q older rows k route answer (begun.Fetching fetched) new before after =
    (next : Fetching) × BeginsFetching w k (Whole route answer) next
    × IsFetchedIn new fetched w q next (rows_upon k next.kept rows)
    × StandsForRows after w (length older + 1) (rows_upon k next.kept rows)
IsBegunIn w q older rows k route answer (begun.Told told) new before after =
    IsReplied w q older rows k route answer told new after
    × ((round : Round) → k.round ≡ Some round → (slice_index round.body 0 == SPDM) ≡ false)
    × IsLeftOther w k route.tag answer told

-- The table stays, but where a fetch begins, or the answer goes on whole.
abbrev pub leaves_table : BegunIn → Bool
leaves_table (begun.Fetching fetched) = false
leaves_table (begun.Told (Ok onward.Kept)) = false
leaves_table _ = true
