-- How a fetch begins in the clear, by what is reported of an answer. This project's own.
use Rattle.std.specs.Prelude.{◌≡◌, ◌+◌, ◌==◌, ◌||◌, ℕ, List, Bool, Some, drop, length, slice_index, true, false}
use Rattle.mctp_framing.specs.Cutting.{RouteFields}
use Rattle.mctp_framing.specs.Gathering.Gathered.{Whole}
use Rattle.requester_machine.specs.Setup.{ReqSetup}
use Rattle.check_requester.specs.HeardKept.{asks_upon}
use Rattle.check_ends.specs.Party.{IsParty, StandBehind}
use Rattle.check_ends.specs.declared.party.Party.{Party}
use Rattle.check_laws.specs.Keeping.{Kept, RepliesKept}
use Rattle.check_laws.specs.LargeShown.{IsShownLarge}
use Rattle.check_laws.specs.RepliesShown.{AnswersRound, responder_for}
use Rattle.check_laws.specs.Rows.{StandsForRows}
use Rattle.check_laws.specs.declared.verdict.Seen.{Seen}
use Rattle.check_fetched_ends.specs.Fetched.{rows_upon}
use Rattle.check_fetched_ends.specs.Held.{IsHeldIn}
use Rattle.check_fetched_ends.specs.declared.clear_fetch.held_begins.BegunHeld.{BegunHeld}
use Rattle.check_fetched_ends.specs.declared.clear_fetch.held_begins.BegunHeld.TheVariants as begun
use Rattle.check_late_laws.specs.Fetching.{Fetching}
use Rattle.check_late_laws.specs.FetchingLaws.{BeginsFetching}
use Rattle.responder_machine.specs.Refusal.{code_of}
use Rattle.spdm_grammar.specs.declared.names.request_code.TheConstants.{GET_MEASUREMENTS, PSK_EXCHANGE}
use Rattle.capture_machine.specs.Rounds.{Round}
use Rattle.capture_machine.specs.SessionTable.{Row}
use Rattle.world_machine.specs.Setup.{Configuration}
use Rattle.spdm_grammar.specs.declared.names.message_type.TheConstants.{SPDM}

-- The answer to a request in the clear is LargeResponse by what it shows.
abbrev pub IsLargeInClear : Configuration → Kept → ℕ → (answer : List ℕ) → Type 0
IsLargeInClear w k tag answer =
    (round : Round) × AnswersRound k tag round × ((slice_index round.body 0 == SPDM) ≡ true)
    × IsShownLarge (responder_for w k) k.responder round.tag round.body answer

-- The requests whose answer may have any length: GET_MEASUREMENTS and PSK_EXCHANGE.
abbrev pub has_free_length : (code : ℕ) → Bool
has_free_length code = code == GET_MEASUREMENTS || code == PSK_EXCHANGE

-- It is no LargeResponse to a request in the clear by what it shows, and nothing changes; or it is LargeResponse, and
-- the requester asks for no chunk in response to it: then the request is one of these, it goes on, its answer is never
-- seen, and this is what is kept after it; or a fetch begins, and this stands for what is kept from then on, and so
-- does the table.
abbrev pub IsBegunHeld : Configuration → ReqSetup → List (List ℕ) → List Row → Kept → RouteFields → (answer : List ℕ) → BegunHeld
    → (new : Party) → (before after : List Seen) → Type 0
IsBegunHeld w q older rows k route answer begun.Not new before after =
    (IsLargeInClear w k route.tag answer → ⊥) × IsParty new w q k rows × (after ≡ before)
IsBegunHeld w q older rows k route answer begun.Passed new before after =
    (next : Kept) × RepliesKept w k (Whole route answer) next × StandBehind new after w q older rows k next
    × ((round : Round) → k.round ≡ Some round → has_free_length (code_of (drop 1 round.body)) ≡ true)
IsBegunHeld w q older rows k route answer (begun.Fetching held) new before after =
    (next : Fetching) × BeginsFetching w k (Whole route answer) next
    × IsHeldIn new held w q next (rows_upon k next.kept rows)
    × StandsForRows after w (length older + 1) (rows_upon k next.kept rows)
