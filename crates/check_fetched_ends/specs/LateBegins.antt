-- How a fetch begins late in the clear, by LargeResponse again, by what is reported of an answer. This project's own.
use Rattle.std.specs.Prelude.{◌≡◌, ◌+◌, ◌==◌, ◌&&◌, ℕ, List, Bool, true, bytes_eq, drop, length, slice_index}
use Rattle.check_responder.specs.JudgedResponder.{shows_large}
use Rattle.check_requester.specs.HeardKept.{asks_upon}
use Rattle.check_ends.specs.Party.{StandBehind}
use Rattle.check_ends.specs.declared.party.Party.{Party}
use Rattle.check_laws.specs.DropsShown.{IsShownAnswer}
use Rattle.check_laws.specs.Keeping.{Kept, RepliesKept}
use Rattle.check_laws.specs.RepliesShown.{AnswersRound, responder_for}
use Rattle.check_laws.specs.Rows.{StandsForRows}
use Rattle.check_laws.specs.declared.verdict.Seen.{Seen}
use Rattle.check_fetched_ends.specs.BegunHeld.{has_free_length}
use Rattle.check_fetched_ends.specs.Fetched.{rows_upon}
use Rattle.check_fetched_ends.specs.Held.{IsHeldIn}
use Rattle.check_fetched_ends.specs.declared.clear_fetch.held_begins.BegunHeld.{BegunHeld}
use Rattle.check_fetched_ends.specs.declared.clear_fetch.held_begins.BegunHeld.TheVariants as begun
use Rattle.check_late_laws.specs.Fetching.{Fetching}
use Rattle.check_late_laws.specs.FetchingLaws.{BeginsFetching}
use Rattle.mctp_framing.specs.Cutting.{RouteFields}
use Rattle.mctp_framing.specs.Gathering.Gathered.{Whole}
use Rattle.requester_machine.specs.Setup.{ReqSetup}
use Rattle.responder_machine.specs.History.{History, kept_of}
use Rattle.responder_machine.specs.Refusal.{code_of}
use Rattle.responder_machine.specs.Responder.{is_repeat, kept_reply}
use Rattle.capture_machine.specs.Rounds.{Round}
use Rattle.capture_machine.specs.SessionTable.{Row}
use Rattle.world_machine.specs.Setup.{Configuration}
use Rattle.spdm_grammar.specs.declared.names.message_type.TheConstants.{SPDM}

-- A body is GET_MEASUREMENTS or PSK_EXCHANGE in the clear, by its type and its code: their answers have a free length.
abbrev pub is_free_body : (body : List ℕ) → Bool
is_free_body body = slice_index body 0 == SPDM && has_free_length (code_of (drop 1 body))

-- An answer is LargeResponse in the clear.
abbrev pub is_large_body : (answer : List ℕ) → Bool
is_large_body answer = slice_index answer 0 == SPDM && shows_large (drop 1 answer)

-- A message is the one that was taken last in the clear, and this was its reply.
abbrev pub gets_again : History → (tag : ℕ) → (message reply : List ℕ) → Bool
gets_again h tag message reply = is_repeat (kept_of h) tag message && bytes_eq (kept_reply (kept_of h)) reply

-- To such a request an answer may be given by what it shows that brings no new LargeResponse, and the requester asks
-- for a chunk in response to it.
abbrev pub IsLeftFree : Configuration → Kept → ℕ → (answer : List ℕ) → Type 0
IsLeftFree w k tag answer =
    (round : Round) × AnswersRound k tag round × (is_free_body round.body ≡ true)
    × IsShownAnswer (responder_for w k) k.responder round.tag round.body answer
    × (asks_upon k tag answer ≡ true)

-- No such answer, and nothing changes; or it is LargeResponse again to such a request, and the requester asks for no
-- chunk in response to it: it goes on; or a fetch begins, and this stands for what is kept from then on, and so does
-- the table. The responder's history stays.
abbrev pub IsBegunLate : Configuration → ReqSetup → List (List ℕ) → List Row → Kept → RouteFields → (answer : List ℕ) → BegunHeld
    → (old new : Party) → (before after : List Seen) → Type 0
IsBegunLate w q older rows k route answer begun.Not old new before after =
    (IsLeftFree w k route.tag answer → ⊥) × (new ≡ old) × (after ≡ before)
IsBegunLate w q older rows k route answer begun.Passed old new before after =
    (next : Kept) × RepliesKept w k (Whole route answer) next × StandBehind new after w q older rows k next
    × (next.responder ≡ k.responder)
IsBegunLate w q older rows k route answer (begun.Fetching held) old new before after =
    (next : Fetching) × BeginsFetching w k (Whole route answer) next
    × IsHeldIn new held w q next (rows_upon k next.kept rows)
    × StandsForRows after w (length older + 1) (rows_upon k next.kept rows)
    × (next.kept.responder ≡ k.responder)
