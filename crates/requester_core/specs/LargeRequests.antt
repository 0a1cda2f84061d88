-- A large request that is sent in chunks, as the checker it sees it: it goes on by whatever came in answer to a chunk,
-- and is broken off by GET_VERSION whatever its bytes were. This project's own.
use Rattle.std.specs.Prelude.{◌≡◌, ◌⊎◌, ◌+◌, ◌==◌, zero, suc, ℕ, List, ◌∷◌, if◌then◌else◌, false, Option, Some, None}
use Rattle.requester_core.specs.Joined.{StandsFor}
use Rattle.requester_core.specs.ClearState as clear_state
use Rattle.requester_core.specs.declared.joined.RequesterCore.{RequesterCore}
use Rattle.chunking.specs.Cutting.{chunk_count}
use Rattle.requester_machine.specs.Answers.{goes_on}
use Rattle.requester_machine.specs.History.{History, begins_large, connection_terms, outstanding}
use Rattle.requester_machine.specs.History.Effect.{Nothing}
use Rattle.requester_machine.specs.History.Entry.{TookClear}
use Rattle.requester_machine.specs.Message.{Aim, Sent, body_of}
use Rattle.requester_machine.specs.Message.Aim.{ByChunks}
use Rattle.requester_machine.specs.Message.Content.{Clear}
use Rattle.requester_machine.specs.Owed.{with_next}
use Rattle.requester_machine.specs.Sending.{piece_sent}
use Rattle.requester_machine.specs.Setup.{ReqSetup}
use Rattle.spdm_grammar.specs.Requests.{canonical_request}
use Rattle.spdm_machine.specs.Keys.{Draw}

-- ---- The next chunk.

-- After the chunk of this number of a request comes the next one, and none after the last.
abbrev pub piece_behind : History → Aim → Option Sent
piece_behind h (ByChunks asked handle number) =
    if number + 1 == chunk_count (connection_terms h).common.to_responder.transfer
    (canonical_request asked) then None
    else Some (piece_sent (connection_terms h).common h asked handle (number + 1))
piece_behind h _ = None

-- By what is outstanding.
abbrev pub piece_behind_sent : History → Option Sent → Option Sent
piece_behind_sent h None = None
piece_behind_sent h (Some sent) = piece_behind h sent.aim

abbrev pub next_piece : History → Option Sent
next_piece h = piece_behind_sent h (outstanding h)

-- The next chunk is sent and written, and what is kept is that of the history in which any message called for it, under
-- any tag. Where there is none, nothing changes.
abbrev pub SendsPiece : ReqSetup → History → Option Sent → Option ℕ → (out : List ℕ)
    → (old new : clear_state.Seen) → Type 0
SendsPiece q h None None out old new = new ≡ old
SendsPiece q h (Some next) (Some tag) out old new =
    (next.tag ≡ tag) × (next.content ≡ Clear out)
    × ((of : ℕ) (m : List ℕ) (d : Draw)
    → clear_state.StandsFor new q (TookClear of m (goes_on Nothing next) d ∷ h))
SendsPiece q h _ _ out old new = ⊥

-- The same of the whole requester.
abbrev pub IsAcknowledged : ReqSetup → History → Option Sent → Option ℕ → (body : List ℕ)
    → (new : RequesterCore) → Type 0
IsAcknowledged q h None None body new = StandsFor new q h
IsAcknowledged q h (Some next) (Some tag) body new =
    (next.tag ≡ tag) × (body ≡ body_of next.content)
    × ((of : ℕ) (m : List ℕ) (d : Draw) → StandsFor new q (TookClear of m (goes_on Nothing next) d ∷ h))
IsAcknowledged q h _ _ body new = ⊥

-- ---- Broken off.

-- The history after a first chunk and so many further messages, each of which begins no large request and was called
-- for by any message, under any tag. So are the chunks of a request of any bytes.
unfoldable pub IsSentOn : (first : History) → (further : ℕ) → History → Type 0
IsSentOn first zero h = h ≡ first
IsSentOn first (suc n) h =
    (older : History) × (of : ℕ) × (m : List ℕ) × (next : Sent) × (d : Draw)
    × IsSentOn first n older × (begins_large next.aim ≡ false)
    × (h ≡ TookClear of m (goes_on Nothing next) d ∷ older)

-- The chunk of this number, from 0 on, was sent last: it is outstanding; or the next one was called for,
-- and was never sent.
abbrev pub IsBrokenOff : (first : History) → (number : ℕ) → History → Type 0
IsBrokenOff first number h =
    IsSentOn first number h
    ⊎ ((over : History) × IsSentOn first (suc number) over × (h ≡ with_next None over))
