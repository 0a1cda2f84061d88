-- A large request in a capture, before all of it was seen. It is judged whole at its last chunk. Until then any bytes
-- may stand for it whose length is one that is sent in chunks, and each chunk has to be the one that they are cut into.
-- This project's own.
use Rattle.std.specs.Prelude.{⊤, ◌≡◌, ◌≤◌, ◌+◌, ◌==◌, nat_lt, ℕ, List, [], ◌∷◌, length, if◌then◌else◌, Bool, true, false, Option, Some, None, MatchBool}
use Rattle.std.specs.Bool.{OnTrue}
use Rattle.chunking.specs.Cutting.{nth_chunk, chunk_count}
use Rattle.negotiate.specs.declared.shared.Common.{Common}
use Rattle.requester_machine.specs.Answers.{goes_on}
use Rattle.requester_machine.specs.Asking.Outcome.{Adds}
use Rattle.requester_machine.specs.Bodies.{has_tag}
use Rattle.requester_machine.specs.History.{History, outstanding, connection_terms, begins_large, is_first_chunk, next_handle}
use Rattle.requester_machine.specs.History.Effect.{Nothing}
use Rattle.requester_machine.specs.History.Entry.{Told, TookClear, TookRecord}
use Rattle.requester_machine.specs.May.{MayAsk}
use Rattle.requester_machine.specs.Message.{Aim, Sent}
use Rattle.requester_machine.specs.Message.Aim.{ByChunks}
use Rattle.requester_machine.specs.Sending.{clear_sent, is_too_long}
use Rattle.spdm_grammar.specs.Message.{RequestMessage}
use Rattle.spdm_grammar.specs.Message.RequestMessage.{ChunkSend}
use Rattle.spdm_grammar.specs.Requests.{canonical_request}
use Rattle.requester_machine.specs.Setup.{ReqSetup}
use Rattle.capture_machine.specs.Rounds.{no_draw}
use Rattle.spdm_grammar.specs.declared.names.TheConstants.{MAX_MESSAGE_SIZE}

-- What both ends can do, as the requester has negotiated it.
abbrev pub common_of : History → Common
common_of h = (connection_terms h).common

-- A length that is sent in chunks: over the responder's transfer size, and at most its max size and 4,096.
abbrev pub IsLargeRequest : Common → List ℕ → Type 0
IsLargeRequest common whole =
    (nat_lt common.to_responder.transfer (length whole) ≡ true) × (is_too_long common whole ≡ false) × (length whole ≤ MAX_MESSAGE_SIZE)

-- CHUNK_SEND with the chunk of this number of the bytes that stand for a request.
abbrev pub piece_with : History → RequestMessage → List ℕ → ℕ → ℕ → Sent
piece_with h asked whole handle number =
    clear_sent h (ChunkSend (nth_chunk (common_of h).to_responder.transfer handle whole number)) (ByChunks asked handle number)

-- With the first chunk, under the next handle.
abbrev pub first_piece : History → RequestMessage → List ℕ → Sent
first_piece h asked whole = piece_with h asked whole (next_handle h) 0

-- ---- The chunks between.

-- A chunk that is not the last has an acknowledgement as its answer, and nothing else. It calls for the next chunk.
abbrev pub with_next_piece : List ℕ → ℕ → List ℕ → History → Aim → History
with_next_piece whole tag m h (ByChunks asked handle number) =
    TookClear tag m (goes_on Nothing (piece_with h asked whole handle (number + 1))) no_draw ∷ h
with_next_piece whole tag m h _ = h

-- An acknowledgement calls for the next chunk where a message is outstanding.
abbrev pub with_ack_to : List ℕ → ℕ → List ℕ → History → Option Sent → History
with_ack_to whole tag m h None = h
with_ack_to whole tag m h (Some sent) = with_next_piece whole tag m h sent.aim

-- The requester takes it while the chunk is outstanding.
abbrev pub with_ack : List ℕ → ℕ → List ℕ → History → History
with_ack whole tag m h = if has_tag (outstanding h) tag then with_ack_to whole tag m h (outstanding h) else h

-- ---- The last chunk.

-- The message is CHUNK_SEND with the last chunk of the bytes that stand for the request.
abbrev pub is_last_piece : History → List ℕ → Aim → Bool
is_last_piece h whole (ByChunks asked handle number) = number + 1 == chunk_count (common_of h).to_responder.transfer whole
is_last_piece h whole _ = false

-- The bytes are the request that was asked.
abbrev pub AreAsked : List ℕ → Aim → Type 0
AreAsked whole (ByChunks asked handle number) = whole ≡ canonical_request asked
AreAsked whole _ = ⊥

-- The command that began the large request may send it, under some allowed values. One that was sent by itself was
-- begun by no command.
abbrev pub MayHaveBegun : ReqSetup → History → Type 0
MayHaveBegun q [] = ⊥
MayHaveBegun q (Told command sent d ∷ older) =
    MatchBool (begins_large sent.aim) (MayAsk false q older command d (Adds (Told command sent d))) (MayHaveBegun q older)
MayHaveBegun q (TookClear tag m led d ∷ older) = MatchBool (is_first_chunk led.next) ⊤ (MayHaveBegun q older)
MayHaveBegun q (TookRecord tag id sealed inner led d ∷ older) = MayHaveBegun q older

-- With its last chunk a large request is judged.
abbrev pub IsJudgedAtLast : ReqSetup → History → List ℕ → Aim → Type 0
IsJudgedAtLast q h whole aim = OnTrue (is_last_piece h whole aim) (AreAsked whole aim × MayHaveBegun q h)

-- A large request in progress is judged so; where there is none, nothing is to be judged.
abbrev pub IsJudged : ReqSetup → History → Option (List ℕ) → Aim → Type 0
IsJudged q h None aim = ⊤
IsJudged q h (Some whole) aim = IsJudgedAtLast q h whole aim

-- With its last chunk a large request is no longer in progress.
abbrev pub still_sending : History → Option (List ℕ) → Aim → Option (List ℕ)
still_sending h None aim = None
still_sending h (Some whole) aim = if is_last_piece h whole aim then None else Some whole
