-- Large messages of one place of a responder, counted out of its turns, the newest first (DSP0274,
-- "CHUNK_SEND" and "CHUNK_GET"; what drops a large message is this project's own).
use Rattle.std.specs.Prelude.{◌+◌, ◌%◌, ◌||◌, not, nat_lt, ℕ, List, [], ◌∷◌, if◌then◌else◌, Option, Some, None, is_some, unwrap_or}
use Rattle.chunking.specs.Cutting.{chunk_count}
use Rattle.spdm_grammar.specs.Message.{ChunkMessage}
use Rattle.responder_machine.specs.Turn.{Turn, is_taken, takes, large_in, handle_in}
use Rattle.spdm_grammar.specs.declared.names.request_code.TheConstants.{CHUNK_GET}

-- THE LARGE ANSWER

-- The answer that last went by LargeResponse, where no taken message but CHUNK_GET came after it.
abbrev pub large_of : List Turn → Option (List ℕ)
large_of [] = None
large_of (t ∷ older) = if not (is_taken t) || takes CHUNK_GET t then large_of older else large_in t.effect

-- How many chunks of it were given.
abbrev pub given_of : List Turn → ℕ
given_of [] = 0
given_of (t ∷ older) = if not (is_taken t) then given_of older else (if takes CHUNK_GET t then given_of older + 1 else 0)

-- The large response, while a chunk of it is still to be given.
abbrev pub still_pending : ℕ → ℕ → Option (List ℕ) → Option (List ℕ)
still_pending transfer given None = None
still_pending transfer given (Some answer) = if nat_lt given (chunk_count transfer answer) then Some answer else None

-- The pending large response: the last one, while fewer chunks of it were given than this transfer size cuts it into.
abbrev pub pending_of : ℕ → List Turn → Option (List ℕ)
pending_of transfer turns = still_pending transfer (given_of turns) (large_of turns)

-- The handle of the answer that last went by LargeResponse.
abbrev pub handle_of : List Turn → ℕ
handle_of [] = 0
handle_of (t ∷ older) = unwrap_or (handle_in t.effect) (handle_of older)

-- How many answers of the place ever went by LargeResponse.
abbrev pub larges_of : List Turn → ℕ
larges_of [] = 0
larges_of (t ∷ older) = if is_some (handle_in t.effect) then larges_of older + 1 else larges_of older

-- The handle that this project's responder gives next: they count modulo 256 from 0 in each place.
abbrev pub next_handle : List Turn → ℕ
next_handle turns = larges_of turns % 256

-- THE LARGE REQUEST

-- The chunk before those before it; a message that is no chunk drops them.
abbrev pub chunks_with : Option ChunkMessage → List ChunkMessage → List ChunkMessage
chunks_with None before = []
chunks_with (Some c) before = c ∷ before

-- The chunks that were taken, the newest first, since the last taken message that was none. What of them is in
-- progress, and what a further one leads to, is said where chunks are collected.
abbrev pub chunks_of : List Turn → List ChunkMessage
chunks_of [] = []
chunks_of (t ∷ older) = if is_taken t then chunks_with t.chunk (chunks_of older) else chunks_of older
