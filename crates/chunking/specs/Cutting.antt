-- A large message as chunks (DSP0274, "CHUNK_SEND request message format" and "CHUNK_RESPONSE response message
-- format").
use Rattle.std.specs.Prelude.{◌==◌, ◌<◌, ◌≤◌, ◌+◌, ◌-◌, ◌*◌, zero, suc, ℕ, List, [], ◌∷◌, map, length, slice_range, if◌then◌else◌, Some, None}
use Rattle.std.specs.Int.{div_ceil}
use Rattle.std.specs.List.{range_with_len}
use Rattle.spdm_grammar.specs.declared.names.TheConstants.{MIN_DATA_TRANSFER_SIZE, MAX_MESSAGE_SIZE}
use Rattle.spdm_grammar.specs.Message.{ChunkMessage}

-- How many bytes a chunk that is not the first holds: a message of the transfer size, less the 12 bytes that stand
-- before the chunk's bytes.
abbrev pub unit_of : (transfer : ℕ) → ℕ
unit_of transfer = transfer - 12

-- Where the bytes of chunk k begin in the message. The first chunk holds four bytes fewer than the others,
-- since LargeMessageSize stands in it too: transfer less 16.
abbrev pub chunk_start : (transfer : ℕ) → ℕ → ℕ
chunk_start transfer k = k * unit_of transfer - 4

-- Where the bytes of chunk k end, unless the message ends before.
abbrev pub chunk_end : (transfer : ℕ) → ℕ → ℕ
chunk_end transfer k = k * unit_of transfer + unit_of transfer - 4

-- How many chunks a message has: its bytes and the four of LargeMessageSize, in units, rounded up.
abbrev pub chunk_count : (transfer : ℕ) → (message : List ℕ) → ℕ
chunk_count transfer message = div_ceil (length message + 4) (unit_of transfer)

-- Chunk number k of a message, counted from 0. The last one has the last mark, and the first one tells the length of
-- the message.
abbrev pub nth_chunk : (transfer handle : ℕ) → (message : List ℕ) → ℕ → ChunkMessage
nth_chunk transfer handle message k =
    record {
      last = k + 1 == chunk_count transfer message;
      handle = handle;
      number = k;
      large = if k == 0 then Some (length message) else None;
      chunk = slice_range message (chunk_start transfer k) (chunk_end transfer k);
    }

-- The chunks of a message, in order.
abbrev pub chunks_of : (transfer handle : ℕ) → (message : List ℕ) → List ChunkMessage
chunks_of transfer handle message = map (nth_chunk transfer handle message) (range_with_len 0 (chunk_count transfer message))

-- The chunks of numbers below k, the newest first.
abbrev pub chunks_before : (transfer handle : ℕ) → (message : List ℕ) → ℕ → List ChunkMessage
chunks_before transfer handle message zero = []
chunks_before transfer handle message (suc k) = nth_chunk transfer handle message k ∷ chunks_before transfer handle message k

-- What has to hold of a message for its chunks to be collected again: it is sent in chunks at this transfer size, and
-- is at most as long as the collector and this project allow.
pub record IsCollectable (max transfer : ℕ) (message : List ℕ) : Type 0 where
  pub low : MIN_DATA_TRANSFER_SIZE ≤ transfer
  pub large : transfer < length message + 16
  pub fits : length message ≤ max
  pub short : length message ≤ MAX_MESSAGE_SIZE
