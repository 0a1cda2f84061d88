-- What a requester sends, as the program represents it: the next tag and handle, what is waited for, and the request in
-- the clear that is outstanding.
use Rattle.std.specs.Prelude.{⊤, ◌≡◌, ◌≤◌, ◌<◌, ◌+◌, ◌%◌, ℕ, List, if◌then◌else◌, Option, Some, None}
use Rattle.requester_core.specs.Outstanding.{is_first, waiting_of}
use Rattle.requester_core.specs.declared.clear.outstanding.Outstanding.{Outstanding}
use Rattle.requester_core.specs.declared.clear.outstanding.Outstanding.TheVariants as waits
use Rattle.requester_core.specs.declared.clear.outstanding.TransferMode.{TransferMode}
use Rattle.requester_core.specs.declared.clear.outstanding.TransferMode.TheVariants as modes
use Rattle.chunking.specs.Cutting.{chunk_count, nth_chunk}
use Rattle.requester_machine.specs.History.{begins_large}
use Rattle.requester_machine.specs.Message.{Sent, asked_in}
use Rattle.requester_machine.specs.Message.Content.{Clear}
use Rattle.spdm_grammar.specs.Message.{RequestMessage}
use Rattle.spdm_grammar.specs.Message.RequestMessage.{ChunkGet, ChunkSend}
use Rattle.spdm_grammar.specs.Requests.{canonical_request}
use Rattle.spdm_grammar.specs.declared.names.TheConstants.{MAX_MESSAGE_SIZE, MIN_DATA_TRANSFER_SIZE}

-- As contracts see it.
pub record Seen : Type 0 where
  pub tag : ℕ
  pub handle : ℕ
  pub waiting : Outstanding
  pub request : List ℕ

-- The bytes of the request that is outstanding in the clear are kept.
abbrev pub IsKept : Option RequestMessage → List ℕ → Type 0
IsKept None bytes = ⊤
IsKept (Some asked) bytes = bytes ≡ canonical_request asked

abbrev pub IsKeptOf : Option Sent → List ℕ → Type 0
IsKeptOf None bytes = ⊤
IsKeptOf (Some sent) bytes = IsKept (asked_in sent.aim) bytes

-- It is kept where these are the next tag and handle, and this is outstanding.
pub record StandsFor (seen : Seen) (next_tag next_handle : ℕ) (outstanding : Option Sent) : Type 0
  where
    pub tag : seen.tag ≡ next_tag
    pub handle : seen.handle ≡ next_handle
    pub waiting : seen.waiting ≡ waiting_of outstanding
    pub request : IsKeptOf outstanding seen.request

-- The tag after a tag, and the handle after a handle.
abbrev pub tag_after : ℕ → ℕ
tag_after tag = (tag % 8 + 1) % 8

abbrev pub handle_after : ℕ → ℕ
handle_after handle = (handle + 1) % 256

-- The tag and the handle before them.
abbrev pub tag_before : ℕ → ℕ
tag_before tag = (tag % 8 + 7) % 8

abbrev pub handle_before : ℕ → ℕ
handle_before handle = (handle + 255) % 256

-- The outstanding message was never sent.
abbrev pub taken_back : Seen → Seen
taken_back seen = record {
  tag = tag_before seen.tag;
  handle = if is_first seen.waiting then handle_before seen.handle else seen.handle;
  waiting = waits.Nothing;
  request = seen.request;
}

-- A large request was sent in chunks, of which this was the number of the last, from 0 on.
abbrev pub passed_over : (number : ℕ) → Seen → Seen
passed_over number seen = record seen {
  tag = (seen.tag + number + 1) % 8;
  handle = handle_after seen.handle;
}

-- A message in the clear was sent with this tag, for the request that is kept: it is written, and is outstanding.
pub record Sends (sent : Sent) (old new : Seen) (tag : ℕ) (out : List ℕ) : Type 0 where
  pub tag_is : sent.tag ≡ tag
  pub content : sent.content ≡ Clear out
  pub tags : new.tag ≡ tag_after old.tag
  pub handles : new.handle ≡ (if begins_large sent.aim then handle_after old.handle else old.handle)
  pub waiting : new.waiting ≡ waiting_of (Some sent)
  pub request : new.request ≡ old.request

-- The message that is sent for a request, to a responder of this DataTransferSize.
abbrev pub message_for : TransferMode → (transfer : ℕ) → (request : List ℕ) → List ℕ
message_for modes.Whole transfer request = request
message_for (modes.ByChunks handle number) transfer request = canonical_request (ChunkSend
    (nth_chunk transfer handle request number))
message_for (modes.ForChunk handle number) transfer request = canonical_request (ChunkGet handle
    number)

-- There is such a chunk of the request.
abbrev pub IsCut : TransferMode → (transfer : ℕ) → (request : List ℕ) → Type 0
IsCut (modes.ByChunks handle number) transfer request =
    (MIN_DATA_TRANSFER_SIZE ≤ transfer) × (transfer ≤ MAX_MESSAGE_SIZE)
    × (number < chunk_count transfer request)
IsCut _ transfer request = ⊤
