-- What the chunks of a large request show: which bodies are cut from some bytes of the announced length, and which of
-- these a command may send. This project's own.
use Rattle.std.specs.Prelude.{◌≡◌, ◌<◌, ◌≤◌, ◌+◌, ◌-◌, ◌==◌, ◌⊎◌, ◌↔◌, min, ℕ, List, ◌++◌, length, take, true, false, Some, None}
use Rattle.chunking.specs.Cutting.{chunk_end}
use Rattle.negotiate.specs.declared.shared.Common.{Common}
use Rattle.requester_machine.specs.Asking.{asks}
use Rattle.requester_machine.specs.Asking.Outcome.{Adds}
use Rattle.requester_machine.specs.Commands.{is_negotiated, live_count}
use Rattle.requester_machine.specs.History.{connection_terms, next_handle, outstanding, phase_of}
use Rattle.requester_machine.specs.History.Entry.{Told}
use Rattle.requester_machine.specs.May.{IsSetUp}
use Rattle.requester_machine.specs.Message.{Command}
use Rattle.requester_machine.specs.Sending.{piece_sent}
use Rattle.requester_machine.specs.Setup.{ReqSetup}
use Rattle.spdm_grammar.specs.Message.{RequestMessage}
use Rattle.spdm_grammar.specs.Message.RequestMessage.{ChunkSend}
use Rattle.spdm_grammar.specs.Requests.{canonical_request}
use Rattle.spdm_grammar.specs.declared.names.TheConstants.{MAX_MESSAGE_SIZE}
use Rattle.spdm_machine.specs.Bodies.{clear_body}
use Rattle.spdm_machine.specs.Terms.{hash_len}
use Rattle.check_laws.specs.Keeping.{Kept}
use Rattle.check_laws.specs.Showing.{AreAllowed, command_shown, values_shown}
use Rattle.capture_machine.specs.LargeRequests.{IsLargeRequest, common_of}
use Rattle.capture_machine.specs.Rounds.{no_draw}
use Rattle.world_machine.specs.Setup.{Configuration}
use Rattle.check_laws.specs.Large.Sending.{Beginning, IsSendingOf, MayBegin, MaySend, MayStand, Sending, asked_of, chunk_body, handle_of, is_last, number_of, transfer_of}
use Rattle.check_laws.specs.Large.Sending.Beginning.{ByCommand, ByItself}
use Rattle.check_laws.specs.Large.SendingLaws.{first_body}

-- ---- The first chunk.

-- A length that is sent in chunks: chunks are in common, it is over the responder's transfer size, and at most its max
-- size and 4,096.
pub record IsLargeSize (common : Common) (size : ℕ) : Type 0 where
  pub chunk : common.chunk ≡ true
  pub over : common.to_responder.transfer < size
  pub most : size ≤ common.to_responder.max
  pub short : size ≤ MAX_MESSAGE_SIZE

-- CHUNK_SEND with the first bytes of a request of this length, under the next handle.
abbrev pub first_shown : Kept → (size : ℕ) → (bytes : List ℕ) → List ℕ
first_shown k size bytes = clear_body (canonical_request (ChunkSend (record { last = false; handle = next_handle k.requester; number = 0; large = Some size; chunk = bytes })))

-- A body is the first chunk of some bytes exactly when it is that, with a length that is sent in chunks, and as many
-- bytes as a first chunk holds.
abbrev pub FirstIsShown : Type 0
FirstIsShown = (k : Kept) (body bytes : List ℕ) (size : ℕ)
    → let common = common_of k.requester in
    ((whole : List ℕ) × IsLargeRequest common whole × (first_body k whole ≡ body) × (length whole ≡ size) × (take (chunk_end common.to_responder.transfer 0) whole ≡ bytes))
    ↔ (IsLargeSize common size × (length bytes ≡ chunk_end common.to_responder.transfer 0) × (first_shown k size bytes ≡ body))

-- ---- A chunk behind it.

-- How many bytes the next chunk holds: those up to where it ends, or up to the announced length.
abbrev pub more_of : Sending → ℕ
more_of s = min (chunk_end (transfer_of s) (number_of s + 1)) s.size - length s.bytes

-- CHUNK_SEND with the next bytes.
abbrev pub piece_shown : Sending → (more : List ℕ) → List ℕ
piece_shown s more = clear_body (canonical_request (ChunkSend (record { last = is_last s (number_of s + 1); handle = handle_of s; number = number_of s + 1; large = None; chunk = more })))

-- A body is the next chunk of some bytes that may stand exactly when it is that, with so many bytes, and the bytes so
-- far are then those and these.
abbrev pub PieceIsShown : Type 0
PieceIsShown = (w : Configuration) (q : ReqSetup) (older : List (List ℕ)) (s : Sending) (body bytes : List ℕ) → IsSendingOf w q older s
    → ((whole : List ℕ) × MayStand s whole × (chunk_body s whole (number_of s + 1) ≡ body) × (take (chunk_end (transfer_of s) (number_of s + 1)) whole ≡ bytes))
    ↔ ((more : List ℕ) × (length more ≡ more_of s) × (piece_shown s more ≡ body) × (bytes ≡ s.bytes ++ more))

-- With the last chunk these are all.
abbrev pub LastIsWhole : Type 0
LastIsWhole = (w : Configuration) (q : ReqSetup) (older : List (List ℕ)) (s : Sending) (whole : List ℕ) → IsSendingOf w q older s
    → MayStand s whole → is_last s (number_of s + 1) ≡ true → take (chunk_end (transfer_of s) (number_of s + 1)) whole ≡ whole

-- ---- What a command may send.

-- Open is done by the requester, but for the length: nothing is outstanding or owed, there is a connection, and room for
-- a session; and the shortest PSK_EXCHANGE is no longer than the responder takes.
pub record CanOpen (k : Kept) : Type 0 where
  pub owed : k.owed ≡ None
  pub free : outstanding k.requester ≡ None
  pub connected : is_negotiated (phase_of k.requester) ≡ true
  pub room : (live_count k.requester == 4) ≡ false
  pub most : 12 + length k.setup.hint + hash_len (connection_terms k.requester) ≤ (common_of k.requester).to_responder.max
  pub short : 12 + length k.setup.hint + hash_len (connection_terms k.requester) ≤ MAX_MESSAGE_SIZE

-- Where some length is sent in chunks, some command may begin a large request exactly then: a context may be as long as
-- one likes.
abbrev pub OpenIsShown : Type 0
OpenIsShown = (k : Kept) (size : ℕ) → IsSetUp k.setup → IsLargeSize (common_of k.requester) size
    → ((command : Command) × (asked : RequestMessage) × MayBegin k (ByCommand command asked)) ↔ CanOpen k

-- At the values that a request shows its command sends it in chunks.
abbrev pub IsCommandedLarge : Kept → RequestMessage → Type 0
IsCommandedLarge k asked =
    (command : Command) × (k.owed ≡ None) × (command_shown asked ≡ Some command) × AreAllowed k.setup k.requester asked
    × (asks false k.setup k.requester command (values_shown asked) no_draw
    ≡ Adds (Told command (piece_sent (common_of k.requester) k.requester asked (next_handle k.requester) 0) no_draw))

-- So whole bytes are judged: they encode the request that is owed, or one that its command sends in chunks.
abbrev pub WholeIsShown : Type 0
WholeIsShown = (k : Kept) (whole : List ℕ) → IsSetUp k.setup
    → ((b : Beginning) × MayBegin k b × (whole ≡ canonical_request (asked_of b)) × MaySend k b whole)
    ↔ ((asked : RequestMessage) × (whole ≡ canonical_request asked) × (MayBegin k (ByItself asked) ⊎ IsCommandedLarge k asked))
