-- What a message in the clear asks for, and what is left of the sessions before it, where its large response was not
-- seen. This project's own.
use Rattle.std.specs.Prelude.{◌≡◌, ◌==◌, ℕ, List, slice_index, Bool, MatchBool, Option, Some, None}
use Rattle.chunking.specs.Collecting.{collected}
use Rattle.chunking.specs.Collecting.Collection.{Whole}
use Rattle.check_fetched_laws.specs.ClearSessions.{IsWithoutHandshake}
use Rattle.responder_machine.specs.Handling.{chunk_in}
use Rattle.responder_machine.specs.History.{History, negotiation_of}
use Rattle.responder_machine.specs.LargeMessages.{chunks_of}
use Rattle.responder_machine.specs.Setup.{RspSetup}
use Rattle.responder_machine.specs.Turn.{Turn}
use Rattle.spdm_grammar.specs.Message.{ChunkMessage}
use Rattle.spdm_grammar.specs.Requests.{request_in}
use Rattle.spdm_grammar.specs.declared.names.request_code.TheConstants.{PSK_EXCHANGE}
use Rattle.spdm_machine.specs.Terms.{hash_len, terms_of}

-- The chunk that it is after these turns; none where it is no chunk.
abbrev pub chunk_at : List Turn → (m : List ℕ) → Option ChunkMessage
chunk_at turns m = chunk_in (request_in (hash_len (terms_of (negotiation_of turns))) m)

-- It is PSK_EXCHANGE, or its chunk completes one.
abbrev pub IsExchangeBy : RspSetup → List Turn → (m : List ℕ) → Option ChunkMessage → (exchange : Bool) → Type 0
IsExchangeBy r turns m None exchange = exchange ≡ (slice_index m 1 == PSK_EXCHANGE)
IsExchangeBy r turns m (Some c) exchange =
    (whole : List ℕ) → collected r.max (chunks_of turns) c ≡ Whole whole → exchange ≡ (slice_index whole 1 == PSK_EXCHANGE)

-- PSK_EXCHANGE ends a handshake, and any other request leaves the sessions.
abbrev pub IsLeftIf : (exchange : Bool) → (before left : History) → Type 0
IsLeftIf exchange before left = MatchBool exchange (IsWithoutHandshake before left) (left ≡ before)
