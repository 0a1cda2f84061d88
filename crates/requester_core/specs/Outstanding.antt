-- What a requester waits for, as the program represents it, read off the outstanding message.
use Rattle.std.specs.Prelude.{◌==◌, ℕ, Bool, false, Option, Some, None}
use Rattle.requester_core.specs.declared.clear.outstanding.PendingRequest.{PendingRequest}
use Rattle.requester_core.specs.declared.clear.outstanding.PendingRequest.TheVariants as asks
use Rattle.requester_core.specs.declared.clear.outstanding.TransferMode.{TransferMode}
use Rattle.requester_core.specs.declared.clear.outstanding.TransferMode.TheVariants as modes
use Rattle.requester_core.specs.declared.clear.outstanding.Outstanding.{Outstanding}
use Rattle.requester_core.specs.declared.clear.outstanding.Outstanding.TheVariants as waits
use Rattle.requester_machine.specs.Message.{Aim, Sent}
use Rattle.requester_machine.specs.Message.Aim.{ByChunks, ForChunk, InSession, Plain}
use Rattle.spdm_grammar.specs.Message.{RequestMessage}
use Rattle.spdm_grammar.specs.Message.RequestMessage.{GetCapabilities, GetMeasurements, GetVersion, NegotiateAlgorithms, PskExchange}

-- What is kept of a request in the clear. No other request is asked in the clear.
abbrev pub kind_of : RequestMessage → PendingRequest
kind_of GetVersion = asks.Version
kind_of (GetCapabilities caps) = asks.Capabilities
kind_of (NegotiateAlgorithms offer) = asks.Algorithms
kind_of (GetMeasurements op) = asks.Measurements op
kind_of (PskExchange exchange) = asks.Exchange exchange.req_id exchange.summary
kind_of _ = asks.Version

-- By what a message with this tag is sent for.
abbrev pub waiting_for : (tag : ℕ) → Aim → Outstanding
waiting_for tag (Plain asked) = waits.InClear tag (kind_of asked) modes.Whole
waiting_for tag (ByChunks asked handle number) = waits.InClear tag (kind_of asked) (modes.ByChunks
    handle number)
waiting_for tag (ForChunk asked handle number before) = waits.InClear tag (kind_of asked)
    (modes.ForChunk handle number)
waiting_for tag (InSession id ask) = waits.InSession tag id

-- By the outstanding message, if there is one.
abbrev pub waiting_of : Option Sent → Outstanding
waiting_of None = waits.Nothing
waiting_of (Some sent) = waiting_for sent.tag sent.aim

-- It is a request that is asked in the clear.
abbrev pub IsClearRequest : RequestMessage → Type 0
IsClearRequest GetVersion = Unit {0}
IsClearRequest (GetCapabilities caps) = Unit {0}
IsClearRequest (NegotiateAlgorithms offer) = Unit {0}
IsClearRequest (GetMeasurements op) = Unit {0}
IsClearRequest (PskExchange exchange) = Unit {0}
IsClearRequest _ = ⊥

-- How the request and its answer go, by what a message is sent for. A record goes whole.
abbrev pub mode_of : Aim → TransferMode
mode_of (Plain asked) = modes.Whole
mode_of (ByChunks asked handle number) = modes.ByChunks handle number
mode_of (ForChunk asked handle number before) = modes.ForChunk handle number
mode_of (InSession id ask) = modes.Whole

-- ---- The first chunk of a large request.

abbrev pub is_first_mode : TransferMode → Bool
is_first_mode modes.Whole = false
is_first_mode (modes.ByChunks handle number) = number == 0
is_first_mode (modes.ForChunk handle number) = false

-- It is outstanding.
abbrev pub is_first : Outstanding → Bool
is_first waits.Nothing = false
is_first (waits.InClear tag asked mode) = is_first_mode mode
is_first (waits.InSession tag id) = false
