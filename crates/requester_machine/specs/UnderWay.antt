-- What is in progress at a requester: the negotiation of its sessions, what it waits for, and the chunks of a large
-- message. This project's own.
use Rattle.std.specs.Prelude.{⊤, ◌≡◌, ◌≤◌, ◌<◌, ◌*◌, ℕ, List, [], ◌∷◌, length, Bool, true, false, Some, Ok}
use Rattle.chunking.specs.Collecting.{under_way, joined, told_size, accepted_of}
use Rattle.chunking.specs.Cutting.{chunk_count}
use Rattle.negotiate.specs.Capabilities.{common_of}
use Rattle.negotiate.specs.Offer.{offer_of}
use Rattle.negotiate.specs.declared.shared.Common.{Common}
use Rattle.spdm_grammar.specs.Message.{RequestMessage, ChunkMessage}
use Rattle.spdm_grammar.specs.Message.RequestMessage.{GetVersion, GetCapabilities, NegotiateAlgorithms, GetMeasurements, PskExchange, ChunkSend, ChunkGet}
use Rattle.spdm_grammar.specs.Requests.{canonical_request}
use Rattle.spdm_grammar.specs.declared.messages.capabilities.Caps.{Caps}
use Rattle.spdm_grammar.specs.declared.names.TheConstants.{MIN_DATA_TRANSFER_SIZE, MAX_MESSAGE_SIZE}
use Rattle.spdm_grammar.specs.declared.told.phase.Phase.{Phase}
use Rattle.spdm_grammar.specs.declared.told.phase.Phase.TheVariants.{Fresh, Versioned, Capable, Negotiated}
use Rattle.requester_machine.specs.Setup.{ReqSetup, requester_caps}
use Rattle.requester_machine.specs.Answers.{may_be_large}
use Rattle.requester_machine.specs.Does.{IsMade}
use Rattle.requester_machine.specs.History.{History, outstanding, phase_of, negotiation_of, connection_terms}
use Rattle.requester_machine.specs.Message.{Ask, Aim, Content, Sent}
use Rattle.requester_machine.specs.Message.Aim.{Plain, ByChunks, ForChunk, InSession}
use Rattle.requester_machine.specs.Message.Ask.{AskChunk}
use Rattle.requester_machine.specs.Message.Content.{Clear, Sealed}
use Rattle.requester_machine.specs.Records.{sealed_next}
use Rattle.requester_machine.specs.Sending.{piece_of}
use Rattle.requester_machine.specs.Session.{Steps, session_of, session_negotiation, session_terms, is_live}
use Rattle.requester_machine.specs.Session.Step.{Started, Asked}

-- ---- The sizes.

-- The sizes that the requester tells are at most 4,096, the greatest length of a message.
pub record HasSizes (q : ReqSetup) : Type 0 where
  pub transfer : q.transfer ≤ MAX_MESSAGE_SIZE
  pub max : q.max ≤ MAX_MESSAGE_SIZE

-- CAPABILITIES was taken: the phase is Capable or Negotiated.
abbrev pub is_capable : Phase → Bool
is_capable Fresh = false
is_capable Versioned = false
is_capable Capable = true
is_capable Negotiated = true

-- What both ends can do is what the told capabilities of the responder and the own ones have in common. Messages to the
-- requester have its own sizes. Messages to the responder have at least 42 bytes in one piece, no fewer in chunks, and
-- at most 4,096.
pub record IsCommon (q : ReqSetup) (common : Common) : Type 0 where
  pub theirs : Caps
  pub shared : common_of (requester_caps q) theirs ≡ Ok common
  pub transfer : common.to_requester.transfer ≡ q.transfer
  pub max : common.to_requester.max ≡ q.max
  pub least : MIN_DATA_TRANSFER_SIZE ≤ q.transfer
  pub ordered : q.transfer ≤ q.max
  pub their_least : MIN_DATA_TRANSFER_SIZE ≤ common.to_responder.transfer
  pub their_ordered : common.to_responder.transfer ≤ common.to_responder.max
  pub their_most : common.to_responder.max ≤ MAX_MESSAGE_SIZE

-- In a made history it is so from CAPABILITIES on,
abbrev pub SizesAreSetUp : Type 0
SizesAreSetUp = (q : ReqSetup) (h : History) → HasSizes q → IsMade q h → is_capable (phase_of h) ≡ true → IsCommon q (connection_terms h).common

-- and for each live session.
abbrev pub SessionSizesAreSetUp : Type 0
SessionSizesAreSetUp = (q : ReqSetup) (h : History) (id : ℕ) → HasSizes q → IsMade q h → is_live (session_of id h) ≡ true → IsCommon q (session_terms (session_of id h)).common

-- ---- The negotiation.

-- In a made history each live session is under the negotiation as it stands, and the phase is Negotiated while one is
-- live.
abbrev pub LiveIsUnderNegotiation : Type 0
LiveIsUnderNegotiation = (q : ReqSetup) (h : History) (id : ℕ) → IsMade q h → is_live (session_of id h) ≡ true
    → (session_negotiation (session_of id h) ≡ negotiation_of h) × (phase_of h ≡ Negotiated)

-- ---- Chunks.

-- The chunks, the newest first, have this handle, and the numbers 0, 1 and so on without a gap.
abbrev pub AreNumbered : (handle : ℕ) → List ChunkMessage → Type 0
AreNumbered handle [] = ⊤
AreNumbered handle (c ∷ earlier) = (c.handle ≡ handle) × (c.number ≡ length earlier) × AreNumbered handle earlier

-- They hold less than the first of them tells; where there are none, nothing is told.
abbrev pub AreUnfinished : List ChunkMessage → Type 0
AreUnfinished [] = ⊤
AreUnfinished (c ∷ earlier) = length (joined (c ∷ earlier)) < told_size (c ∷ earlier)

-- The chunks of a large response before the one of this number, the newest first: a collector that was given them
-- accepted all, all are in progress, and the number is their count. No chunk of a number above 157 is asked for.
pub record AreUnderWay (max handle number : ℕ) (before : List ChunkMessage) : Type 0 where
  pub accepted : accepted_of max before ≡ before
  pub whole : under_way before ≡ before
  pub numbered : AreNumbered handle before
  pub counted : length before ≡ number
  pub unfinished : AreUnfinished before
  pub told : told_size before ≤ MAX_MESSAGE_SIZE
  pub held : 26 * number ≤ length (joined before)
  pub few : number ≤ 157

-- ---- What is outstanding.

-- What the history is while an answer to a clear request is awaited: its phase; what a request of the negotiation was
-- made of; and for PSK_EXCHANGE the session that it began.
abbrev pub IsAwaited : ReqSetup → History → RequestMessage → Type 0
IsAwaited q h GetVersion = phase_of h ≡ Fresh
IsAwaited q h (GetCapabilities caps) = (phase_of h ≡ Versioned) × (caps ≡ requester_caps q)
IsAwaited q h (NegotiateAlgorithms offer) = (phase_of h ≡ Capable) × (HasSizes q → offer_of q.suites (connection_terms h).common.to_responder.transfer ≡ Some offer)
IsAwaited q h (GetMeasurements op) = phase_of h ≡ Negotiated
IsAwaited q h (PskExchange exchange) = (phase_of h ≡ Negotiated) × (session_of exchange.req_id h ≡ Started (negotiation_of h) (canonical_request (PskExchange exchange)) ∷ [])
IsAwaited q h _ = ⊥

-- A message is CHUNK_SEND of the chunk of this number of a request, which has one of this number, under a handle of one
-- byte. The request is sent in chunks since it is over the responder's transfer size, and it is within its max size.
pub record IsPiece (common : Common) (asked : RequestMessage) (handle number : ℕ) (content : Content) : Type 0 where
  pub is : content ≡ Clear (canonical_request (ChunkSend (piece_of common asked handle number)))
  pub chunks : common.chunk ≡ true
  pub one_byte : handle < 256
  pub large : common.to_responder.transfer < length (canonical_request asked)
  pub short : length (canonical_request asked) ≤ common.to_responder.max
  pub within : number < chunk_count common.to_responder.transfer (canonical_request asked)

-- A message is the record that the newest step of the session sealed, after an older step.
pub record IsSealed (q : ReqSetup) (h : History) (id : ℕ) (ask : Ask) (content : Content) : Type 0 where
  pub older : Steps
  pub inner : List ℕ
  pub sealed : List ℕ
  pub pad : List ℕ
  pub live : is_live older ≡ true
  pub steps : session_of id h ≡ Asked ask inner sealed ∷ older
  pub content_is : content ≡ Sealed sealed inner pad
  pub sealed_is : sealed ≡ sealed_next q.psk older inner pad

-- The chunks that an ask of a session follows.
abbrev pub AreBehind : ReqSetup → Ask → Type 0
AreBehind q (AskChunk op handle number before) = AreUnderWay q.max handle number before
AreBehind q _ = ⊤

-- A message as it is outstanding, by what it asks for: the canonical encoding of the request; the chunk of its number
-- of that encoding, where the sizes are within their limits; CHUNK_GET after the chunks in progress; or the record that
-- its session sealed.
abbrev pub IsOutstanding : ReqSetup → History → Content → Aim → Type 0
IsOutstanding q h content (Plain asked) = IsAwaited q h asked × (content ≡ Clear (canonical_request asked))
IsOutstanding q h content (ByChunks asked handle number) = IsAwaited q h asked × (HasSizes q → IsPiece (connection_terms h).common asked handle number content)
IsOutstanding q h content (ForChunk asked handle number before) =
    IsAwaited q h asked × (may_be_large asked ≡ true) × (content ≡ Clear (canonical_request (ChunkGet handle number))) × AreUnderWay q.max handle number before
IsOutstanding q h content (InSession id ask) = IsSealed q h id ask content × AreBehind q ask

-- In a made history the outstanding message is such a one.
abbrev pub ChunksAreUnderWay : Type 0
ChunksAreUnderWay = (q : ReqSetup) (h : History) (sent : Sent) → IsMade q h → outstanding h ≡ Some sent → IsOutstanding q h sent.content sent.aim
