-- What is outstanding, by what is kept of it.
use Rattle.std.proofs.Common.{refl, ◌≡◌, ◌∙◌, ℕ, List, true, false, Option, Some, None, ap, sym, subst}
use Rattle.std.proofs.lemmas.Bool.{false≢true}
use Rattle.negotiate.specs.declared.shared.Common.{Common}
use Rattle.requester_machine.specs.Holds.{Holds, Waits}
use Rattle.requester_machine.specs.Asking.{asks, asks_by, resent}
use Rattle.requester_machine.specs.Asking.Outcome.{Fails, Resends}
use Rattle.requester_machine.specs.Commands.{Free, command_fault}
use Rattle.requester_machine.specs.History.{History, connection_terms, negotiation_of, outstanding}
use Rattle.requester_machine.specs.Message.{Aim, Content, Sent, asked_in}
use Rattle.requester_machine.specs.Message.Aim.{ByChunks, ForChunk, InSession, Plain}
use Rattle.requester_machine.specs.Message.Command.{Retry}
use Rattle.requester_machine.specs.Message.Content.{Clear}
use Rattle.requester_machine.specs.Setup.{ReqSetup}
use Rattle.requester_machine.specs.UnderWay.{HasSizes, IsAwaited, IsOutstanding, is_capable}
use Rattle.spdm_grammar.specs.Message.{RequestMessage}
use Rattle.spdm_grammar.specs.Message.RequestMessage.{GetCapabilities, GetMeasurements, GetVersion, NegotiateAlgorithms, PskExchange}
use Rattle.spdm_grammar.specs.Reading.{field_at, number_at}
use Rattle.spdm_grammar.specs.Requests.{canonical_request}
use Rattle.spdm_grammar.specs.declared.told.command_fault.CommandFault.TheVariants as fault
use Rattle.spdm_machine.specs.Keys.{Draw}
use Rattle.spdm_machine.specs.Terms.{no_common, no_negotiation, terms_of}
use Rattle.transcript.specs.Transcripts.{Negotiation}
use Rattle.requester_core.specs.Commands.{IsOfSession}
use Rattle.requester_core.specs.Negotiating.{IsUpTo, IsUpToAsked, IsUpToSent}
use Rattle.requester_core.specs.Outgoing.{IsCut, IsKept, IsKeptOf, message_for}
use Rattle.requester_core.specs.Outstanding.{kind_of, waiting_for, waiting_of, mode_of}
use Rattle.requester_core.specs.declared.clear.outstanding.PendingRequest.{PendingRequest}
use Rattle.requester_core.specs.declared.clear.outstanding.TransferMode.{TransferMode}
use Rattle.requester_core.specs.declared.clear.outstanding.Outstanding.TheVariants as waits
use Rattle.requester_core.proofs.Started.{HasRoom, common_room}

-- ---- Read back.

-- A request in the clear is outstanding.
pub record InClearOf (o : Option Sent) (tag : ℕ) (asked : PendingRequest) (mode : TransferMode) : Type 0 where
  pub sent : Sent
  pub is : o ≡ Some sent
  pub tag_is : sent.tag ≡ tag
  pub request : RequestMessage
  pub asks : asked_in sent.aim ≡ Some request
  pub kind : kind_of request ≡ asked
  pub way_is : mode_of sent.aim ≡ mode

in_aim : (sent : Sent) (aim : Aim) (tag : ℕ) (asked : PendingRequest) (mode : TransferMode) → sent.aim ≡ aim → waits.InClear tag asked mode ≡ waiting_for sent.tag aim → InClearOf (Some sent) tag asked mode
in_aim sent (Plain request) tag asked mode aims e = record { sent = sent; is = refl; tag_is = cc e; request = request; asks = ap asked_in aims; kind = cc e; way_is = ap mode_of aims ∙ (cc e) }
in_aim sent (ByChunks request handle number) tag asked mode aims e = record { sent = sent; is = refl; tag_is = cc e; request = request; asks = ap asked_in aims; kind = cc e; way_is = ap mode_of aims ∙ (cc e) }
in_aim sent (ForChunk request handle number before) tag asked mode aims e = record { sent = sent; is = refl; tag_is = cc e; request = request; asks = ap asked_in aims; kind = cc e; way_is = ap mode_of aims ∙ (cc e) }
in_aim sent (InSession id ask) tag asked mode aims e = absurd (cc e)

pub in_clear : (o : Option Sent) (tag : ℕ) (asked : PendingRequest) (mode : TransferMode) → waits.InClear tag asked mode ≡ waiting_of o → InClearOf o tag asked mode
in_clear None tag asked mode e = absurd (cc e)
in_clear (Some sent) tag asked mode e = in_aim sent sent.aim tag asked mode refl e

nothing_aim : {A : Type 0} (tag : ℕ) (aim : Aim) → waits.Nothing ≡ waiting_for tag aim → A
nothing_aim tag (Plain request) e = absurd (cc e)
nothing_aim tag (ByChunks request handle number) e = absurd (cc e)
nothing_aim tag (ForChunk request handle number before) e = absurd (cc e)
nothing_aim tag (InSession id ask) e = absurd (cc e)

pub nothing_waits : (o : Option Sent) → waits.Nothing ≡ waiting_of o → o ≡ None
nothing_waits None e = refl
nothing_waits (Some sent) e = nothing_aim sent.tag sent.aim e

-- A record of a session is outstanding.
pub record InSessionOf (o : Option Sent) (tag id : ℕ) : Type 0 where
  pub sent : Sent
  pub is : o ≡ Some sent
  pub tag_is : sent.tag ≡ tag
  pub of : IsOfSession id sent

session_aim : (sent : Sent) (aim : Aim) (tag id : ℕ) → sent.aim ≡ aim → waits.InSession tag id ≡ waiting_for sent.tag aim → InSessionOf (Some sent) tag id
session_aim sent (Plain request) tag id aims e = absurd (cc e)
session_aim sent (ByChunks request handle number) tag id aims e = absurd (cc e)
session_aim sent (ForChunk request handle number before) tag id aims e = absurd (cc e)
session_aim sent (InSession of ask) tag id aims e = (let same : of ≡ id = cc e in record { sent = sent; is = refl; tag_is = cc e; of = (ask, aims ∙ ap (λ (n : ℕ). InSession n ask) same) })

pub in_session : (o : Option Sent) (tag id : ℕ) → waits.InSession tag id ≡ waiting_of o → InSessionOf o tag id
in_session None tag id e = absurd (cc e)
in_session (Some sent) tag id e = session_aim sent sent.aim tag id refl e

-- ---- Retry.

none_fault : (q : ReqSetup) (h : History) (f : Free) → outstanding h ≡ None → command_fault false q h Retry f ≡ Some fault.NothingToRetry
unfolding command_fault
none_fault q h f e = rw e refl

some_fault : (q : ReqSetup) (h : History) (f : Free) (sent : Sent) → outstanding h ≡ Some sent → command_fault false q h Retry f ≡ None
unfolding command_fault
some_fault q h f sent e = rw e refl

pub nothing_again : (q : ReqSetup) (h : History) (f : Free) (d : Draw) → outstanding h ≡ None → asks false q h Retry f d ≡ Fails fault.NothingToRetry
unfolding asks
nothing_again q h f d e = ap (asks_by q h Retry f d) (none_fault q h f e)

pub again : (q : ReqSetup) (h : History) (f : Free) (d : Draw) (sent : Sent) → outstanding h ≡ Some sent → asks false q h Retry f d ≡ Resends sent
unfolding asks
again q h f d sent e = ap (asks_by q h Retry f d) (some_fault q h f sent e) ∙ ap resent e

-- ---- What goes by chunks.

caps_unsettled : (n : Negotiation) → n ≡ record no_negotiation { get_version = n.get_version; version = n.version } → (terms_of n).common ≡ no_common
unfolding terms_of number_at field_at
caps_unsettled n e = ap (λ (x : Negotiation). (terms_of x).common) e

none_unsettled : (n : Negotiation) → n ≡ no_negotiation → (terms_of n).common ≡ no_common
unfolding terms_of number_at field_at
none_unsettled n e = ap (λ (x : Negotiation). (terms_of x).common) e

no_chunks : {A : Type 0} (common : Common) → common ≡ no_common → common.chunk ≡ true → A
no_chunks common none chunks = absurd (false≢true (sym (ap (λ (c : Common). c.chunk) none) ∙ chunks))

-- The responder told its sizes where a request is sent in chunks.
pub chunks_room : (q : ReqSetup) (h : History) (request : RequestMessage) → HasSizes q → Holds q h → IsAwaited q h request → IsUpTo request (negotiation_of h) → (connection_terms h).common.chunk ≡ true → HasRoom (connection_terms h).common
chunks_room q h GetVersion sizes holds a up chunks = no_chunks (connection_terms h).common (none_unsettled (negotiation_of h) up) chunks
chunks_room q h (GetCapabilities caps) sizes holds a up chunks = no_chunks (connection_terms h).common (caps_unsettled (negotiation_of h) up) chunks
chunks_room q h (NegotiateAlgorithms offer) sizes holds a up chunks = common_room q (connection_terms h).common (holds.known sizes (ap is_capable a.0))
chunks_room q h (GetMeasurements op) sizes holds a up chunks = common_room q (connection_terms h).common (holds.known sizes (ap is_capable a))
chunks_room q h (PskExchange exchange) sizes holds a up chunks = common_room q (connection_terms h).common (holds.known sizes (ap is_capable a.0))
chunks_room q h _ sizes holds a up chunks = absurd a

-- The outstanding message in the clear, by what is kept of it.
abbrev IsWritten : History → RequestMessage → TransferMode → Content → Type 0
IsWritten h request mode content =
    (content ≡ Clear (message_for mode (connection_terms h).common.to_responder.transfer (canonical_request request)))
    × IsCut mode (connection_terms h).common.to_responder.transfer (canonical_request request)

written_as : (q : ReqSetup) (h : History) (content : Content) (aim : Aim) (request : RequestMessage) → HasSizes q → Holds q h → IsUpTo request (negotiation_of h) → asked_in aim ≡ Some request → IsOutstanding q h content aim
    → IsWritten h request (mode_of aim) content
written_as q h content (Plain r) request sizes holds up asks out = (let same : r ≡ request = cc asks in (subst (λ (x : RequestMessage). content ≡ Clear (canonical_request x)) same out.1, tt))
written_as q h content (ByChunks r handle number) request sizes holds up asks out =
    (let same : r ≡ request = cc asks in
    let now = subst (λ (x : RequestMessage). IsOutstanding q h content (ByChunks x handle number)) same out in
    let piece = now.1 sizes in
    let room = chunks_room q h request sizes holds now.0 up piece.chunks in
    (piece.is, (room.least, room.most, piece.within)))
written_as q h content (ForChunk r handle number before) request sizes holds up asks out = (out.2, tt)
written_as q h content (InSession id ask) request sizes holds up asks out = absurd (cc asks)

pub written : (q : ReqSetup) (h : History) (tag : ℕ) (asked : PendingRequest) (mode : TransferMode) → HasSizes q → Holds q h → IsUpToSent (outstanding h) (negotiation_of h) → (c : InClearOf (outstanding h) tag asked mode) → IsWritten h c.request mode c.sent.content
written q h tag asked mode sizes holds up c =
    subst (λ (w : TransferMode). IsWritten h c.request w c.sent.content) c.way_is
    (written_as q h c.sent.content c.sent.aim c.request sizes holds
    (subst (λ (a : Option RequestMessage). IsUpToAsked a (negotiation_of h)) c.asks (subst (λ (w : Option Sent). IsUpToSent w (negotiation_of h)) c.is up))
    c.asks (subst (Waits q h) c.is holds.waits))

-- The kept bytes are those of the request.
pub kept_request : (o : Option Sent) (tag : ℕ) (asked : PendingRequest) (mode : TransferMode) (bytes : List ℕ) → (c : InClearOf o tag asked mode) → IsKeptOf o bytes → bytes ≡ canonical_request c.request
kept_request o tag asked mode bytes c keeps = subst (λ (a : Option RequestMessage). IsKept a bytes) c.asks (subst (λ (w : Option Sent). IsKeptOf w bytes) c.is keeps)
