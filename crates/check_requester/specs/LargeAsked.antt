-- What the program tells of a body that may begin a large request, and of the bytes with which one ends. This project's
-- own.
use Rattle.std.specs.Prelude.{◌≡◌, ◌≤◌, ◌<◌, ◌+◌, ◌==◌, ◌&&◌, ◌||◌, nat_le, drop, if◌then◌else◌, ℕ, List, ◌∷◌, length, take, Bool, true, false, Option, Some, None}
use Rattle.requester_core.specs.Joined.{StandsFor}
use Rattle.requester_core.specs.declared.joined.RequesterCore.{RequesterCore}
use Rattle.chunking.specs.Cutting.{chunk_end, nth_chunk}
use Rattle.requester_machine.specs.Asking.{asks}
use Rattle.requester_machine.specs.Asking.Outcome.{Adds}
use Rattle.requester_machine.specs.Commands.{exchange_for, is_negotiated, live_count}
use Rattle.requester_machine.specs.History.{History, connection_terms, next_handle, outstanding, phase_of}
use Rattle.requester_machine.specs.History.Entry.{Told}
use Rattle.requester_machine.specs.May.{IsAllowed}
use Rattle.requester_machine.specs.Message.{Sent}
use Rattle.requester_machine.specs.Message.Aim.{ByChunks}
use Rattle.requester_machine.specs.Message.Command.{Connect, Open}
use Rattle.requester_machine.specs.Named.{session_named}
use Rattle.requester_machine.specs.Sending.{piece_sent}
use Rattle.requester_machine.specs.Setup.{ReqSetup}
use Rattle.requester_machine.specs.UnderWay.{HasSizes}
use Rattle.spdm_grammar.specs.Message.{ExchangeMessage, RequestMessage}
use Rattle.spdm_grammar.specs.Message.RequestMessage.{ChunkSend, GetVersion, PskExchange}
use Rattle.spdm_grammar.specs.Requests.{canonical_request}
use Rattle.spdm_grammar.specs.declared.told.command_fault.CommandFault.{CommandFault}
use Rattle.spdm_grammar.specs.declared.told.command_fault.CommandFault.TheVariants as fault
use Rattle.spdm_grammar.specs.declared.names.TheConstants.{MAX_MESSAGE_SIZE, MAX_SESSIONS}
use Rattle.spdm_machine.specs.Bodies.{clear_body}
use Rattle.spdm_machine.specs.Packets.{body_type}
use Rattle.spdm_machine.specs.Terms.{hash_len}
use Rattle.check_requester.specs.JudgedRequester.{IsAsker}
use Rattle.check_requester.specs.Commanded.{values_in}
use Rattle.check_requester.specs.declared.judged_requester.JudgedRequester.{JudgedRequester}
use Rattle.check_laws.specs.Keeping.{Kept}
use Rattle.check_laws.specs.Large.LargeRequests as large_requests
use Rattle.check_laws.specs.Large.Sending.{Ack, Beginning, MayBegin, MaySend, MayStand, Sending, asked_of, behind, number_in, requester_of}
use Rattle.check_laws.specs.Large.SendingLaws.{begun_sending, first_body, without_due}
use Rattle.check_laws.specs.declared.sending_large.large_request.LargeRequest.{LargeRequest}
use Rattle.capture_machine.specs.CapturedRequests.{Tells}
use Rattle.capture_machine.specs.Difference.{Why}
use Rattle.capture_machine.specs.Difference.Why.{BadRecord, BadRequest}
use Rattle.capture_machine.specs.LargeRequests.{IsLargeRequest, common_of}
use Rattle.capture_machine.specs.Opening.{opens_asking}
use Rattle.capture_machine.specs.Rounds.{no_draw}
use Rattle.spdm_grammar.specs.declared.names.message_type.TheConstants.{SPDM}

-- ---- Whether one may be begun by a command.

-- A command that was refused so has all else that it needs: it is refused for its kind of summary.
abbrev pub is_refused_late : CommandFault → Bool
is_refused_late fault.NotNegotiated = true
is_refused_late fault.BadSummary = true
is_refused_late _ = false

-- Nothing is outstanding, there is a connection, and room for a session.
pub record HasRoom (h : History) : Type 0 where
  pub free : outstanding h ≡ None
  pub connected : is_negotiated (phase_of h) ≡ true
  pub room : (live_count h == MAX_SESSIONS) ≡ false

-- The length of the shortest PSK_EXCHANGE, and whether it is no longer than the responder takes.
abbrev pub least_length : ReqSetup → History → ℕ
least_length q h = 12 + length q.hint + hash_len (connection_terms h)

abbrev pub is_least_short : ReqSetup → History → Bool
is_least_short q h = nat_le (least_length q h) (common_of h).to_responder.max && nat_le (least_length q h) MAX_MESSAGE_SIZE

-- ---- The first chunk.

-- A body begins a large request: one may be begun there, and it is the first chunk of one; then that stands for what it
-- begins, under any tag. Or it begins none.
abbrev pub IsBegun : Kept → (body : List ℕ) → Option LargeRequest → Type 0
IsBegun k body (Some large) =
    ((b : Beginning) × MayBegin k b)
    × ((whole : List ℕ) × IsLargeRequest (common_of k.requester) whole × (first_body k whole ≡ body)
    × ((tag : ℕ) → large_requests.StandsFor large (begun_sending k tag body whole)))
IsBegun k body None = (b : Beginning) (whole : List ℕ) → MayBegin k b → IsLargeRequest (common_of k.requester) whole → first_body k whole ≡ body → ⊥

-- ---- The chunks behind it.

-- The body of the chunk of this number of a request, cut for the responder.
abbrev pub cut_body : History → (handle : ℕ) → (whole : List ℕ) → (number : ℕ) → List ℕ
cut_body h handle whole number = clear_body (canonical_request (ChunkSend (nth_chunk (common_of h).to_responder.transfer handle whole number)))

-- The first chunk of this request is outstanding, and in `room`.
pub record IsFirstOut (asking : RequesterCore) (room : List ℕ) (q : ReqSetup) (h : History) (asked : RequestMessage) (handle : ℕ) : Type 0 where
  pub sizes : HasSizes q
  pub wide : 12 < (common_of h).to_responder.transfer
  pub short : length (canonical_request asked) ≤ MAX_MESSAGE_SIZE
  pub sent : Sent
  pub out : outstanding h ≡ Some sent
  pub aim : sent.aim ≡ ByChunks asked handle 0
  pub body : room ≡ cut_body h handle (canonical_request asked) 0
  pub stands : StandsFor asking q h

-- The first bytes of a request, up to the end of its chunk of this number, are so many, and those of others.
abbrev pub IsHeldTo : History → (request whole : List ℕ) → (number at : ℕ) → Type 0
IsHeldTo h request whole number at =
    (at ≡ length (take (chunk_end (common_of h).to_responder.transfer number) request))
    × (take at whole ≡ take (chunk_end (common_of h).to_responder.transfer number) request)

-- The request is these bytes, and after as many acknowledgements, whatever they were, the requester has this history;
-- or the request is none of these bytes.
abbrev pub IsCarried : ReqSetup → History → RequestMessage → (handle : ℕ) → (whole : List ℕ) → (count : ℕ) → Bool → (new : RequesterCore) → Type 0
IsCarried q h asked handle whole count true new =
    (whole ≡ canonical_request asked) × ((acks : List Ack) → number_in acks ≡ count → StandsFor new q (behind asked whole handle acks h))
IsCarried q h asked handle whole count false new = whole ≡ canonical_request asked → ⊥

-- ---- The end.

-- Open sends in chunks at the values in these fields, which are allowed: its first chunk is outstanding, and in `room`.
abbrev pub IsOpenedLarge : ReqSetup → History → ExchangeMessage → Bool → (new : RequesterCore) → (room : List ℕ) → Type 0
IsOpenedLarge q h exchange true new room =
    let asked = exchange_for q (values_in exchange) exchange.summary in
    let sent = piece_sent (common_of h) h asked (next_handle h) 0 in
    IsAllowed q h (values_in exchange)
    × (asks false q h (Open exchange.summary) (values_in exchange) no_draw ≡ Adds (Told (Open exchange.summary) sent no_draw))
    × StandsFor new q (Told (Open exchange.summary) sent no_draw ∷ h)
    × (room ≡ cut_body h (next_handle h) (canonical_request asked) 0)
IsOpenedLarge q h exchange false new room =
    IsAllowed q h (values_in exchange)
    → asks false q h (Open exchange.summary) (values_in exchange) no_draw
    ≡ Adds (Told (Open exchange.summary) (piece_sent (common_of h) h (PskExchange exchange) (next_handle h) 0) no_draw) → ⊥

-- The PSK_EXCHANGE that a request is.
abbrev pub exchange_of : RequestMessage → Option ExchangeMessage
exchange_of (PskExchange exchange) = Some exchange
exchange_of _ = None

-- The one that is read.
abbrev pub exchange_shown : Option RequestMessage → Option ExchangeMessage
exchange_shown None = None
exchange_shown (Some asked) = exchange_of asked

-- The large request ends with these bytes, and the requester then has such a history.
abbrev pub IsEnded : ReqSetup → Sending → (whole : List ℕ) → Bool → (new : JudgedRequester) → Type 0
IsEnded q s whole true new =
    (b : Beginning) × MayBegin s.before b
    × (whole ≡ canonical_request (asked_of b))
    × MaySend s.before b whole
    × IsAsker new q (record s.before { requester = requester_of s b whole; owed = None })
IsEnded q s whole false new =
    (b : Beginning) → MayBegin s.before b → whole ≡ canonical_request (asked_of b) → MaySend s.before b whole → ⊥

-- GET_VERSION ends it, and the requester then has such a history.
pub record IsConnectedOver (q : ReqSetup) (s : Sending) (new : JudgedRequester) : Type 0 where
  pub beginning : Beginning
  pub whole : List ℕ
  pub after : History
  pub may : MayBegin s.before beginning
  pub stands : MayStand s whole
  pub tells : Tells s.before.setup (without_due s beginning whole) Connect (clear_body (canonical_request GetVersion)) after
  pub asker : IsAsker new q (record s.before { requester = after; owed = None })

-- ---- Why a request is refused.

-- Whatever it is, and whatever its verify data are.
abbrev pub refused_why : ReqSetup → History → (body : List ℕ) → Why
refused_why q h body =
    if body_type body == SPDM || opens_asking q (session_named h (drop 1 body)) (drop 1 body) then BadRequest
    else BadRecord
