-- What a made history holds while it grows: what each kind of entry does to it.
use Rattle.std.proofs.Common.{refl, ◌≡◌, ◌∙◌, ◌≤◌, ◌<◌, ◌%◌, ℕ, true, false, Some, sym, subst, arith}
use Rattle.std.specs.Prelude.{nat_lt, length}
use Rattle.std.proofs.lemmas.Bool.{false≢true}
use Rattle.negotiate.specs.declared.shared.Common.{Common}
use Rattle.spdm_grammar.specs.Message.{RequestMessage}
use Rattle.spdm_grammar.specs.Message.RequestMessage.{GetVersion, GetCapabilities, NegotiateAlgorithms, GetMeasurements, PskExchange}
use Rattle.spdm_grammar.specs.Requests.{canonical_request}
use Rattle.spdm_grammar.specs.declared.told.phase.Phase.{Phase}
use Rattle.spdm_grammar.specs.declared.told.phase.Phase.TheVariants.{Fresh, Versioned, Capable, Negotiated}
use Rattle.spdm_grammar.specs.declared.names.TheConstants.{MIN_DATA_TRANSFER_SIZE}
use Rattle.requester_machine.specs.Setup.{ReqSetup}
use Rattle.requester_machine.specs.Holds.{LiveAt}
use Rattle.requester_machine.specs.History.{History, phase_of, negotiation_of, negotiates, connection_terms, next_handle, larges_of}
use Rattle.requester_machine.specs.Message.{Aim, Content, Sent, asked_in}
use Rattle.requester_machine.specs.Message.Aim.{Plain, ByChunks, ForChunk, InSession}
use Rattle.requester_machine.specs.Sending.{piece_sent, plain_sent, request_sent, is_too_long}
use Rattle.requester_machine.specs.Session.{session_of}
use Rattle.requester_machine.specs.UnderWay.{HasSizes, IsAwaited, IsPiece, IsOutstanding}
use Rattle.requester_machine.proofs.ClearLeads.{tested}
use Rattle.requester_machine.proofs.Keeps.{Keeps}
use Rattle.requester_machine.proofs.Pieces.{first_piece}

-- ---- Phases.

pub from_fresh : {A : Type 0} (p : Phase) → p ≡ Fresh → p ≡ Negotiated → A
from_fresh p a b = absurd (cc)

pub from_versioned : {A : Type 0} (p : Phase) → p ≡ Versioned → p ≡ Negotiated → A
from_versioned p a b = absurd (cc)

pub from_capable : {A : Type 0} (p : Phase) → p ≡ Capable → p ≡ Negotiated → A
from_capable p a b = absurd (cc)

-- While a request of the negotiation is awaited, the phase is not Negotiated.
pub negotiating : {A : Type 0} (q : ReqSetup) (h : History) (asked : RequestMessage) → negotiates asked ≡ true → IsAwaited q h asked → phase_of h ≡ Negotiated → A
negotiating q h GetVersion is a b = from_fresh (phase_of h) a b
negotiating q h (GetCapabilities caps) is a b = from_versioned (phase_of h) a.0 b
negotiating q h (NegotiateAlgorithms offer) is a b = from_capable (phase_of h) a.0 b
negotiating q h _ is a b = absurd (false≢true is)

-- ---- Sessions.

-- The negotiation and the phase stay.
pub live_stays : (h later : History) (id : ℕ) → Keeps (session_of id h) (session_of id later) → negotiation_of later ≡ negotiation_of h → phase_of later ≡ phase_of h → LiveAt h id → LiveAt later id
live_stays h later id keeps same phase was live =
    (let k = keeps live in let w = was k.0 in (k.1 ∙ w.0 ∙ sym same, phase ∙ w.1))

-- No session was live.
pub none_live : (h later : History) (id : ℕ) → Keeps (session_of id h) (session_of id later) → (phase_of h ≡ Negotiated → ⊥) → LiveAt h id → LiveAt later id
none_live h later id keeps other was live = absurd (other (was (keeps live).0).1)

-- ---- What is outstanding.

pub awaited : (q : ReqSetup) (h : History) (content : Content) (aim : Aim) (asked : RequestMessage) → asked_in aim ≡ Some asked → IsOutstanding q h content aim → IsAwaited q h asked
awaited q h content (Plain request) asked is o = (let same : request ≡ asked = cc is in subst (λ (r : RequestMessage). IsAwaited q h r) same o.0)
awaited q h content (ByChunks request handle number) asked is o = (let same : request ≡ asked = cc is in subst (λ (r : RequestMessage). IsAwaited q h r) same o.0)
awaited q h content (ForChunk request handle number before) asked is o = (let same : request ≡ asked = cc is in subst (λ (r : RequestMessage). IsAwaited q h r) same o.0)
awaited q h content (InSession id ask) asked is o = absurd (cc is)

-- A request is awaited as before where phase, negotiation and its session stay.
pub awaited_stays : (q : ReqSetup) (h later : History) (asked : RequestMessage) → negotiation_of later ≡ negotiation_of h → phase_of later ≡ phase_of h → ((id : ℕ) → session_of id later ≡ session_of id h)
    → IsAwaited q h asked → IsAwaited q later asked
awaited_stays q h later GetVersion same phase sessions a = phase ∙ a
awaited_stays q h later (GetCapabilities caps) same phase sessions a = (phase ∙ a.0, a.1)
awaited_stays q h later (NegotiateAlgorithms offer) same phase sessions a = (phase ∙ a.0, λ s. rw same (a.1 s))
awaited_stays q h later (GetMeasurements op) same phase sessions a = phase ∙ a
awaited_stays q h later (PskExchange exchange) same phase sessions a = (phase ∙ a.0, sessions exchange.req_id ∙ rw same a.1)
awaited_stays q h later _ same phase sessions a = absurd a

one_byte : (n : ℕ) → n % 256 < 256
one_byte n = omega arith

-- A request that was sent, whole or in chunks. The history after it is determined by the message.
pub request_waits : (q : ReqSetup) (h : History) (common : Common) (asked : RequestMessage) (later : Sent → History)
    → ((x : Sent) → asked_in x.aim ≡ Some asked → IsAwaited q (later x) asked)
    → ((x : Sent) → HasSizes q → (connection_terms (later x)).common ≡ common)
    → (HasSizes q → MIN_DATA_TRANSFER_SIZE ≤ common.to_responder.transfer) → (HasSizes q → is_too_long common (canonical_request asked) ≡ false)
    → IsOutstanding q (later (request_sent common h asked)) (request_sent common h asked).content (request_sent common h asked).aim
request_waits q h common asked later here terms least short =
    tested (λ (x : Sent). IsOutstanding q (later x) x.content x.aim) (nat_lt common.to_responder.transfer (length (canonical_request asked))) (piece_sent common h asked (next_handle h) 0) (plain_sent h asked)
    (λ large. (
      here (piece_sent common h asked (next_handle h) 0) refl,
      λ s.
          subst (λ (c : Common). IsPiece c asked (next_handle h) 0 (piece_sent common h asked (next_handle h) 0).content) (sym (terms (piece_sent common h asked (next_handle h) 0) s)) (first_piece common asked (next_handle h) (one_byte (larges_of h)) (least s) (short s) large),
    ))
    (λ small. (here (plain_sent h asked) refl, refl))
