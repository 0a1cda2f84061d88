-- What a requester was told and took, and what of it is counted for the whole connection.
use Rattle.std.specs.Prelude.{◌+◌, ◌%◌, ◌==◌, ◌&&◌, ◌||◌, not, ℕ, List, [], ◌∷◌, if◌then◌else◌, Bool, true, false, Option, Some, None, is_some}
use Rattle.spdm_grammar.specs.Message.{RequestMessage}
use Rattle.spdm_grammar.specs.Message.RequestMessage.{GetVersion, GetCapabilities, NegotiateAlgorithms}
use Rattle.spdm_grammar.specs.Requests.{canonical_request}
use Rattle.spdm_grammar.specs.declared.told.event.Event.{Event}
use Rattle.spdm_grammar.specs.declared.told.phase.Phase.{Phase}
use Rattle.spdm_grammar.specs.declared.told.phase.Phase.TheVariants.{Fresh, Versioned, Capable, Negotiated}
use Rattle.spdm_machine.specs.Keys.{Draw}
use Rattle.requester_machine.specs.Setup.{ReqSetup}
use Rattle.spdm_machine.specs.Terms.{Terms, no_negotiation, terms_of}
use Rattle.transcript.specs.Transcripts.{Negotiation}
use Rattle.requester_machine.specs.Message.{Command, Ask, Aim, Sent}
use Rattle.requester_machine.specs.Message.Aim.{Plain, ByChunks, ForChunk, InSession}
use Rattle.requester_machine.specs.Message.Command.{Connect, Open, Send, Beat, Update, Measure, End, Retry}

-- What a message that was taken brought about. Nothing that counts: a chunk or its acknowledgement, a LargeResponse, or
-- an ERROR in a record, which the session outlives. A clear request has its whole answer, or was refused with an ERROR;
-- the negotiation stops. An ask of a session has its whole answer (application data without its type); the session is
-- lost.
pub data Effect : Type 0 where
  Nothing : Effect
  Answers : (asked : RequestMessage) → (answer : List ℕ) → Effect
  Refuses : (asked : RequestMessage) → Effect
  Stops : Effect
  Grants : (ask : Ask) → (answer : List ℕ) → Effect
  Loses : Effect

-- What a message that was taken led to: what is reported of it, what it brought about, and the message that is sent
-- next, if one is.
pub record Led : Type 0 where
  pub event : Event
  pub effect : Effect
  pub next : Option Sent

-- A command that was done, with the message that it sent; a clear message that was taken, with its tag; a record that
-- was taken, with its tag, the ReqSessionID of its session and its inner message. Each stands with the draw that stood
-- next. What is ignored or warned of, a command with a fault and Retry are no entries.
pub data Entry : Type 0 where
  Told : (command : Command) → (sent : Sent) → (draw : Draw) → Entry
  TookClear : (tag : ℕ) → (message : List ℕ) → (led : Led) → (draw : Draw) → Entry
  TookRecord : (tag : ℕ) → (id : ℕ) → (sealed : List ℕ) → (inner : List ℕ) → (led : Led) → (draw : Draw) → Entry

-- All that was told and taken, from the first moment on. In every list of entries the newest stands first.
abbrev pub History : Type 0
History = List Entry

-- ---- Messages sent.

-- The message that an entry sent.
abbrev pub sent_in : Entry → Option Sent
sent_in (Told command sent d) = Some sent
sent_in (TookClear tag m led d) = led.next
sent_in (TookRecord tag id sealed inner led d) = led.next

-- The outstanding request: what the newest entry sent. At most one is outstanding.
abbrev pub outstanding : History → Option Sent
outstanding [] = None
outstanding (e ∷ older) = sent_in e

-- How many messages were sent.
abbrev pub sent_count : History → ℕ
sent_count [] = 0
sent_count (e ∷ older) = if is_some (sent_in e) then sent_count older + 1 else sent_count older

-- The message tag of the next message: tags count modulo 8 from 0, and are never set back.
abbrev pub next_tag : History → ℕ
next_tag h = sent_count h % 8

-- The message begins a large request.
abbrev pub begins_large : Aim → Bool
begins_large (Plain asked) = false
begins_large (ByChunks asked handle number) = number == 0
begins_large (ForChunk asked handle number before) = false
begins_large (InSession id ask) = false

-- A message was sent, and it begins a large request.
abbrev pub is_first_chunk : Option Sent → Bool
is_first_chunk None = false
is_first_chunk (Some sent) = begins_large sent.aim

-- How many large requests were begun.
abbrev pub larges_of : History → ℕ
larges_of [] = 0
larges_of (e ∷ older) = if is_first_chunk (sent_in e) then larges_of older + 1 else larges_of older

-- The handle of the next large request: handles count modulo 256 from 0, and are never set back.
abbrev pub next_handle : History → ℕ
next_handle h = larges_of h % 256

-- ---- The negotiation.

-- The command is Connect.
abbrev pub is_connect : Command → Bool
is_connect Connect = true
is_connect _ = false

-- A request of the negotiation.
abbrev pub negotiates : RequestMessage → Bool
negotiates GetVersion = true
negotiates (GetCapabilities caps) = true
negotiates (NegotiateAlgorithms offer) = true
negotiates _ = false

-- An exchange of the negotiation counts when its answer was taken; a refused one and a stop begin anew (DSP0274,
-- "Message exchanges").
abbrev pub phase_after : Effect → Phase → Phase
phase_after Nothing phase = phase
phase_after (Answers GetVersion answer) phase = Versioned
phase_after (Answers (GetCapabilities caps) answer) phase = Capable
phase_after (Answers (NegotiateAlgorithms offer) answer) phase = Negotiated
phase_after (Answers _ answer) phase = phase
phase_after (Refuses asked) phase = if negotiates asked then Fresh else phase
phase_after Stops phase = Fresh
phase_after (Grants ask answer) phase = phase
phase_after Loses phase = phase

-- The phase of the connection: Connect starts over, each clear message taken counts, and no record does.
abbrev pub phase_of : History → Phase
phase_of [] = Fresh
phase_of (Told command sent d ∷ older) = if is_connect command then Fresh else phase_of older
phase_of (TookClear tag m led d ∷ older) = phase_after led.effect (phase_of older)
phase_of (TookRecord tag id sealed inner led d ∷ older) = phase_of older

-- The six messages since the last Connect, each whole, two more with each exchange that counts.
abbrev pub negotiation_after : Effect → Negotiation → Negotiation
negotiation_after (Answers GetVersion answer) n = record n { get_version = canonical_request GetVersion; version = answer }
negotiation_after (Answers (GetCapabilities caps) answer) n = record n { get_capabilities = canonical_request (GetCapabilities caps); capabilities = answer }
negotiation_after (Answers (NegotiateAlgorithms offer) answer) n = record n { negotiate_algorithms = canonical_request (NegotiateAlgorithms offer); algorithms = answer }
negotiation_after _ n = n

-- The negotiation as it stands: Connect starts over, each clear message taken counts, and no record does.
abbrev pub negotiation_of : History → Negotiation
negotiation_of [] = no_negotiation
negotiation_of (Told command sent d ∷ older) = if is_connect command then no_negotiation else negotiation_of older
negotiation_of (TookClear tag m led d ∷ older) = negotiation_after led.effect (negotiation_of older)
negotiation_of (TookRecord tag id sealed inner led d ∷ older) = negotiation_of older

-- What was settled: the same function of the messages as at the responder.
abbrev pub connection_terms : History → Terms
connection_terms h = terms_of (negotiation_of h)

-- ---- Draws.

-- The command asks something of a session, in a record.
abbrev pub asks_session : Command → Bool
asks_session Connect = false
asks_session (Open summary) = false
asks_session (Send id bytes) = true
asks_session (Beat id) = true
asks_session (Update id all) = true
asks_session (Measure None op) = false
asks_session (Measure (Some id) op) = true
asks_session (End id) = true
asks_session Retry = false

-- The command is Open.
abbrev pub is_open : Command → Bool
is_open (Open summary) = true
is_open _ = false

-- A draw is taken for the context of PSK_EXCHANGE, and for the padding of what is asked of a session, where records are
-- padded.
abbrev pub takes_draw : ReqSetup → Command → Bool
takes_draw q command = is_open command || (asks_session command && not (q.pad == 0))

-- How many draws were taken.
abbrev pub draws_of : ReqSetup → History → ℕ
draws_of q [] = 0
draws_of q (Told command sent d ∷ older) = if takes_draw q command then draws_of q older + 1 else draws_of q older
draws_of q (_ ∷ older) = draws_of q older
