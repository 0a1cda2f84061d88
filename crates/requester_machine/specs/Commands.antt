-- Which commands a requester does not do, and why: a list of tests in order, of which the first that holds decides.
-- This project's own.
use Rattle.std.specs.Prelude.{◌+◌, ◌==◌, ◌&&◌, ◌||◌, not, nat_lt, nat_le, ℕ, List, [], ◌∷◌, length, Bool, true, false, Option, Some, None, is_none, is_some}
use Rattle.spdm_basis.specs.Tests.{first_of_tests}
use Rattle.spdm_grammar.specs.Fields.{is_summary}
use Rattle.spdm_grammar.specs.Message.{RequestMessage}
use Rattle.spdm_grammar.specs.Message.RequestMessage.{PskExchange}
use Rattle.spdm_grammar.specs.Requests.{canonical_request}
use Rattle.spdm_grammar.specs.declared.told.command_fault.CommandFault.{CommandFault}
use Rattle.spdm_grammar.specs.declared.told.command_fault.CommandFault.TheVariants as fault
use Rattle.spdm_grammar.specs.declared.told.phase.Phase.{Phase}
use Rattle.spdm_grammar.specs.declared.told.phase.Phase.TheVariants.{Fresh, Versioned, Capable, Negotiated}
use Rattle.spdm_machine.specs.Sessions.{one_if}
use Rattle.requester_machine.specs.Setup.{ReqSetup}
use Rattle.spdm_machine.specs.Terms.{Terms}
use Rattle.requester_machine.specs.History.{History, outstanding, phase_of, connection_terms, is_open}
use Rattle.requester_machine.specs.Message.{Command}
use Rattle.requester_machine.specs.Message.Command.{Connect, Open, Send, Beat, Update, Measure, End, Retry}
use Rattle.requester_machine.specs.Sending.{is_too_long}
use Rattle.requester_machine.specs.Session.{Steps, session_of, is_live, session_terms, request_next, response_next}
use Rattle.spdm_grammar.specs.declared.names.TheConstants.{MAX_APP_DATA_LEN, MAX_SESSIONS}

-- All that a requester's message leaves free: the ReqSessionID, the context and the opaque data of PSK_EXCHANGE, and
-- the padding of a record.
pub record Free : Type 0 where
  pub id : ℕ
  pub context : List ℕ
  pub opaque : List ℕ
  pub pad : List ℕ

-- ---- What a command is.

-- The command is Retry.
abbrev pub is_retry : Command → Bool
is_retry Retry = true
is_retry _ = false

-- All commands but Connect and Retry need a connection, and that nothing is outstanding.
abbrev pub needs_connection : Command → Bool
needs_connection Connect = false
needs_connection Retry = false
needs_connection _ = true

-- The session that a command names.
abbrev pub session_in : Command → Option ℕ
session_in Connect = None
session_in (Open summary) = None
session_in (Send id bytes) = Some id
session_in (Beat id) = Some id
session_in (Update id all) = Some id
session_in (Measure id op) = id
session_in (End id) = Some id
session_in Retry = None

-- ---- What is tested.

-- The phase is Negotiated: there is a connection.
abbrev pub is_negotiated : Phase → Bool
is_negotiated Fresh = false
is_negotiated Versioned = false
is_negotiated Capable = false
is_negotiated Negotiated = true

-- No live session has the id that is named.
abbrev pub is_nowhere : History → Option ℕ → Bool
is_nowhere h None = false
is_nowhere h (Some id) = not (is_live (session_of id h))

-- How many sessions are live. They have the ids from 1 to 4.
abbrev pub live_count : History → ℕ
live_count h = one_if (is_live (session_of 1 h)) + one_if (is_live (session_of 2 h)) + one_if (is_live (session_of 3 h)) + one_if (is_live (session_of 4 h))

-- The terms that a command goes by: those of the session that it names, else those of the connection.
abbrev pub terms_at : History → Option ℕ → Terms
terms_at h None = connection_terms h
terms_at h (Some id) = session_terms (session_of id h)

-- Measurements are in common and in the choice.
abbrev pub has_measurements : Terms → Bool
has_measurements terms = terms.common.measure && terms.choice.measure

-- What the command needs was not negotiated: measurements for a summary other than 0 and for GET_MEASUREMENTS,
-- heartbeats, updates of keys.
abbrev pub lacks : Terms → Command → Bool
lacks terms (Open summary) = not (summary == 0) && not (has_measurements terms)
lacks terms (Beat id) = not terms.common.heartbeat
lacks terms (Update id all) = not terms.common.key_update
lacks terms (Measure id op) = not (has_measurements terms)
lacks terms _ = false

-- The kind of summary is none of 0, 1 and 255.
abbrev pub is_bad_summary : Command → Bool
is_bad_summary (Open summary) = not (is_summary summary)
is_bad_summary _ = false

-- A next number of the session has reached a number.
abbrev pub has_reached : ℕ → Steps → Bool
has_reached number s = nat_le number (request_next s) || nat_le number (response_next s)

-- A key of the session has sealed too many records for what is asked: no key seals more than 65,536, the answer to
-- UpdateKey is followed by one more, and a large response takes up to 159 records. UpdateAllKeys and END_SESSION are
-- asked for under any number.
abbrev pub is_spent : Steps → Command → Bool
is_spent s (Send id bytes) = has_reached 65535 s
is_spent s (Beat id) = has_reached 65535 s
is_spent s (Update id all) = not all && (has_reached 65535 s || nat_le 65534 (response_next s))
is_spent s (Measure id op) = has_reached 65300 s
is_spent s _ = false

-- A key of the named session has sealed too many records for the command; where none is named, none has.
abbrev pub is_spent_at : History → Option ℕ → Command → Bool
is_spent_at h None command = false
is_spent_at h (Some id) command = is_spent (session_of id h) command

-- PSK_EXCHANGE of a command (DSP0274, "PSK_EXCHANGE").
abbrev pub exchange_for : ReqSetup → Free → (summary : ℕ) → RequestMessage
exchange_for q f summary = PskExchange (record { summary = summary; req_id = f.id; hint = q.hint; context = f.context; opaque = f.opaque })

-- Application data has more than 1,024 bytes, or PSK_EXCHANGE is too long for the responder.
abbrev pub is_long : ReqSetup → History → Free → Command → Bool
is_long q h f (Send id bytes) = nat_lt MAX_APP_DATA_LEN (length bytes)
is_long q h f (Open summary) = is_too_long (connection_terms h).common (canonical_request (exchange_for q f summary))
is_long q h f _ = false

-- ---- The tests.

-- The tests after Worn.
abbrev pub command_tests : ReqSetup → History → Command → Free → List (Bool × CommandFault)
command_tests q h command f =
    (is_retry command && is_none (outstanding h), fault.NothingToRetry)
    ∷ (needs_connection command && is_some (outstanding h), fault.Busy)
    ∷ (needs_connection command && not (is_negotiated (phase_of h)), fault.NotConnected)
    ∷ (is_nowhere h (session_in command), fault.NoSuchSession)
    ∷ (is_open command && live_count h == MAX_SESSIONS, fault.SessionLimit)
    ∷ (lacks (terms_at h (session_in command)) command, fault.NotNegotiated)
    ∷ (is_bad_summary command, fault.BadSummary)
    ∷ (is_spent_at h (session_in command) command, fault.KeySpent)
    ∷ (is_long q h f command, fault.TooLong)
    ∷ []

-- The fault of a command, where the requester was told and given so much before that it is worn out, or not.
unfoldable pub command_fault : (worn : Bool) → ReqSetup → History → Command → Free → Option CommandFault
command_fault worn q h command f = first_of_tests ((worn, fault.Worn) ∷ command_tests q h command f)
