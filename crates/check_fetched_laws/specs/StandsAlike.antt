-- Which histories a connection stands for alike. This project's own.
use Rattle.std.specs.Prelude.{◌≡◌, ◌≤◌, ◌==◌, ◌↔◌, ℕ, List, ◌∷◌, ◌++◌, slice_index, true, false, None}
use Rattle.check_laws.specs.Walks.{Walks}
use Rattle.responder_core.specs.Connected as connected
use Rattle.responder_core.specs.declared.connected.Connection.{Connection}
use Rattle.check_fetched_laws.specs.ClearSessions.{AreGets, IsLeftBy, IsUnseenRequest, is_in_handshake}
use Rattle.responder_machine.specs.History.{Entry, History, clear_turns, ended_of, kept_of, queue_of, phase_of}
use Rattle.responder_machine.specs.History.Entry.{Clear, Dropped}
use Rattle.responder_machine.specs.LargeMessages.{next_handle}
use Rattle.responder_machine.specs.Place.{clear_place, place_terms}
use Rattle.responder_machine.specs.Refusal.{sizes_are_known}
use Rattle.responder_machine.specs.Responder.Outcome.{Adds}
use Rattle.responder_machine.specs.Responder.{Outcome, is_repeat}
use Rattle.responder_machine.specs.Session.{session_of}
use Rattle.requester_machine.specs.Setup.{ReqSetup}
use Rattle.responder_machine.specs.Setup.{RspSetup, towards}
use Rattle.responder_machine.specs.SizeLaws.{HasSizes}
use Rattle.responder_machine.specs.Turn.{Turn, takes}
use Rattle.responder_machine.specs.Turn.Effect.{Took}
use Rattle.spdm_grammar.specs.Message.RequestMessage.{GetVersion}
use Rattle.spdm_grammar.specs.Requests.{canonical_request}
use Rattle.spdm_grammar.specs.Responses.{canonical_response}
use Rattle.spdm_grammar.specs.declared.names.request_code.TheConstants.{PSK_EXCHANGE}
use Rattle.spdm_machine.specs.Bodies.{clear_body}
use Rattle.capture_machine.specs.CapturedAnswers.{MayLeadTo}
use Rattle.capture_machine.specs.LargeAnswers.{is_large}
use Rattle.capture_machine.specs.Rounds.{Dialogue, no_draw}
use Rattle.world_machine.specs.Setup.{Configuration, known_of}
use Rattle.responder_machine.specs.Answer.{version_answer}
use Rattle.spdm_grammar.specs.declared.names.message_type.TheConstants.{SPDM}

-- They have the same turns in the clear, kept message, sessions, ended record and queue.
pub record AreAlike (h g : History) : Type 0 where
  pub turns : clear_turns h ≡ clear_turns g
  pub kept : kept_of h ≡ kept_of g
  pub sessions : (id : ℕ) → session_of id h ≡ session_of id g
  pub ended : ended_of h ≡ ended_of g
  pub queue : queue_of h ≡ queue_of g

-- So a connection that stands for the one stands for the other.
abbrev pub StandsAlike : Type 0
StandsAlike = (seen : Connection) (r : RspSetup) (h g : History) → AreAlike h g → connected.StandsFor seen r h → connected.StandsFor seen r g

-- PSK_EXCHANGE ends the handshake of a session, whether that was dropped before or not.
abbrev pub ExchangeEndsHandshake : Type 0
ExchangeEndsHandshake = (h : History) (id tag : ℕ) (t : Turn) → takes PSK_EXCHANGE t ≡ true → is_in_handshake (session_of id h) ≡ true
    → AreAlike (Clear tag t no_draw ∷ Dropped id ∷ h) (Clear tag t no_draw ∷ h)

-- ---- GET_VERSION.

-- What it adds.
abbrev pub version_entry : (tag : ℕ) → Entry
version_entry tag = Clear tag (record {
  message = canonical_request GetVersion;
  refused = None;
  chunk = None;
  effect = Took GetVersion (canonical_request GetVersion) (canonical_response version_answer) None;
  reply = canonical_response version_answer;
}) no_draw

-- It is no repeat, the responder takes messages of four bytes, and the requester of 42, where sizes are known.
pub record IsAnew (r : RspSetup) (h : History) (tag : ℕ) : Type 0 where
  pub room : 4 ≤ r.transfer
  pub anew : is_repeat (kept_of h) tag (canonical_request GetVersion) ≡ false
  pub sized : sizes_are_known (clear_place h).phase ≡ true → HasSizes r (place_terms (clear_place h)).common

-- Then VERSION is given, and nothing else.
abbrev pub VersionIsGiven : Type 0
VersionIsGiven = (r : RspSetup) (h : History) (tag : ℕ) (outcome : Outcome) → IsAnew r h tag
    → MayLeadTo r h tag (clear_body (canonical_request GetVersion)) outcome ↔ (outcome ≡ Adds (version_entry tag))

-- An answer in the clear goes by LargeResponse only where sizes are known.
abbrev pub LargeIsSized : Type 0
LargeIsSized = (r : RspSetup) (h : History) (tag : ℕ) (body : List ℕ) (entry : Entry) → (slice_index body 0 == SPDM) ≡ true
    → MayLeadTo r h tag body (Adds entry) → is_large entry ≡ true → sizes_are_known (phase_of (clear_turns h)) ≡ true

-- In a walk in which a large response is fetched in the clear, the responder takes messages of four bytes, and
-- GET_VERSION is no repeat, neither there nor by what was left before the request. Sizes were known before it.
abbrev pub VersionIsAnew : Type 0
VersionIsAnew = (w : Configuration) (q : ReqSetup) (older : List (List ℕ)) (d : Dialogue) (gets : List Entry) (entry : Entry) (before left : History) (tag : ℕ)
    → Walks w q older d → d.responder ≡ gets ++ entry ∷ before → AreGets gets → IsUnseenRequest entry → IsLeftBy entry before left
    → sizes_are_known (phase_of (clear_turns before)) ≡ true
    → (4 ≤ (towards w.responder (known_of d.setup)).transfer)
    × (is_repeat (kept_of d.responder) tag (canonical_request GetVersion) ≡ false)
    × (is_repeat (kept_of left) tag (canonical_request GetVersion) ≡ false)

-- After it nothing of what was before counts but the data that wait, and how many answers in the clear went by
-- LargeResponse.
abbrev pub VersionEndsAll : Type 0
VersionEndsAll = (seen : Connection) (r : RspSetup) (tag : ℕ) (h g : History)
    → queue_of h ≡ queue_of g → next_handle (clear_turns h) ≡ next_handle (clear_turns g)
    → connected.StandsFor seen r (version_entry tag ∷ h) → connected.StandsFor seen r (version_entry tag ∷ g)

-- So it is after a large response that was not seen.
abbrev pub VersionEndsFetch : Type 0
VersionEndsFetch = (seen : Connection) (r : RspSetup) (tag : ℕ) (gets : List Entry) (entry : Entry) (before left : History)
    → AreGets gets → IsUnseenRequest entry → IsLeftBy entry before left
    → connected.StandsFor seen r (version_entry tag ∷ left) → connected.StandsFor seen r (version_entry tag ∷ gets ++ entry ∷ before)
