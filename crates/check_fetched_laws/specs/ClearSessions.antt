-- What a large response that is fetched in the clear leaves of the sessions. This project's own.
use Rattle.std.specs.Prelude.{◌≡◌, ◌≢◌, ◌==◌, ◌&&◌, ◌||◌, ◌⊎◌, not, is_some, ℕ, List, [], ◌∷◌, ◌++◌, slice_index, Bool, true, false, MatchBool}
use Rattle.check_responder.specs.AnswerKeys as answer_keys
use Rattle.check_responder.specs.declared.answer_keys.AnswerKeys.{AnswerKeys}
use Rattle.check_laws.specs.Changes.{views_in}
use Rattle.responder_machine.specs.History.{Entry, History}
use Rattle.responder_machine.specs.History.Entry.{Clear, Dropped}
use Rattle.responder_machine.specs.Responder.Outcome.{Adds}
use Rattle.responder_machine.specs.Session.{Events, id_in_record, is_live, session_of, stage_of}
use Rattle.responder_machine.specs.Setup.{RspSetup}
use Rattle.responder_machine.specs.Turn.{handle_in, takes}
use Rattle.spdm_grammar.specs.declared.names.request_code.TheConstants.{CHUNK_GET, GET_VERSION, PSK_EXCHANGE}
use Rattle.spdm_machine.specs.Sessions.{is_past_handshake}
use Rattle.capture_machine.specs.CapturedAnswers.{MayLeadTo}
use Rattle.capture_machine.specs.LargeAnswers.{is_large, is_unseen_effect, unseen}
use Rattle.capture_machine.specs.Opening.{opens_answering}
use Rattle.spdm_grammar.specs.declared.names.message_type.TheConstants.{SPDM}

-- ---- What came.

-- The entry is CHUNK_GET in the clear, whose answer was seen and went whole.
abbrev pub is_clear_get : Entry → Bool
is_clear_get (Clear tag t d) = takes CHUNK_GET t && not (is_unseen_effect t.effect || is_some (handle_in t.effect))
is_clear_get _ = false

-- Each of these is.
abbrev pub AreGets : List Entry → Type 0
AreGets [] = Unit {0}
AreGets (e ∷ es) = (is_clear_get e ≡ true) × AreGets es

-- Each of these is a message in the clear, or a session that was dropped.
abbrev pub IsClearOrDropped : Entry → Type 0
IsClearOrDropped (Clear tag t d) = Unit {0}
IsClearOrDropped (Dropped id) = Unit {0}
IsClearOrDropped _ = ⊥

abbrev pub AreClear : List Entry → Type 0
AreClear [] = Unit {0}
AreClear (e ∷ es) = IsClearOrDropped e × AreClear es

-- The entry is a request in the clear whose large response was not seen, and not GET_VERSION.
abbrev pub IsUnseenRequest : Entry → Type 0
IsUnseenRequest (Clear tag t d) = (is_unseen_effect t.effect ≡ true) × (takes GET_VERSION t ≡ false)
IsUnseenRequest _ = ⊥

-- So LargeResponse leaves it.
abbrev pub LargeIsUnseen : Type 0
LargeIsUnseen = (r : RspSetup) (h : History) (tag : ℕ) (body : List ℕ) (entry : Entry) → (slice_index body 0 == SPDM) ≡ true
    → MayLeadTo r h tag body (Adds entry) → is_large entry ≡ true → IsUnseenRequest (unseen entry)

-- ---- The session in its handshake.

-- It is live, and in its handshake.
abbrev pub is_in_handshake : Events → Bool
is_in_handshake s = is_live s && not (is_past_handshake (stage_of s))

-- There is one at most.
abbrev pub OneHandshake : Type 0
OneHandshake = (h : History) (id other : ℕ) → is_in_handshake (session_of id h) ≡ true → is_in_handshake (session_of other h) ≡ true → id ≡ other

-- The history without the session in its handshake.
abbrev pub IsWithoutHandshake : (before left : History) → Type 0
IsWithoutHandshake before left =
    (((id : ℕ) → id ≢ 0 → is_in_handshake (session_of id before) ≡ false) × (left ≡ before))
    ⊎ ((id : ℕ) × (is_in_handshake (session_of id before) ≡ true) × (left ≡ Dropped id ∷ before))

-- What is left of the history before a request: PSK_EXCHANGE ends a handshake, and nothing else in the clear does.
abbrev pub IsLeftBy : Entry → (before left : History) → Type 0
IsLeftBy (Clear tag t d) before left = MatchBool (takes PSK_EXCHANGE t) (IsWithoutHandshake before left) (left ≡ before)
IsLeftBy _ before left = ⊥

-- ---- The laws.

-- While a large response is fetched in the clear, the sessions are those that were left before its request.
abbrev pub SessionsAreLeft : Type 0
SessionsAreLeft = (gets : List Entry) (entry : Entry) (before left : History) → AreGets gets → IsUnseenRequest entry → IsLeftBy entry before left
    → (id : ℕ) → session_of id (gets ++ entry ∷ before) ≡ session_of id left

-- So a refused answer to a request in the clear opens as it does without the large response.
abbrev pub ClearWhyIsBefore : Type 0
ClearWhyIsBefore = (r : RspSetup) (gets : List Entry) (entry : Entry) (before left : History) (m sealed : List ℕ) → AreGets gets → IsUnseenRequest entry → IsLeftBy entry before left
    → opens_answering r (gets ++ entry ∷ before) true m sealed ≡ opens_answering r left true m sealed

-- The same sessions are shown.
abbrev pub ViewsAreLeft : Type 0
ViewsAreLeft = (gets : List Entry) (entry : Entry) (before left : History) → AreGets gets → IsUnseenRequest entry → IsLeftBy entry before left
    → views_in (gets ++ entry ∷ before) ≡ views_in left

-- The keys of the answers that were given in sessions stand for what is kept after any messages in the clear.
abbrev pub KeysStandOn : Type 0
KeysStandOn = (seen : AnswerKeys) (r : RspSetup) (newer : List Entry) (before : History) → AreClear newer
    → answer_keys.StandFor seen r before → answer_keys.StandFor seen r (newer ++ before)
