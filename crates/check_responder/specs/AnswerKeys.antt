-- Under which keys an answer may open that is refused: those of the answers to the last record of each session and to the
-- last END_SESSION, which the program keeps. This project's own.
use Rattle.std.specs.Prelude.{◌≡◌, ◌==◌, ◌&&◌, ◌||◌, ◌-◌, not, nat_lt, if◌then◌else◌, ℕ, List, [], ◌∷◌, Bool, true, false, Option, Some, None, IfSome, MatchBool, slice_index, slice_index_or, drop}
use Rattle.responder_core.specs.OwnAnswers.{opens_in}
use Rattle.responder_machine.specs.Answer.{Free}
use Rattle.responder_machine.specs.History.{History, ended_of}
use Rattle.responder_machine.specs.History.Entry.{Sealed}
use Rattle.responder_machine.specs.Records.{opened}
use Rattle.responder_machine.specs.Responder.{repeats}
use Rattle.responder_machine.specs.Session.{Events, id_in_record, last_of, session_of}
use Rattle.responder_machine.specs.Session.Event.{Heard}
use Rattle.responder_machine.specs.Setup.{RspSetup}
use Rattle.responder_machine.specs.Turn.{Turn, takes}
use Rattle.responder_session.specs.OwnAnswers.{IsKeyOfReply}
use Rattle.responder_session.specs.Took.{turn_in}
use Rattle.responder_session.specs.declared.answer_key.AnswerKey.{AnswerKey}
use Rattle.spdm_grammar.specs.declared.names.request_code.TheConstants.{END_SESSION}
use Rattle.check_responder.specs.declared.answer_keys.AnswerKeys.{AnswerKeys}
use Rattle.check_responder.specs.declared.prepared_request.PreparedRequest.{PreparedRequest}
use Rattle.spdm_grammar.specs.declared.names.TheConstants.{MAX_SESSIONS}
use Rattle.spdm_grammar.specs.declared.names.message_type.TheConstants.{SPDM}

-- ---- What is kept.

-- There is a key, and it opens the answer to this turn of a session.
abbrev pub IsKeyOfTurn : RspSetup → Events → Turn → Option AnswerKey → Type 0
IsKeyOfTurn r s t None = ⊥
IsKeyOfTurn r s t (Some key) = IsKeyOfReply key r.psk s t

-- It opens the answer to the last record that a session took. Where it took none, there may be any key.
abbrev pub IsLastKey : RspSetup → Events → Option AnswerKey → Type 0
IsLastKey r [] key = Unit {0}
IsLastKey r (Heard m t reply ∷ older) key = IsKeyOfTurn r older t key
IsLastKey r (_ ∷ older) key = IsLastKey r older key

-- It opens the answer to the last END_SESSION. Where none was taken, there may be any key.
abbrev pub IsEndedKey : RspSetup → History → Option AnswerKey → Type 0
IsEndedKey r [] key = Unit {0}
IsEndedKey r (Sealed tag m t reply d ∷ older) key =
    MatchBool (takes END_SESSION t) (IsKeyOfTurn r (session_of (id_in_record m) older) t key) (IsEndedKey r older key)
IsEndedKey r (_ ∷ older) key = IsEndedKey r older key

-- The key that is kept for a RspSessionID; none where it is 0 or above 4.
abbrev pub last_key : AnswerKeys → ℕ → Option AnswerKey
last_key seen id = if id == 0 || nat_lt MAX_SESSIONS id then None else slice_index_or seen.last (id - 1) None

-- They are kept of this history.
pub record StandFor (seen : AnswerKeys) (r : RspSetup) (h : History) : Type 0 where
  pub last : (id : ℕ) → IsLastKey r (session_of id h) (last_key seen id)
  pub ended : IsEndedKey r h seen.ended

-- ---- A body that is to come.

-- The session that it names, where it is a record.
abbrev pub session_named : History → (body : List ℕ) → Events
session_named h body = session_of (id_in_record (drop 1 body)) h

-- It is a record that is taken: no repeat, and it opens in that session.
abbrev pub is_taken_in : RspSetup → Events → (is_ended : Bool) → (sealed : List ℕ) → Bool
is_taken_in r s is_ended sealed = not is_ended && (not (repeats (last_of s) sealed) && opens_in r s sealed)

abbrev pub will_take : RspSetup → History → (body : List ℕ) → Bool
will_take r h body =
    not (slice_index body 0 == SPDM) && is_taken_in r (session_named h body) (repeats (ended_of h) (drop 1 body)) (drop 1 body)

-- The key of the answer to a record that is taken, which depends on no free value; none where the body is none.
abbrev pub IsComingKey : RspSetup → History → (body : List ℕ) → Option AnswerKey → Type 0
IsComingKey r h body None = will_take r h body ≡ false
IsComingKey r h body (Some key) =
    (will_take r h body ≡ true) × ((f : Free) → IsKeyOfReply key r.psk (session_named h body) (turn_in r (session_named h body) f (drop 1 body)))

-- It is a record that is taken, and has this code where a request has it.
abbrev pub asks_for : RspSetup → History → (body : List ℕ) → (code : ℕ) → Bool
asks_for r h body code = will_take r h body && (slice_index (opened r.psk (session_named h body) (drop 1 body)) 2 == code)

-- This is had of it: that key, and the inner message of a record that is taken.
pub record IsComing (seen : PreparedRequest) (r : RspSetup) (h : History) (body : List ℕ) : Type 0 where
  pub key : IsComingKey r h body seen.key
  pub inner : IfSome seen.key (λ own. seen.inner ≡ opened r.psk (session_named h body) (drop 1 body))
