-- The sessions of a connection, as the program represents them.
use Rattle.std.specs.Prelude.{◌≡◌, ◌≢◌, ◌≤◌, ◌==◌, ◌&&◌, ◌||◌, ◌-◌, nat_lt, if◌then◌else◌, ℕ, List, [], Bool, true, false, length, Option, None, Some, slice_index_or}
use Rattle.responder_core.specs.LiveSession.{IsSlotOf, IsTakenIn}
use Rattle.responder_core.specs.declared.in_sessions.live_session.LiveSession.{LiveSession}
use Rattle.responder_core.specs.declared.in_sessions.sessions.Sessions.{Sessions}
use Rattle.responder_machine.specs.Answer.{Free}
use Rattle.responder_machine.specs.Heard.{heard_of, view_of}
use Rattle.responder_machine.specs.History.{History, ended_of}
use Rattle.responder_machine.specs.Responder.{after, body_of, on_record, repeats}
use Rattle.responder_machine.specs.Session.{Events, id_in_record, is_live, is_timed, session_of, stage_of}
use Rattle.responder_machine.specs.Setup.{RspSetup}
use Rattle.responder_session.specs.Session.{IsEnded}
use Rattle.responder_session.specs.declared.told.RspTold.{RspTold}
use Rattle.spdm_grammar.specs.declared.told.heard.Heard.{Heard}
use Rattle.spdm_grammar.specs.declared.told.heard.Heard.TheVariants as heard
use Rattle.spdm_grammar.specs.declared.names.request_code.TheConstants.{GET_VERSION}
use Rattle.spdm_grammar.specs.declared.told.session_view.SessionView.{SessionView}
use Rattle.spdm_machine.specs.Bodies.{clear_body, record_body}
use Rattle.spdm_machine.specs.Keys.{Draw}
use Rattle.spdm_machine.specs.Sessions.{is_past_handshake}
use Rattle.secured_record.specs.declared.TheConstants.{MAX_RECORD_SIZE}
use Rattle.spdm_grammar.specs.declared.names.TheConstants.{MAX_SESSIONS}

-- The slot of a RspSessionID; none where it is 0 or above 4.
abbrev pub slot_of : Sessions → ℕ → Option LiveSession
slot_of seen id = if id == 0 || nat_lt MAX_SESSIONS id then None else slice_index_or seen.slots (id - 1) None

-- They are those of this history: the slot of each RspSessionID has its session, and the last record of the one ended
-- session is kept.
pub record StandsFor (seen : Sessions) (r : RspSetup) (h : History) : Type 0 where
  pub slots : (id : ℕ) → IsSlotOf (slot_of seen id) r (session_of id h)
  pub ended : seen.ended ≡ ended_of h

-- The answer tells GET_VERSION, which ends all sessions.
abbrev pub tells_version : Heard → Bool
tells_version (heard.Answered code) = code == GET_VERSION
tells_version _ = false

-- There is a session, and it is established.
abbrev pub is_held_in : Events → Bool
is_held_in s = is_live s && is_past_handshake (stage_of s)

-- There is a session, and it is timed.
abbrev pub is_timed_in : Events → Bool
is_timed_in s = is_live s && is_timed s

-- A live session is shown so; where there is none, nothing is.
abbrev pub IsViewOf : Option SessionView → Events → Type 0
IsViewOf None s = s ≡ []
IsViewOf (Some view) s = (is_live s ≡ true) × (view ≡ view_of s)

-- The body of an answer to a record: ERROR comes in the clear where no session opens it, and all else is a record.
abbrev pub body_by : Heard → List ℕ → List ℕ
body_by heard.Unopened out = clear_body out
body_by _ out = record_body out

-- A record, which is not the last one of the ended session, was given to the session that it names:
-- this is told of it, nothing where there is no session. The others are as they were.
pub record IsDelivered (r : RspSetup) (h : History) (sealed : List ℕ) (f : Free) (told : Option RspTold) (mid : Sessions) (out : List ℕ) : Type 0 where
  pub anew : repeats (ended_of h) sealed ≡ false
  pub taken : IsTakenIn r (session_of (id_in_record sealed) h) f sealed (slot_of mid (id_in_record sealed)) told out
  pub others : (i : ℕ) → i ≢ id_in_record sealed → IsSlotOf (slot_of mid i) r (session_of i h)
  pub ended : mid.ended ≡ ended_of h

-- The session of an id is still in its slot if it is live; its last record is kept apart if it is ended.
pub record IsSettled (r : RspSetup) (sealed out : List ℕ) (mid new : Sessions) (id : ℕ) : Type 0 where
  pub live : (s : Events) → IsSlotOf (slot_of mid id) r s → new ≡ mid
  pub gone : (kept : LiveSession) (bytes : List ℕ) → slot_of mid id ≡ Some kept → IsEnded kept.session bytes sealed out → length sealed ≤ MAX_RECORD_SIZE
      → (slot_of new id ≡ None) × (new.ended ≡ Some (record { sealed = sealed; reply = out }))
  pub others : (i : ℕ) → i ≢ id → slot_of new i ≡ slot_of mid i

-- The record was answered as the responder answers it under these values: it is told of it, what is sent is written,
-- and what is kept is that of the history after it.
pub record IsAnswered (r : RspSetup) (h : History) (tag : ℕ) (sealed : List ℕ) (f : Free) (d : Draw) (heard : Heard) (new : Sessions) (out : List ℕ) : Type 0 where
  pub told : heard ≡ heard_of (on_record r h tag sealed f d)
  pub body : body_by heard out ≡ body_of (on_record r h tag sealed f d)
  pub stands : StandsFor new r (after h (on_record r h tag sealed f d))
