-- Which entry of a history changes what of the sessions. The law is the contract of a function of this crate.
use Rattle.std.specs.Prelude.{◌≡◌, ◌+◌, ◌*◌, ◌==◌, ◌&&◌, nat_le, ℕ, [], ◌∷◌, if◌then◌else◌, false, Option, Some, None}
use Rattle.responder.specs.Changes.{change_between, mark_of}
use Rattle.responder.specs.declared.changes.SessionChange.{SessionChange}
use Rattle.responder.specs.declared.changes.SessionChange.TheVariants.{Established, Gone}
use Rattle.responder_machine.specs.Does.{IsMade}
use Rattle.responder_machine.specs.Heard.{session_id}
use Rattle.responder_machine.specs.History.{Entry, History}
use Rattle.responder_machine.specs.History.Entry.{Clear, Dropped, Queued, Sealed, Ticked}
use Rattle.responder_machine.specs.Session.{Events, gives_id, id_in_record, idle_of, is_live, is_timed, period_of, session_of, stage_of}
use Rattle.responder_machine.specs.Setup.{RspSetup}
use Rattle.responder_machine.specs.Turn.{Turn, answer_in, request_in, takes}
use Rattle.spdm_grammar.specs.declared.names.request_code.TheConstants.{END_SESSION, GET_VERSION, PSK_EXCHANGE, PSK_FINISH}
use Rattle.spdm_machine.specs.Sessions.{id_in_exchange, is_past_handshake}

-- A session is gone, if there was one.
abbrev pub gone : Events → Option SessionChange
gone [] = None
gone (e ∷ s) = Some (Gone (session_id (e ∷ s)))

-- A record in a session: END_SESSION ends it, and PSK_FINISH establishes it.
abbrev pub record_change : Events → Turn → Option SessionChange
record_change s t =
    if takes END_SESSION t then gone s
    else (if is_live s && takes PSK_FINISH t then Some (Established (session_id s))
    else None)

-- Seconds: a timed session is gone where it has waited for twice its period.
abbrev pub tick_change : Events → (seconds : ℕ) → Option SessionChange
tick_change s seconds = if is_timed s && nat_le (2 * period_of s) (idle_of s + seconds) then gone s else None

-- PSK_EXCHANGE: a session in its handshake begins at the id that its answer gives, and one in its handshake at another
-- id is gone.
abbrev pub exchange_change : (id : ℕ) → Events → Turn → Option SessionChange
exchange_change id s t =
    if gives_id id (answer_in t.effect) then change_between (mark_of s) (Some (record { id = record { req = id_in_exchange (request_in t.effect); rsp = id_in_exchange (answer_in t.effect) }; established = false }))
    else (if is_past_handshake (stage_of s) then None else gone s)

-- A clear message: GET_VERSION ends all sessions.
abbrev pub clear_change : (id : ℕ) → Events → Turn → Option SessionChange
clear_change id s t = if takes GET_VERSION t then gone s else (if takes PSK_EXCHANGE t then exchange_change id s t else None)

-- What an entry changes of the session of an id.
abbrev pub change_by : Entry → (id : ℕ) → Events → Option SessionChange
change_by (Clear tag t d) id s = clear_change id s t
change_by (Sealed tag m t reply d) id s = if id_in_record m == id then record_change s t else None
change_by (Queued bytes) id s = None
change_by (Ticked seconds) id s = tick_change s seconds
change_by (Dropped which) id s = if which == id then gone s else None

-- In a made history, what became of the session of an id over its newest entry is what that entry changes.
abbrev pub ChangesAreCaused : Type 0
ChangesAreCaused = (r : RspSetup) (e : Entry) (h : History) (id : ℕ) → IsMade r (e ∷ h)
    → change_between (mark_of (session_of id h)) (mark_of (session_of id (e ∷ h))) ≡ change_by e id (session_of id h)
