-- What became of the sessions of a connection between two moments. This project's own.
use Rattle.std.specs.Prelude.{◌==◌, ◌&&◌, ◌||◌, not, ℕ, List, [], ◌∷◌, if◌then◌else◌, Bool, Option, Some, None}
use Rattle.std.specs.Bool.{beq}
use Rattle.responder.specs.declared.changes.SessionChange.{SessionChange}
use Rattle.responder.specs.declared.changes.SessionChange.TheVariants.{Began, Established, Gone, Replaced}
use Rattle.responder.specs.declared.changes.SessionMark.{SessionMark}
use Rattle.responder.specs.declared.changes.SessionWatch.{SessionWatch}
use Rattle.responder_machine.specs.Heard.{session_id}
use Rattle.responder_machine.specs.Responding.{Connection}
use Rattle.responder_machine.specs.Session.{Events, session_of, stage_of}
use Rattle.spdm_basis.specs.declared.values.session_id.SessionId.{SessionId}
use Rattle.spdm_machine.specs.Sessions.{is_past_handshake}

-- ---- What stands at one moment.

-- A session: its id, and whether it is established. Where there is none, nothing.
abbrev pub mark_of : Events → Option SessionMark
mark_of [] = None
mark_of (e ∷ s) = Some (record { id = session_id (e ∷ s); established = is_past_handshake (stage_of (e ∷ s)) })

-- The session of an id of a connection; none where there is no connection.
abbrev pub mark_at : (id : ℕ) → Option Connection → Option SessionMark
mark_at id None = None
mark_at id (Some c) = mark_of (session_of id c.history)

-- Those of the ids from 1 to 4.
abbrev pub marks_at : Option Connection → List (Option SessionMark)
marks_at c = mark_at 1 c ∷ mark_at 2 c ∷ mark_at 3 c ∷ mark_at 4 c ∷ []

-- The same as they were asked for last.
abbrev pub marks_in : SessionWatch → List (Option SessionMark)
marks_in watch = watch.first ∷ watch.second ∷ watch.third ∷ watch.fourth ∷ []

-- ---- What became of them.

-- Two ids are one.
abbrev pub is_same_id : SessionId → SessionId → Bool
is_same_id a b = a.req == b.req && a.rsp == b.rsp

-- A session is there that was not: it began, or it is established already.
abbrev pub entered : SessionMark → SessionChange
entered after = if after.established then Established after.id else Began after.id

-- There was a session, and there is one. It is another one where the ids differ, or where it is back in a handshake; else
-- it may have been established.
abbrev pub change_of : (before after : SessionMark) → Option SessionChange
change_of before after =
    if not (is_same_id before.id after.id) || (before.established && not after.established) then Some (Replaced before.id after.id)
    else (if beq before.established after.established then None
    else Some (Established after.id))

-- By what was there and what is there.
abbrev pub change_between : (before after : Option SessionMark) → Option SessionChange
change_between None None = None
change_between None (Some after) = Some (entered after)
change_between (Some before) None = Some (Gone before.id)
change_between (Some before) (Some after) = change_of before after

-- Place by place.
abbrev pub changes_between : (before after : List (Option SessionMark)) → List (Option SessionChange)
changes_between (b ∷ before) (a ∷ after) = change_between b a ∷ changes_between before after
changes_between _ _ = []
