-- A record at a live session does what the definitions of a responder say of it in its whole history.
use Rattle.std.specs.Prelude.{◌≡◌, ◌∷◌, ℕ, List, true, false}
use Rattle.responder_machine.specs.Answer.{Free}
use Rattle.responder_machine.specs.Heard.{heard_of, record_id}
use Rattle.responder_machine.specs.History.{History, ended_of, clear_turns, phase_of}
use Rattle.responder_machine.specs.History.Entry.{Sealed}
use Rattle.responder_machine.specs.Responder.{on_record, repeats, kept_record, decrypt_error}
use Rattle.responder_machine.specs.Responder.Outcome.{Adds as AddsEntry, Same as SendsAgain, Unopened as StaysUnopened}
use Rattle.responder_machine.specs.Session.{session_of, id_in_record, is_live, last_of, after_record}
use Rattle.responder_machine.specs.Setup.{RspSetup}
use Rattle.spdm_basis.specs.declared.values.session_id.SessionId.{SessionId}
use Rattle.spdm_grammar.specs.declared.told.heard.Heard.{Heard}
use Rattle.spdm_grammar.specs.declared.told.heard.Heard.TheVariants as heard
use Rattle.spdm_machine.specs.Bodies.{record_body}
use Rattle.spdm_machine.specs.Keys.{Draw}
use Rattle.responder_session.specs.Took.{IsTold, IsTook, turn_in, reply_in}
use Rattle.responder_session.specs.declared.told.RspAct.{RspAct}
use Rattle.responder_session.specs.declared.told.RspAct.TheVariants as act
use Rattle.responder_session.specs.declared.took.RspTook.{RspTook}
use Rattle.responder_session.specs.declared.took.RspTook.TheVariants as took
use Rattle.responder_session.specs.declared.told.RspTold.{RspTold}
use Rattle.responder_session.specs.declared.told.RspTold.TheVariants as told
use Rattle.responder_session.specs.declared.session.RspSession.{RspSession}

-- How the responder tells what a record of this session did.
abbrev pub told_as : SessionId → RspAct → Heard
told_as id (act.Answered code) = heard.Answered code
told_as id act.Data = heard.Taken id
told_as id (act.Refused code) = heard.Refused code

-- A record that moves the session becomes an entry of the history with its turn and its reply, is reported so, and is
-- an event of the session; the last record gets its reply again; and one that does not open gets DecryptError in the
-- clear.
abbrev pub IsOutcome : RspSetup → History → (tag : ℕ) → (sealed : List ℕ) → Free → Draw → RspTold
    → Type 0
IsOutcome r h tag sealed f d (told.Moved act) =
    let s = session_of (id_in_record sealed) h in
    let t = turn_in r s f sealed in
    let reply = reply_in r s f sealed in
    (on_record r h tag sealed f d ≡ AddsEntry (Sealed tag sealed t reply d))
    × (heard_of (on_record r h tag sealed f d) ≡ told_as (record_id sealed) act)
    × (session_of (id_in_record sealed) (Sealed tag sealed t reply d ∷ h)
    ≡ after_record s sealed t reply)
IsOutcome r h tag sealed f d told.Same =
    on_record r h tag sealed f d
    ≡ SendsAgain (record_body (kept_record (last_of (session_of (id_in_record sealed) h))))
IsOutcome r h tag sealed f d (told.Unopened fault) =
    on_record r h tag sealed f d ≡ StaysUnopened (decrypt_error (phase_of (clear_turns h)))

-- So it is in every history in which a live session has the record's id and the record is not the last one of the ended
-- session.
abbrev pub ToldIsRecord : Type 0
ToldIsRecord = (r : RspSetup) (h : History) (tag : ℕ) (sealed : List ℕ) (f : Free) (d : Draw)
    (after : RspSession) (result : RspTold)
    → is_live (session_of (id_in_record sealed) h) ≡ true → repeats (ended_of h) sealed ≡ false
    → IsTold r (session_of (id_in_record sealed) h) f sealed after result
    → IsOutcome r h tag sealed f d result

-- What is reported without the state.
abbrev pub told_of : RspTook → RspTold
told_of (took.Moved after act) = told.Moved act
told_of (took.Same same) = told.Same
told_of (took.Unopened same fault) = told.Unopened fault

-- The same of the states that are taken and given back.
abbrev pub TookIsRecord : Type 0
TookIsRecord = (r : RspSetup) (h : History) (tag : ℕ) (sealed : List ℕ) (f : Free) (d : Draw)
    (result : RspTook)
    → is_live (session_of (id_in_record sealed) h) ≡ true → repeats (ended_of h) sealed ≡ false
    → IsTook r (session_of (id_in_record sealed) h) f sealed result
    → IsOutcome r h tag sealed f d (told_of result)
