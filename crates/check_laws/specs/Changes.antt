-- What a packet changes between a requester and the responder, as far as rows of the table of sessions depend on it.
-- This project's own.
use Rattle.std.specs.Prelude.{◌≡◌, ◌≤◌, nat_lt, ℕ, List, [], ◌∷◌, length, if◌then◌else◌, true, Option, Some, None}
use Rattle.requester_machine.specs.History as requester_history
use Rattle.requester_machine.specs.Message.{Aim, Sent}
use Rattle.requester_machine.specs.Message.Aim.{InSession}
use Rattle.responder_machine.specs.Heard.{view_of}
use Rattle.responder_machine.specs.History.{History}
use Rattle.responder_machine.specs.History.Entry.{Sealed}
use Rattle.responder_machine.specs.Session.{Events, session_of, is_live, id_in_record}
use Rattle.spdm_grammar.specs.declared.told.session_view.SessionView.{SessionView}
use Rattle.requester_machine.specs.Setup.{ReqSetup}
use Rattle.check_laws.specs.Walks.{StepsTo, Walks}
use Rattle.check_laws.specs.declared.change.Change.{Change}
use Rattle.capture_machine.specs.Rounds.{Dialogue, Round}
use Rattle.world_machine.specs.Setup.{Configuration}
use Rattle.capture_machine.specs.SessionTable.{accepted_between, has_begun, is_new, last_begun}
use Rattle.spdm_grammar.specs.declared.names.TheConstants.{MAX_SESSIONS}

-- The RspSessionID of the session that was begun.
abbrev pub begun_between : Dialogue → Dialogue → Option ℕ
begun_between before after = if has_begun before after then Some (last_begun after.responder) else None

-- The RspSessionID in the record that was answered last, where the newest entry is a record.
abbrev pub answered_in : History → Option ℕ
answered_in (Sealed tag sealed t reply d ∷ older) = Some (id_in_record sealed)
answered_in _ = None

-- The RspSessionID in the record that was answered.
abbrev pub answered_between : Dialogue → Dialogue → Option ℕ
answered_between before after = if nat_lt (length before.responder) (length after.responder) then answered_in after.responder else None

-- The ReqSessionID of the session whose record a message is.
abbrev pub session_in : Option Sent → Option ℕ
session_in None = None
session_in (Some sent) = in_aim sent.aim
  where
    in_aim : Aim → Option ℕ
    in_aim (InSession id ask) = Some id
    in_aim _ = None

-- That of the record by which this round began.
abbrev pub asked_by : Dialogue → Dialogue → Option Round → Option ℕ
asked_by before after None = None
asked_by before after (Some round) = if is_new before.round round then session_in (requester_history.outstanding after.requester) else None

-- The ReqSessionID of the session whose record began a round.
abbrev pub asked_between : Dialogue → Dialogue → Option ℕ
asked_between before after = asked_by before after after.round

-- A live session, as it is shown.
abbrev pub shown : Events → Option SessionView
shown [] = None
shown (e ∷ s) = Some (view_of (e ∷ s))

-- The sessions of the responder with the RspSessionIDs from 1 to 4.
abbrev pub views_in : History → List (Option SessionView)
views_in h = shown (session_of 1 h) ∷ shown (session_of 2 h) ∷ shown (session_of 3 h) ∷ shown (session_of 4 h) ∷ []

-- The change is the one between two moments of a dialogue.
pub record IsChange (change : Change) (before after : Dialogue) : Type 0 where
  pub begun : change.begun ≡ begun_between before after
  pub accepted : change.accepted ≡ accepted_between before after
  pub answered : change.answered ≡ answered_between before after
  pub asked : change.asked ≡ asked_between before after
  pub views : change.views ≡ views_in after.responder

-- One of the four ids that a session may have.
abbrev pub IsFew : ℕ → Type 0
IsFew id = (1 ≤ id) × (id ≤ MAX_SESSIONS)

-- What holds of each packet of a walk: the set-up stays; a session that was begun is live; and it has one of the four
-- ids, as has one that the requester accepts.
pub record IsStep (before after : Dialogue) : Type 0 where
  pub setup : before.setup ≡ after.setup
  pub live : has_begun before after ≡ true → is_live (session_of (last_begun after.responder) after.responder) ≡ true
  pub few : has_begun before after ≡ true → IsFew (last_begun after.responder)
  pub accepted : (id : ℕ) → accepted_between before after ≡ Some id → IsFew id

-- So it is of each packet of a walk.
abbrev pub WalksStep : Type 0
WalksStep = (w : Configuration) (q : ReqSetup) (older : List (List ℕ)) (packet : List ℕ) (before after : Dialogue)
    → Walks w q older before → StepsTo w q.eid older before packet after → IsStep before after
