-- What a packet changes, by its kind. This project's own.
use Rattle.std.specs.Prelude.{◌≡◌, ℕ, List, [], ◌∷◌, if◌then◌else◌, true, Option, Some, None}
use Rattle.requester_machine.specs.Asking as asking
use Rattle.requester_machine.specs.Asking.Outcome.{Adds as Hears}
use Rattle.requester_machine.specs.History.{outstanding}
use Rattle.requester_machine.specs.Shown as shown
use Rattle.requester_machine.specs.Setup.{ReqSetup}
use Rattle.responder_machine.specs.History.{Entry, History}
use Rattle.responder_machine.specs.History.Entry.{Clear, Sealed}
use Rattle.responder_machine.specs.May.{with_dropped}
use Rattle.responder_machine.specs.Responder.{Outcome, after}
use Rattle.responder_machine.specs.Responder.Outcome.{Adds}
use Rattle.responder_machine.specs.Session.{id_in_record}
use Rattle.responder_machine.specs.Turn.{answer_in}
use Rattle.responder_machine.specs.Setup.{towards}
use Rattle.spdm_machine.specs.Sessions.{id_in_exchange}
use Rattle.check_laws.specs.Changes.{IsChange, answered_between, asked_between, begun_between, session_in, views_in}
use Rattle.check_laws.specs.Walks.{Walks}
use Rattle.check_laws.specs.declared.change.Change.{Change}
use Rattle.capture_machine.specs.Capture.{Begins, Copies, Replies}
use Rattle.capture_machine.specs.CapturedAnswers.{Completes}
use Rattle.capture_machine.specs.LargeAnswers.{is_unseen_in, place_named, seen, unseen}
use Rattle.capture_machine.specs.LargeRequests.{with_ack}
use Rattle.capture_machine.specs.Rounds.{Dialogue, Round}
use Rattle.capture_machine.specs.SessionTable.{accepted_between, accepted_in, begins}
use Rattle.world_machine.specs.Setup.{Configuration, known_of}

-- ---- A request.

-- The change is none but for a record by which a round began, and shows the sessions as they stood.
pub record IsRequestChange (change : Change) (h : History) (sent : Option ℕ) : Type 0 where
  pub begun : change.begun ≡ None
  pub accepted : change.accepted ≡ None
  pub answered : change.answered ≡ None
  pub asked : change.asked ≡ sent
  pub views : change.views ≡ views_in h

-- A copy changes nothing.
abbrev pub CopyChanges : Type 0
CopyChanges = (change : Change) (d next : Dialogue) (tag : ℕ) (body : List ℕ) → Copies d tag body next
    → IsRequestChange change d.responder None → IsChange change d next

-- By any other request a round begins, with a record of a session or without.
abbrev pub RequestChanges : Type 0
RequestChanges = (change : Change) (d next : Dialogue) (tag : ℕ) (body : List ℕ) → Begins d tag body next
    → IsRequestChange change d.responder (session_in (outstanding next.requester)) → IsChange change d next

-- A request: nothing changes at the responder, the requester takes nothing, and this record was sent, or none.
pub record IsRequestStep (sent : Option ℕ) (before after : Dialogue) : Type 0 where
  pub setup : before.setup ≡ after.setup
  pub responder : after.responder ≡ before.responder
  pub accepted : accepted_between before after ≡ None
  pub asked : sent ≡ asked_between before after

-- A copy is such a step, and so is any other request.
abbrev pub CopyIsRequest : Type 0
CopyIsRequest = (d next : Dialogue) (tag : ℕ) (body : List ℕ) → Copies d tag body next → IsRequestStep None d next

abbrev pub RoundIsRequest : Type 0
RoundIsRequest = (d next : Dialogue) (tag : ℕ) (body : List ℕ) → Begins d tag body next
    → IsRequestStep (session_in (outstanding next.requester)) d next

-- ---- An answer.

-- By an answer no round begins.
abbrev pub AnswerAsksNone : Type 0
AnswerAsksNone = (w : Configuration) (d next : Dialogue) (tag : ℕ) (answer : List ℕ) → Replies w d tag answer next → asked_between d next ≡ None

-- The RspSessionID of the session that an outcome begins.
abbrev pub begun_by : Outcome → Option ℕ
begun_by (Adds (Clear tag t d)) = if begins t then Some (id_in_exchange (answer_in t.effect)) else None
begun_by _ = None

-- The RspSessionID in the record to which an outcome is the answer.
abbrev pub answered_by : Outcome → Option ℕ
answered_by (Adds (Sealed tag sealed t reply d)) = Some (id_in_record sealed)
answered_by _ = None

-- What an answer changes that goes whole, after sessions were dropped without a trace.
abbrev pub WholeAnswerChanges : Type 0
WholeAnswerChanges = (d next : Dialogue) (ids : List ℕ) (o : Outcome) → next.responder ≡ after (with_dropped d.responder ids) o
    → (begun_between d next ≡ begun_by o) × (answered_between d next ≡ answered_by o)

-- What LargeResponse changes, which begins no session yet.
abbrev pub LargeAnswerChanges : Type 0
LargeAnswerChanges = (d next : Dialogue) (entry : Entry) → next.responder ≡ unseen entry ∷ d.responder
    → (begun_between d next ≡ None) × (answered_between d next ≡ answered_by (Adds entry))

-- The RspSessionID of the session that the large response in progress at a place begins, with these bytes in its place.
abbrev pub begun_by_large : Option ℕ → List ℕ → History → Option ℕ
begun_by_large place whole [] = None
begun_by_large place whole (entry ∷ older) = if is_unseen_in place entry then begun_by (Adds (seen whole entry)) else begun_by_large place whole older

-- What the last chunk of a large response changes, by which that is there whole.
abbrev pub LastChunkChanges : Type 0
LastChunkChanges = (w : Configuration) (q : ReqSetup) (older : List (List ℕ)) (d next : Dialogue) (round : Round) (answer : List ℕ)
    → Walks w q older d → d.round ≡ Some round
    → (c : Completes (towards w.responder (known_of d.setup)) d round answer next.responder)
    → (begun_between d next ≡ begun_by_large (place_named round.body) c.0 d.responder) × (answered_between d next ≡ answered_by (Adds c.2))

-- ---- The requester's side of an answer.

-- The ReqSessionID of the PSK_EXCHANGE whose answer the requester took.
abbrev pub accepted_by : asking.Outcome → Option ℕ
accepted_by (Hears entry) = accepted_in (entry ∷ [])
accepted_by _ = None

-- What the requester accepts by an answer that it hears.
abbrev pub AnswerAccepts : Type 0
AnswerAccepts = (d next : Dialogue) (outcome : asking.Outcome) → next.requester ≡ shown.after d.requester outcome → accepted_between d next ≡ accepted_by outcome

-- By the acknowledgement of a chunk, but for the last one, it accepts none.
abbrev pub AckAcceptsNone : Type 0
AckAcceptsNone = (d next : Dialogue) (whole : List ℕ) (tag : ℕ) (m : List ℕ) → next.requester ≡ with_ack whole tag m d.requester → accepted_between d next ≡ None
