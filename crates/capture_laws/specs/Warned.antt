-- What may follow after a record was answered in the clear while its requester waits for the answer: copies of it, and
-- GET_VERSION. So no large response that passed unseen before is fetched after that. This project's own.
use Rattle.std.specs.Prelude.{◌≡◌, ◌<◌, ◌+◌, ◌==◌, ◌++◌, ℕ, List, [], ◌∷◌, slice_index, if◌then◌else◌, true, false, Some, None}
use Rattle.check_laws.specs.Walks.{StepsTo, Walks}
use Rattle.check_late_laws.specs.Late.Passed.{StandsBack}
use Rattle.check_late_laws.specs.Late.PassedLast.{IsFree}
use Rattle.capture_machine.specs.Capture.{Replies}
use Rattle.capture_machine.specs.CapturedAnswers.{AnswersAgain}
use Rattle.capture_machine.specs.LargeAnswers.{place_named}
use Rattle.capture_machine.specs.Rounds.{Dialogue, Round}
use Rattle.requester_machine.specs.History.{outstanding}
use Rattle.requester_machine.specs.Message.{Ask, Sent}
use Rattle.requester_machine.specs.Message.Aim.{InSession}
use Rattle.requester_machine.specs.Setup.{ReqSetup}
use Rattle.responder_machine.specs.History.{History}
use Rattle.responder_machine.specs.History.Entry.{Clear}
use Rattle.responder_machine.specs.Setup.{towards}
use Rattle.responder_machine.specs.Turn.{is_taken}
use Rattle.spdm_grammar.specs.declared.names.message_type.TheConstants.{SPDM}
use Rattle.world_machine.specs.Setup.{Configuration, known_of}

-- ---- On from a place.

-- Packets, the newest first, lead on from what is between the responder and the requester with this endpoint, after the
-- packets before them.
abbrev pub WalksOn : Configuration → (eid : ℕ) → List (List ℕ) → Dialogue → List (List ℕ) → Dialogue → Type 0
WalksOn w eid older d [] next = next ≡ d
WalksOn w eid older d (packet ∷ later) next = (before : Dialogue) × WalksOn w eid older d later before × StepsTo w eid (later ++ older) before packet next

-- How many messages in the clear the responder took.
abbrev pub taken_count : History → ℕ
taken_count [] = 0
taken_count (Clear tag t d ∷ older) = if is_taken t then taken_count older + 1 else taken_count older
taken_count (_ ∷ older) = taken_count older

-- ---- DecryptError.

-- The last round's request is a record, for whose answer the requester waits under this tag, and the answer is in the
-- clear: so it is DecryptError, of which the requester is warned.
pub record IsWarned (d : Dialogue) (tag : ℕ) (answer : List ℕ) : Type 0 where
  pub round : Round
  pub last : d.round ≡ Some round
  pub sealed : (slice_index round.body 0 == SPDM) ≡ false
  pub sent : Sent
  pub waits : outstanding d.requester ≡ Some sent
  pub under : sent.tag ≡ tag
  pub id : ℕ
  pub ask : Ask
  pub asks : sent.aim ≡ InSession id ask
  pub clear : (slice_index answer 0 == SPDM) ≡ true

-- The answer to the last round's request may be LargeResponse again, in the clear.
abbrev pub MayComeAgain : Configuration → Dialogue → Type 0
MayComeAgain w d =
    (round : Round) × (answer : List ℕ) × (next : History) × (whole : List ℕ)
    × (d.round ≡ Some round) × (place_named round.body ≡ None)
    × AnswersAgain (towards w.responder (known_of d.setup)) d round answer next whole

-- After DecryptError of which the requester is warned, while a request in the clear stands back whose large response
-- passed unseen, LargeResponse comes again in the clear only where the responder took another request since then. So no
-- such DecryptError is between a request and the late fetch of its answer.
abbrev pub NoneBeginsAfterWarning : Type 0
NoneBeginsAfterWarning = (w : Configuration) (q : ReqSetup) (older later : List (List ℕ)) (packet : List ℕ) (d warned after : Dialogue) (tag : ℕ) (answer : List ℕ) (s : StandsBack d.responder)
    → Walks w q older d → IsFree s.turn → IsWarned d tag answer → Replies w d tag answer warned
    → WalksOn w q.eid (packet ∷ older) warned later after → MayComeAgain w after → taken_count d.responder < taken_count after.responder
