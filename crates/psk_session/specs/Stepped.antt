-- What comes of an ask and of a record where a session is stepped in place. The answers are those of the definitions of
-- a requester.
use Rattle.std.specs.Prelude.{◌≡◌, ℕ, List, true, false, Some, None, Result, Ok, Err}
use Rattle.requester_machine.specs.History.{Effect}
use Rattle.requester_machine.specs.Message.{Ask}
use Rattle.requester_machine.specs.Records.{answer_fault}
use Rattle.requester_machine.specs.Session.{Steps, ends}
use Rattle.psk_session.specs.SessionRequest.{ask_fault, asked, asked_of}
use Rattle.psk_session.specs.Course.{Course, TakesCourse, with_taken, with_asked}
use Rattle.psk_session.specs.Course.Course.{Lost, Ended, Answered, GoesOn}
use Rattle.psk_session.specs.ReqSession.{IsAwaiting, IsOpen, is_awaiting, is_open}
use Rattle.psk_session.specs.declared.session_request.SessionRequest as declared
use Rattle.psk_session.specs.declared.ask_fault.AskFault.{AskFault}
use Rattle.psk_session.specs.declared.req_session.ReqSession.{ReqSession}
use Rattle.psk_session.specs.declared.session_state.SessionState.TheVariants.{Closed}
use Rattle.psk_session.specs.declared.response_outcome.ResponseOutcome.{ResponseOutcome}
use Rattle.psk_session.specs.declared.response_outcome.ResponseOutcome.TheVariants as told

-- The session with the record that asks it, padded so, awaits the answer; or the ask has this fault.
abbrev pub IsAskedBy : (psk : List ℕ) → Steps → declared.SessionRequest → (pad : List ℕ) → (new : ReqSession)
    → Result Unit AskFault → Type 0
IsAskedBy psk s a pad new (Ok u) =
    (ask_fault s a ≡ None) × IsAwaiting new psk (asked psk s a pad) (asked_of a)
IsAskedBy psk s a pad new (Err fault) = ask_fault s a ≡ Some fault

-- What is reported and left is what this course leaves of the session: nothing where it is lost or ended; where it is
-- answered the open session with the record, which it outlives; and where a further record is sent, the session with
-- both, that record with this padding.
abbrev pub Follows : (psk : List ℕ) → Steps → Ask → (sealed pad : List ℕ) → (new : ReqSession)
    → ResponseOutcome → Course → Type 0
Follows psk s a sealed pad new (told.Bad fault) course = course ≡ Lost fault
Follows psk s a sealed pad new told.Ended course = course ≡ Ended
Follows psk s a sealed pad new (told.Answer reply) course =
    (effect : Effect) × (course ≡ Answered reply effect) × (ends effect ≡ false)
    × IsOpen new psk (with_taken psk s a sealed effect)
Follows psk s a sealed pad new told.Next course =
    (effect : Effect) × (next : Ask) × (inner : List ℕ) × (course ≡ GoesOn effect next inner)
    × (ends effect ≡ false)
    × IsAwaiting new psk (with_asked psk (with_taken psk s a sealed effect) next inner pad) next
Follows psk s a sealed pad new (told.Stay fault) course = ⊥

-- The outcome of a record: it did not open, with its fault, and nothing changed; or it takes a course by the
-- definitions, and what is told and left follows that.
abbrev pub IsToldOf : (old : ReqSession) → (psk : List ℕ) → Steps → Ask → (sealed pad : List ℕ)
    → (new : ReqSession) → ResponseOutcome → Type 0
IsToldOf old psk s a sealed pad new (told.Stay fault) =
    (answer_fault psk s a sealed ≡ Some fault) × (new ≡ old)
IsToldOf old psk s a sealed pad new other =
    (course : Course) × TakesCourse psk s a sealed course
    × Follows psk s a sealed pad new other course

-- How the session follows what is reported of a record that opened, whatever it stands for.
abbrev pub IsStanding : (new : ReqSession) → ResponseOutcome → Type 0
IsStanding new (told.Answer reply) = is_open new.standing ≡ true
IsStanding new told.Next = is_awaiting new.standing ≡ true
IsStanding new told.Ended = new.standing ≡ Closed
IsStanding new (told.Bad fault) = new.standing ≡ Closed
IsStanding new (told.Stay fault) = ⊥

-- And after what is reported of any record: one that did not open changes nothing.
abbrev pub IsLeft : (old new : ReqSession) → ResponseOutcome → Type 0
IsLeft old new (told.Stay fault) = new ≡ old
IsLeft old new other = IsStanding new other
