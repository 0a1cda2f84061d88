-- What comes of a record while the answer to an ask is awaited. The answers are those of the definitions of a
-- requester.
use Rattle.std.specs.Prelude.{◌≡◌, ℕ, List, false, Some}
use Rattle.requester_machine.specs.History.{Effect}
use Rattle.requester_machine.specs.Message.{Ask}
use Rattle.requester_machine.specs.Records.{answer_fault}
use Rattle.requester_machine.specs.Session.{Steps, ends}
use Rattle.psk_session.specs.Course.{Course, TakesCourse, with_taken, with_asked}
use Rattle.psk_session.specs.Course.Course.{Lost, Ended, Answered, GoesOn}
use Rattle.psk_session.specs.ReqOpen as open_state
use Rattle.psk_session.specs.Waiting as waiting
use Rattle.psk_session.specs.declared.took.Took.{Took}
use Rattle.psk_session.specs.declared.took.Took.TheVariants as took

-- What came back is what this course leaves of the session: nothing where it is lost or ended; where it is answered the
-- open session with the record, which it outlives; and where a further record is sent, the session with both, that
-- record with this padding.
abbrev pub Follows : (psk : List ℕ) → Steps → Ask → (sealed pad : List ℕ) → Took → Course → Type 0
Follows psk s a sealed pad (took.Bad closed fault) course = course ≡ Lost fault
Follows psk s a sealed pad (took.Ended closed) course = course ≡ Ended
Follows psk s a sealed pad (took.Answer state reply) course =
    (effect : Effect) × (course ≡ Answered reply effect) × (ends effect ≡ false)
    × open_state.StandsFor state psk (with_taken psk s a sealed effect)
Follows psk s a sealed pad (took.Next state) course =
    (effect : Effect) × (next : Ask) × (inner : List ℕ) × (course ≡ GoesOn effect next inner)
    × (ends effect ≡ false)
    × waiting.StandsFor state psk
    (with_asked psk (with_taken psk s a sealed effect) next inner pad) next
Follows psk s a sealed pad (took.Stay state fault) course = ⊥

-- The outcome of a record: it did not open, with its fault, and the state is the same; or it takes a course by the
-- definitions, and what came back follows that.
abbrev pub IsTook : waiting.Seen → (psk : List ℕ) → Steps → Ask → (sealed pad : List ℕ) → Took
    → Type 0
IsTook old psk s a sealed pad (took.Stay state fault) =
    (answer_fault psk s a sealed ≡ Some fault) × (state ≡ old)
IsTook old psk s a sealed pad other =
    (course : Course) × TakesCourse psk s a sealed course × Follows psk s a sealed pad other course
