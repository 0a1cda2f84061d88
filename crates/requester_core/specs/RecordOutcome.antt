-- What comes of a record at the session that awaits it.
use Rattle.std.specs.Prelude.{◌≡◌, ◌⊎◌, ℕ, List, Bool, true, false, Option, Some, None}
use Rattle.requester_core.specs.Slot.{IsSlotOf}
use Rattle.requester_core.specs.declared.in_sessions.record_outcome.RecordOutcome.{RecordOutcome}
use Rattle.requester_core.specs.declared.in_sessions.record_outcome.RecordOutcome.TheVariants as seen
use Rattle.requester_core.specs.declared.in_sessions.slot.Slot.{Slot}
use Rattle.requester_core.specs.declared.in_sessions.slot.Slot.TheVariants as slot
use Rattle.psk_session.specs.Course.{Course, TakesCourse, event_of}
use Rattle.psk_session.specs.Course.Course.{Answered, Ended, GoesOn, Lost}
use Rattle.psk_session.specs.Finished.{IsJudged}
use Rattle.psk_session.specs.TookLaws.{Outlives, finished_steps, steps_by}
use Rattle.psk_session.specs.declared.response_outcome.ResponseOutcome.{ResponseOutcome}
use Rattle.psk_session.specs.declared.response_outcome.ResponseOutcome.TheVariants as told
use Rattle.requester_machine.specs.Message.{Ask}
use Rattle.requester_machine.specs.Message.Ask.{AskFinish}
use Rattle.requester_machine.specs.Records.{answer_fault}
use Rattle.requester_machine.specs.Session.{Steps, session_id}
use Rattle.spdm_basis.specs.declared.values.session_id.SessionId.{SessionId}
use Rattle.spdm_grammar.specs.declared.told.event.BadReply.{BadReply}
use Rattle.spdm_grammar.specs.declared.told.event.Event.TheVariants as event
use Rattle.spdm_grammar.specs.declared.told.event.Finished.TheVariants as finished

-- The session is gone.
abbrev pub is_end : RecordOutcome → Bool
is_end (seen.Ends told) = true
is_end _ = false

-- What is reported of a record, by what its session tells.
abbrev pub told_led : SessionId → ResponseOutcome → RecordOutcome
told_led id (told.Answer reply) = seen.Rests (event_of id reply)
told_led id told.Next = seen.Sends
told_led id told.Ended = seen.Ends (event.Done (finished.Ended id))
told_led id (told.Bad fault) = seen.Ends (event.Lost id fault)
told_led id (told.Stay fault) = seen.Ignored fault

-- What is reported of this course.
abbrev pub led_by : SessionId → Course → RecordOutcome
led_by id (Lost fault) = seen.Ends (event.Lost id fault)
led_by id Ended = seen.Ends (event.Done (finished.Ended id))
led_by id (Answered reply effect) = seen.Rests (event_of id reply)
led_by id (GoesOn effect ask inner) = seen.Sends

-- What is reported of this verdict on PSK_FINISH_RSP.
abbrev pub finish_led_by : SessionId → Option BadReply → RecordOutcome
finish_led_by id (Some fault) = seen.Ends (event.Lost id fault)
finish_led_by id None = seen.Rests (event.Done (finished.Opened id))

-- The record takes a course, which leaves these steps.
pub record IsCourse (psk : List ℕ) (s : Steps) (a : Ask) (sealed pad : List ℕ) (led : RecordOutcome)
    (after : Steps) : Type 0 where
  pub course : Course
  pub takes : TakesCourse psk s a sealed course
  pub outlives : Outlives course
  pub told : led ≡ led_by (session_id s) course
  pub steps : after ≡ steps_by psk s a sealed pad course

-- PSK_FINISH was asked, and the record is taken with a verdict, which leaves these steps.
pub record IsVerdict (psk : List ℕ) (s : Steps) (a : Ask) (sealed : List ℕ) (led : RecordOutcome)
    (after : Steps) : Type 0 where
  pub asks : a ≡ AskFinish
  pub verdict : Option BadReply
  pub judged : IsJudged psk s sealed verdict
  pub told : led ≡ finish_led_by (session_id s) verdict
  pub steps : after ≡ finished_steps psk s sealed verdict

-- The one or the other.
abbrev pub LeadsTo : (psk : List ℕ) → Steps → Ask → (sealed pad : List ℕ) → RecordOutcome → (after : Steps)
    → Type 0
LeadsTo psk s a sealed pad led after =
    IsCourse psk s a sealed pad led after ⊎ IsVerdict psk s a sealed led after

-- What is kept in a slot once this was told: where the session is gone, nothing.
abbrev pub settled : RecordOutcome → Slot → Slot
settled (seen.Ends told) kept = slot.Empty
settled _ kept = kept

-- A record came to the session of these steps, which asked this: it does not open, and the same stands; or it leads to
-- what is told, and leaves what is kept.
abbrev pub IsStepped : (psk : List ℕ) → Steps → Ask → (sealed pad : List ℕ) → (new : Slot)
    → RecordOutcome → Type 0
IsStepped psk s a sealed pad new (seen.Ignored fault) =
    (answer_fault psk s a sealed ≡ Some fault) × IsSlotOf new psk s
IsStepped psk s a sealed pad new led =
    (after : Steps) × LeadsTo psk s a sealed pad led after × IsSlotOf new psk after
