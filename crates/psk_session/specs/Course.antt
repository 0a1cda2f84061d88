-- What a record that opened leads to, as far as its session alone goes.
use Rattle.std.specs.Prelude.{◌≡◌, ◌∷◌, ℕ, List, None, Result, Ok, Err}
use Rattle.requester_machine.specs.Answers.{goes_on, is_done}
use Rattle.requester_machine.specs.Commands.{Free}
use Rattle.requester_machine.specs.History.{History, Effect, Led}
use Rattle.requester_machine.specs.History.Effect.{Grants}
use Rattle.requester_machine.specs.InnerMessages.{Came, inner_led, message_in, with_record}
use Rattle.requester_machine.specs.Message.{Ask}
use Rattle.requester_machine.specs.Message.Ask.{AskEnd}
use Rattle.requester_machine.specs.Records.{answer_fault, answer_inner, sealed_next}
use Rattle.requester_machine.specs.Sending.{record_sent}
use Rattle.requester_machine.specs.Session.{Steps, session_id, session_terms}
use Rattle.requester_machine.specs.Session.Step.{Asked, Took}
use Rattle.requester_machine.specs.Setup.{ReqSetup}
use Rattle.spdm_basis.specs.declared.values.session_id.SessionId.{SessionId}
use Rattle.spdm_grammar.specs.declared.told.event.BadReply.{BadReply}
use Rattle.spdm_grammar.specs.declared.told.event.Event.{Event}
use Rattle.spdm_grammar.specs.declared.told.event.Event.TheVariants as event
use Rattle.spdm_grammar.specs.declared.told.event.Finished.TheVariants as finished
use Rattle.psk_session.specs.declared.reply.Reply.{Reply}
use Rattle.psk_session.specs.declared.reply.Reply.TheVariants as reply

-- The session is lost; it is ended; what was asked is answered; or a further record is sent, which asks this by this
-- inner message.
pub data Course : Type 0 where
  Lost : (fault : BadReply) → Course
  Ended : Course
  Answered : (reply : Reply) → (effect : Effect) → Course
  GoesOn : (effect : Effect) → (ask : Ask) → (inner : List ℕ) → Course

-- What is reported of an answer.
abbrev pub event_of : SessionId → Reply → Event
event_of id reply.Data = event.Done (finished.Answered id)
event_of id reply.Alive = event.Done (finished.Alive id)
event_of id reply.Updated = event.Done (finished.Updated id)
event_of id (reply.Measured number) = event.Done (finished.Measured number)
event_of id (reply.Refused code) = event.Refused code

-- What a requester is led to by it.
abbrev pub led_of : ReqSetup → History → Free → Came → Course → Result Led BadReply
led_of q h f came (Lost fault) = Err fault
led_of q h f came Ended =
    Ok (is_done (finished.Ended (session_id came.steps)) (Grants AskEnd (message_in came)))
led_of q h f came (Answered reply effect) =
    Ok (record { event = event_of (session_id came.steps) reply; effect = effect; next = None })
led_of q h f came (GoesOn effect ask inner) =
    Ok (goes_on effect (record_sent q h came.id (with_record came effect) ask inner f.pad))

-- A record as it came to the session of these steps, which asked this.
abbrev pub came_to : (psk : List ℕ) → (id : ℕ) → Steps → Ask → (sealed : List ℕ) → Came
came_to psk id s a sealed =
    record { id = id; steps = s; sealed = sealed; inner = answer_inner psk s a sealed }

-- The record opens, and takes this course by the definitions of each requester whose sizes are those of the session's
-- terms.
abbrev pub TakesCourse : (psk : List ℕ) → Steps → Ask → (sealed : List ℕ) → Course → Type 0
TakesCourse psk s a sealed course =
    (answer_fault psk s a sealed ≡ None)
    × ((q : ReqSetup) (h : History) (f : Free) (id : ℕ)
    → q.transfer ≡ (session_terms s).common.to_requester.transfer
    → q.max ≡ (session_terms s).common.to_requester.max
    → inner_led q h f (came_to psk id s a sealed) a
    ≡ led_of q h f (came_to psk id s a sealed) course)

-- The session with the record, which brought this about.
abbrev pub with_taken : (psk : List ℕ) → Steps → Ask → (sealed : List ℕ) → Effect → Steps
with_taken psk s a sealed effect = Took sealed (answer_inner psk s a sealed) effect ∷ s

-- The session with a record that asks this by this inner message, with this padding.
abbrev pub with_asked : (psk : List ℕ) → Steps → Ask → (inner pad : List ℕ) → Steps
with_asked psk s a inner pad = Asked a inner (sealed_next psk s inner pad) ∷ s
