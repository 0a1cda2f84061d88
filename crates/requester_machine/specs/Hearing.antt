-- What a requester does with a whole message body. This project's own.
use Rattle.std.specs.Prelude.{ℕ, List, drop, if◌then◌else◌, Bool, Option, Some, None, unwrap_or, Result, Ok, Err}
use Rattle.spdm_basis.specs.declared.causes.record_fault.RecordFault.{RecordFault}
use Rattle.spdm_grammar.specs.declared.told.event.ReqIgnored.{ReqIgnored}
use Rattle.spdm_grammar.specs.declared.told.event.ReqIgnored.TheVariants as ignored
use Rattle.spdm_machine.specs.Keys.{Draw}
use Rattle.requester_machine.specs.Setup.{ReqSetup}
use Rattle.requester_machine.specs.Asking.{Outcome}
use Rattle.requester_machine.specs.Asking.Outcome.{Ignores, Warns, Adds}
use Rattle.requester_machine.specs.Bodies.{body_fault, is_clear, error_in}
use Rattle.requester_machine.specs.ClearAnswers.{clear_led}
use Rattle.requester_machine.specs.Commands.{Free}
use Rattle.requester_machine.specs.History.{History, Led, outstanding}
use Rattle.requester_machine.specs.History.Entry.{TookClear, TookRecord}
use Rattle.requester_machine.specs.InnerMessages.{Came, inner_led, or_lost}
use Rattle.requester_machine.specs.Message.{Ask, Aim, Sent}
use Rattle.requester_machine.specs.Message.Aim.{Plain, ByChunks, ForChunk, InSession}
use Rattle.requester_machine.specs.Records.{answer_fault, answer_inner}
use Rattle.requester_machine.specs.Session.{session_of}

-- ---- In the clear.

-- A clear message is ignored where there is a cause; else it is an entry.
abbrev pub clear_outcome : ℕ → List ℕ → Draw → Result Led ReqIgnored → Outcome
clear_outcome tag m d (Err cause) = Ignores cause
clear_outcome tag m d (Ok led) = Adds (TookClear tag m led d)

-- ---- In a session.

-- A record as it came to the session with this ReqSessionID, which asked this.
abbrev pub came_to : ReqSetup → History → ℕ → Ask → List ℕ → Came
came_to q h id ask sealed = record { id = id; steps = session_of id h; sealed = sealed; inner = answer_inner q.psk (session_of id h) ask sealed }

-- A record that opened is an entry, with what its inner message leads to or with the loss of its session.
abbrev pub took : ReqSetup → History → Free → ℕ → Ask → Came → Draw → Outcome
took q h f tag ask came d = Adds (TookRecord tag came.id came.sealed came.inner (or_lost came (inner_led q h f came ask)) d)

-- A record with a fault is ignored; one that opens is taken.
abbrev pub record_outcome : ReqSetup → History → Free → ℕ → Ask → Came → Draw → Option RecordFault → Outcome
record_outcome q h f tag ask came d (Some fault) = Ignores (ignored.Record fault)
record_outcome q h f tag ask came d None = took q h f tag ask came d

-- A record that came to the session with this ReqSessionID, which asked this.
unfoldable pub on_record : ReqSetup → History → Free → ℕ → ℕ → Ask → List ℕ → Draw → Outcome
on_record q h f tag id ask sealed d = record_outcome q h f tag ask (came_to q h id ask sealed) d (answer_fault q.psk (session_of id h) ask sealed)

-- ---- A body.

-- A clear ERROR to a request of a session is not protected: it is warned of, and changes nothing.
abbrev pub in_session : ReqSetup → History → Free → ℕ → ℕ → Ask → List ℕ → Draw → Outcome
in_session q h f tag id ask body d =
    if is_clear body then Warns (unwrap_or (error_in (drop 1 body)) 0)
    else on_record q h f tag id ask (drop 1 body) d

-- A body by what the outstanding message asks for: it answers a request in the clear, or goes to the session.
abbrev pub hears_to : ReqSetup → History → Free → ℕ → List ℕ → Draw → Aim → Outcome
hears_to q h f tag body d (Plain asked) = clear_outcome tag (drop 1 body) d (clear_led q h f (Plain asked) asked (drop 1 body))
hears_to q h f tag body d (ByChunks asked handle number) = clear_outcome tag (drop 1 body) d (clear_led q h f (ByChunks asked handle number) asked (drop 1 body))
hears_to q h f tag body d (ForChunk asked handle number before) = clear_outcome tag (drop 1 body) d (clear_led q h f (ForChunk asked handle number before) asked (drop 1 body))
hears_to q h f tag body d (InSession id ask) = in_session q h f tag id ask body d

-- A body is ignored where there is a cause, or where nothing is outstanding; else it is heard.
abbrev pub hears_by : ReqSetup → History → Free → ℕ → List ℕ → Draw → Option Sent → Option ReqIgnored → Outcome
hears_by q h f tag body d waiting (Some cause) = Ignores cause
hears_by q h f tag body d None None = Ignores ignored.NothingOutstanding
hears_by q h f tag body d (Some sent) None = hears_to q h f tag body d sent.aim

-- A whole body came with its tag owner bit and tag, with this draw next.
unfoldable pub hears : ReqSetup → History → (owner : Bool) → ℕ → List ℕ → Free → Draw → Outcome
hears q h owner tag body f d = hears_by q h f tag body d (outstanding h) (body_fault q (outstanding h) owner tag body)
