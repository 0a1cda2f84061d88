-- What adds nothing to a history.
use Rattle.std.proofs.Common.{refl, ◌∙◌, ◌≡◌, ℕ, List, Bool, Option, Some, None, ap}
use Rattle.std.specs.Prelude.{drop}
use Rattle.spdm_basis.specs.declared.causes.record_fault.RecordFault.{RecordFault}
use Rattle.spdm_grammar.specs.declared.told.command_fault.CommandFault.{CommandFault}
use Rattle.spdm_grammar.specs.declared.told.event.ReqIgnored.{ReqIgnored}
use Rattle.spdm_machine.specs.Keys.{Draw}
use Rattle.requester_machine.specs.Setup.{ReqSetup}
use Rattle.requester_machine.specs.Asking.{asks, asks_by, resent}
use Rattle.requester_machine.specs.Bodies.{body_fault}
use Rattle.requester_machine.specs.Commands.{Free, command_fault}
use Rattle.requester_machine.specs.Hearing.{hears, hears_by, hears_to, in_session, on_record, record_outcome, came_to}
use Rattle.requester_machine.specs.History.{History, outstanding}
use Rattle.requester_machine.specs.Laws.{RetryAddsNothing, FaultAddsNothing, IgnoredAddsNothing, ClearAddsNothingInSession, UnopenedAddsNothing}
use Rattle.requester_machine.specs.Message.{Ask, Sent}
use Rattle.requester_machine.specs.Message.Aim.{InSession}
use Rattle.requester_machine.specs.Message.Command.{Retry}
use Rattle.requester_machine.specs.Records.{answer_fault}
use Rattle.requester_machine.specs.Session.{session_of}
use Rattle.requester_machine.specs.Shown.{after}

resent_adds : (h : History) (waiting : Option Sent) → after h (resent waiting) ≡ h
resent_adds h None = refl
resent_adds h (Some sent) = refl

retry_by : (q : ReqSetup) (h : History) (f : Free) (d : Draw) (fault : Option CommandFault) → after h (asks_by q h Retry f d fault) ≡ h
retry_by q h f d (Some fault) = refl
retry_by q h f d None = resent_adds h (outstanding h)

pub retry : RetryAddsNothing
unfolding asks
retry worn q h f d = retry_by q h f d (command_fault worn q h Retry f)

pub faulty : FaultAddsNothing
unfolding asks
faulty worn q h command f d fault is = ap (λ o. after h (asks_by q h command f d o)) is

pub ignored : IgnoredAddsNothing
ignored q h owner tag body f d cause is = ap (after h) is

-- After the tests of a body, what it is to the outstanding message decides.
tested : (q : ReqSetup) (h : History) (f : Free) (tag : ℕ) (body : List ℕ) (d : Draw) (sent : Sent) (cause : Option ReqIgnored)
    → after h (hears_to q h f tag body d sent.aim) ≡ h
    → after h (hears_by q h f tag body d (Some sent) cause) ≡ h
tested q h f tag body d sent (Some cause) is = refl
tested q h f tag body d sent None is = is

-- So what comes of it in a session comes of it where the message was sent in one.
waiting_in_session : (q : ReqSetup) (h : History) (owner : Bool) (tag : ℕ) (body : List ℕ) (f : Free) (d : Draw) (sent : Sent) (id : ℕ) (ask : Ask)
    → outstanding h ≡ Some sent → sent.aim ≡ InSession id ask
    → after h (in_session q h f tag id ask body d) ≡ h
    → after h (hears q h owner tag body f d) ≡ h
unfolding hears
waiting_in_session q h owner tag body f d sent id ask waiting aim is =
    ap (λ o. after h (hears_by q h f tag body d o (body_fault q o owner tag body))) waiting
    ∙ tested q h f tag body d sent (body_fault q (Some sent) owner tag body) (ap (λ a. after h (hears_to q h f tag body d a)) aim ∙ is)

pub clear_in_session : ClearAddsNothingInSession
clear_in_session q h owner tag body f d sent id ask waiting aim clear =
    waiting_in_session q h owner tag body f d sent id ask waiting aim (rw clear refl)

unopened_record : (q : ReqSetup) (h : History) (f : Free) (tag id : ℕ) (ask : Ask) (sealed : List ℕ) (d : Draw) (fault : RecordFault)
    → answer_fault q.psk (session_of id h) ask sealed ≡ Some fault → after h (on_record q h f tag id ask sealed d) ≡ h
unfolding on_record
unopened_record q h f tag id ask sealed d fault is = ap (λ o. after h (record_outcome q h f tag ask (came_to q h id ask sealed) d o)) is

pub unopened : UnopenedAddsNothing
unopened q h owner tag body f d sent id ask fault waiting aim sealed is =
    waiting_in_session q h owner tag body f d sent id ask waiting aim (rw sealed (unopened_record q h f tag id ask (drop 1 body) d fault is))
