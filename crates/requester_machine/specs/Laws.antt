-- What is said of what a requester does and of its histories. This project's own.
use Rattle.std.specs.Prelude.{⊤, ◌≡◌, ◌≤◌, ◌+◌, ◌==◌, ◌&&◌, ℕ, List, [], ◌∷◌, drop, length, if◌then◌else◌, Bool, true, false, Some, bytes_eq}
use Rattle.key_schedule.specs.Purpose.{Purpose, Kind}
use Rattle.key_schedule.specs.Purpose.Kind.{Verify, HandshakeRecord, ApplicationRecord}
use Rattle.spdm_basis.specs.declared.causes.record_fault.RecordFault.{RecordFault}
use Rattle.spdm_grammar.specs.Requests.{canonical_request}
use Rattle.spdm_grammar.specs.declared.told.command_fault.CommandFault.{CommandFault}
use Rattle.spdm_grammar.specs.declared.told.event.ReqIgnored.{ReqIgnored}
use Rattle.spdm_machine.specs.Keys.{Draw}
use Rattle.requester_machine.specs.Setup.{ReqSetup}
use Rattle.spdm_machine.specs.TagLog.{Act}
use Rattle.spdm_machine.specs.TagLog.Act.{Made, Checked}
use Rattle.requester_machine.specs.Asking.{asks}
use Rattle.requester_machine.specs.Asking.Outcome.{Ignores, Adds}
use Rattle.requester_machine.specs.Bodies.{is_clear}
use Rattle.requester_machine.specs.Commands.{Free, command_fault, exchange_for}
use Rattle.requester_machine.specs.Does.{IsMade, free_id, command_chosen, requester_asks, requester_hears}
use Rattle.requester_machine.specs.Hearing.{hears}
use Rattle.requester_machine.specs.History.{History, Entry, outstanding, negotiation_of}
use Rattle.requester_machine.specs.May.{IsSetUp, MayAsk, MayHear}
use Rattle.requester_machine.specs.Message.{Command, Ask, Sent}
use Rattle.requester_machine.specs.History.Effect.{Grants}
use Rattle.requester_machine.specs.Message.Aim.{InSession}
use Rattle.requester_machine.specs.Message.Ask.{AskUpdate}
use Rattle.requester_machine.specs.Message.Command.{Open, Retry}
use Rattle.requester_machine.specs.Order.{IsInOrder}
use Rattle.requester_machine.specs.Records.{answer_fault, request_purpose}
use Rattle.requester_machine.specs.RequesterLog.{acts_of}
use Rattle.requester_machine.specs.Session.{Steps, session_of, is_live, request_next, request_epoch}
use Rattle.requester_machine.specs.Session.Step.{Started, Asked, Took}
use Rattle.requester_machine.specs.Shown.{after}
use Rattle.spdm_grammar.specs.declared.names.TheConstants.{MAX_SESSIONS}

-- ---- What the requester does, it may.

-- What a requester within its limits does with a command is what any requester may do with it.
abbrev pub CommandIsAllowed : Type 0
CommandIsAllowed = (worn : Bool) (q : ReqSetup) (h : History) (command : Command) (d : Draw)
    → IsSetUp q → length d.bytes ≡ 32
    → MayAsk worn q h command d (requester_asks worn q h command d)

-- What it does with a whole body is what any requester may do with it.
abbrev pub BodyIsAllowed : Type 0
BodyIsAllowed = (q : ReqSetup) (h : History) (owner : Bool) (tag : ℕ) (body : List ℕ) (d : Draw)
    → IsSetUp q → length d.bytes ≡ 32
    → MayHear q h owner tag body d (requester_hears q h owner tag body d)

-- ---- What adds nothing to the history, whatever is free.

-- Retry adds nothing.
abbrev pub RetryAddsNothing : Type 0
RetryAddsNothing = (worn : Bool) (q : ReqSetup) (h : History) (f : Free) (d : Draw) → after h (asks worn q h Retry f d) ≡ h

-- A command with a fault adds nothing.
abbrev pub FaultAddsNothing : Type 0
FaultAddsNothing = (worn : Bool) (q : ReqSetup) (h : History) (command : Command) (f : Free) (d : Draw) (fault : CommandFault)
    → command_fault worn q h command f ≡ Some fault
    → after h (asks worn q h command f d) ≡ h

-- A body that is ignored adds nothing.
abbrev pub IgnoredAddsNothing : Type 0
IgnoredAddsNothing = (q : ReqSetup) (h : History) (owner : Bool) (tag : ℕ) (body : List ℕ) (f : Free) (d : Draw) (cause : ReqIgnored)
    → hears q h owner tag body f d ≡ Ignores cause
    → after h (hears q h owner tag body f d) ≡ h

-- While something is asked of a session, no clear message changes anything,
abbrev pub ClearAddsNothingInSession : Type 0
ClearAddsNothingInSession = (q : ReqSetup) (h : History) (owner : Bool) (tag : ℕ) (body : List ℕ) (f : Free) (d : Draw) (sent : Sent) (id : ℕ) (ask : Ask)
    → outstanding h ≡ Some sent → sent.aim ≡ InSession id ask → is_clear body ≡ true
    → after h (hears q h owner tag body f d) ≡ h

-- and no record that does not open.
abbrev pub UnopenedAddsNothing : Type 0
UnopenedAddsNothing = (q : ReqSetup) (h : History) (owner : Bool) (tag : ℕ) (body : List ℕ) (f : Free) (d : Draw) (sent : Sent) (id : ℕ) (ask : Ask) (fault : RecordFault)
    → outstanding h ≡ Some sent → sent.aim ≡ InSession id ask → is_clear body ≡ false
    → answer_fault q.psk (session_of id h) ask (drop 1 body) ≡ Some fault
    → after h (hears q h owner tag body f d) ≡ h

-- ---- Ids.

-- The sessions of a made history have ids from 1 to 4.
abbrev pub LiveIdsAreFew : Type 0
LiveIdsAreFew = (q : ReqSetup) (h : History) (id : ℕ) → IsMade q h → is_live (session_of id h) ≡ true → (1 ≤ id) × (id ≤ MAX_SESSIONS)

-- A new session's id is from 1 to 4 and was that of no live session, and it begins with its PSK_EXCHANGE under the
-- negotiation as it stands.
abbrev pub NewSessionIsFresh : Type 0
NewSessionIsFresh = (worn : Bool) (q : ReqSetup) (h : History) (summary : ℕ) (d : Draw) (entry : Entry)
    → requester_asks worn q h (Open summary) d ≡ Adds entry
    → (1 ≤ free_id h) × (free_id h ≤ 4) × (is_live (session_of (free_id h) h) ≡ false)
    × (session_of (free_id h) (entry ∷ h) ≡ Started (negotiation_of h) (canonical_request (exchange_for q (command_chosen q h d) summary)) ∷ [])

-- ---- Order.

-- The sessions of a made history have their steps in order, and wait for what is outstanding.
abbrev pub SessionsAreInOrder : Type 0
SessionsAreInOrder = (q : ReqSetup) (h : History) (id : ℕ) → IsMade q h → IsInOrder (outstanding h) id (session_of id h)

-- ---- Numbers.

-- Two kinds are one: verify data, records of the handshake, or records after it.
abbrev pub is_same_kind : Kind → Kind → Bool
is_same_kind Verify Verify = true
is_same_kind HandshakeRecord HandshakeRecord = true
is_same_kind ApplicationRecord ApplicationRecord = true
is_same_kind _ _ = false

-- Two purposes of one session's requests are the same.
abbrev pub is_same_purpose : Purpose → Purpose → Bool
is_same_purpose p other = bytes_eq p.transcript other.transcript && is_same_kind p.kind other.kind && p.epoch == other.epoch

-- How many records were sealed under a purpose, each under the one that stood when it was sealed.
abbrev pub sealed_under : List ℕ → Purpose → Steps → ℕ
sealed_under psk p [] = 0
sealed_under psk p (Asked ask inner sealed ∷ older) = if is_same_purpose p (request_purpose psk older) then sealed_under psk p older + 1 else sealed_under psk p older
sealed_under psk p (_ ∷ older) = sealed_under psk p older

-- In each session of a made history, the number of the next record is the count of those sealed under its purpose,
abbrev pub NumbersAreCounts : Type 0
NumbersAreCounts = (q : ReqSetup) (h : History) (id : ℕ) → IsMade q h
    → request_next (session_of id h) ≡ sealed_under q.psk (request_purpose q.psk (session_of id h)) (session_of id h)

-- and an update of the request key starts over, at number 0 of the next epoch.
abbrev pub UpdateBeginsAnew : Type 0
UpdateBeginsAnew = (psk : List ℕ) (s : Steps) (sealed inner answer : List ℕ) (all : Bool)
    → (request_next (Took sealed inner (Grants (AskUpdate all) answer) ∷ s) ≡ 0)
    × ((request_purpose psk (Took sealed inner (Grants (AskUpdate all) answer) ∷ s)).epoch ≡ request_epoch s + 1)

-- ---- Tags.

-- A tag that was compared is the one that was computed.
abbrev pub IsRight : Act → Type 0
IsRight (Made purpose input value) = ⊤
IsRight (Checked purpose input value received) = value ≡ received

-- All tags that were compared are right.
abbrev pub AreRight : List Act → Type 0
AreRight [] = ⊤
AreRight (act ∷ acts) = IsRight act × AreRight acts

-- Where a body adds an entry, each tag that it was compared for is right, whatever is free.
abbrev pub TakenTagsAreRight : Type 0
TakenTagsAreRight = (q : ReqSetup) (h : History) (owner : Bool) (tag : ℕ) (body : List ℕ) (f : Free) (d : Draw) (entry : Entry)
    → hears q h owner tag body f d ≡ Adds entry
    → AreRight (acts_of q h body (Adds entry))
