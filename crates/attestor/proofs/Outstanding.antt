-- Whether a request is outstanding after a packet and after a command, and that a packet sends nothing where none is.
use Rattle.std.proofs.Common.{refl, ◌≡◌, ◌∙◌, ℕ, List, [], Bool, true, false, Option, Some, None, ap, sym, subst}
use Rattle.std.specs.Prelude.{◌||◌, if◌then◌else◌, is_none, is_some, unwrap_or, Result, Ok, Err}
use Rattle.attestor.proofs.Tells.{EntryTells, entry_tells, says_next}
use Rattle.attestor.specs.Standing.{waits_after}
use Rattle.mctp_framing.specs.Gathering.{Gathered}
use Rattle.mctp_framing.specs.Gathering.Gathered.{Whole, More, Dropped}
use Rattle.mctp_framing.specs.Packet.{PacketFields, parsed}
use Rattle.requester_machine.specs.Asking.{Outcome, asks, asks_by, done, resent}
use Rattle.requester_machine.specs.Asking.Outcome.{Fails, Ignores, Warns, Resends, Adds}
use Rattle.requester_machine.specs.Bodies.{body_fault}
use Rattle.requester_machine.specs.Commands.{Free, command_fault}
use Rattle.requester_machine.specs.Does.{body_chosen, command_chosen, requester_asks, requester_hears}
use Rattle.requester_machine.specs.Hearing.{hears, hears_by}
use Rattle.requester_machine.specs.History.{Entry, History, outstanding}
use Rattle.requester_machine.specs.History.Entry.{Told, TookClear, TookRecord}
use Rattle.requester_machine.specs.Message.{Command, Sent}
use Rattle.requester_machine.specs.Message.Command.{Beat, Connect, End, Measure, Open, Retry, Send, Update}
use Rattle.requester_machine.specs.Requesting.{CommandStep, PacketStep, Requesting, commanded_by, heard_by, hears_gathered, hears_packet, is_worn, next_draw, packets_of_sent, requester_given, requester_told, worn_command, worn_step}
use Rattle.requester_machine.specs.Setup.{ReqSetup}
use Rattle.requester_machine.specs.Shown.{after, event_of, fault_of, sent_by}
use Rattle.spdm_basis.specs.declared.PacketFault.{PacketFault}
use Rattle.spdm_grammar.specs.declared.told.command_fault.CommandFault.{CommandFault}
use Rattle.spdm_grammar.specs.declared.told.event.Event.{Event}
use Rattle.spdm_grammar.specs.declared.told.event.Event.TheVariants as event
use Rattle.spdm_grammar.specs.declared.told.event.ReqIgnored.{ReqIgnored}
use Rattle.spdm_machine.specs.Keys.{Draw}
use Rattle.spdm_machine.specs.Packets.{gathered_from}

abbrev is_out : History → Bool
is_out h = is_some (outstanding h)

-- ---- A packet.

said_next : (e : Event) (next before : Bool) → says_next e ≡ Some next → next ≡ waits_after e before
said_next event.Progress next before is = cc
said_next (event.Done finish) next before is = cc
said_next (event.Refused code) next before is = cc
said_next (event.Stopped why) next before is = cc
said_next (event.Lost id reply) next before is = cc
said_next event.More next before is = cc
said_next (event.Warned code) next before is = cc
said_next (event.Ignored cause) next before is = cc

entry_waits : (h : History) (entry : Entry) → EntryTells entry → is_out (after h (Adds entry)) ≡ waits_after (unwrap_or (event_of (Adds entry)) event.More) (is_out h)
entry_waits h (Told command sent d) tells = absurd tells
entry_waits h (TookClear tag m led d) tells = said_next led.event (is_some led.next) (is_out h) tells
entry_waits h (TookRecord tag id sealed inner led d) tells = said_next led.event (is_some led.next) (is_out h) tells

outcome_waits : (h : History) (outcome : Outcome) → ((entry : Entry) → outcome ≡ Adds entry → EntryTells entry) → is_out (after h outcome) ≡ waits_after (unwrap_or (event_of outcome) event.More) (is_out h)
outcome_waits h (Fails fault) tells = refl
outcome_waits h (Ignores cause) tells = refl
outcome_waits h (Warns code) tells = refl
outcome_waits h (Resends sent) tells = refl
outcome_waits h (Adds entry) tells = entry_waits h entry (tells entry refl)

abbrev GivenWaits : Requesting → PacketStep → Type 0
GivenWaits a step = is_out step.after.history ≡ waits_after step.event (is_out a.history)

gathered_waits : (a : Requesting) (packet : List ℕ) (g : Gathered) → GivenWaits a (hears_gathered a packet g)
gathered_waits a packet (Whole route body) =
    outcome_waits a.history (requester_hears a.setup a.history route.owner route.tag body (next_draw a))
    (λ entry is. entry_tells a.setup a.history route.owner route.tag body (body_chosen a.setup a.history (next_draw a)) (next_draw a) entry is)
gathered_waits a packet More = refl
gathered_waits a packet (Dropped cause) = refl

packet_waits : (a : Requesting) (packet : List ℕ) (parts : Result PacketFields PacketFault) → GivenWaits a (hears_packet a packet parts)
packet_waits a packet (Err fault) = refl
packet_waits a packet (Ok fields) = gathered_waits a packet (gathered_from a.setup.eid a.setup.responder a.given fields)

if_waits : (a : Requesting) (b : Bool) (x y : PacketStep) → GivenWaits a x → GivenWaits a y → GivenWaits a (if b then x else y)
if_waits a true x y first second = first
if_waits a false x y first second = second

pub given_waits : (a : Requesting) (packet : List ℕ) → GivenWaits a (requester_given a packet)
unfolding requester_given
given_waits a packet = if_waits a (is_worn a) (worn_step a) (hears_packet a packet (parsed packet)) refl (packet_waits a packet (parsed packet))

-- ---- A packet where nothing is outstanding.

-- nothing is sent, and nothing is outstanding afterwards
abbrev IsQuiet : PacketStep → Type 0
IsQuiet step = (step.sent ≡ []) × (is_out step.after.history ≡ false)

unheard : (q : ReqSetup) (h : History) (f : Free) (tag : ℕ) (body : List ℕ) (d : Draw) (waiting : Option Sent) (cause : Option ReqIgnored) → is_some waiting ≡ false → (c : ReqIgnored) × (hears_by q h f tag body d waiting cause ≡ Ignores c)
unheard q h f tag body d waiting (Some cause) none = (cause, refl)
unheard q h f tag body d None None none = (_, refl)
unheard q h f tag body d (Some sent) None none = absurd (cc)

ignored : (q : ReqSetup) (h : History) (owner : Bool) (tag : ℕ) (body : List ℕ) (f : Free) (d : Draw) → is_out h ≡ false → (c : ReqIgnored) × (hears q h owner tag body f d ≡ Ignores c)
unfolding hears
ignored q h owner tag body f d none = unheard q h f tag body d (outstanding h) (body_fault q (outstanding h) owner tag body) none

gathered_quiet : (a : Requesting) (packet : List ℕ) (g : Gathered) → is_out a.history ≡ false → IsQuiet (hears_gathered a packet g)
gathered_quiet a packet (Whole route body) none =
    let own = ignored a.setup a.history route.owner route.tag body (body_chosen a.setup a.history (next_draw a)) (next_draw a) none in
    subst (λ (o : Outcome). IsQuiet (heard_by a packet body o)) (sym own.1) (refl, none)
gathered_quiet a packet More none = (refl, none)
gathered_quiet a packet (Dropped cause) none = (refl, none)

packet_quiet : (a : Requesting) (packet : List ℕ) (parts : Result PacketFields PacketFault) → is_out a.history ≡ false → IsQuiet (hears_packet a packet parts)
packet_quiet a packet (Err fault) none = (refl, none)
packet_quiet a packet (Ok fields) none = gathered_quiet a packet (gathered_from a.setup.eid a.setup.responder a.given fields) none

if_quiet : (b : Bool) (x y : PacketStep) → IsQuiet x → IsQuiet y → IsQuiet (if b then x else y)
if_quiet true x y first second = first
if_quiet false x y first second = second

pub given_quiet : (a : Requesting) (packet : List ℕ) → is_out a.history ≡ false → IsQuiet (requester_given a packet)
unfolding requester_given
given_quiet a packet none = if_quiet (is_worn a) (worn_step a) (hears_packet a packet (parsed packet)) (refl, none) (packet_quiet a packet (parsed packet) none)

-- ---- A command.

-- a request is outstanding where the command has no fault, or one was before
abbrev ToldWaits : Requesting → CommandStep → Type 0
ToldWaits a step = is_out step.after.history ≡ (is_none step.fault || is_out a.history)

resent_waits : (h : History) (waiting : Option Sent) → outstanding h ≡ waiting → is_out (after h (resent waiting)) ≡ (is_none (fault_of (resent waiting)) || is_out h)
resent_waits h None waits = refl
resent_waits h (Some sent) waits = ap is_some waits

done_waits : (q : ReqSetup) (h : History) (command : Command) (f : Free) (d : Draw) → is_out (after h (done q h command f d)) ≡ (is_none (fault_of (done q h command f d)) || is_out h)
done_waits q h Connect f d = refl
done_waits q h (Open summary) f d = refl
done_waits q h (Send id bytes) f d = refl
done_waits q h (Beat id) f d = refl
done_waits q h (Update id all) f d = refl
done_waits q h (Measure None op) f d = refl
done_waits q h (Measure (Some id) op) f d = refl
done_waits q h (End id) f d = refl
done_waits q h Retry f d = resent_waits h (outstanding h) refl

asked_waits : (q : ReqSetup) (h : History) (command : Command) (f : Free) (d : Draw) (fault : Option CommandFault) → is_out (after h (asks_by q h command f d fault)) ≡ (is_none (fault_of (asks_by q h command f d fault)) || is_out h)
asked_waits q h command f d (Some fault) = refl
asked_waits q h command f d None = done_waits q h command f d

asks_waits : (worn : Bool) (q : ReqSetup) (h : History) (command : Command) (f : Free) (d : Draw) → is_out (after h (asks worn q h command f d)) ≡ (is_none (fault_of (asks worn q h command f d)) || is_out h)
unfolding asks
asks_waits worn q h command f d = asked_waits q h command f d (command_fault worn q h command f)

-- a worn requester has a fault
worn_waits : (q : ReqSetup) (h : History) (command : Command) (f : Free) (d : Draw) → is_none (fault_of (asks true q h command f d)) ≡ false
unfolding asks command_fault
worn_waits q h command f d = refl

if_told : (a : Requesting) (b : Bool) (x y : CommandStep) → ToldWaits a x → ToldWaits a y → ToldWaits a (if b then x else y)
if_told a true x y first second = first
if_told a false x y first second = second

pub told_waits : (a : Requesting) (command : Command) → ToldWaits a (requester_told a command)
unfolding requester_told
told_waits a command =
    let f = command_chosen a.setup a.history (next_draw a) in
    if_told a (is_worn a) (worn_command a (requester_asks true a.setup a.history command (next_draw a))) (commanded_by a (requester_asks false a.setup a.history command (next_draw a)))
    (ap (λ (b : Bool). b || is_out a.history) (sym (worn_waits a.setup a.history command f (next_draw a))))
    (asks_waits false a.setup a.history command f (next_draw a))

-- ---- What a command with a fault sends.

failed_sends : (q : ReqSetup) (outcome : Outcome) → is_some (fault_of outcome) ≡ true → packets_of_sent q (sent_by outcome) ≡ []
failed_sends q (Fails fault) failed = refl
failed_sends q (Ignores cause) failed = refl
failed_sends q (Warns code) failed = refl
failed_sends q (Resends sent) failed = absurd (cc)
failed_sends q (Adds entry) failed = absurd (cc)

if_failed : (b : Bool) (x y : CommandStep) → (is_some x.fault ≡ true → x.sent ≡ []) → (is_some y.fault ≡ true → y.sent ≡ []) → is_some (if b then x else y).fault ≡ true → (if b then x else y).sent ≡ []
if_failed true x y first second = first
if_failed false x y first second = second

pub fault_sends_nothing : (a : Requesting) (command : Command) → is_some (requester_told a command).fault ≡ true → (requester_told a command).sent ≡ []
unfolding requester_told
fault_sends_nothing a command =
    if_failed (is_worn a) (worn_command a (requester_asks true a.setup a.history command (next_draw a))) (commanded_by a (requester_asks false a.setup a.history command (next_draw a)))
    (λ failed. refl) (failed_sends a.setup (requester_asks false a.setup a.history command (next_draw a)))
