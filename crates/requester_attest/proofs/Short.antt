-- Each packet that an attestor sends fits into a frame.
use Rattle.std.proofs.Common.{◌≡◌, ◌≤◌, ℕ, List, Bool, true, false, Option, Some, None, Result, Ok, Err, refl, subst, sym, arith}
use Rattle.std.specs.Prelude.{if◌then◌else◌, is_some}
use Rattle.attestor.specs.Attesting.{AttestStep, Attesting, Decision, attesting_given, attesting_started, attesting_timed, follows, given_by, goes, goes_on, goes_on_by, own_session, started_by, tells, with_requester}
use Rattle.attestor.specs.Attesting.Decision.{Undecided, Measured, Failed}
use Rattle.attestor.specs.Standing as attestor
use Rattle.attestor.specs.declared.attestor.Attestor.{Attestor}
use Rattle.frame_stream.proofs.Framed.{cut_short}
use Rattle.frame_stream.specs.Packets.{AreShort}
use Rattle.mctp_framing.specs.Gathering.{Gathered}
use Rattle.mctp_framing.specs.Gathering.Gathered.{Whole, More, Dropped}
use Rattle.mctp_framing.specs.Packet.{PacketFields, parsed}
use Rattle.requester_machine.specs.Does.{requester_asks, requester_hears}
use Rattle.requester_machine.specs.History.{outstanding}
use Rattle.requester_machine.specs.Message.{Command, Sent, body_of}
use Rattle.requester_machine.specs.Message.Command.{Connect, End, Measure, Open, Retry}
use Rattle.requester_machine.specs.Requesting.{CommandStep, PacketStep, Requesting, commanded_by, hears_gathered, hears_packet, is_worn, next_draw, packets_of_sent, requester_given, requester_told, worn_command, worn_step}
use Rattle.requester_machine.specs.Setup.{ReqSetup}
use Rattle.requester_machine.specs.Shown.{sent_by}
use Rattle.spdm_basis.specs.declared.PacketFault.{PacketFault}
use Rattle.spdm_grammar.specs.declared.names.TheConstants.{ALL_BLOCKS}
use Rattle.spdm_grammar.specs.declared.told.command_fault.CommandFault.{CommandFault}
use Rattle.spdm_grammar.specs.declared.told.event.Event.{Event}
use Rattle.spdm_grammar.specs.declared.told.event.Event.TheVariants as event
use Rattle.spdm_grammar.specs.declared.told.event.Finished.TheVariants as finished
use Rattle.spdm_machine.specs.Packets.{gathered_from}

-- ---- A requester.

short_of : (q : ReqSetup) (sent : Option Sent) → q.unit ≤ 1024 → AreShort (packets_of_sent q sent)
short_of q None few = tt
short_of q (Some sent) few = cut_short (record { to = q.responder; from = q.eid; owner = true; tag = sent.tag }) q.unit (body_of sent.content) few

told_if : (b : Bool) (x y : CommandStep) → AreShort x.sent → AreShort y.sent → AreShort (if b then x else y).sent
told_if true x y first second = first
told_if false x y first second = second

short_told : (a : Requesting) (command : Command) → a.setup.unit ≤ 1024 → AreShort (requester_told a command).sent
unfolding requester_told
short_told a command few =
    told_if (is_worn a) (worn_command a (requester_asks true a.setup a.history command (next_draw a))) (commanded_by a (requester_asks false a.setup a.history command (next_draw a)))
    tt (short_of a.setup (sent_by (requester_asks false a.setup a.history command (next_draw a))) few)

-- a packet changes no set-up, and what is sent upon it is short
abbrev GivenShort : Requesting → PacketStep → Type 0
GivenShort a step = AreShort step.sent × (step.after.setup.unit ≡ a.setup.unit)

given_if : (a : Requesting) (b : Bool) (x y : PacketStep) → GivenShort a x → GivenShort a y → GivenShort a (if b then x else y)
given_if a true x y first second = first
given_if a false x y first second = second

short_gathered : (a : Requesting) (packet : List ℕ) (g : Gathered) → a.setup.unit ≤ 1024 → GivenShort a (hears_gathered a packet g)
short_gathered a packet (Whole route body) few = (short_of a.setup (sent_by (requester_hears a.setup a.history route.owner route.tag body (next_draw a))) few, refl)
short_gathered a packet More few = (tt, refl)
short_gathered a packet (Dropped cause) few = (tt, refl)

short_packet : (a : Requesting) (packet : List ℕ) (parts : Result PacketFields PacketFault) → a.setup.unit ≤ 1024 → GivenShort a (hears_packet a packet parts)
short_packet a packet (Err fault) few = (tt, refl)
short_packet a packet (Ok fields) few = short_gathered a packet (gathered_from a.setup.eid a.setup.responder a.given fields) few

short_given : (a : Requesting) (packet : List ℕ) → a.setup.unit ≤ 1024 → GivenShort a (requester_given a packet)
unfolding requester_given
short_given a packet few = given_if a (is_worn a) (worn_step a) (hears_packet a packet (parsed packet)) (tt, refl) (short_packet a packet (parsed packet) few)

-- ---- An attestor.

unit_few : (seen : Attestor) (a : Attesting) → attestor.StandsFor seen a → a.requester.setup.unit ≤ 1024
unit_few seen a stands =
    let low : seen.requester.part.unit ≤ 1024 = seen.requester.part.unit_high in
    omega (arith, stands.requester.part.unit, low)

short_start : (a : Attesting) (decision : Decision) → a.requester.setup.unit ≤ 1024 → AreShort (started_by a decision).sent
short_start a Undecided few = short_told a.requester Connect few
short_start a (Measured blocks) few = tt
short_start a Failed few = tt

pub short_started : (seen : Attestor) (a : Attesting) → attestor.StandsFor seen a → AreShort (attesting_started a).sent
unfolding attesting_started
short_started seen a stands = short_start a a.decision (unit_few seen a stands)

short_next : (a : Attesting) (step : CommandStep) (fault : Option CommandFault) → AreShort step.sent → AreShort (goes_on_by a step fault).sent
short_next a step None short = short
short_next a step (Some fault) short = short

short_on : (a : Attesting) (command : Command) → a.requester.setup.unit ≤ 1024 → AreShort (goes_on a command).sent
short_on a command few = short_next a (requester_told a.requester command) (requester_told a.requester command).fault (short_told a.requester command few)

short_follows : (a : Attesting) (sent : List (List ℕ)) (e : Event) → a.requester.setup.unit ≤ 1024 → AreShort sent → AreShort (follows a sent e).sent
short_follows a sent (event.Done finished.Connected) few short = short_on a (Open 0) few
short_follows a sent (event.Done (finished.Opened id)) few short = short_on a (Measure (Some own_session) ALL_BLOCKS) few
short_follows a sent (event.Done (finished.Measured number)) few short = short_told a.requester (End own_session) few
short_follows a sent (event.Refused code) few short = short
short_follows a sent (event.Stopped why) few short = short
short_follows a sent (event.Lost id reply) few short = short
short_follows a sent _ few short = short

short_led : (a : Attesting) (step : PacketStep) (decision : Decision) → a.requester.setup.unit ≤ 1024 → GivenShort a.requester step → AreShort (given_by a step decision).sent
short_led a step Undecided few short = short_follows (with_requester a step.after) step.sent step.event (subst (λ n. n ≤ 1024) (sym short.1) few) short.0
short_led a step (Measured blocks) few short = short.0
short_led a step Failed few short = short.0

pub short_attested : (seen : Attestor) (a : Attesting) (packet : List ℕ) → attestor.StandsFor seen a → AreShort (attesting_given a packet).sent
unfolding attesting_given
short_attested seen a packet stands = short_led a (requester_given a.requester packet) a.decision (unit_few seen a stands) (short_given a.requester packet (unit_few seen a stands))

step_if : (b : Bool) (x y : AttestStep) → AreShort x.sent → AreShort y.sent → AreShort (if b then x else y).sent
step_if true x y first second = first
step_if false x y first second = second

pub short_timed : (seen : Attestor) (a : Attesting) → attestor.StandsFor seen a → AreShort (attesting_timed a).sent
unfolding attesting_timed
short_timed seen a stands =
    step_if (is_some (outstanding a.requester.history)) (tells a (requester_told a.requester Retry)) (goes a _) (short_told a.requester Retry (unit_few seen a stands)) tt
