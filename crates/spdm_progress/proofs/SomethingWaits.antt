-- A command that is answered `ok` where nothing is outstanding sends a message, so a packet waits after it.
use Rattle.std.proofs.Common.{◌≡◌, ◌∙◌, ℕ, ◌<◌, ◌≤◌, List, [], ◌∷◌, ◌++◌, length, drop, Option, Some, None, true, false, refl, sym, ap, subst, arith}
use Rattle.mctp_framing.proofs.Packets.{packets_from}
use Rattle.mctp_framing.specs.Cutting.{RouteFields, packets_of}
use Rattle.requester_machine.specs.Asking.{done, resent}
use Rattle.requester_machine.specs.Asking.Outcome.{Adds}
use Rattle.requester_machine.specs.Commands.{Free}
use Rattle.requester_machine.specs.Does.{command_chosen}
use Rattle.requester_machine.specs.History as asked
use Rattle.requester_machine.specs.History.Entry.{Told as WasTold}
use Rattle.requester_machine.specs.Message.{Command, Content, Sent, body_of}
use Rattle.requester_machine.specs.Message.Command.{Beat, Connect, End, Measure, Open, Retry, Send, Update}
use Rattle.requester_machine.specs.Message.Content.{Clear, Sealed}
use Rattle.requester_machine.specs.Requesting.{CommandStep, Requesting, commanded_by, is_worn, next_draw, packets_of_sent, requester_told}
use Rattle.requester_machine.specs.Setup.{ReqSetup}
use Rattle.requester_machine.specs.Shown.{fault_of}
use Rattle.spdm_machine.specs.Keys.{Draw}
use Rattle.spdm_machine.proofs.Members.{none_some}
use Rattle.world_machine.specs.World.{World, WorldStep, first_waiting, happens, requester_of, with_sent}
use Rattle.spdm_progress.specs.Honest.{NothingWaits}
use Rattle.spdm_progress.specs.SessionCommands.{commanding}
use Rattle.spdm_progress.proofs.Accepted.{told_so}
use Rattle.spdm_progress.proofs.ManyPackets.{idle_waits, packets_within, sent_waits, waiting_in}
use Rattle.spdm_progress.proofs.SessionBegins.{told_is}
use Rattle.requester_machine.proofs.Telling.{fresh_told}

sends_one : (q : ReqSetup) (h : asked.History) (command : Command) (f : Free) (d : Draw) → asked.outstanding h ≡ None → fault_of (done q h command f d) ≡ None → (sent : Sent) × (done q h command f d ≡ Adds (WasTold command sent d))
sends_one q h Connect f d none fine = (_, refl)
sends_one q h (Open summary) f d none fine = (_, refl)
sends_one q h (Send id bytes) f d none fine = (_, refl)
sends_one q h (Beat id) f d none fine = (_, refl)
sends_one q h (Update id all) f d none fine = (_, refl)
sends_one q h (Measure None op) f d none fine = (_, refl)
sends_one q h (Measure (Some id) op) f d none fine = (_, refl)
sends_one q h (End id) f d none fine = (_, refl)
sends_one q h Retry f d none fine = absurd (none_some _ (sym fine ∙ ap (λ (o : Option Sent). fault_of (resent o)) none))

filled : (content : Content) → 0 < length (body_of content)
filled (Clear message) = omega arith
filled (Sealed sealed inner pad) = omega arith

some_packets : (route : RouteFields) (unit : ℕ) (body : List ℕ) → 64 ≤ unit → 0 < length body → packets_of route unit body ≡ [] → ⊥
some_packets route unit body wide some none =
    let count = packets_within unit (length body) body wide some (omega arith) in
    let first = packets_from route unit body 0 count.0 in
    let same : drop 0 (packets_of route unit body) ≡ [] = ap (drop 0) none in
    absurd (cc)

append_none : (xs ys : List (List ℕ)) → xs ++ ys ≡ [] → ys ≡ []
append_none [] ys e = e
append_none (x ∷ xs) ys e = absurd (cc)

pub something_waits : (world : World) (line n : ℕ) (a : Requesting) (command : Command) → requester_of n world ≡ Some a → 64 ≤ a.setup.unit → is_worn a ≡ false → asked.outstanding a.history ≡ None → (requester_told a command).fault ≡ None
    → NothingWaits (commanding world line n command) → ⊥
unfolding happens
something_waits world line n a command is wide fresh none accepted idle =
    let step = told_so a command fresh accepted in
    let fine = sym (ap fault_of step.1) ∙ sym (ap (λ (s : CommandStep). s.fault) (fresh_told a command fresh)) ∙ accepted in
    let one = sends_one a.setup a.history command (command_chosen a.setup a.history (next_draw a)) (next_draw a) none fine in
    let told = told_is world n a command one.0 is (fresh_told a command fresh ∙ ap (commanded_by a) (step.1 ∙ one.1)) in
    let packets = packets_of_sent a.setup (Some one.0) in
    let waits : first_waiting (with_sent world.sent packets) ≡ None = subst (λ (s : WorldStep). first_waiting s.after.sent ≡ None) told idle in
    some_packets (record { to = a.setup.responder; from = a.setup.eid; owner = true; tag = one.0.tag }) a.setup.unit (body_of one.0.content) wide (filled one.0.content) (append_none (waiting_in world.sent) packets (sym (sent_waits world.sent packets) ∙ idle_waits (with_sent world.sent packets) waits))
