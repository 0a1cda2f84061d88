-- The step of a command.
use Rattle.std.proofs.Common.{refl, ◌≡◌, ◌≤◌, ◌<◌, ◌∙◌, ◌+◌, ◌-◌, ◌^◌, ℕ, List, [], ◌∷◌, length, Bool, true, false, cond, Option, Some, None, Ok, Err, ap, sym, subst, arith}
use Rattle.std.proofs.lemmas.Option.{none-some}
use Rattle.requester_core.specs.Joined as joined
use Rattle.mctp_framing.specs.Assembling as assembling
use Rattle.requester.proofs.Chosen.{packets_are}
use Rattle.requester.proofs.Steps.{counts_few}
use Rattle.requester.proofs.Tags.{tag_fits}
use Rattle.session_keys.specs.Drawing.{drawn_by}
use Rattle.requester.specs.SetUp.{IsPart}
use Rattle.requester.specs.Standing.{IsTold, StandsFor, last_first}
use Rattle.requester.specs.declared.part.Part.{Part}
use Rattle.requester.specs.declared.whole.Requester.{Requester}
use Rattle.requester_machine.proofs.Making.{asks_made}
use Rattle.requester_machine.specs.Asking.{Outcome, asks, asks_by, done, resent}
use Rattle.requester_machine.specs.Asking.Outcome.{Adds, Fails, Ignores, Resends, Warns}
use Rattle.requester_machine.specs.Commands.{Free, command_fault}
use Rattle.requester_machine.specs.Does.{IsMade, command_chosen, requester_asks}
use Rattle.requester_machine.specs.History.{History, draws_of, outstanding, takes_draw}
use Rattle.requester_machine.specs.History.Entry.{Told, TookClear, TookRecord}
use Rattle.requester_machine.specs.Message.{Command, Sent}
use Rattle.requester_machine.specs.Message.Command.{Beat, Connect, End, Measure, Open, Retry, Send, Update}
use Rattle.requester_machine.specs.Requesting.{CommandStep, Requesting, commanded_by, is_worn, next_draw, packets_of_sent, requester_told, worn_command}
use Rattle.requester_machine.specs.Setup.{ReqSetup}
use Rattle.requester_machine.specs.Shown.{after, fault_of, sent_by}
use Rattle.spdm_grammar.specs.declared.told.command_fault.CommandFault.{CommandFault}
use Rattle.spdm_grammar.specs.declared.told.command_fault.CommandFault.TheVariants as fault
use Rattle.spdm_machine.specs.Keys.{Draw, draw_of}
use Rattle.spdm_machine.specs.Packets.{fields_in, packets_to}
use Rattle.requester_machine.proofs.Runs.{one_more}
use Rattle.requester_machine.proofs.Telling.{fresh_told, resent_is}
use Rattle.session_keys.proofs.Draws.{counted_as}

-- ---- Worn or not.

asks_worn : (q : ReqSetup) (h : History) (command : Command) (f : Free) (d : Draw) → asks true q h command f d ≡ Fails fault.Worn
unfolding asks command_fault
asks_worn q h command f d = refl

pub worn_told : (a : Requesting) (command : Command) → is_worn a ≡ true → requester_told a command ≡ worn_command a (Fails fault.Worn)
unfolding requester_told
worn_told a command worn =
    ap (λ (b : Bool). cond b (worn_command a (requester_asks true a.setup a.history command (next_draw a))) (commanded_by a (requester_asks false a.setup a.history command (next_draw a)))) worn
    ∙ ap (worn_command a) (asks_worn a.setup a.history command (command_chosen a.setup a.history (next_draw a)) (next_draw a))

-- ---- Draws.

resent_draws : (q : ReqSetup) (h : History) (o : Option Sent) → fault_of (resent o) ≡ None → draws_of q (after h (resent o)) ≡ draws_of q h + 0
resent_draws q h None none = absurd (none-some fault.NothingToRetry (sym none))
resent_draws q h (Some sent) none = omega arith

draws_done : (q : ReqSetup) (h : History) (command : Command) (f : Free) (d : Draw) → fault_of (done q h command f d) ≡ None → draws_of q (after h (done q h command f d)) ≡ draws_of q h + drawn_by (takes_draw q command)
draws_done q h Connect f d none = counted_as (takes_draw q Connect) (draws_of q h)
draws_done q h (Open summary) f d none = counted_as (takes_draw q (Open summary)) (draws_of q h)
draws_done q h (Send id bytes) f d none = counted_as (takes_draw q (Send id bytes)) (draws_of q h)
draws_done q h (Beat id) f d none = counted_as (takes_draw q (Beat id)) (draws_of q h)
draws_done q h (Update id all) f d none = counted_as (takes_draw q (Update id all)) (draws_of q h)
draws_done q h (Measure None op) f d none = counted_as (takes_draw q (Measure None op)) (draws_of q h)
draws_done q h (Measure (Some id) op) f d none = counted_as (takes_draw q (Measure (Some id) op)) (draws_of q h)
draws_done q h (End id) f d none = counted_as (takes_draw q (End id)) (draws_of q h)
draws_done q h Retry f d none = resent_draws q h (outstanding h) none

draws_by : (q : ReqSetup) (h : History) (command : Command) (f : Free) (d : Draw) (o : Option CommandFault) → fault_of (asks_by q h command f d o) ≡ None → draws_of q (after h (asks_by q h command f d o)) ≡ draws_of q h + drawn_by (takes_draw q command)
draws_by q h command f d (Some why) none = absurd (none-some why (sym none))
draws_by q h command f d None none = draws_done q h command f d none

draws_after : (q : ReqSetup) (h : History) (command : Command) (f : Free) (d : Draw) → fault_of (asks false q h command f d) ≡ None → draws_of q (after h (asks false q h command f d)) ≡ draws_of q h + drawn_by (takes_draw q command)
unfolding asks
draws_after q h command f d none = draws_by q h command f d (command_fault false q h command f) none

one_draw : (b : Bool) (n m : ℕ) → n ≤ m → cond b (n + 1) n ≤ m + 1
one_draw true n m few = omega (arith, few)
one_draw false n m few = omega (arith, few)

draws_few : (q : ReqSetup) (h : History) → draws_of q h ≤ length h
draws_few q [] = omega arith
draws_few q (Told command sent d ∷ older) =
    let few : draws_of q (Told command sent d ∷ older) ≤ length older + 1 = one_draw (takes_draw q command) (draws_of q older) (length older) (draws_few q older) in
    omega (arith, few)
draws_few q (TookClear tag m led d ∷ older) = (let few = draws_few q older in omega (arith, few))
draws_few q (TookRecord tag id sealed inner led d ∷ older) = (let few = draws_few q older in omega (arith, few))

pub number_few : (old : Requester) (a : Requesting) → StandsFor old a → is_worn a ≡ false → old.draws.number < 2 ^ 64 - 1
number_few old a stands fresh =
    let number = stands.number in
    let first : a.first ≤ last_first = stands.first in
    let entries = stands.entries in
    let below = counts_few a fresh in
    let few = draws_few a.setup a.history in
    omega (arith, number, first, entries, below, few)

pub drawn_next : (old : Requester) (a : Requesting) → StandsFor old a → draw_of old.draws.seed old.draws.number ≡ next_draw a
unfolding next_draw
drawn_next old a stands = ap (λ (s : List ℕ). draw_of s old.draws.number) stands.seed ∙ ap (draw_of a.seed) stands.number

-- ---- What is sent.

done_waits : (q : ReqSetup) (h : History) (command : Command) (f : Free) (d : Draw) (sent : Sent) → done q h command f d ≡ Resends sent → outstanding h ≡ Some sent
done_waits q h Connect f d sent is = absurd (cc is)
done_waits q h (Open summary) f d sent is = absurd (cc is)
done_waits q h (Send id bytes) f d sent is = absurd (cc is)
done_waits q h (Beat id) f d sent is = absurd (cc is)
done_waits q h (Update id all) f d sent is = absurd (cc is)
done_waits q h (Measure None op) f d sent is = absurd (cc is)
done_waits q h (Measure (Some id) op) f d sent is = absurd (cc is)
done_waits q h (End id) f d sent is = absurd (cc is)
done_waits q h Retry f d sent is = resent_is sent (outstanding h) is

waits_by : (q : ReqSetup) (h : History) (command : Command) (f : Free) (d : Draw) (sent : Sent) (o : Option CommandFault) → asks_by q h command f d o ≡ Resends sent → outstanding h ≡ Some sent
waits_by q h command f d sent (Some why) is = absurd (cc is)
waits_by q h command f d sent None is = done_waits q h command f d sent is

waits : (q : ReqSetup) (h : History) (command : Command) (f : Free) (d : Draw) (sent : Sent) → asks false q h command f d ≡ Resends sent → outstanding h ≡ Some sent
unfolding asks
waits q h command f d sent is = waits_by q h command f d sent (command_fault false q h command f) is

out_fits : (q : ReqSetup) (h : History) (o : Outcome) (sent : Sent) → IsMade q h → IsMade q (after h o) → ((x : Sent) → o ≡ Resends x → outstanding h ≡ Some x) → sent_by o ≡ Some sent → sent.tag < 8
out_fits q h (Fails why) sent made after_made again is = absurd (none-some sent is)
out_fits q h (Ignores cause) sent made after_made again is = absurd (none-some sent is)
out_fits q h (Warns code) sent made after_made again is = absurd (none-some sent is)
out_fits q h (Resends x) sent made after_made again is = tag_fits q h sent made (again x refl ∙ is)
out_fits q h (Adds entry) sent made after_made again is = tag_fits q (entry ∷ h) sent after_made is

-- ---- The steps, as they are at the return.

-- What a command leaves as it was.
pub record Counts (old new : Requester) : Type 0 where
  pub part : new.part ≡ old.part
  pub taken : new.taken ≡ old.taken + 1
  pub assembler : new.assembler ≡ old.assembler
  pub seed : new.draws.seed ≡ old.draws.seed

told_after : (a : Requesting) (h : History) (old new : Requester) → StandsFor old a → is_worn a ≡ false → Counts old new → new.draws.number ≡ a.first + draws_of a.setup h → joined.StandsFor new.asking a.setup h → IsMade a.setup h → length h ≤ length a.history + 1
    → StandsFor new (record a { commands = a.commands + 1; history = h })
told_after a h old new stands fresh counts number asking made more =
    let count = stands.count in
    let taken = counts.taken in
    let entries = stands.entries in
    let below = counts_few a fresh in
    record {
      part = subst (λ (part : Part). IsPart part a.setup) (sym counts.part) stands.part;
      seed = counts.seed ∙ stands.seed;
      number = number;
      count = omega (arith, count, taken);
      receiver = ap (λ (x : assembling.Assembly). x.receiver) counts.assembler ∙ stands.receiver;
      assembler = subst (λ (x : assembling.Assembly). assembling.StandsFor x (fields_in a.given)) (sym counts.assembler) stands.assembler;
      asking = asking;
      made = made;
      entries = omega (arith, entries, more);
      limit = omega (arith, below);
      first = stands.first;
    }

pub failed_step : (a : Requesting) (command : Command) (why : CommandFault) (out : List (List ℕ)) (old new : Requester) → StandsFor old a → is_worn a ≡ false → out ≡ [] → Counts old new → new.draws.number ≡ old.draws.number
    → (requester_asks false a.setup a.history command (next_draw a) ≡ Fails why) × joined.StandsFor new.asking a.setup a.history → IsTold (requester_told a command) (Err why) out new
failed_step a command why out old new stands fresh empty counts same fails =
    subst (λ (s : CommandStep). IsTold s (Err why) out new) (sym (fresh_told a command fresh ∙ ap (commanded_by a) fails.0)) (record {
      fault = refl;
      sent = empty;
      stands = told_after a a.history old new stands fresh counts (same ∙ stands.number) fails.1 stands.made (omega arith);
    })

pub done_step : (a : Requesting) (command : Command) (tag : ℕ) (body : List ℕ) (out : List (List ℕ)) (old new : Requester) → StandsFor old a → is_worn a ≡ false → Counts old new
    → new.draws.number ≡ old.draws.number + drawn_by (takes_draw a.setup command) → joined.IsDone a.setup a.history (requester_asks false a.setup a.history command (next_draw a)) tag body new.asking
    → (tag < 8 → 0 < length body → out ≡ packets_to a.setup.responder a.setup.eid true tag a.setup.unit body) → IsTold (requester_told a command) (Ok tt) out new
done_step a command tag body out old new stands fresh counts drawn did sends =
    let q = a.setup in
    let h = a.history in
    let d = next_draw a in
    let f = command_chosen q h d in
    let o = requester_asks false q h command d in
    let made = (asks_made q h command d stands.made).made in
    let number = stands.number in
    let draws = draws_after q h command f d did.fault in
    subst (λ (s : CommandStep). IsTold s (Ok tt) out new) (sym (fresh_told a command fresh)) (record {
      fault = sym did.fault;
      sent = packets_are q did.sent tag body out did.tag_is did.body_is (out_fits q h o did.sent stands.made made (λ x. waits q h command f d x) did.sends) sends ∙ ap (packets_of_sent q) (sym did.sends);
      stands = told_after a (after h o) old new stands fresh counts (omega (arith, drawn, number, draws)) did.stands made (one_more h o);
    })
