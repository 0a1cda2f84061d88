use Rattle.std.proofs.Common.{rules, refl, ◌∙◌, ◌≤◌, ◌<◌, ◌^◌, ◌+◌, ◌-◌, ℕ, List, Bool, length, ap, arith, false, subst, sym, true}
use Rattle.requester_core.specs.Joined.{IsCommanded, command_of}
use Rattle.hmac_hkdf.specs.Draw.{Draws}
use Rattle.requester.proofs.Steps.{counts_few, fresh_is, worn_now}
use Rattle.requester.proofs.Commanding.{done_step, drawn_next, failed_step, number_few, worn_told}
use Rattle.requester.proofs.whole.Requester.command.Goals as goal
use Rattle.session_keys.specs.Drawing.{drawn_by}
use Rattle.requester.specs.Standing.{IsTold}
use Rattle.requester_machine.specs.Does.{requester_asks}
use Rattle.requester_machine.specs.Message as message
use Rattle.requester_machine.specs.Requesting.{CommandStep}
use Rattle.spdm_grammar.specs.declared.told.command_fault.CommandFault.TheVariants as fault
use Rattle.spdm_machine.specs.Keys.{Draw}
use Rattle.spdm_machine.specs.Packets.{packets_to}
use Rattle.std.specs.Prelude.{Err, Ok}
use Rattle.session_keys.proofs.Draws.{draw_is}

pub returns-then-self-ge-WEAR_LIMIT : goal.returns-then-self-ge-WEAR_LIMIT
returns-then-self-ge-WEAR_LIMIT c = λ a stands.
    let many : 2 ^ 40 ≤ c.args.self.now.taken = search rules in
    subst (λ (s : CommandStep). IsTold s (Err fault.Worn) c.clear.new.self c.args.self.now) (sym (worn_told a (command_of c.args.command) (worn_now c.args.self.now a stands many)))
    (record { fault = refl; sent = c.clear.ensures; stands = stands })

pub returns-in-Err : goal.returns-in-Err
returns-in-Err c = λ a stands.
    let command : message.Command = command_of c.args.command in
    let few : c.args.self.now.taken < 2 ^ 40 = search rules in
    let fresh = fresh_is c.args.self.now a stands few in
    let entries = stands.entries in
    let below = counts_few a fresh in
    let short : length a.history < 2 ^ 64 - 1 = omega (arith, entries, below) in
    let drawn = draw_is c.peek-drawn.result c.args.self.now.draws.seed c.args.self.now.draws.number c.peek-drawn.ensures.number c.peek-drawn.ensures.bytes ∙ drawn_next c.args.self.now a stands in
    let did = subst (λ (d : Draw). IsCommanded a.setup a.history (requester_asks false a.setup a.history command d) (Err c.in-Err.fault) c.tell.new.body c.tell.new.asking) drawn (c.in-Err.ensures a.setup a.history stands.part short stands.asking) in
    failed_step a command c.in-Err.fault c.clear.new.self c.args.self.now _ stands fresh c.clear.ensures (record { part = refl; taken = refl; assembler = refl; seed = refl }) refl did

pub returns-in-Ok : goal.returns-in-Ok
returns-in-Ok c = λ a stands.
    let command : message.Command = command_of c.args.command in
    let few : c.args.self.now.taken < 2 ^ 40 = search rules in
    let fresh = fresh_is c.args.self.now a stands few in
    let entries = stands.entries in
    let below = counts_few a fresh in
    let short : length a.history < 2 ^ 64 - 1 = omega (arith, entries, below) in
    let drawn = draw_is c.peek-drawn.result c.args.self.now.draws.seed c.args.self.now.draws.number c.peek-drawn.ensures.number c.peek-drawn.ensures.bytes ∙ drawn_next c.args.self.now a stands in
    let did = subst (λ (d : Draw). IsCommanded a.setup a.history (requester_asks false a.setup a.history command d) (Ok c.in-Ok.tag) c.tell.new.body c.tell.new.asking) drawn (c.in-Ok.ensures a.setup a.history stands.part short stands.asking) in
    let moved = c.take_draw.ensures (number_few c.args.self.now a stands fresh) in
    let takes = c.takes_draw.ensures a.setup stands.part.pad in
    let body : List ℕ = c.tell.new.body in
    done_step a command c.in-Ok.tag body c.send.new.out c.args.self.now _ stands fresh (record { part = refl; taken = refl; assembler = refl; seed = ap (λ (x : Draws). x.seed) moved })
    (ap (λ (x : Draws). x.number) moved ∙ ap (λ (b : Bool). c.args.self.now.draws.number + drawn_by b) takes) did
    (λ low long. c.send.ensures a.setup stands.part low (subst (λ (xs : List ℕ). 0 < length xs) (sym c.as_slice.ensures.value) long) ∙ ap (packets_to a.setup.responder a.setup.eid true c.in-Ok.tag a.setup.unit) c.as_slice.ensures.value)
