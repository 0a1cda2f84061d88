use Rattle.std.proofs.Common.{rules, ◌∙◌, ◌≤◌, ◌<◌, ◌^◌, None, ap, sym}
use Rattle.mctp_framing.specs.Packet.{view_of}
use Rattle.responder.proofs.Brings.{brings_fresh, brings_worn, parsed_brought, taken_too}
use Rattle.responder.proofs.Steps.{fresh_is, worn_now}
use Rattle.responder.proofs.serving.Responder.peek.Goals as goal
use Rattle.responder_machine.specs.NewData.{brings_packet}

pub returns-then-self-ge-WEAR_LIMIT-clause-brings : goal.returns-then-self-ge-WEAR_LIMIT-clause-brings
returns-then-self-ge-WEAR_LIMIT-clause-brings c = λ r stands.
    let many : 2 ^ 40 ≤ c.args.self.now.given = search rules in
    brings_worn r c.args.packet.now (worn_now c.args.self.now r stands many)

pub returns-in-Ok-clause-brings : goal.returns-in-Ok-clause-brings
returns-in-Ok-clause-brings c = λ r stands.
    let few : c.args.self.now.given < 2 ^ 40 = search rules in
    parsed_brought r c.args.packet.now (view_of c.in-Ok.view) c.peek_view.result (fresh_is c.args.self.now r stands few) c.in-Ok.ensures.parsed (c.peek_view.ensures r stands)

pub returns-in-Err-clause-brings : goal.returns-in-Err-clause-brings
returns-in-Err-clause-brings c = λ r stands.
    let few : c.args.self.now.given < 2 ^ 40 = search rules in
    brings_fresh r c.args.packet.now (fresh_is c.args.self.now r stands few) ∙ ap (brings_packet r) (sym c.in-Err.ensures.parsed)

pub returns-then-self-ge-WEAR_LIMIT-clause-taken : goal.returns-then-self-ge-WEAR_LIMIT-clause-taken
returns-then-self-ge-WEAR_LIMIT-clause-taken c = λ r stands. taken_too r c.args.packet.now None (returns-then-self-ge-WEAR_LIMIT-clause-brings c r stands)

pub returns-in-Ok-clause-taken : goal.returns-in-Ok-clause-taken
returns-in-Ok-clause-taken c = λ r stands. taken_too r c.args.packet.now c.peek_view.result (returns-in-Ok-clause-brings c r stands)

pub returns-in-Err-clause-taken : goal.returns-in-Err-clause-taken
returns-in-Err-clause-taken c = λ r stands. taken_too r c.args.packet.now None (returns-in-Err-clause-brings c r stands)
