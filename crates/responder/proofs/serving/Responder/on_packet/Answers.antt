use Rattle.std.proofs.Common.{rules, refl, ◌≤◌, ◌<◌, ◌^◌, ◌+◌, List, ℕ, subst, sym}
use Rattle.responder.proofs.Harmless.{harmless}
use Rattle.responder.proofs.Steps.{broken_step, fresh_is, fresh_step, worn_is, worn_now}
use Rattle.responder.proofs.serving.Responder.on_packet.Goals as goal
use Rattle.responder.specs.Standing.{IsStep}
use Rattle.responder.specs.Unharmed.{IsHarmless}
use Rattle.responder_machine.proofs.Others.{others}
use Rattle.responder.specs.declared.serving.Responder.{Responder}
use Rattle.responder_machine.specs.Responding.{RspStep}
use Rattle.spdm_grammar.specs.declared.told.heard.Heard.TheVariants as heard
use Rattle.spdm_grammar.specs.declared.told.heard.RspIgnored.TheVariants as ignored

pub returns-then-self-ge-WEAR_LIMIT-clause-step : goal.returns-then-self-ge-WEAR_LIMIT-clause-step
returns-then-self-ge-WEAR_LIMIT-clause-step c = λ r stands.
    let many : 2 ^ 40 ≤ c.args.self.now.given = search rules in
    subst (λ (s : RspStep). IsStep s (heard.Ignored ignored.Worn) c.clear.new.self c.args.self.now) (sym (worn_is r c.args.packet.now (worn_now c.args.self.now r stands many)))
    (record { told = refl; sent = c.clear.ensures; stands = stands })

pub returns-in-Ok-clause-step : goal.returns-in-Ok-clause-step
returns-in-Ok-clause-step c = λ r stands.
    let packet : List ℕ = c.args.packet.now in
    let few : c.args.self.now.given < 2 ^ 40 = search rules in
    subst (λ (s : RspStep). IsStep s c.on_view.result c.on_view.new.out c.on_view.new.self) (sym (fresh_step r packet (fresh_is c.args.self.now r stands few)))
    (c.on_view.ensures r packet (sym c.in-Ok.ensures.parsed) c.clear.ensures stands)

pub returns-in-Err-clause-step : goal.returns-in-Err-clause-step
returns-in-Err-clause-step c = λ r stands.
    let packet : List ℕ = c.args.packet.now in
    let few : c.args.self.now.given < 2 ^ 40 = search rules in
    let new : Responder = record c.args.self.now { given = c.args.self.now.given + 1 } in
    subst (λ (s : RspStep). IsStep s (heard.Ignored (ignored.Packet c.in-Err.fault)) c.clear.new.self new) (sym (fresh_step r packet (fresh_is c.args.self.now r stands few)))
    (broken_step r packet c.in-Err.fault c.clear.new.self c.args.self.now new stands (record { few = few; part = refl; given = refl; shared = refl; peers = refl }) c.clear.ensures (sym c.in-Err.ensures.parsed))

pub returns-then-self-ge-WEAR_LIMIT-clause-harmless : goal.returns-then-self-ge-WEAR_LIMIT-clause-harmless
returns-then-self-ge-WEAR_LIMIT-clause-harmless c = λ r stands.
    subst (IsHarmless r c.args.packet.now) (sym (returns-then-self-ge-WEAR_LIMIT-clause-step c r stands).told) (harmless r c.args.packet.now)

pub returns-in-Ok-clause-harmless : goal.returns-in-Ok-clause-harmless
returns-in-Ok-clause-harmless c = λ r stands.
    subst (IsHarmless r c.args.packet.now) (sym (returns-in-Ok-clause-step c r stands).told) (harmless r c.args.packet.now)

pub returns-in-Err-clause-harmless : goal.returns-in-Err-clause-harmless
returns-in-Err-clause-harmless c = λ r stands.
    subst (IsHarmless r c.args.packet.now) (sym (returns-in-Err-clause-step c r stands).told) (harmless r c.args.packet.now)

pub returns-then-self-ge-WEAR_LIMIT-clause-others : goal.returns-then-self-ge-WEAR_LIMIT-clause-others
returns-then-self-ge-WEAR_LIMIT-clause-others c = λ r stands.
    record { next = _; stands = (returns-then-self-ge-WEAR_LIMIT-clause-step c r stands).stands; others = others r c.args.packet.now }

pub returns-in-Ok-clause-others : goal.returns-in-Ok-clause-others
returns-in-Ok-clause-others c = λ r stands.
    record { next = _; stands = (returns-in-Ok-clause-step c r stands).stands; others = others r c.args.packet.now }

pub returns-in-Err-clause-others : goal.returns-in-Err-clause-others
returns-in-Err-clause-others c = λ r stands.
    record { next = _; stands = (returns-in-Err-clause-step c r stands).stands; others = others r c.args.packet.now }
