use Rattle.std.proofs.Common.{◌≡◌, ◌<◌, ◌-◌, ◌^◌, refl, sym, subst, length, None, Result, inl, arith}
use Rattle.mctp_framing.specs.Cutting.{route_of}
use Rattle.mctp_framing.specs.Gathering.Gathered.{Whole}
use Rattle.spdm_grammar.specs.declared.told.why.Why as declared
use Rattle.check_fetched_ends.specs.MarkedEnds.{IsAskedOf}
use Rattle.check_laws.specs.Order.{asked_why}
use Rattle.trace_check.proofs.bodies.takes_request.Goals as goal

pub returns-in-Ok-clause-told : goal.returns-in-Ok-clause-told
returns-in-Ok-clause-told c = λ w q older rows packet is few fits now stands entries.
    let body = c.args.body.now in
    let less : length older < 2 ^ 64 - 1 = omega (arith, few) in
    let none : asked_why c.args.round.now (Whole (route_of c.args.route) body) ≡ None = sym c.in_default.ensures in
    let told = c.asks.ensures.told w q older rows packet (route_of c.args.route) is less fits refl now none stands entries in
    inl (subst (λ (x : Result Unit declared.Why). IsAskedOf w q older rows packet (Whole (route_of c.args.route) body) x c.asks.new.self c.asks.new.table) c.in-Ok.is told)

pub returns-in-Err-clause-told : goal.returns-in-Err-clause-told
returns-in-Err-clause-told c = λ w q older rows packet is few fits now stands entries.
    let body = c.args.body.now in
    let less : length older < 2 ^ 64 - 1 = omega (arith, few) in
    let none : asked_why c.args.round.now (Whole (route_of c.args.route) body) ≡ None = sym c.in_default.ensures in
    let told = c.asks.ensures.told w q older rows packet (route_of c.args.route) is less fits refl now none stands entries in
    inl (subst (λ (x : Result Unit declared.Why). IsAskedOf w q older rows packet (Whole (route_of c.args.route) body) x c.asks.new.self c.asks.new.table) c.in-Err.is told)
