use Rattle.std.proofs.Common.{◌≡◌, ◌∙◌, sym, ap, subst, None, Result, Ok, inl}
use Rattle.std.specs.Prelude.{IfOk}
use Rattle.mctp_framing.specs.Cutting.{route_of}
use Rattle.mctp_framing.specs.Gathering.Gathered.{Whole}
use Rattle.spdm_grammar.specs.declared.told.why.Why as declared
use Rattle.spdm_basis.specs.declared.OutOfMemory.{OutOfMemory}
use Rattle.check_fetched_ends.specs.MarkedEnds.{IsJudgedAnswer}
use Rattle.check_laws.specs.Order.{answered_why}
use Rattle.trace_check.proofs.bodies.takes_answer.Goals as goal

pub returns-in-Ok-clause-told : goal.returns-in-Ok-clause-told
returns-in-Ok-clause-told c = λ w q older rows packet is few byte now set_up stands entries.
    let answer = c.args.answer.now in
    let none : answered_why c.args.round.now (Whole (route_of c.args.route) answer) ≡ None = sym c.in_default.ensures in
    let told = subst (λ (x : Result (Result Unit declared.Why) OutOfMemory). IfOk x (λ y. IsJudgedAnswer w q older rows packet (route_of c.args.route) answer y c.replies.new.self c.replies.new.table)) c.in_ok-replies.was
    (c.replies.ensures.told w q older rows packet (route_of c.args.route) is few byte now set_up none stands entries) in
    inl (subst (λ (x : Result Unit declared.Why). IsJudgedAnswer w q older rows packet (route_of c.args.route) answer x c.replies.new.self c.replies.new.table) c.in-Ok.is told)

pub returns-in-Err-clause-told : goal.returns-in-Err-clause-told
returns-in-Err-clause-told c = λ w q older rows packet is few byte now set_up stands entries.
    let answer = c.args.answer.now in
    let none : answered_why c.args.round.now (Whole (route_of c.args.route) answer) ≡ None = sym c.in_default.ensures in
    let told = subst (λ (x : Result (Result Unit declared.Why) OutOfMemory). IfOk x (λ y. IsJudgedAnswer w q older rows packet (route_of c.args.route) answer y c.replies.new.self c.replies.new.table)) c.in_ok-replies.was
    (c.replies.ensures.told w q older rows packet (route_of c.args.route) is few byte now set_up none stands entries) in
    inl (subst (λ (x : Result Unit declared.Why). IsJudgedAnswer w q older rows packet (route_of c.args.route) answer x c.replies.new.self c.replies.new.table) c.in-Err.is told)
