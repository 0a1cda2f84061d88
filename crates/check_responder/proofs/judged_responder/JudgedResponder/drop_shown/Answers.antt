use Rattle.std.proofs.Common.{sym, subst, ℕ, List}
use Rattle.responder_core.specs.Connected.{StandsFor}
use Rattle.responder_machine.specs.May.{with_dropped}
use Rattle.check_responder.proofs.judged_responder.JudgedResponder.drop_shown.Goals as goal

pub returns-in-Some : goal.returns-in-Some
returns-in-Some c = λ r h stands.
    subst (λ (ids : List ℕ). StandsFor c.expire.new.self r (with_dropped h ids)) (sym (c.in-Some.ensures r h stands)) (c.expire.ensures r h stands)

pub returns-in_default : goal.returns-in_default
returns-in_default c = λ r h stands.
    subst (λ (ids : List ℕ). StandsFor c.args.self.now.connection r (with_dropped h ids)) (sym (c.in_default.ensures r h stands)) stands
