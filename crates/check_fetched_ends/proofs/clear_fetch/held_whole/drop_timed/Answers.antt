use Rattle.std.proofs.Common.{◌≡◌, ◌∷◌, ◌∙◌, ℕ, List, [], sym, subst, cond, Bool}
use Rattle.responder_core.specs.Connected as connected
use Rattle.responder_machine.specs.May.{with_dropped}
use Rattle.check_fetched_ends.proofs.clear_fetch.held_whole.drop_timed.Goals as goal

pub returns-then-is_timed : goal.returns-then-is_timed
returns-then-is_timed c = λ r h stands.
    subst (λ (b : Bool). connected.StandsFor c.expire.new.self r (with_dropped h (cond b (c.args.id ∷ []) []))) (sym (sym (c.is_timed.ensures r h stands) ∙ c.if-is_timed.true)) (c.expire.ensures r h stands)

pub returns-else-is_timed : goal.returns-else-is_timed
returns-else-is_timed c = λ r h stands.
    subst (λ (b : Bool). connected.StandsFor c.args.connection.now r (with_dropped h (cond b (c.args.id ∷ []) []))) (sym (sym (c.is_timed.ensures r h stands) ∙ c.if-is_timed.false)) stands
