use Rattle.std.proofs.Common.{◌≤◌, ◌∙◌, ℕ, List, ap, length, subst, sym}
use Rattle.responder.proofs.Filled.{filled}
use Rattle.responder.proofs.shared.Shared.follow.Goals as goal
use Rattle.responder.specs.Came.{IsShort, last_for}
use Rattle.spdm_grammar.specs.declared.told.heard.Heard.{Heard}

pub returns-in-Taken-clause-last : goal.returns-in-Taken-clause-last
returns-in-Taken-clause-last c = λ r h stands fits.
    let told = ap (λ (x : Heard). last_for x h c.args.self.now.last) c.in-Taken.is in
    let kept = c.data.ensures r h stands in
    filled c.extend.result 1024 c.clear.new.self c.data.result.now c.extend.new.self c.extend.ensures.ok c.extend.ensures.full c.clear.ensures (subst (λ (bytes : List ℕ). length bytes ≤ 1024) (sym kept) (subst (λ (x : Heard). IsShort x h) c.in-Taken.is fits))
    ∙ kept ∙ sym told
