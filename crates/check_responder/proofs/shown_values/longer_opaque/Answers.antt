use Rattle.std.proofs.Common.{◌≡◌, ◌∙◌, ◌++◌, ℕ, List, ap, sym, subst}
use Rattle.responder_core.specs.Free.{IsFree}
use Rattle.spdm_grammar.specs.Fields.{zeros}
use Rattle.check_responder.proofs.shown_values.longer_opaque.Goals as goal

pub returns : goal.returns
returns c = λ f free none.
    let more : ℕ = c.args.more in
    let is : c.zeros.result.now ≡ f.measured_opaque ++ zeros more = c.zeros.ensures ∙ ap (λ (l : List ℕ). l ++ zeros more) (sym none) in
    subst (λ (l : List ℕ). IsFree c.with_opaque.result (record f { measured_opaque = l })) is (c.with_opaque.ensures f free)
