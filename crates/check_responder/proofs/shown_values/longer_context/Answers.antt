use Rattle.std.proofs.Common.{◌≡◌, ◌∙◌, ◌+◌, ◌++◌, ℕ, List, ap, sym, subst}
use Rattle.std.proofs.lemmas.List.{replicate-append-replicate}
use Rattle.responder_core.specs.Free.{IsFree}
use Rattle.spdm_basis.specs.Sizes.{hash_size}
use Rattle.spdm_grammar.specs.Fields.{zeros}
use Rattle.check_responder.proofs.shown_values.longer_context.Goals as goal

pub returns : goal.returns
returns c = λ f free context.
    let more : ℕ = c.args.more in
    let is : c.zeros.result.now ≡ f.context ++ zeros more =
    c.zeros.ensures ∙ ap (λ (n : ℕ). zeros (n + more)) c.size.ensures ∙ sym (replicate-append-replicate {A = ℕ} (hash_size c.args.hash) more 0)
    ∙ ap (λ (l : List ℕ). l ++ zeros more) (sym context) in
    subst (λ (l : List ℕ). IsFree c.with_context.result (record f { context = l })) is (c.with_context.ensures f free)
