use Rattle.std.proofs.Common.{◌≡◌, ◌-◌, ◌+◌, List, ℕ, Some, None, ◌∙◌, sym, subst}
use Rattle.spdm_grammar.specs.Layout.{AreTables}
use Rattle.spdm_grammar.specs.Tables.{first_table}
use Rattle.spdm_grammar.proofs.TableSteps.{tables_next_at, tables_none_at}
use Rattle.spdm_grammar.proofs.messages.tables.are_tables.Goals as goal

pub returns-in-None : goal.returns-in-None
returns-in-None c =
    let none : first_table c.loop-i.rest.now ≡ None = sym c.first_table_len.ensures ∙ c.in-None.is in
    (λ f. absurd cc, λ t. absurd (tables_none_at c.args.count c.loop-i.i c.loop-i.rest.now c.loop-i-test.true none (c.loop-i.invariant.0 t)))

pub loop-i-preserved : goal.loop-i-preserved
loop-i-preserved c =
    let first : first_table c.loop-i.rest.now ≡ Some c.in-Some.len = sym c.first_table_len.ensures ∙ c.in-Some.is in
    let both = tables_next_at c.args.count c.loop-i.i c.loop-i.rest.now c.in-Some.len c.loop-i-test.true first in
    let P : List ℕ → Type 0 = λ rest. AreTables (c.args.count - (c.loop-i.i + 1)) rest in (
      λ t. subst P (sym c.split_at.ensures.back) (both.0 (c.loop-i.invariant.0 t)),
      λ r. c.loop-i.invariant.1 (both.1 (subst P c.split_at.ensures.back r)),
    )
