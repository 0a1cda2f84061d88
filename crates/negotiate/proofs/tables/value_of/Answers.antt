use Rattle.std.proofs.Common.{◌≡◌, ◌+◌, ◌-◌, ℕ, false, eqb, List, subst, sym, ◌∙◌}
use Rattle.std.specs.Prelude.{slice_index}
use Rattle.std.proofs.lemmas.Bool.{ne_eqb}
use Rattle.negotiate.specs.Tables.{tables_in, value_of}
use Rattle.negotiate.proofs.KindLists.{value_next}
use Rattle.negotiate.proofs.tables.value_of.Goals as goal

pub loop-i-preserved : goal.loop-i-preserved
loop-i-preserved c =
    let other : eqb (slice_index c.loop-i.rest.now 0) c.args.kind ≡ false = ne_eqb _ _ (λ e. c.if-byte_at-kind.false (c.byte_at.ensures ∙ e)) in
    let next = value_next c.args.kind c.args.count c.loop-i.i c.loop-i.rest.now c.loop-i-test.true other in
    let P : List ℕ → Type 0 = λ rest. value_of c.args.kind (tables_in (c.args.count - (c.loop-i.i + 1)) rest) ≡ value_of c.args.kind (tables_in c.args.count c.args.tables.now) in
    subst P (sym c.behind_front-rest.ensures) (sym next ∙ c.loop-i.invariant)
