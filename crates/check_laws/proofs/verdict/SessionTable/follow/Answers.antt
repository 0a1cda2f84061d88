use Rattle.std.proofs.Common.{◌∙◌, ap, sym, add-one, refl}
use Rattle.std.specs.Prelude.{slice_index_or, None}
use Rattle.check_laws.specs.Rows.{changed_where, followed, gone_on}
use Rattle.check_laws.proofs.verdict.SessionTable.follow.Goals as goal

pub loop-slot-init : goal.loop-slot-init
unfolding followed
loop-slot-init c = refl

pub loop-slot-preserved : goal.loop-slot-preserved
unfolding followed
loop-slot-preserved c =
    let slot = c.loop-slot.slot in
    let places = c.args.places.now in
    let change = c.args.change.now in
    c.go_on_at.ensures
    ∙ ap (changed_where (slice_index_or places.live slot None) (gone_on change slot)) c.loop-slot.invariant
    ∙ ap (λ n. followed n places change c.args.self.now) (sym (add-one slot))
