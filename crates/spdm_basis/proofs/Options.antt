-- Options that are none.
use Rattle.std.proofs.Common.{refl, ◌≡◌, true, false, Bool, Option, Some, None, sym}
use Rattle.std.proofs.lemmas.Bool.{false≢true}
use Rattle.std.proofs.lemmas.Option.{none-some}
use Rattle.std.specs.Option.{is_some}
use Rattle.std.specs.Prelude.{if◌then◌else◌}

-- There is none.
pub none_out : {A : Type 0} (o : Option A) → is_some o ≡ false → o ≡ None
none_out None is = refl
none_out (Some x) is = absurd (false≢true (sym is))

-- A test that finds nothing, and neither do those after it.
pub both : {A : Type 0} (b : Bool) (x : A) (rest : Option A) → (if b then Some x else rest) ≡ None → (b ≡ false) × (rest ≡ None)
both true x rest h = absurd (none-some x (sym h))
both false x rest h = (refl, h)
