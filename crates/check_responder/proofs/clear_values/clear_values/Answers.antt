use Rattle.std.proofs.Common.{ap, sym, arith}
use Rattle.negotiate.specs.declared.shared.Common.{Common}
use Rattle.check_responder.proofs.clear_values.clear_values.Goals as goal

pub returns : goal.returns
returns c = λ r h set stands.
    let told = c.told.ensures.value r h stands in
    let fits = c.told.ensures.fits in
    c.read_clear.ensures r h set stands (ap (λ (x : Common). x.to_requester.transfer) (sym (c.common-transfer.ensures r h stands))) (c.under_way-so_far.ensures r h stands) (omega (arith, told, fits))
