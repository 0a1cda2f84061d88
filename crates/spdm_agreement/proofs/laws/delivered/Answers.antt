use Rattle.spdm_agreement.proofs.Moves.Earlier.{in_order_prefix}
use Rattle.spdm_agreement.proofs.Moves.Runs.{holds, taken_was_said, heard_was_taken}
use Rattle.spdm_agreement.proofs.laws.delivered.Goals as goal

pub returns : goal.returns
returns c r s reached u =
    let k = holds r s reached in
    (λ choose. in_order_prefix choose _ _ (taken_was_said _ _ _ _ (k.asks.talks u) (k.links.ahead u)), λ choose. in_order_prefix choose _ _ (heard_was_taken _ _ _ (k.links.ahead u)))
