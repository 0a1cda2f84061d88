use Rattle.std.proofs.Common.{arith}
use Rattle.check_responder.proofs.ClearAsked.{asked_few}
use Rattle.check_responder.proofs.clear_answers.blocks_are_few.Goals as goal

pub returns : goal.returns
returns c = λ op.
    let few = asked_few op c.args.inventory.now in
    let value = c.blocks_length.ensures.value in
    let most = c.blocks_length.ensures.most in
    omega (arith, few, value, most)
