use Rattle.std.proofs.Common.{arith}
use Rattle.check_fetched_ends.proofs.clear_fetch.held_given.give_all.Goals as goal

pub loop-number-preserved : goal.loop-number-preserved
loop-number-preserved c = λ r h whole set_up can first.
    let all = c.loop-number.invariant r h whole set_up can first in
    (c.give_next.ensures.asked r h whole set_up can all.1 all.0, c.give_next.ensures.more r h whole set_up can all.1 all.0 c.if-give_next.false)

pub returns-then-give_next-clause-all : goal.returns-then-give_next-clause-all
returns-then-give_next-clause-all c = λ r h whole set_up can first so.
    let all = c.loop-number.invariant r h whole set_up can first in c.give_next.ensures.all r h whole set_up can all.1 all.0 c.if-give_next.true

pub returns-clause-more : goal.returns-clause-more
returns-clause-more c = λ r h whole set_up can first so.
    let all = c.loop-number.invariant r h whole set_up can first in
    let within = all.1 in
    let end = c.from-number-end.ensures in
    let past = c.loop-number-test.false in
    omega (arith, within, end, past)
