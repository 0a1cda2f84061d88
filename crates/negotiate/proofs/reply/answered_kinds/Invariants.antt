use Rattle.std.proofs.Common.{◌≡◌, ◌-◌, []}
use Rattle.negotiate.proofs.KindLists.{answered_after, kinds_in}
use Rattle.negotiate.proofs.reply.answered_kinds.Given as goal

abbrev pub invariant-loop-i : goal.invariant-loop-i
invariant-loop-i l = answered_after l.kinds.items (kinds_in (l.offer.count - l.i) l.rest) ≡ answered_after [] (kinds_in l.offer.count l.offer.tables.now)
