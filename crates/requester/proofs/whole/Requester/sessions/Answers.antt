use Rattle.std.proofs.Common.{◌<◌, ◌-◌, ◌^◌, length, arith}
use Rattle.requester.proofs.whole.Requester.sessions.Goals as goal

pub returns : goal.returns
returns c = λ a stands.
    let entries = stands.entries in
    let limit = stands.limit in
    let short : length a.history < 2 ^ 64 - 1 = omega (arith, entries, limit) in
    c.sessions.ensures a.setup a.history stands.asking short
