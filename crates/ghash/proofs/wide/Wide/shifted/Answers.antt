use Rattle.std.proofs.Common.{◌-◌, arith, rules}
use Rattle.ghash.proofs.Sides.{shifted-number, shifted-below, shifted-high}
use Rattle.ghash.proofs.wide.Wide.shifted.Goals as goal

pub overflow_add-result : goal.overflow_add-result
overflow_add-result c =
    let s = c.args.self.now in
    record { fits = shifted-high s.high s.low c.args.n (128 - c.args.n) (omega arith) c.requires.room (search rules) }

pub returns-clause-value : goal.returns-clause-value
returns-clause-value c =
    let s = c.args.self.now in
    shifted-number s.high s.low c.args.n (128 - c.args.n) (omega arith) c.requires.room

pub returns-clause-room : goal.returns-clause-room
returns-clause-room c =
    let s = c.args.self.now in
    λ k lt. shifted-below s.high s.low c.args.n (128 - c.args.n) k (omega arith) c.requires.room (search rules) lt
