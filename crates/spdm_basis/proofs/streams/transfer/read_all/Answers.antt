use Rattle.std.proofs.Common.{rules, take, Ok, Err, OnErr}
use Rattle.spdm_basis.specs.Stream.{Gives, GivesSome}
use Rattle.spdm_basis.proofs.Piece.{gives_both}
use Rattle.spdm_basis.proofs.streams.transfer.read_all.Goals as goal

pub returns-then-count-limit-clause-gone : goal.returns-then-count-limit-clause-gone
returns-then-count-limit-clause-gone g c =
    let step : Gives (g.S.Source.remaining c.loop-bytes.source) (take c.in_ok-count.count c.read.new.into) (g.S.Source.remaining c.read.new.self) = search rules in
    gives_both (g.S.Source.remaining c.args.source.now) (g.S.Source.remaining c.loop-bytes.source) (g.S.Source.remaining c.read.new.self) c.loop-bytes.bytes (take c.in_ok-count.count c.read.new.into) c.loop-bytes.invariant.given step

pub returns-in_err-map_err-clause-gone : goal.returns-in_err-map_err-clause-gone
returns-in_err-map_err-clause-gone g c =
    let step : Gives (g.S.Source.remaining c.loop-bytes.source) (take c.in_ok-count.count c.read.new.into) (g.S.Source.remaining c.read.new.self) = search rules in
    let gone : GivesSome (g.S.Source.remaining c.args.source.now) (g.S.Source.remaining c.read.new.self) = gives_both (g.S.Source.remaining c.args.source.now) (g.S.Source.remaining c.loop-bytes.source) (g.S.Source.remaining c.read.new.self) c.loop-bytes.bytes (take c.in_ok-count.count c.read.new.into) c.loop-bytes.invariant.given step in
    elim c.from_residual-in_err-map_err.result as (λ r. OnErr r (GivesSome (g.S.Source.remaining c.args.source.now) (g.S.Source.remaining c.read.new.self))) [ Ok _ ↦ tt | Err _ ↦ gone ]
