use Rattle.std.proofs.Common.{subst, Option}
use Rattle.check_laws.proofs.Large.RequestsTold.{begun_some}
use Rattle.check_laws.specs.Large.Pieces.{IsFirstOf}
use Rattle.check_laws.specs.declared.sending_large.pieces.Pieces.{Pieces}
use Rattle.check_laws.proofs.sending_large.large_request.LargeRequest.begin.Goals as goal

pub returns : goal.returns
returns c =
    λ k chunks t m h. begun_some k c.args.body.now c.in_ok-pieces.pieces (subst (λ (o : Option Pieces). IsFirstOf k c.args.body.now o) c.in_ok-pieces.was (c.first.ensures k chunks t m h))
