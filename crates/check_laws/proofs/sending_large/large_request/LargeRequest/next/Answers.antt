-- By what the chunks tell.
use Rattle.std.proofs.Common.{ap, refl, subst}
use Rattle.check_laws.proofs.Large.RequestsTold.{between_told, last_told, other_told}
use Rattle.check_laws.specs.Large.Pieces.{IsNextOf}
use Rattle.check_laws.specs.declared.sending_large.pieces.Piece.{Piece}
use Rattle.check_laws.specs.declared.sending_large.pieces.Pieces.{Pieces}
use Rattle.check_laws.proofs.sending_large.large_request.LargeRequest.next.Goals as goal

pub returns-in-Between : goal.returns-in-Between
returns-in-Between c =
    λ w q older s tag own stands begin at. between_told w q older s tag c.args.body.now own begin at c.args.self.now stands c.args.self.now.pieces c.next.new.self c.if-not-self.false
    (subst (λ (x : Piece). IsNextOf s c.args.body.now x c.args.self.now.pieces c.next.new.self) c.in-Between.is (c.next.ensures w q older s own stands.pieces))

pub returns-in-Last : goal.returns-in-Last
returns-in-Last c =
    λ w q older s tag own stands begin at. last_told w q older s tag c.args.body.now own begin at c.args.self.now stands c.args.self.now.pieces c.next.new.self (record c.args.self.now { pieces = c.next.new.self }) c.if-not-self.false refl
    (subst (λ (x : Piece). IsNextOf s c.args.body.now x c.args.self.now.pieces c.next.new.self) c.in-Last.is (c.next.ensures w q older s own stands.pieces))

pub returns-in-Other : goal.returns-in-Other
returns-in-Other c =
    λ w q older s tag own stands begin at. other_told w q older s tag c.args.body.now own begin at c.args.self.now stands c.args.self.now.pieces c.next.new.self (record c.args.self.now { pieces = c.next.new.self })
    (subst (λ (x : Piece). IsNextOf s c.args.body.now x c.args.self.now.pieces c.next.new.self) c.in-Other.is (c.next.ensures w q older s own stands.pieces)) (λ same. ap (λ (p : Pieces). record c.args.self.now { pieces = p }) same)
