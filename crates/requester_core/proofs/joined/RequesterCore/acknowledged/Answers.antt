use Rattle.std.proofs.Common.{◌∙◌, ap, subst, ℕ, Option}
use Rattle.requester_core.proofs.NextPieces.{acknowledges}
use Rattle.requester_core.specs.LargeRequests.{SendsPiece, next_piece}
use Rattle.spdm_machine.specs.Bodies.{clear_body}
use Rattle.requester_core.proofs.joined.RequesterCore.acknowledged.Goals as goal

pub returns : goal.returns
returns c = λ q h sizes stands.
    acknowledges q h c.args.self.now c.send_piece.new.self c.send_piece.new.out c.in_ok-tag.tag c.send_piece.new.out c.write_clear.new.out sizes stands
    (c.write_clear.ensures ∙ ap clear_body c.as_slice.ensures.value)
    (subst (λ (o : Option ℕ). SendsPiece q h (next_piece h) o c.send_piece.new.out c.args.self.now.clear_state c.send_piece.new.self) c.in_ok-tag.was (c.send_piece.ensures q h sizes stands.clear_state))
