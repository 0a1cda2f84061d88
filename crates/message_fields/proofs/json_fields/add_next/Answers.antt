use Rattle.std.proofs.Common.{◌∙◌, ap}
use Rattle.message_fields.proofs.JsonLines.{with_piece_behind}
use Rattle.message_fields.specs.JsonFields.{with_piece}
use Rattle.message_fields.specs.Pieces.{Piece}
use Rattle.message_fields.proofs.json_fields.add_next.Goals as goal

pub returns : goal.returns
returns c =
    let p : Piece = record { name = c.args.name; bytes = c.args.bytes.now } in
    c.in_ok-add_object.ensures
    ∙ ap (λ t. with_piece t p) c.in_ok-extend.ensures.ok
    ∙ with_piece_behind c.args.text.now c.args.before.now p
