use Rattle.std.proofs.Common.{◌≡◌, ◌∙◌, ◌++◌, [], drop, length, ap, sym, arith}
use Rattle.std.proofs.lemmas.List.{drop_all}
use Rattle.message_fields.proofs.JsonLines.{rest_json}
use Rattle.message_fields.specs.JsonFields.{pieces_json}
use Rattle.message_fields.specs.Pieces.{pieces}
use Rattle.message_fields.proofs.json_fields.add_objects.Goals as goal

pub returns : goal.returns
returns c =
    let e : drop c.loop-field.field-index c.args.fields.now ≡ [] = drop_all c.loop-field.field-index c.args.fields.now (omega arith) in
    let some : length c.loop-field.rest.now ≡ 0 → ⊥ = λ z. grind (arith, z) in
    c.in_ok-add_next-2.ensures
    ∙ ap (λ t. c.loop-field.text ++ t) (sym (rest_json c.loop-field.before.now c.loop-field.rest.now some))
    ∙ ap (λ t. c.loop-field.text ++ pieces_json c.loop-field.before.now (pieces t c.loop-field.rest.now)) (sym e)
    ∙ c.loop-field.invariant
