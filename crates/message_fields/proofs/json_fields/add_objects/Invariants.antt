use Rattle.std.proofs.Common.{◌≡◌, ◌++◌, [], drop}
use Rattle.message_fields.specs.JsonFields.{pieces_json}
use Rattle.message_fields.specs.Pieces.{pieces}
use Rattle.message_fields.proofs.json_fields.add_objects.Given as goal

-- The objects so far, with those of the fields that are left, are those of all fields.
abbrev pub invariant-loop-field : goal.invariant-loop-field
invariant-loop-field l = l.text ++ pieces_json l.before (pieces (drop l.field-index l.fields) l.rest) ≡ l.fn.text ++ pieces_json [] (pieces l.fields l.bytes)
