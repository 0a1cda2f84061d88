use Rattle.std.proofs.Common.{◌≡◌, ◌++◌, drop}
use Rattle.message_fields.specs.Texts.{fields_text}
use Rattle.message_fields.proofs.texts.add_fields.Given as goal

-- The lines so far, with those of the fields that are left, are those of all fields.
abbrev pub invariant-loop-field : goal.invariant-loop-field
invariant-loop-field l = l.text ++ fields_text (drop l.field-index l.fields) l.rest ≡ l.fn.text ++ fields_text l.fields l.bytes
