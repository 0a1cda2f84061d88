use Rattle.std.proofs.Common.{◌≡◌, ◌++◌}
use Rattle.message_fields.specs.JsonFields.{flags_json}
use Rattle.message_fields.proofs.json_fields.add_flags.Given as goal

-- The flags of the bits so far were added.
abbrev pub invariant-loop-bit : goal.invariant-loop-bit
invariant-loop-bit l = l.text ≡ l.fn.text ++ flags_json l.bit l.number
