use Rattle.std.proofs.Common.{◌≡◌}
use Rattle.message_fields.specs.Flags.{flags_below}
use Rattle.trace_text.specs.Spelling.{with_words}
use Rattle.message_fields.proofs.flags.add_flags.Given as goal

-- The flags of the bits so far were added.
abbrev pub invariant-loop-bit : goal.invariant-loop-bit
invariant-loop-bit l = l.text ≡ with_words l.fn.text (flags_below l.bit l.number)
