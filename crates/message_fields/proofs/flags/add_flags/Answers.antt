use Rattle.std.proofs.Common.{◌∙◌, ◌%◌, ◌/◌, ◌^◌, ap, sym}
use Rattle.message_fields.proofs.FieldLines.{flags_more, no_flags}
use Rattle.message_fields.specs.Flags.{flags_below, word_of_bit}
use Rattle.trace_text.proofs.Folding.{with_words_append}
use Rattle.trace_text.specs.Spelling.{with_words}
use Rattle.message_fields.proofs.flags.add_flags.Goals as goal

pub loop-bit-init : goal.loop-bit-init
loop-bit-init c = ap (with_words c.args.text.now) (sym (no_flags c.args.number))

pub loop-bit-preserved : goal.loop-bit-preserved
loop-bit-preserved c =
    let bit = c.loop-bit.bit in
    let number = c.args.number in
    let more = word_of_bit (number / 2 ^ bit % 2) bit in
    c.in_ok-add_flag.ensures
    ∙ ap (λ t. with_words t more) c.loop-bit.invariant
    ∙ sym (with_words_append c.args.text.now (flags_below bit number) more)
    ∙ ap (with_words c.args.text.now) (sym (flags_more bit number))
